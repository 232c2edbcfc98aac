use Rattle.std.proofs.Common.{Option, ap, sym, ◌∙◌}
use Rattle.std.specs.Prelude.{ℕ}
use Rattle.nr_suspects.specs.Notices.{noticed, running, visit, visiting}
use Rattle.nr_suspects.proofs.notice.advance.Goals as goal

pub returns-clause-notice : goal.returns-clause-notice
returns-clause-notice g c =
    let before = g.W.Worlds.world c.args.world.now in
    let after = g.W.Worlds.world c.run_timer.new.world in
    let answer = c.in_ok-answer-2.answer in
    let other = visiting before after answer (visit before c.args.step.now) in
    c.noticed-2.ensures
    ∙ ap (noticed c.args.step.now answer)
    (c.in_ok-answer-2.ensures.seen other ∙ ap (λ (d : Option ℕ). running before after d other) (sym c.in-Some.is ∙ c.fired_descriptor.ensures))
