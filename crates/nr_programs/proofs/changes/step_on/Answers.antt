use Rattle.std.proofs.Common.{◌+◌, ◌++◌, sym, ap, ◌∙◌, subst}
use Rattle.nr_snaps.specs.Answers.{Agrees, Differs}
use Rattle.nr_programs.specs.Auxiliary.Changes.{as_lines}
use Rattle.nr_programs.proofs.ChangesLemmas.{is_made, is_otherwise, is_refused}
use Rattle.nr_programs.proofs.changes.step_on.Goals as goal

pub returns-in-Err-clause-fault : goal.returns-in-Err-clause-fault
returns-in-Err-clause-fault g c =
    is_refused c.args.recording.now c.args.n (g.W.Worlds.world c.args.world.now) c.in-Some.step.now c.in-Err.reason c.args.lines.now.items (sym c.in-Some.ensures.value) c.in-Err.ensures.refusal

pub returns-then-differs-clause-fault : goal.returns-then-differs-clause-fault
returns-then-differs-clause-fault g c =
    is_otherwise c.args.recording.now c.args.n (g.W.Worlds.world c.args.world.now) (g.W.Worlds.world c.advance.new.world) c.in-Some.step.now c.in-Ok.given c.args.lines.now.items
    (sym c.in-Some.ensures.value) c.in-Ok.ensures.step (subst (λ recorded. Differs recorded c.in-Ok.given) c.answer.ensures c.if-differs.ensures)

pub returns-clause-steps : goal.returns-clause-steps
returns-clause-steps g c =
    let after = c.add_lines.new.lines.items in
    let changes = c.advance.new.changes.items in
    is_made c.args.recording.now c.args.n (g.W.Worlds.world c.args.world.now) (g.W.Worlds.world c.advance.new.world) c.in-Some.step.now c.in-Ok.given c.args.lines.now.items after
    (sym c.in-Some.ensures.value) c.in-Ok.ensures.step (subst (λ recorded. Agrees recorded c.in-Ok.given) c.answer.ensures c.if-differs.ensures)
    (c.add_lines.ensures.items ∙ ap (λ xs. c.args.lines.now.items ++ as_lines (c.args.n + 1) xs) (c.as_slice.ensures.value ∙ c.in-Ok.ensures.changes))
