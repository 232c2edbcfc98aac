use Rattle.std.proofs.Common.{rules}
use Rattle.nr_snaps.specs.Replay.{LeadsOn}
use Rattle.nr_snaps.proofs.AnswerLemmas.{answer_at-leads}
use Rattle.nr_snaps.proofs.FrameLemmas.{IsFrame-next}
use Rattle.nr_snaps.proofs.film.Film.advance.Goals as goal

-- the step turns the frame into the next one
pub returns-clause-frame : goal.returns-clause-frame
returns-clause-frame g c =
    let leads : LeadsOn g.W.Reversible.steps c.args.self.now.recording c.args.n c.args.world.now c.advance.new.self =
    record { step = c.in-Some.step.now; next = search rules; answer = c.in-Ok.answer; leads = c.in-Ok.ensures.step } in
    IsFrame-next g.W.Reversible.is_well_formed g.W.Worlds.world g.W.Reversible.steps g.met.W.Worlds.steps_are c.args.self.now c.args.n c.args.world.now c.advance.new.self
    c.requires.frame leads c.advance.ensures.well_formed

pub returns-clause-answer : goal.returns-clause-answer
returns-clause-answer g c =
    answer_at-leads g.W.Reversible.is_well_formed g.W.Worlds.world g.W.Reversible.steps g.met.W.Worlds.steps_are c.args.self.now.recording c.args.n c.args.world.now c.advance.new.self c.in-Some.step.now c.in-Ok.answer
    c.requires.frame.is_at (search rules) c.in-Ok.ensures.step
