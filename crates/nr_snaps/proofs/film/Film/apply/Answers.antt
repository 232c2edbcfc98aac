use Rattle.std.proofs.Common.{rules}
use Rattle.nr_snaps.specs.Replay.{LeadsOn}
use Rattle.nr_snaps.proofs.FrameLemmas.{IsFrame-next}
use Rattle.nr_snaps.proofs.film.Film.apply.Goals as goal

-- the step turns the frame into the next one
pub returns-in-Ok-clause-frame : goal.returns-in-Ok-clause-frame
returns-in-Ok-clause-frame g c =
    let leads : LeadsOn g.W.Reversible.steps c.args.self.now.recording c.args.n c.args.world.now c.apply_to.new.self =
    record { step = c.in-Some.step.now; next = search rules; answer = c.in-Ok.field-0; leads = c.in-Ok.ensures.step } in
    IsFrame-next g.W.Reversible.is_well_formed g.W.Worlds.world g.W.Reversible.steps g.met.W.Worlds.steps_are c.args.self.now c.args.n c.args.world.now c.apply_to.new.self
    c.requires.frame leads c.apply_to.ensures.well_formed
