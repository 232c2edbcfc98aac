use Rattle.std.proofs.Common.{Ok}
use Rattle.nr_plain.proofs.PlanLemmas.{makes_well_formed, plan_made}
use Rattle.nr_plain.proofs.world.PlainWorld.make.Goals as goal

pub returns-in_ok-answer-in_default : goal.returns-in_ok-answer-in_default
returns-in_ok-answer-in_default g c =
    let plan = c.in_ok-answer-in_default.field-0 in
    let undos = c.perform_all-undos.ensures in
    let old = c.args.self.now in
    let new = c.perform_all-undos.new.self in
    let made = plan_made g.K.Keeper.KEEPS g.K.Keeper.holds c.put.new.self c.args.step.now old new plan (record { undos = c.perform_all-undos.result }) c.in_ok-answer-in_default.ensures.plans undos.after c.put.ensures undos.back undos.light in
    record {
      made = made;
      fits = makes_well_formed g.K.Keeper.KEEPS g.K.Keeper.holds c.put.new.self c.args.step.now old new (Ok plan.answer) c.in_ok-answer-in_default.ensures.timely c.requires made;
    }
