use Rattle.std.proofs.Common.{◌≡◌, ℕ, [], Ok, rules, subst}
use Rattle.nr_rev.specs.declared.status.Status.TheVariants.{Parking}
use Rattle.nr_rev.specs.Step.{status_of}
use Rattle.nr_desc.specs.declared.op.DescOp.TheVariants.{Commit}
use Rattle.nr_machine.specs.Auxiliary.Made.{Makes}
use Rattle.nr_machine.specs.Waiting.{waiting}
use Rattle.nr_machine.specs.World.{meant}
use Rattle.nr_machine.proofs.WaitingLemmas.{parkcommit_is}
use Rattle.nr_machine.proofs.world.World.parkcommit.Goals as goal

pub returns : goal.returns
returns g c =
    let d = c.in-Parking.descriptor in
    let side = c.in-Parking.side in
    let there : status_of c.args.goroutine (meant c.args.self.now) ≡ Ok (Parking d side) = search rules in
    let wait = subst (λ (n : ℕ). Makes g.K.Keeper.holds c.wait.new.way (waiting c.args.goroutine d (Commit side n) (meant c.args.self.now)) [] c.args.self.now c.wait.result c.wait.new.self)
    c.of_number.ensures c.wait.ensures in
    rw (parkcommit_is (meant c.args.self.now) c.args.goroutine d side there) wait
