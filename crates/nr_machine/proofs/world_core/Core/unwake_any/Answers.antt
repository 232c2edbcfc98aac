use Rattle.std.proofs.Common.{◌≡◌, Option, Some, ℕ, rules, sym, subst}
use Rattle.nr_machine.specs.declared.world_core.Core.{Core}
use Rattle.nr_machine.specs.Auxiliary.Changing.{IfAny, WakeBack}
use Rattle.nr_machine.proofs.world_core.Core.unwake_any.Goals as goal

pub unwake-requires : goal.unwake-requires
unwake-requires c =
    let some : c.args.woken ≡ Some c.in-Some.goroutine = search rules in
    subst (λ (o : Option ℕ). (old : Core) × IfAny WakeBack o c.args.self.now old) some c.requires

pub returns-in-Some : goal.returns-in-Some
returns-in-Some c =
    let some : c.args.woken ≡ Some c.in-Some.goroutine = search rules in
    subst (λ (o : Option ℕ). IfAny WakeBack o c.args.self.now c.unwake.new.self) (sym some) c.unwake.ensures
