use Rattle.std.proofs.Common.{◌≡◌, ◌≤◌, ◌++◌, ℕ, length, Option, Some, None, Ok, arith, sym, ap, ◌∙◌, append_assoc}
use Rattle.std.proofs.lemmas.Grind.{common_steps}
use Rattle.std.specs.Prelude.{option_to_list}
use Rattle.nr_rev.specs.Refusing.{◌>>=◌}
use Rattle.nr_rev.specs.Step.{after_orders}
use Rattle.nr_plain.specs.Change.{change_view}
use Rattle.nr_plain.proofs.ContinueLemmas.{both_obeyed, continued}
use Rattle.nr_plain.proofs.world.PlainWorld.then_changed.Goals as goal

few_woken : (a b : Option ℕ) → length (option_to_list a ++ option_to_list b) ≤ 2
few_woken None None = omega arith
few_woken None (Some g) = omega arith
few_woken (Some g) None = omega arith
few_woken (Some g) (Some h) = omega arith

pub returns : goal.returns
returns c =
    let change = change_view c.args.change in
    let after_order : after_orders change.orders (c.args.row.timers, c.args.self.now.next_arming) ≡ Ok (c.in_ok-timers-2.timers, c.in_ok-timers-2.number) =
    rw (← c.self.view_is) (both_obeyed c.args.change.orders.read c.args.change.orders.write (c.args.row.timers, c.self.inside.next_arming)
    ∙ ap (λ r. r >>= after_orders (option_to_list c.args.change.orders.write)) (sym c.in_ok-timers.ensures)
    ∙ sym c.in_ok-timers-2.ensures) in
    continued c.args.descriptor c.args.row change c.args.self.now c.args.plan c.then_woken.result (c.in_ok-timers-2.timers, c.in_ok-timers-2.number)
    c.requires.can c.requires.arming (few_woken c.args.change.woken.read c.args.change.woken.write) after_order
    (grind (arith, common_steps))
    (rw (c.then_woken.ensures.edits, c.then-plan.ensures.edits, c.then.ensures.edits) (simp append_assoc))
