-- Extending a plan with a change to a descriptor.
use Rattle.std.proofs.Common.{◌≡◌, ℕ, ◌*◌, ◌≤◌, List, [], ◌∷◌, ◌++◌, length, map, Option, Some, None, Result, Ok, Err, refl, sym, ap, ◌∙◌, arith, length-append}
use Rattle.std.proofs.lemmas.List.{length-map}
use Rattle.std.proofs.lemmas.List.Sums.{sum_by-append, sum_by-cons}
use Rattle.std.specs.Prelude.{option_to_list}
use Rattle.nr_rev.specs.declared.descriptor.DescriptorRow.{DescriptorRow}
use Rattle.nr_rev.specs.declared.refusal.Refusal.{Refusal}
use Rattle.nr_rev.specs.declared.sides.Sides.{Sides}
use Rattle.nr_rev.specs.declared.timer.Timer.{Timer}
use Rattle.nr_rev.specs.declared.timer.TimerOrder.{TimerOrder}
use Rattle.nr_rev.specs.Descriptor.{Change}
use Rattle.nr_rev.specs.Refusing.{◌>>=◌}
use Rattle.nr_rev.specs.Step.{after_orders, after_wakes, after_change, after_order}
use Rattle.nr_rev.specs.World.{World, with_row}
use Rattle.nr_plain.specs.declared.edit.Edit.{Edit}
use Rattle.nr_plain.specs.declared.edit.Edit.TheVariants.{Row, Arming, Wake}
use Rattle.nr_plain.specs.Edit.{edit_weight, after_edit}
use Rattle.nr_plain.specs.declared.plan.Plan.{Plan}
use Rattle.nr_plain.specs.Continuing.{Continues}
use Rattle.nr_plain.specs.Plan.{CanEditAll, after_edits, total_weight}

-- carrying out both sides' orders as one list gives the same result as carrying out one side's and
-- then the other's
pub both_obeyed : (a b : Option TimerOrder) (before : Sides (Option Timer) × ℕ)
    → after_orders (option_to_list a ++ option_to_list b) before ≡ (after_orders (option_to_list a) before >>= after_orders (option_to_list b))
both_obeyed None b before = refl
both_obeyed (Some order) b before =
    elim (after_order order before) as (λ (r : Result (Sides (Option Timer) × ℕ) Refusal). (r >>= after_orders (option_to_list b)) ≡ ((r >>= λ after. Ok after) >>= after_orders (option_to_list b)))
    [ Ok after ↦ refl | Err e ↦ refl ]

-- applying two lists of changes one after the other gives the same world as applying their
-- concatenation
pub after_edits-append : (xs ys : List Edit) (w : World) → after_edits (xs ++ ys) w ≡ after_edits ys (after_edits xs w)
after_edits-append [] ys w = refl
after_edits-append (x ∷ xs) ys w = after_edits-append xs ys (after_edit x w)

pub CanEditAll-append : (xs ys : List Edit) (w : World) → CanEditAll xs w → CanEditAll ys (after_edits xs w) → CanEditAll (xs ++ ys) w
CanEditAll-append [] ys w first rest = rest
CanEditAll-append (x ∷ xs) ys w first rest = (first.0, CanEditAll-append xs ys (after_edit x w) first.1 rest)

-- a Wake change for each woken goroutine lets all of them continue
wakes_lead : (gs : List ℕ) (w : World) → after_edits (map Wake gs) w ≡ after_wakes gs w
wakes_lead [] w = refl
wakes_lead (g ∷ gs) w = wakes_lead gs (after_edit (Wake g) w)

woken_can : (gs : List ℕ) (w : World) → CanEditAll (map Wake gs) w
woken_can [] w = tt
woken_can (g ∷ gs) w = (tt, woken_can gs (after_edit (Wake g) w))

woken_words : (gs : List ℕ) → total_weight (map Wake gs) ≡ 7 * length gs
woken_words [] = refl
woken_words (g ∷ gs) = let one = sum_by-cons edit_weight (Wake g) (map Wake gs) in let rest = woken_words gs in omega (arith, one, rest)

-- if the timer orders succeed, a change to a descriptor leads to the same world as the plan's
-- changes
where_it_leads : (d : ℕ) (row : DescriptorRow) (change : Change) (w v : World) (after : Sides (Option Timer) × ℕ) → v.next_arming ≡ w.next_arming
    → after_orders change.orders (row.timers, w.next_arming) ≡ Ok after
    → after_change d row change v ≡ Ok (after_edits (Row d (record { descriptor = change.descriptor; timers = after.0 }) ∷ Arming after.1 ∷ map Wake change.woken) v)
where_it_leads d row change w v after same are =
    let next : Sides (Option Timer) × ℕ → World = λ p. after_wakes change.woken (record (with_row d (record { descriptor = change.descriptor; timers = p.0 }) v) { next_arming = p.1 }) in
    ap (λ (n : ℕ). after_orders change.orders (row.timers, n) >>= λ p. Ok (next p)) same
    ∙ ap (λ (r : Result (Sides (Option Timer) × ℕ) Refusal). r >>= λ p. Ok (next p)) are
    ∙ ap Ok (sym (wakes_lead change.woken (after_edit (Arming after.1) (after_edit (Row d (record { descriptor = change.descriptor; timers = after.0 })) v))))

-- adding these changes to the plan extends it by the descriptor's change
pub continued : (d : ℕ) (row : DescriptorRow) (change : Change) (w : World) (before plan : Plan) (after : Sides (Option Timer) × ℕ)
    → CanEditAll before.edits.items w → (after_edits before.edits.items w).next_arming ≡ w.next_arming → length change.woken ≤ 2
    → after_orders change.orders (row.timers, w.next_arming) ≡ Ok after
    → plan.answer ≡ before.answer
    → plan.edits.items ≡ before.edits.items ++ (Row d (record { descriptor = change.descriptor; timers = after.0 }) ∷ Arming after.1 ∷ map Wake change.woken)
    → Continues d row change w before plan
continued d row change w before plan after can same few are answer is =
    let xs = before.edits.items in
    let new : List Edit = Row d (record { descriptor = change.descriptor; timers = after.0 }) ∷ Arming after.1 ∷ map Wake change.woken in
    let both = sum_by-append edit_weight xs new in
    let first = sum_by-cons edit_weight (Row d (record { descriptor = change.descriptor; timers = after.0 })) (Arming after.1 ∷ map Wake change.woken) in
    let second = sum_by-cons edit_weight (Arming after.1) (map Wake change.woken) in
    let words = woken_words change.woken in
    let lengths = length-append xs new in
    let wakes = length-map change.woken Wake in
    record {
      answer = answer;
      leads = rw (is, after_edits-append xs new w) (where_it_leads d row change w (after_edits xs w) after same are);
      can = rw is (CanEditAll-append xs new w can (tt, (tt, woken_can change.woken _)));
      light = rw is (omega (arith, both, first, second, words));
      few = rw is (omega (arith, lengths, wakes));
    }
