-- A change to a descriptor, which sets its timers and then unblocks its words, keeps a world well
-- formed.
use Rattle.std.proofs.Common.{◌≡◌, ℕ, zero, suc, Bool, true, false, List, [], ◌∷◌, ◌++◌, Option, Some, refl, sym, ap, subst, ◌∙◌, set, None, true≢false}
use Rattle.std.specs.Prelude.{slice_get}
use Rattle.nr_rev.specs.declared.sides.Side.{Side}
use Rattle.nr_rev.specs.declared.sides.Side.TheVariants.{Read, Write}
use Rattle.nr_rev.specs.declared.descriptor.WaitWord.{WaitWord}
use Rattle.nr_rev.specs.declared.sides.Sides.{Sides}
use Rattle.nr_rev.specs.Sides.{of_side, with_side}
use Rattle.nr_rev.specs.declared.descriptor.DescriptorRow.{DescriptorRow}
use Rattle.nr_rev.specs.World.{World, with_row, is_free_number}
use Rattle.nr_rev.specs.WellFormed.{WellFormed, RowFits}
use Rattle.nr_rev.proofs.ListUpdateLemmas.{slice_get-set_here}
use Rattle.std.proofs.lemmas.List.{append-nil}
use Rattle.nr_rev.specs.declared.timer.Timer.{Timer}
use Rattle.nr_rev.specs.Descriptor.{Change, and_then, then_if, unblocked, unblock}
use Rattle.nr_rev.specs.Step.{after_wakes, after_change, after_orders}
use Rattle.nr_laws.proofs.TimersFitChangeLemmas.{TimersChanged}
use Rattle.nr_laws.proofs.RowSetLemmas.{timers_changed_keeps}
use Rattle.nr_laws.proofs.UnblockLemmas.{unblocked_keeps}
use Rattle.nr_rev.specs.declared.timer.TimerOrder.{TimerOrder}
use Rattle.nr_rev.proofs.OutcomeLemmas.{Ends, Ends-ok, Ends-bind}

pub set_set : {X : Type 0} (xs : List X) (i : ℕ) (a b : X) → set (set xs i a) i b ≡ set xs i b
set_set [] i a b = refl
set_set (x ∷ xs) zero a b = refl
set_set (x ∷ xs) (suc i) a b = ap (λ ys. x ∷ ys) (set_set xs i a b)

-- waking goroutines doesn't change the rows
woken_row : (gs : List ℕ) (d : ℕ) (row : DescriptorRow) (w : World) → after_wakes gs (with_row d row w) ≡ with_row d row (after_wakes gs w)
woken_row [] d row w = refl
woken_row (g ∷ gs) d row w = woken_row gs d row (after_wakes (g ∷ []) w)

woken_rows : (gs : List ℕ) (w : World) → (after_wakes gs w).descriptors ≡ w.descriptors
woken_rows [] w = refl
woken_rows (g ∷ gs) w = woken_rows gs (after_wakes (g ∷ []) w)

woken_free : (gs : List ℕ) (w : World) → (after_wakes gs w).free ≡ w.free
woken_free [] w = refl
woken_free (g ∷ gs) w = woken_free gs (after_wakes (g ∷ []) w)

woken_append : (gs hs : List ℕ) (w : World) → after_wakes (gs ++ hs) w ≡ after_wakes hs (after_wakes gs w)
woken_append [] hs w = refl
woken_append (g ∷ gs) hs w = woken_append gs hs (after_wakes (g ∷ []) w)

-- the world after this change to descriptor d, which then has these timers
abbrev changed_world : ℕ → Sides (Option Timer) → Change → World → World
changed_world d timers change w = after_wakes change.woken (with_row d (record { descriptor = change.descriptor; timers = timers }) w)

then_unblocked : (w : World) (d : ℕ) (old : DescriptorRow) (timers : Sides (Option Timer)) (change : Change) (side : Side) (ioready : Bool) → slice_get w.descriptors d ≡ Some old
    → is_free_number d w.free ≡ false → WellFormed (changed_world d timers change w) → WellFormed (changed_world d timers (and_then change (unblocked ioready side)) w)
then_unblocked w d old timers change side ioready at is_open h =
    subst WellFormed same (unblocked_keeps first d row side ioready h row_at first_open)
  where
    first : World
    first = changed_world d timers change w

    row : DescriptorRow
    row = record { descriptor = change.descriptor; timers = timers }

    new : WaitWord × List ℕ
    new = unblock (of_side side change.descriptor.words) ioready

    row_after : DescriptorRow
    row_after = record { descriptor = record change.descriptor { words = with_side side new.0 change.descriptor.words }; timers = timers }

    row_at : slice_get first.descriptors d ≡ Some row
    row_at =
        ap (λ (x : World). slice_get x.descriptors d) (woken_row change.woken d row w)
        ∙ slice_get-set_here (after_wakes change.woken w).descriptors d old row (ap (λ rows. slice_get rows d) (woken_rows change.woken w) ∙ at)

    first_open : is_free_number d first.free ≡ false
    first_open = ap (is_free_number d) (woken_free change.woken (with_row d row w)) ∙ is_open

    rows_same : with_row d row_after first ≡ after_wakes change.woken (with_row d row_after w)
    rows_same =
        ap (with_row d row_after) (woken_row change.woken d row w)
        ∙ ap (λ rows. record (after_wakes change.woken w) { descriptors = rows }) (set_set (after_wakes change.woken w).descriptors d row row_after)
        ∙ sym (woken_row change.woken d row_after w)

    same : after_wakes new.1 (with_row d row_after first) ≡ after_wakes (change.woken ++ new.1) (with_row d row_after w)
    same = ap (after_wakes new.1) rows_same ∙ sym (woken_append change.woken new.1 (with_row d row_after w))

then_if_keeps : (w : World) (d : ℕ) (old : DescriptorRow) (timers : Sides (Option Timer)) (change : Change) (test : Bool) (side : Side) (ioready : Bool) → slice_get w.descriptors d ≡ Some old
    → is_free_number d w.free ≡ false → WellFormed (changed_world d timers change w) → WellFormed (changed_world d timers (then_if change test (unblocked ioready side)) w)
then_if_keeps w d old timers change true side ioready at is_open h = then_unblocked w d old timers change side ioready at is_open h
then_if_keeps w d old timers change false side ioready at is_open h = h

pub orders_if : (test ioready : Bool) (side : Side) (change : Change) → (then_if change test (unblocked ioready side)).orders ≡ change.orders
orders_if true ioready side change = append-nil _
orders_if false ioready side change = refl

-- timers are reset, and then sides are unblocked
pub changed_keeps : {T : Type 0} (w : World) (d : ℕ) (row : DescriptorRow) (base : Change) (reads writes ioready : Bool) → WellFormed w → slice_get w.descriptors d ≡ Some row
    → is_free_number d w.free ≡ false → base.woken ≡ [] → base.descriptor.words ≡ row.descriptor.words
    → Ends (λ (left : Sides (Option Timer) × ℕ). T → TimersChanged w.firings d row (record { descriptor = base.descriptor; timers = left.0 }) w.next_arming left.1)
    (after_orders base.orders (row.timers, w.next_arming)) → Ends (λ (next : World). T → WellFormed next)
    (after_change d row (then_if (then_if base reads (unblocked ioready Read)) writes (unblocked ioready Write)) w)
changed_keeps {T = T} w d row base reads writes ioready h at is_open quiets words changed =
    Ends-bind
    (subst (λ (orders : List TimerOrder). Ends (λ (left : Sides (Option Timer) × ℕ). T → TimersChanged w.firings d row (record { descriptor = base.descriptor; timers = left.0 }) w.next_arming left.1)
    (after_orders orders (row.timers, w.next_arming)))
    (sym (orders_if writes ioready Write _ ∙ orders_if reads ioready Read base)) changed)
    λ left change.
    Ends-ok λ premise.
    let first : WellFormed (changed_world d left.0 base (record w { next_arming = left.1 })) =
    subst (λ (gs : List ℕ). WellFormed (after_wakes gs (with_row d (record { descriptor = base.descriptor; timers = left.0 }) (record w { next_arming = left.1 })))) (sym quiets)
    (timers_changed_keeps w d left.1 row _ h at is_open words (change premise))
    in
    then_if_keeps (record w { next_arming = left.1 }) d row left.0 (then_if base reads (unblocked ioready Read)) writes Write ioready at is_open
    (then_if_keeps (record w { next_arming = left.1 }) d row left.0 base reads Read ioready at is_open first)

-- a side that isn't running has no timer
pub none_at_rest : (row : DescriptorRow) (side : Side) → RowFits row → of_side side row.descriptor.running ≡ false → of_side side row.timers ≡ None
none_at_rest row side h rest = go (of_side side row.timers) refl
  where
    go : (o : Option Timer) → of_side side row.timers ≡ o → of_side side row.timers ≡ None
    go None at = at
    go (Some timer) at = absurd (true≢false (sym (h.entries side timer at).running ∙ rest))
