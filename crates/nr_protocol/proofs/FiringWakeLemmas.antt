-- A current firing wakes the goroutines that are parked at the sides that it covers.
use Rattle.std.proofs.Common.{◌≡◌, ℕ, zero, suc, Bool, true, false, not, List, [], ◌∷◌, ◌++◌, Option, Some, None, Result, Ok, ◌⊎◌, inl, inr, refl, sym, ap, subst, ◌∙◌, set, get_or}
use Rattle.std.proofs.lemmas.Bool.{eq-eqb}
use Rattle.std.proofs.lemmas.Option.{same_Some}
use Rattle.std.specs.Prelude.{slice_get, if◌then◌else◌, option_map, remove}
use Rattle.std.specs.Option.{option_and_then}
use Rattle.nr_rev.specs.declared.answer.Answer.{Answer}
use Rattle.nr_rev.specs.declared.answer.Answer.TheVariants.{Done}
use Rattle.nr_rev.specs.declared.descriptor.Descriptor.{Descriptor}
use Rattle.nr_rev.specs.declared.descriptor.DescriptorRow.{DescriptorRow}
use Rattle.nr_rev.specs.declared.descriptor.WaitWord.{WaitWord}
use Rattle.nr_rev.specs.declared.descriptor.WaitWord.TheVariants.{Held}
use Rattle.nr_rev.specs.declared.refusal.Refusal.{Refusal}
use Rattle.nr_rev.specs.declared.sides.Side.{Side}
use Rattle.nr_rev.specs.declared.sides.Side.TheVariants.{Read, Write}
use Rattle.nr_rev.specs.declared.sides.Sides.{Sides}
use Rattle.nr_rev.specs.declared.status.Status.{Status}
use Rattle.nr_rev.specs.declared.status.Status.TheVariants.{Idle, Parked, Swapping}
use Rattle.nr_rev.specs.declared.step.Step.{Step}
use Rattle.nr_rev.specs.declared.timer.Entry.{Entry}
use Rattle.nr_rev.specs.declared.timer.Timer.{Timer}
use Rattle.nr_rev.specs.declared.timer.TimerFunction.{TimerFunction}
use Rattle.nr_rev.specs.Descriptor.{Change, change_by_firing, is_current, is_timed, unblock}
use Rattle.nr_rev.specs.Refusing.{◌>>=◌, ◌>>◌, found_or, refused_unless}
use Rattle.nr_rev.specs.Sides.{of_side, covers_side, side_of_function}
use Rattle.nr_rev.specs.Step.{after_change, after_orders, after_wake, after_wakes, outcome, row_of}
use Rattle.nr_rev.specs.WellFormed.{WellFormed, FiringFits, IsCurrent, IsInside, parked_of}
use Rattle.nr_rev.specs.World.{World, wait_of}
use Rattle.nr_protocol.proofs.DeadlineTimerStepLemmas.{fired, fired_row}
use Rattle.nr_laws.proofs.ReferenceLemmas.{place_made}
use Rattle.nr_laws.proofs.TimerStepLemmas.{may_fire, timed}

-- the computation gives this value
abbrev pub Leads : {A : Type 0} → (A → Type 0) → Result A Refusal → Type 0
Leads {A} P m = (a : A) × (m ≡ Ok a) × P a

pub Leads-bind : {A B : Type 0} {Q : B → Type 0} (m : Result A Refusal) (rest : A → Result B Refusal) (a : A) → m ≡ Ok a → Leads Q (rest a) → Leads Q (◌>>=◌ m rest)
Leads-bind {Q = Q} m rest a is next = subst (λ x. Leads Q (◌>>=◌ x rest)) (sym is) next

-- ---- waking

abbrev HasElement : ℕ → List ℕ → Type 0
HasElement g [] = ⊥
HasElement g (x ∷ xs) = (x ≡ g) ⊎ HasElement g xs

element_left : (g : ℕ) (xs ys : List ℕ) → HasElement g xs → HasElement g (xs ++ ys)
element_left g [] ys has = absurd has
element_left g (x ∷ xs) ys (inl here) = inl here
element_left g (x ∷ xs) ys (inr there) = inr (element_left g xs ys there)

element_right : (g : ℕ) (xs ys : List ℕ) → HasElement g ys → HasElement g (xs ++ ys)
element_right g [] ys has = has
element_right g (x ∷ xs) ys has = inr (element_right g xs ys has)

-- the statuses after a goroutine is woken
abbrev woken_at : List Status → ℕ → List Status
woken_at ss x = set ss x (after_wake (get_or ss x Idle))

own_wakes : (ss : List Status) (g d : ℕ) (side : Side) → slice_get ss g ≡ Some (Parked d side) → slice_get (woken_at ss g) g ≡ Some (Swapping d side)
own_wakes [] g d side at = cc
own_wakes (s ∷ ss) zero d side at = ap (λ x. Some (after_wake x)) (same_Some _ _ at)
own_wakes (s ∷ ss) (suc g) d side at = own_wakes ss g d side at

swapping_stays : (ss : List Status) (x g d : ℕ) (side : Side) → slice_get ss g ≡ Some (Swapping d side) → slice_get (woken_at ss x) g ≡ Some (Swapping d side)
swapping_stays [] x g d side at = cc
swapping_stays (s ∷ ss) zero zero d side at = ap (λ y. Some (after_wake y)) (same_Some _ _ at)
swapping_stays (s ∷ ss) zero (suc g) d side at = at
swapping_stays (s ∷ ss) (suc x) zero d side at = at
swapping_stays (s ∷ ss) (suc x) (suc g) d side at = swapping_stays ss x g d side at

parked_or_woken : (ss : List Status) (x g d : ℕ) (side : Side) → slice_get ss g ≡ Some (Parked d side)
    → (slice_get (woken_at ss x) g ≡ Some (Parked d side)) ⊎ (slice_get (woken_at ss x) g ≡ Some (Swapping d side))
parked_or_woken [] x g d side at = cc
parked_or_woken (s ∷ ss) zero zero d side at = inr (ap (λ y. Some (after_wake y)) (same_Some _ _ at))
parked_or_woken (s ∷ ss) zero (suc g) d side at = inl at
parked_or_woken (s ∷ ss) (suc x) zero d side at = inl at
parked_or_woken (s ∷ ss) (suc x) (suc g) d side at = parked_or_woken ss x g d side at

all_stay : (gs : List ℕ) (w : World) (g d : ℕ) (side : Side) → slice_get w.goroutines g ≡ Some (Swapping d side) → slice_get (after_wakes gs w).goroutines g ≡ Some (Swapping d side)
all_stay [] w g d side at = at
all_stay (x ∷ gs) w g d side at = all_stay gs (after_wakes (x ∷ []) w) g d side (swapping_stays w.goroutines x g d side at)

all_wake : (gs : List ℕ) (w : World) (g d : ℕ) (side : Side) → HasElement g gs → slice_get w.goroutines g ≡ Some (Parked d side) → slice_get (after_wakes gs w).goroutines g ≡ Some (Swapping d side)
all_wake [] w g d side has at = absurd has
all_wake (x ∷ gs) w g d side (inl here) at =
    all_stay gs (after_wakes (x ∷ []) w) g d side (subst (λ n. slice_get (woken_at w.goroutines n) g ≡ Some (Swapping d side)) (sym here) (own_wakes w.goroutines g d side at))
all_wake (x ∷ gs) w g d side (inr there) at =
    elim (parked_or_woken w.goroutines x g d side at) [
      | inl parked ↦ all_wake gs (after_wakes (x ∷ []) w) g d side there parked
      | inr woken ↦ all_stay gs (after_wakes (x ∷ []) w) g d side woken
    ]

held_wakes : (word : WaitWord) (g : ℕ) → word ≡ Held g → HasElement g (unblock word false).1
held_wakes word g is = subst (λ x. HasElement g (unblock x false).1) (sym is) (inl refl)

-- a firing wakes each goroutine that a side's word holds, if it covers the side
fired_wakes : (f : TimerFunction) (d : Descriptor) (side : Side) (g : ℕ) → covers_side f side ≡ true → of_side side d.words ≡ Held g → HasElement g (fired f d).woken
fired_wakes TimerFunction.Read d Read g covers held = held_wakes d.words.read g held
fired_wakes TimerFunction.Read d Write g covers held = cc
fired_wakes TimerFunction.Write d Read g covers held = cc
fired_wakes TimerFunction.Write d Write g covers held = held_wakes d.words.write g held
fired_wakes TimerFunction.Both d Read g covers held = element_left g (unblock d.words.read false).1 (unblock d.words.write false).1 (held_wakes d.words.read g held)
fired_wakes TimerFunction.Both d Write g covers held = element_right g (unblock d.words.read false).1 (unblock d.words.write false).1 (held_wakes d.words.write g held)

-- a current firing that is timed makes its change
changes : (stale runs : Bool) (change : Change) → stale ≡ false → runs ≡ true
    → ◌≡◌ {A = Result (Option Change) Refusal} (if stale then Ok None else (refused_unless runs Refusal.CorruptedDescriptor >> Ok (Some change))) (Ok (Some change))
changes true runs change a b = cc
changes false true change a b = refl
changes false false change a b = cc

pub firing_wakes : (w : World) (i g : ℕ) (side : Side) (e : Entry) → WellFormed w → slice_get w.firings i ≡ Some e → covers_side e.timer.function side ≡ true → IsCurrent w.descriptors e
    → slice_get w.goroutines g ≡ Some (Parked e.descriptor side)
    → (next : World) × (outcome w (Step.Fire i) ≡ Ok (Done, next)) × (slice_get next.goroutines g ≡ Some (Swapping e.descriptor side))
firing_wakes w i g side e ok at covers now parked =
    let led : Leads (λ (left : Answer × World). (left.0 ≡ Done) × (slice_get left.1.goroutines g ≡ Some (Swapping e.descriptor side))) (outcome w (Step.Fire i)) =
    Leads-bind (found_or (slice_get w.firings i) Refusal.NoSuchFiring) _ e (ap (λ o. found_or o Refusal.NoSuchFiring) at)
    (Leads-bind (row_of e.descriptor w) _ row (ap (λ o. found_or o Refusal.NoSuchDescriptor) row_at)
    (Leads-bind (change_by_firing e.timer.function e.timer.sequence row.descriptor) _ (Some (fired e.timer.function row.descriptor))
    (changes (not (is_current e.timer.function e.timer.sequence row.descriptor)) (is_timed e.timer.function row.descriptor) (fired e.timer.function row.descriptor) (ap not is_now)
    (timed row e.timer.function (may_fire w i e row ok at row_at same)))
    (Leads-bind (after_change e.descriptor row (fired e.timer.function row.descriptor) (record w { firings = remove w.firings i })) (λ next. Ok (Done, next)) _
    (ap (λ (r : Result (Sides (Option Timer) × ℕ) Refusal). r >>= λ left. Ok (after_wakes (fired e.timer.function row.descriptor).woken (left_world left)))
    (ap (λ orders. after_orders orders (row.timers, w.next_arming)) (fired_row e.timer.function row.descriptor).orders))
    (_, refl, (refl, all_wake (fired e.timer.function row.descriptor).woken (left_world (row.timers, w.next_arming)) g e.descriptor side (fired_wakes e.timer.function row.descriptor side g covers held) parked)))))
    in
    (led.0.1, led.1 ∙ ap (λ answer. Ok (answer, led.0.1)) led.2.0, led.2.1)
  where
    inside : IsInside w.goroutines g e.descriptor side
    inside = ap (option_and_then wait_of) parked

    made : (row : DescriptorRow) × (slice_get w.descriptors e.descriptor ≡ Some row)
    made = place_made w g e.descriptor side ok inside

    row : DescriptorRow
    row = made.0

    row_at : slice_get w.descriptors e.descriptor ≡ Some row
    row_at = made.1

    left_world : Sides (Option Timer) × ℕ → World
    left_world left =
        record w {
          firings = remove w.firings i;
          descriptors = set w.descriptors e.descriptor (record { descriptor = (fired e.timer.function row.descriptor).descriptor; timers = left.0 });
          next_arming = left.1;
        }

    held : of_side side row.descriptor.words ≡ Held g
    held =
        same_Some _ _ (sym (ap (option_map (λ (r : DescriptorRow). of_side side r.descriptor.words)) row_at) ∙ (ok.words.held g e.descriptor side).1 (ap (option_and_then parked_of) parked))

    fits : FiringFits row.descriptor e
    fits =
        let f = ok.timers.firings_fit i e at in
        subst (λ (r : DescriptorRow). FiringFits r.descriptor e) (same_Some _ _ (sym f.1 ∙ row_at)) f.2

    same : e.timer.sequence ≡ of_side (side_of_function e.timer.function) row.descriptor.sequences
    same =
        sym (same_Some _ _ (sym (ap (option_map (λ (r : DescriptorRow). of_side e.side r.descriptor.sequences)) row_at) ∙ now))
        ∙ ap (λ s. of_side s row.descriptor.sequences) fits.side

    is_now : is_current e.timer.function e.timer.sequence row.descriptor ≡ true
    is_now = eq-eqb e.timer.sequence (of_side (side_of_function e.timer.function) row.descriptor.sequences) same
