-- pollreset and the steps of a wait, from waitbegin to waitcheck, keep a world well formed.
use Rattle.std.proofs.Common.{◌≡◌, ℕ, ◌&&◌, if◌then◌else◌, Bool, true, false, Result, Some, refl, sym, subst, ◌∙◌, ap, arith, ◌+◌}
use Rattle.std.proofs.lemmas.Option.{some_pair_parts, slice_get_within}
use Rattle.std.specs.Prelude.{slice_get, if◌then◌else◌, ◌==◌}
use Rattle.nr_rev.specs.declared.sides.Side.{Side}
use Rattle.nr_rev.specs.declared.status.Status.TheVariants.{Idle, Entering, Armed, Parking, Parked, Swapping, Checking}
use Rattle.nr_rev.specs.World.{World, is_waited, with_status, wait_of, with_row, is_free_number}
use Rattle.nr_rev.specs.Step.{Outcome, waitbegin, blockarm, blockswap, pollreset, with_wait, armed_by, swapped_by, entering_of, swapping_of, status_of, row_of, parkcommit, parking_of, committed_by, blockcheck, waitcheck, armed_of, checking_of}
use Rattle.nr_rev.specs.WellFormed.{WellFormed, IsOpen, is_held}
use Rattle.nr_rev.specs.declared.status.Status.{Status}
use Rattle.nr_rev.specs.Descriptor.{check}
use Rattle.nr_rev.specs.Refusing.{◌>>=◌}
use Rattle.nr_laws.proofs.StatusSetLemmas.{moved, may_leave, may_stay}
use Rattle.nr_laws.proofs.LookupLemmas.{nobody_inside, Ends-status_of, Ends-row_of, Ends-idle_open, Ends-entering_of, Ends-armed_of, Ends-parking_of, Ends-swapping_of, Ends-checking_of}
use Rattle.std.specs.Option.{option_and_then}
use Rattle.nr_rev.specs.declared.descriptor.WaitWord.{WaitWord}
use Rattle.nr_rev.specs.declared.descriptor.WaitWord.TheVariants.{Nil, Ready, Held}
use Rattle.nr_rev.specs.Sides.{of_side, with_side}
use Rattle.nr_rev.specs.declared.descriptor.DescriptorRow.{DescriptorRow}
use Rattle.nr_laws.proofs.WaitWordChangeLemmas.{with_words}
use Rattle.nr_rev.specs.declared.refusal.Refusal.{Refusal}
use Rattle.nr_rev.proofs.OutcomeLemmas.{Ends, Keeps, Ends-ok, Ends-bind, Ends-then, Ends-refused, Ends-refused_if}
use Rattle.nr_laws.proofs.WaitWordSetLemmas.{same_place, word_and_status_keep, unheld_word_keeps, word_has, word_at_swap, word_at_rest}
use Rattle.nr_laws.proofs.UnblockLemmas.{cleared}

entered : (w : World) (g d : ℕ) (side : Side) → WellFormed w → slice_get w.goroutines g ≡ Some Idle → IsOpen w.descriptors w.free d → is_waited d side w.goroutines ≡ false
    → WellFormed (with_status g (Entering d side) w)
entered w g d side h at_g is_open nobody =
    moved w g Idle (Entering d side) h at_g
    (record {
      is_open = λ d' side' e. let p = some_pair_parts d d' side side' e in subst (IsOpen w.descriptors w.free) p.0 is_open;
      alone = λ d' side' k e apart inside. nobody_inside _ d side k nobody (inside ∙ sym e);
      named = λ s e. cc;
      owes = λ reads writes e. cc;
    })
    refl refl (λ _ _. refl)

swapped : (w : World) (g d : ℕ) (side : Side) (row : DescriptorRow) (word : WaitWord) → WellFormed w → slice_get w.goroutines g ≡ Some (Swapping d side) → slice_get w.descriptors d ≡ Some row
    → of_side side row.descriptor.words ≡ word → WellFormed (swapped_by g d side word row w).1
swapped w g d side row word h at row_at is = go word is
  where
    is_open : is_free_number d w.free ≡ false
    is_open = (h.goroutines.inside_open g d side (ap (option_and_then wait_of) at)).1

    checks : (was : WaitWord) → of_side side row.descriptor.words ≡ was → is_held was ≡ false → WellFormed (with_wait g (Checking d side) d side Nil row w)
    checks was is free =
        unheld_word_keeps w g d side row (Swapping d side) (Checking d side) was Nil h at row_at is_open is free refl
        (record { unparked = (refl, refl); awaits = λ e. cc; only = λ k s e. same_place d k side s e; unqueued = λ _ _. refl })
        (may_stay w g _ _ (d, side) h at refl refl refl refl)

    go : (was : WaitWord) → of_side side row.descriptor.words ≡ was → WellFormed (swapped_by g d side was row w).1
    go Ready is =
        unheld_word_keeps w g d side row (Swapping d side) Idle Ready Nil h at row_at is_open is refl refl
        (record { unparked = (refl, refl); awaits = λ e. cc; only = λ k s e. same_place d k side s e; unqueued = λ _ _. refl })
        (may_leave w g Idle refl refl refl)
    go Nil is = checks Nil is refl
    go WaitWord.Wait is = checks WaitWord.Wait is refl
    go (Held k) is = absurd (word_at_swap w g k d side h at (word_has w d side row (Held k) row_at is))

swapping : (w : World) (g d : ℕ) (side : Side) → WellFormed w → slice_get w.goroutines g ≡ Some (Parking d side) → WellFormed (with_status g (Swapping d side) w)
swapping w g d side h at = moved w g _ _ h at (may_stay w g _ _ (d, side) h at refl refl refl refl) refl refl (λ _ _. refl)

parked : (w : World) (g d : ℕ) (side : Side) (row : DescriptorRow) → WellFormed w → slice_get w.goroutines g ≡ Some (Parking d side) → slice_get w.descriptors d ≡ Some row
    → of_side side row.descriptor.words ≡ WaitWord.Wait → WellFormed (committed_by g d side WaitWord.Wait row w).1
parked w g d side row h at row_at waits =
    word_and_status_keep w g d (w.waiters + 1) side row (Parking d side) (Parked d side) WaitWord.Wait (Held g) h at row_at (h.goroutines.inside_open g d side (ap (option_and_then wait_of) at)).1
    waits
    (record {
      held_before = λ k e. cc;
      held = λ k e. (cc, refl);
      parked_before = λ e s same. cc;
      parked = λ e s same. let p = same_place d e side s same in (p.0, p.1, refl);
      waited_before = λ e s same. same_place d e side s same;
      waited = λ e. cc;
      unqueued = λ _ _. refl;
    })
    (may_stay w g _ _ (d, side) h at refl refl refl refl) (omega arith)

committed : (w : World) (g d : ℕ) (side : Side) (word : WaitWord) (row : DescriptorRow) → WellFormed w → slice_get w.goroutines g ≡ Some (Parking d side) → slice_get w.descriptors d ≡ Some row
    → of_side side row.descriptor.words ≡ word → WellFormed (committed_by g d side word row w).1
committed w g d side WaitWord.Wait row h at row_at is = parked w g d side row h at row_at is
committed w g d side _ row h at row_at is = swapping w g d side h at

checked : (w : World) (g d : ℕ) (side : Side) (zero : Bool) → WellFormed w → slice_get w.goroutines g ≡ Some (Armed d side)
    → WellFormed (with_status g (if zero then Parking d side else Swapping d side) w)
checked w g d side true h at = moved w g _ _ h at (may_stay w g _ _ (d, side) h at refl refl refl refl) refl refl (λ _ _. refl)
checked w g d side false h at = moved w g _ _ h at (may_stay w g _ _ (d, side) h at refl refl refl refl) refl refl (λ _ _. refl)

rechecked : (w : World) (g d : ℕ) (side : Side) (zero : Bool) → WellFormed w → slice_get w.goroutines g ≡ Some (Checking d side) → WellFormed (with_status g (if zero then Entering d side else Idle) w)
rechecked w g d side true h at = moved w g _ _ h at (may_stay w g _ _ (d, side) h at refl refl refl refl) refl refl (λ _ _. refl)
rechecked w g d side false h at = moved w g _ _ h at (may_leave w g Idle refl refl refl) refl refl (λ _ _. refl)

reset : (w : World) (d : ℕ) (side : Side) (row : DescriptorRow) (zero : Bool) → WellFormed w → slice_get w.descriptors d ≡ Some row → is_free_number d w.free ≡ false
    → (zero && is_waited d side w.goroutines) ≡ false → WellFormed (if zero then with_row d (with_words row (with_side side Nil row.descriptor.words)) w else w)
reset w d side row false h row_at is_open nobody = h
reset w d side row true h row_at is_open nobody =
    cleared w d side row h row_at is_open (word_at_rest w d side _ h nobody (word_has w d side row _ row_at refl))

pub pollreset_sound : (w : World) (g d : ℕ) (side : Side) → WellFormed w → Keeps (pollreset g d side w)
pollreset_sound w g d side h =
    Ends-idle_open g d w λ row _ at is_open.
    Ends-then (Ends-refused_if ((check side row.descriptor == 0) && is_waited d side w.goroutines) _ refl) λ nobody.
    Ends-ok (reset w d side row _ h at is_open nobody)

-- with code 0, the goroutine enters the wait
enters : (w : World) (g d : ℕ) (side : Side) (zero : Bool) → WellFormed w → slice_get w.goroutines g ≡ Some Idle → IsOpen w.descriptors w.free d → (zero && is_waited d side w.goroutines) ≡ false
    → WellFormed (if zero then with_status g (Entering d side) w else w)
enters w g d side true h at is_open nobody = entered w g d side h at is_open nobody
enters w g d side false h at is_open nobody = h

pub waitbegin_sound : (w : World) (g d : ℕ) (side : Side) → WellFormed w → Keeps (waitbegin g d side w)
waitbegin_sound w g d side h =
    Ends-idle_open g d w λ row at row_at is_open.
    Ends-then (Ends-refused_if ((check side row.descriptor == 0) && is_waited d side w.goroutines) _ refl) λ nobody.
    Ends-ok (enters w g d side _ h at (slice_get_within _ _ _ row_at, is_open) nobody)

arms : (w : World) (g d : ℕ) (side : Side) (row : DescriptorRow) (word : WaitWord) → WellFormed w → slice_get w.goroutines g ≡ Some (Entering d side) → slice_get w.descriptors d ≡ Some row
    → of_side side row.descriptor.words ≡ word → Keeps (armed_by g d side word row w)
arms w g d side row Nil h at row_at is =
    Ends-ok
    (unheld_word_keeps w g d side row (Entering d side) (Armed d side) Nil WaitWord.Wait h at row_at (h.goroutines.inside_open g d side (ap (option_and_then wait_of) at)).1 is refl refl
    (record { unparked = (refl, refl); awaits = λ _. refl; only = λ k s e. cc; unqueued = λ _ _. refl })
    (may_stay w g _ _ (d, side) h at refl refl refl refl))
arms w g d side row Ready h at row_at is =
    Ends-ok
    (unheld_word_keeps w g d side row (Entering d side) Idle Ready Nil h at row_at (h.goroutines.inside_open g d side (ap (option_and_then wait_of) at)).1 is refl refl
    (record { unparked = (refl, refl); awaits = λ e. cc; only = λ k s e. cc; unqueued = λ _ _. refl })
    (may_leave w g Idle refl refl refl))
arms w g d side row WaitWord.Wait h at row_at is = Ends-refused refl
arms w g d side row (Held k) h at row_at is = Ends-refused refl

-- a step that requires a goroutine to be at a certain point of a wait
at_place : (status : ℕ → Side → Status) (place_of : Status → Result (ℕ × Side) Refusal) (rest : ℕ → Side → DescriptorRow → Outcome) (w : World) (g : ℕ)
    → ((s : Status) → Ends (λ place. s ≡ status place.0 place.1) (place_of s))
    → ((d : ℕ) (side : Side) (row : DescriptorRow) → slice_get w.goroutines g ≡ Some (status d side) → slice_get w.descriptors d ≡ Some row → Keeps (rest d side row))
    → Keeps (status_of g w >>= λ s. place_of s >>= λ place. row_of place.0 w >>= λ row. rest place.0 place.1 row)
at_place status place_of rest w g places keeps =
    Ends-bind (Ends-status_of g w) λ s at.
    Ends-bind (places s) λ place is.
    Ends-bind (Ends-row_of place.0 w) λ row row_at.
    keeps place.0 place.1 row (at ∙ ap Some is) row_at

pub blockarm_sound : (w : World) (g : ℕ) → WellFormed w → Keeps (blockarm g w)
blockarm_sound w g h = at_place Entering entering_of _ w g Ends-entering_of λ d side row at row_at. arms w g d side row _ h at row_at refl

pub blockcheck_sound : (w : World) (g : ℕ) → WellFormed w → Keeps (blockcheck g w)
blockcheck_sound w g h = at_place Armed armed_of _ w g Ends-armed_of λ d side row at row_at. Ends-ok (checked w g d side _ h at)

pub parkcommit_sound : (w : World) (g : ℕ) → WellFormed w → Keeps (parkcommit g w)
parkcommit_sound w g h = at_place Parking parking_of _ w g Ends-parking_of λ d side row at row_at. Ends-ok (committed w g d side _ row h at row_at refl)

pub blockswap_sound : (w : World) (g : ℕ) → WellFormed w → Keeps (blockswap g w)
blockswap_sound w g h = at_place Swapping swapping_of _ w g Ends-swapping_of λ d side row at row_at. Ends-ok (swapped w g d side row _ h at row_at refl)

pub waitcheck_sound : (w : World) (g : ℕ) → WellFormed w → Keeps (waitcheck g w)
waitcheck_sound w g h = at_place Checking checking_of _ w g Ends-checking_of λ d side row at row_at. Ends-ok (rechecked w g d side _ h at)
