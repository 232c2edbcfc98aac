-- Each step lets no goroutine sleep past a close or a deadline.
use Rattle.std.proofs.Common.{◌≡◌, ℕ, Bool, true, false, ◌&&◌, List, [], ◌∷◌, Some, None, ◌⊎◌, inl, inr, refl, sym, ap, subst, ◌∙◌, true≢false, ◌≢◌, ℤ, ◌*◌, not, ◌||◌, ◌++◌, length, Option, Result, Ok}
use Rattle.std.proofs.lemmas.Option.{none-some, same_Some, some_pair_parts}
use Rattle.std.specs.Prelude.{slice_get, if◌then◌else◌, ◌==◌, nat_lt, int_le}
use Rattle.nr_rev.specs.declared.sides.Sides.{Sides}
use Rattle.nr_rev.specs.declared.sides.Side.{Side}
use Rattle.nr_rev.specs.declared.sides.Side.TheVariants.{Read, Write}
use Rattle.nr_rev.specs.declared.descriptor.Descriptor.{Descriptor}
use Rattle.nr_rev.specs.declared.descriptor.DescriptorRow.{DescriptorRow}
use Rattle.nr_rev.specs.declared.descriptor.WaitWord.{WaitWord}
use Rattle.nr_rev.specs.declared.descriptor.WaitWord.TheVariants.{Nil, Ready, Held}
use Rattle.nr_rev.specs.declared.status.Status.{Status}
use Rattle.nr_rev.specs.declared.status.Status.TheVariants.{Idle, Parked, Entering, Armed, Parking, Swapping, Checking}
use Rattle.nr_rev.specs.Descriptor.{timer_follows, timer_reset, wants_timer, is_combo, same_bool, Change, check, is_expired, then_if, unblock, unblocked, with_wait_word, quiet, and_then, both_raised, opened_for, closed, deadline_from, with_deadlines, is_current, is_timed, expired_unblocked, change_by_deadline, change_by_evict, expire, change_by_firing, change_by_event}
use Rattle.nr_rev.specs.Sides.{of_side, is_read, with_side, covers_side}
use Rattle.std.specs.Ordering.{int_eq}
use Rattle.nr_rev.specs.declared.answer.Answer.{Answer}
use Rattle.nr_rev.specs.Step.{Outcome, after_change, after_orders, after_wakes, idle, status_of, socket_of, taken, new_row, pollopen, pollclose, evict, pollevent, pollreset, swapping_of, with_wait, armed_by, blockarm, blockcheck, committed_by, parkcommit, swapped_by, blockswap, setdeadline, pop, fired_with, fire, outcome}
use Rattle.nr_rev.specs.World.{World, with_status, with_row, is_free_number, is_waited, least_entry, wait_of, with_descriptor}
use Rattle.nr_rev.specs.WellFormed.{HasView, WellFormed}
use Rattle.nr_rev.proofs.ListUpdateLemmas.{slice_get-set_cases, slice_get-push_cases, slice_get-set_unseen}
use Rattle.nr_rev.proofs.SideLemmas.{each_side, other_side, of_side-with_side_other}
use Rattle.nr_laws.proofs.AspectLemmas.{ComesTo, ComesTo-ok, ComesTo-any, ComesTo-bind, ComesTo-refused, ComesTo-ends, ComesTo-then, ComesTo-either}
use Rattle.nr_protocol.specs.Sleep.{sleeping_of, is_waited_on, MaySleep, SleepersFit, IsOfLinux}
use Rattle.std.specs.Option.{option_and_then}
use Rattle.nr_rev.specs.declared.refusal.Refusal.{Refusal}
use Rattle.nr_rev.specs.declared.sides.Mode.{Mode}
use Rattle.nr_rev.specs.declared.step.Step.{Step}
use Rattle.nr_rev.specs.declared.timer.TimerFunction.{TimerFunction}
use Rattle.nr_rev.specs.Refusing.{refused_if, refused_unless, found_or, raised_sequence}
use Rattle.nr_protocol.proofs.AsideStepLemmas.{Aside, Asides, spawn_aside, exit_aside, sockopen_aside, arrive_aside, peerclose_aside, sysread_aside, syswrite_aside, drain_aside, incref_aside, increfclose_aside, decref_aside, rwlock_aside, rwunlock_aside, acquire_aside, release_aside, waitbegin_aside, waitcheck_aside, tick_aside, closewrite_aside}
use Rattle.nr_laws.proofs.AspectDescriptorStepLemmas.{ComesTo-open_row_of}
use Rattle.nr_laws.proofs.BoolLemmas.{never_true}
use Rattle.nr_laws.proofs.LookupLemmas.{Ends-status_of, Ends-row_of, Ends-entering_of, Ends-armed_of, Ends-parking_of}
use Rattle.nr_laws.proofs.StatusSetLemmas.{view_cases}
use Rattle.nr_laws.proofs.TimerFollowsLemmas.{Ends-timer_follows}
use Rattle.nr_protocol.proofs.SleepLemmas.{set_fewer, wake_fewer, unblock_wakes, code_of, zero_means}

-- a choice between two ends of a step, which depends on a test
pub Rests-cases : {A : Type 0} {P : A → Type 0} (c : Bool) {x y : Result A Refusal} → (c ≡ true → ComesTo P x) → (c ≡ false → ComesTo P y) → ComesTo P (if c then x else y)
Rests-cases true a b = a refl
Rests-cases false a b = b refl

module _ (exact : Bool) where
  -- true if no goroutine of a world sleeps, or will sleep, past a close or a deadline
  abbrev pub Fit : World → Type 0
  Fit w = SleepersFit exact w.goroutines w.descriptors

  -- true if a step leaves such a world, or is refused
  abbrev pub Rests : Outcome → Type 0
  Rests o = ComesTo (λ (left : Answer × World). Fit left.1) o

  -- ---- statuses

  pub fewer : (old new : List Status) (rows : List DescriptorRow) → ((k : ℕ) (place : ℕ × Side) → HasView sleeping_of new k place → HasView sleeping_of old k place) → SleepersFit exact old rows → SleepersFit exact new rows
  fewer old new rows less h = record { may_sleep = λ g d side row shows at waited. h.may_sleep g d side row (less g (d, side) shows) at waited }

  pub status_rests : (g : ℕ) (status : Status) (w : World) → sleeping_of status ≡ None → Fit w → Fit (with_status g status w)
  status_rests g status w none h = fewer w.goroutines _ w.descriptors (λ k place shows. set_fewer w.goroutines g k status place none shows) h

  pub wakes_rest : (gs : List ℕ) (w : World) → Fit w → Fit (after_wakes gs w)
  wakes_rest [] w h = h
  wakes_rest (g ∷ gs) w h = wakes_rest gs (after_wakes (g ∷ []) w) (fewer w.goroutines _ w.descriptors (wake_fewer w.goroutines g) h)

  -- ---- rows

  -- true if a goroutine that sleeps at a side of a descriptor may do so
  abbrev pub SideFits : Side → Descriptor → Type 0
  SideFits side d = is_waited_on (of_side side d.words) ≡ true → MaySleep exact side d

  -- a change keeps sleepers from sleeping past a close or a deadline
  abbrev pub LetsSleep : Descriptor → Descriptor → Type 0
  LetsSleep old new = (side : Side) → SideFits side old → SideFits side new

  pub row_rests : (w : World) (d : ℕ) (old new : DescriptorRow) → slice_get w.descriptors d ≡ Some old → LetsSleep old.descriptor new.descriptor → Fit w → Fit (with_row d new w)
  row_rests w d old new at lets h =
      record {
        may_sleep = λ g k side row shows is waited.
            elim (slice_get-set_cases w.descriptors d old new k at) [
              | inl here ↦
                  let same : new ≡ row = same_Some new row (sym here.1 ∙ is) in
                  let before : SideFits side old.descriptor = λ was. h.may_sleep g k side old shows (ap (slice_get w.descriptors) here.0 ∙ at) was in
                  let after : SideFits side row.descriptor = subst (λ (r : DescriptorRow). SideFits side r.descriptor) same (lets side before) in
                  after waited
              | inr there ↦ h.may_sleep g k side row shows (sym there.1 ∙ is) waited
            ];
      }

  -- no goroutine sleeps in a word that is nil or ready
  pub no_wait : (side : Side) (d : Descriptor) → is_waited_on (of_side side d.words) ≡ false → SideFits side d
  no_wait side d none waited = absurd (true≢false (sym waited ∙ none))

  pub unblocked_lets : (ioready : Bool) (side : Side) (d : Descriptor) → LetsSleep d (unblocked ioready side d).descriptor
  unblocked_lets ioready Read d = each_side _ (λ _. no_wait Read (unblocked ioready Read d).descriptor (unblock_wakes d.words.read ioready)) (λ h. h)
  unblocked_lets ioready Write d = each_side _ (λ h. h) (λ _. no_wait Write (unblocked ioready Write d).descriptor (unblock_wakes d.words.write ioready))

  pub then_if_lets : (old : Descriptor) (first : Change) (test : Bool) (next : Descriptor → Change) → LetsSleep old first.descriptor → LetsSleep first.descriptor (next first.descriptor).descriptor
      → LetsSleep old (then_if first test next).descriptor
  then_if_lets old first true next a b = λ side h. b side (a side h)
  then_if_lets old first false next a b = a

  -- a side's word is cleared
  pub cleared_lets : (side : Side) (word : WaitWord) (d : Descriptor) → is_waited_on word ≡ false → LetsSleep d (with_wait_word side word d)
  cleared_lets Read word d none = each_side _ (λ _. no_wait Read (with_wait_word Read word d) none) (λ h. h)
  cleared_lets Write word d none = each_side _ (λ h. h) (λ _. no_wait Write (with_wait_word Write word d) none)

  -- a side's word changes, and a goroutine may sleep there
  pub allowed_lets : (side : Side) (word : WaitWord) (d : Descriptor) → MaySleep exact side d → LetsSleep d (with_wait_word side word d)
  allowed_lets Read word d may = each_side _ (λ _ _. may) (λ h. h)
  allowed_lets Write word d may = each_side _ (λ h. h) (λ _ _. may)

  pub change_rests : (d : ℕ) (row : DescriptorRow) (change : Change) (w : World) → slice_get w.descriptors d ≡ Some row → LetsSleep row.descriptor change.descriptor → Fit w
      → ComesTo Fit (after_change d row change w)
  change_rests d row change w at lets h =
      ComesTo-bind (ComesTo-any (after_orders change.orders (row.timers, w.next_arming))) λ left _.
      ComesTo-ok (wakes_rest change.woken _ (row_rests w d row (record { descriptor = change.descriptor; timers = left.0 }) at lets h))

  -- ---- the check

  -- a check of 0 lets a goroutine sleep
  pub zero_lets : (side : Side) (d : Descriptor) → (check side d == 0) ≡ true → MaySleep exact side d
  zero_lets side d e = let z = zero_means d.closing (is_expired side d) (is_read side && d.event_error) e in (z.0, z.1, λ _. z.2)

  may_means : (closing expired error : Bool) → closing ≡ false → expired ≡ false → (code_of closing expired error ≡ 0) ⊎ (code_of closing expired error ≡ 3)
  may_means true expired error a b = cc
  may_means false true error a b = cc
  may_means false false true a b = inr refl
  may_means false false false a b = inl refl

  -- where a goroutine may sleep, the check is 0, or 3 for reading
  zero_from : (closing expired error : Bool) → closing ≡ false → expired ≡ false → error ≡ false → code_of closing expired error ≡ 0
  zero_from true expired error a b c = cc
  zero_from false true error a b c = cc
  zero_from false false true a b c = cc
  zero_from false false false a b c = refl

  -- with Linux's events, the check is 0 where a goroutine may sleep
  pub zero_where_asleep : (side : Side) (d : Descriptor) → exact ≡ true → MaySleep exact side d → check side d ≡ 0
  zero_where_asleep side d linux may = zero_from d.closing (is_expired side d) (is_read side && d.event_error) may.0 may.1 (may.2 linux)

  pub check_where_asleep : (side : Side) (d : Descriptor) → MaySleep exact side d → (check side d ≡ 0) ⊎ ((side ≡ Read) × (check side d ≡ 3))
  check_where_asleep Read d may = elim (may_means d.closing (is_expired Read d) d.event_error may.0 may.1) [ inl none ↦ inl none | inr error ↦ inr (refl, error) ]
  check_where_asleep Write d may = elim (may_means d.closing (is_expired Write d) false may.0 may.1) [ inl none ↦ inl none | inr error ↦ inl (none_there d.closing (is_expired Write d) may.0 may.1) ]
    where
      none_there : (closing expired : Bool) → closing ≡ false → expired ≡ false → code_of closing expired false ≡ 0
      none_there true expired a b = cc
      none_there false true a b = cc
      none_there false false a b = refl

  -- a step aside of descriptors keeps sleepers as they are
  pub aside_rests : {w next : World} → Aside w next → Fit w → Fit next
  aside_rests a h = record { may_sleep = λ g d side row shows is waited. h.may_sleep g d side row (a.sleepers g (d, side) shows) (sym (ap (λ rows. slice_get rows d) a.rows) ∙ is) waited }

  -- ---- opening, closing, evicting, events

  -- a pushed row has no waited
  new_row_rests : (w : World) → Fit w → Fit (record w { descriptors = w.descriptors ++ new_row ∷ [] })
  new_row_rests w h =
      record {
        may_sleep = λ g d side row shows is waited.
            elim (slice_get-push_cases w.descriptors new_row row d is) [
              | inl old ↦ h.may_sleep g d side row shows old waited
              | inr new ↦ absurd (true≢false (sym waited ∙ ap (λ (r : DescriptorRow). is_waited_on (of_side side r.descriptor.words)) (sym new.1) ∙ each_side (λ s. is_waited_on (of_side s new_row.descriptor.words) ≡ false) refl refl side))
            ];
      }

  taken_rests : (free : List ℕ) (w : World) → Fit w → ComesTo (λ (left : ℕ × World). Fit left.1) (taken free w)
  taken_rests (d ∷ free) w h = ComesTo-ok h
  taken_rests [] w h =
      ComesTo-then (ComesTo-any (refused_unless (nat_lt (length w.descriptors) w.limits.descriptors) _)) λ _.
      ComesTo-ok (new_row_rests w h)

  opened_lets : (s : ℕ) (d : Descriptor) → ComesTo (LetsSleep d) (opened_for s d)
  opened_lets s d =
      ComesTo-bind (ComesTo-any (both_raised d.sequences)) λ sequences _.
      ComesTo-ok (each_side _ (λ _ waited. cc) (λ _ waited. cc))

  pub pollopen_rests : (w : World) (g s : ℕ) → Fit w → Rests (pollopen g s w)
  pollopen_rests w g s h =
      ComesTo-then (ComesTo-any (idle g w)) λ _.
      ComesTo-bind (ComesTo-any (socket_of s w)) λ socket _.
      ComesTo-bind (taken_rests w.free w h) λ took fits.
      ComesTo-bind (ComesTo-ends (Ends-row_of took.0 took.1)) λ row at.
      ComesTo-bind (opened_lets s row.descriptor) λ descriptor lets.
      ComesTo-ok (row_rests took.1 took.0 row (record row { descriptor = descriptor }) at lets fits)

  closed_lets : (d : Descriptor) → ComesTo (LetsSleep d) (closed d)
  closed_lets d = ComesTo-bind (ComesTo-any (raised_sequence d.fdseq)) λ fdseq _. ComesTo-ok (λ side h. h)

  pub pollclose_rests : (w : World) (g d : ℕ) → Fit w → Rests (pollclose g d w)
  pollclose_rests w g d h =
      ComesTo-then (ComesTo-any (idle g w)) λ _.
      ComesTo-bind (ComesTo-open_row_of d w) λ row at.
      ComesTo-then (ComesTo-any (refused_unless row.descriptor.closing _)) λ _.
      ComesTo-then (ComesTo-any (refused_if (is_waited d Read w.goroutines || is_waited d Write w.goroutines) _)) λ _.
      ComesTo-bind (closed_lets row.descriptor) λ descriptor lets.
      ComesTo-ok (row_rests w d row (record row { descriptor = descriptor }) at lets h)

  -- evict wakes both sides
  evict_lets : (d : Descriptor) → ComesTo (λ (change : Change). LetsSleep d change.descriptor) (change_by_evict d)
  evict_lets d =
      ComesTo-then (ComesTo-any (refused_if d.closing _)) λ _.
      ComesTo-bind (ComesTo-any (both_raised d.sequences)) λ sequences _.
      ComesTo-ok (each_side _ (λ _ waited. absurd (true≢false (sym waited ∙ unblock_wakes d.words.read false))) (λ _ waited. absurd (true≢false (sym waited ∙ unblock_wakes d.words.write false))))

  pub evict_rests : (w : World) (g d : ℕ) → Fit w → Rests (evict g d w)
  evict_rests w g d h =
      ComesTo-then (ComesTo-any (idle g w)) λ _.
      ComesTo-bind (ComesTo-open_row_of d w) λ row at.
      ComesTo-bind (evict_lets row.descriptor) λ change lets.
      ComesTo-bind (change_rests d row change w at lets h) λ next fits.
      ComesTo-ok fits

  event_lets : (mode : Mode) (error : Bool) (d : Descriptor) → (exact ≡ true → error ≡ true → mode ≡ Mode.Both) → LetsSleep d (change_by_event mode error d).descriptor
  event_lets Mode.Both error d linux =
      each_side _ (λ _ waited. absurd (true≢false (sym waited ∙ unblock_wakes d.words.read true))) (λ _ waited. absurd (true≢false (sym waited ∙ unblock_wakes d.words.write true)))
  event_lets Mode.Read error d linux = each_side _ (λ _ waited. absurd (true≢false (sym waited ∙ unblock_wakes d.words.read true))) (λ h. h)
  event_lets Mode.Write error d linux =
      each_side _ (λ h waited. let m = h waited in (m.0, m.1, λ x. never_true error (λ is. one_sided (linux x is))))
      (λ _ waited. absurd (true≢false (sym waited ∙ unblock_wakes d.words.write true)))
    where
      one_sided : Mode.Write ≡ Mode.Both → ⊥
      one_sided e = cc

  pub pollevent_rests : (w : World) (d tag : ℕ) (mode : Mode) (error : Bool) → (exact ≡ true → error ≡ true → mode ≡ Mode.Both) → Fit w → Rests (pollevent d tag mode error w)
  pollevent_rests w d tag mode error linux h =
      ComesTo-bind (ComesTo-ends (Ends-row_of d w)) λ row at.
      ComesTo-either (is_free_number d w.free || not (tag == row.descriptor.fdseq)) (ComesTo-ok h)
      (ComesTo-bind (change_rests d row (change_by_event mode error row.descriptor) w at (event_lets mode error row.descriptor linux) h) λ next fits. ComesTo-ok fits)

  -- ---- deadlines

  -- true if a side's sleepers have no error event
  abbrev ErrorFits : Side → Descriptor → Type 0
  ErrorFits side d = is_waited_on (of_side side d.words) ≡ true → exact ≡ true → (is_read side && d.event_error) ≡ false

  -- each side whose deadline has passed is unblocked
  expired_fits : (change : Change) → change.descriptor.closing ≡ false → (side : Side) → ErrorFits side change.descriptor → SideFits side (expired_unblocked change).descriptor
  expired_fits change still_open = go (is_expired Read change.descriptor) refl (is_expired Write change.descriptor) refl
    where
      read_wakes : {A : Type 0} → is_waited_on (unblock change.descriptor.words.read false).0 ≡ true → A
      read_wakes waited = absurd (true≢false (sym waited ∙ unblock_wakes change.descriptor.words.read false))

      write_wakes : {A : Type 0} → is_waited_on (unblock change.descriptor.words.write false).0 ≡ true → A
      write_wakes waited = absurd (true≢false (sym waited ∙ unblock_wakes change.descriptor.words.write false))

      go : (read : Bool) → is_expired Read change.descriptor ≡ read → (write : Bool) → is_expired Write change.descriptor ≡ write
          → (side : Side) → ErrorFits side change.descriptor → SideFits side (then_if (then_if change read (unblocked false Read)) write (unblocked false Write)).descriptor
      go true r true c = each_side _ (λ _ waited. read_wakes waited) (λ _ waited. write_wakes waited)
      go true r false c = each_side _ (λ _ waited. read_wakes waited) (λ kept waited. (still_open, c, kept waited))
      go false r true c = each_side _ (λ kept waited. (still_open, r, kept waited)) (λ _ waited. write_wakes waited)
      go false r false c = each_side _ (λ kept waited. (still_open, r, kept waited)) (λ kept waited. (still_open, c, kept waited))

  follows_error : (side : Side) (old d : Descriptor) → ComesTo (λ (change : Change). change.descriptor.event_error ≡ d.event_error) (timer_follows side old d)
  follows_error side old d =
      ComesTo-either (not (of_side side d.running)) (ComesTo-ok (rests (wants_timer side d)))
      (ComesTo-either (int_eq (of_side side old.deadlines) (of_side side d.deadlines) && same_bool (is_combo old) (is_combo d)) (ComesTo-ok refl)
      (ComesTo-bind (ComesTo-any (raised_sequence (of_side side d.sequences))) λ next _. ComesTo-ok refl))
    where
      rests : (b : Bool) → (if b then timer_reset side d else quiet d).descriptor.event_error ≡ d.event_error
      rests true = refl
      rests false = refl

  both_come : {A : Type 0} {P Q : A → Type 0} {m : Result A Refusal} → ComesTo P m → ComesTo Q m → ComesTo (λ a. P a × Q a) m
  both_come p q = record { value = λ a is. (p.value a is, q.value a is) }

  deadline_lets : (clock : ℤ) (mode : Mode) (t : ℤ) (old : Descriptor) → ComesTo (λ (change : Change). LetsSleep old change.descriptor) (change_by_deadline clock mode t old)
  deadline_lets clock mode t old =
      Rests-cases old.closing (λ _. ComesTo-ok (λ side h. h)) λ still_open.
      ComesTo-bind (both_come (ComesTo-ends (Ends-timer_follows Read old (with_deadlines mode (deadline_from clock t) old) refl refl)) (follows_error Read old (with_deadlines mode (deadline_from clock t) old))) λ read a.
      ComesTo-bind (both_come (ComesTo-ends (Ends-timer_follows Write old read.descriptor (a.0.1.sequences Write (λ e. cc)) (a.0.1.running Write (λ e. cc)))) (follows_error Write old read.descriptor)) λ write b.
      ComesTo-ok (λ side h. expired_fits (and_then read (λ _. write)) (b.0.1.closing ∙ a.0.1.closing ∙ still_open) side
      (λ waited x. ap (λ error. is_read side && error) (b.1 ∙ a.1) ∙ (h (sym (ap (λ (words : Sides WaitWord). is_waited_on (of_side side words)) (b.0.1.words ∙ a.0.1.words)) ∙ waited)).2 x))

  pub setdeadline_rests : (w : World) (g d : ℕ) (mode : Mode) (t : ℤ) → Fit w → Rests (setdeadline g d mode t w)
  setdeadline_rests w g d mode t h =
      ComesTo-then (ComesTo-any (idle g w)) λ _.
      ComesTo-bind (ComesTo-open_row_of d w) λ row at.
      ComesTo-bind (deadline_lets w.clock mode t row.descriptor) λ change lets.
      ComesTo-bind (change_rests d row change w at lets h) λ next fits.
      ComesTo-ok fits

  -- ---- timers

  pub pop_rests : (w : World) → Fit w → Rests (pop w)
  pop_rests w h =
      ComesTo-bind (ComesTo-any (found_or (least_entry w) _)) λ entry _.
      ComesTo-then (ComesTo-any (refused_unless (int_le entry.timer.due w.clock) _)) λ _.
      ComesTo-then (ComesTo-any (refused_unless (nat_lt (length w.firings) (2 * w.limits.descriptors)) _)) λ _.
      ComesTo-bind (ComesTo-ends (Ends-row_of entry.descriptor w)) λ row at.
      ComesTo-ok (row_rests w entry.descriptor row (record row { timers = with_side entry.side None row.timers }) at (λ side h. h) h)

  -- a side whose deadline passes is unblocked
  expire_lets : (side : Side) (d : Descriptor) → LetsSleep d (expire side d).descriptor
  expire_lets Read d = each_side _ (λ _ waited. absurd (true≢false (sym waited ∙ unblock_wakes d.words.read false))) (λ h. h)
  expire_lets Write d = each_side _ (λ h. h) (λ _ waited. absurd (true≢false (sym waited ∙ unblock_wakes d.words.write false)))

  abbrev FiringLets : Descriptor → Option Change → Type 0
  FiringLets d change = (x : Change) → change ≡ Some x → LetsSleep d x.descriptor

  same_change : (x y : Change) → ◌≡◌ {A = Option Change} (Some x) (Some y) → x ≡ y
  same_change x y e = cc

  firing_lets : (function : TimerFunction) (sequence : ℕ) (d : Descriptor) → ComesTo (FiringLets d) (change_by_firing function sequence d)
  firing_lets function sequence d =
      ComesTo-either (not (is_current function sequence d)) (ComesTo-ok (λ x e. cc))
      (ComesTo-then (ComesTo-any (refused_unless (is_timed function d) _)) λ _.
      ComesTo-ok
      (λ x e. subst (λ (c : Change). LetsSleep d c.descriptor) (same_change _ x e)
      (then_if_lets d _ (covers_side function Write) (expire Write)
      (then_if_lets d (quiet d) (covers_side function Read) (expire Read) (λ side h. h) (expire_lets Read d))
      (expire_lets Write (then_if (quiet d) (covers_side function Read) (expire Read)).descriptor))))

  fired_rests : (d : ℕ) (row : DescriptorRow) (change : Option Change) (w : World) → slice_get w.descriptors d ≡ Some row → FiringLets row.descriptor change → Fit w → Rests (fired_with d row change w)
  fired_rests d row None w at lets h = ComesTo-ok h
  fired_rests d row (Some change) w at lets h = ComesTo-bind (change_rests d row change w at (lets change refl) h) λ next fits. ComesTo-ok fits

  pub fire_rests : (w : World) (i : ℕ) → Fit w → Rests (fire i w)
  fire_rests w i h =
      ComesTo-bind (ComesTo-any (found_or (slice_get w.firings i) _)) λ entry _.
      ComesTo-bind (ComesTo-ends (Ends-row_of entry.descriptor w)) λ row at.
      ComesTo-bind (firing_lets entry.timer.function entry.timer.sequence row.descriptor) λ change lets.
      fired_rests entry.descriptor row change _ at lets h

  -- ---- waits

  pub pollreset_rests : (w : World) (g d : ℕ) (side : Side) → Fit w → Rests (pollreset g d side w)
  pollreset_rests w g d side h =
      ComesTo-then (ComesTo-any (idle g w)) λ _.
      ComesTo-bind (ComesTo-open_row_of d w) λ row at.
      ComesTo-then (ComesTo-any (refused_if ((check side row.descriptor == 0) && is_waited d side w.goroutines) _)) λ _.
      ComesTo-ok (reset row at (check side row.descriptor == 0))
    where
      reset : (row : DescriptorRow) → slice_get w.descriptors d ≡ Some row → (zero : Bool) → Fit (if zero then with_descriptor d row (with_wait_word side Nil row.descriptor) w else w)
      reset row at true = row_rests w d row (record row { descriptor = with_wait_word side Nil row.descriptor }) at (cleared_lets side Nil row.descriptor refl) h
      reset row at false = h

  -- a goroutine that sleeps is inside the wait
  asleep_inside : (s : Status) (place : ℕ × Side) → sleeping_of s ≡ Some place → wait_of s ≡ Some place
  asleep_inside (Parking d side) place e = e
  asleep_inside (Parked d side) place e = e
  asleep_inside _ place e = cc

  sleeper_inside : (gs : List Status) (k : ℕ) (place : ℕ × Side) → HasView sleeping_of gs k place → HasView wait_of gs k place
  sleeper_inside gs k place shows = go (slice_get gs k) shows
    where
      go : (o : Option Status) → option_and_then sleeping_of o ≡ Some place → option_and_then wait_of o ≡ Some place
      go None e = cc
      go (Some s) e = asleep_inside s place e

  -- the word becomes `wait`: nobody but g is inside the wait, and g will check once more
  arms : (w : World) (g d : ℕ) (side : Side) (row : DescriptorRow) → WellFormed w → Fit w → slice_get w.goroutines g ≡ Some (Entering d side) → slice_get w.descriptors d ≡ Some row
      → Fit (with_wait g (Armed d side) d side WaitWord.Wait row w)
  arms w g d side row ok h at row_at =
      record {
        may_sleep = λ k e s r shows is waited.
            elim (view_cases sleeping_of w.goroutines g (Entering d side) (Armed d side) k (e, s) at shows) [
              | inl here ↦ absurd (none-some _ here.1)
              | inr other ↦
                  elim (slice_get-set_cases w.descriptors d row after e row_at) [
                    | inl there ↦
                        let same : after ≡ r = same_Some after r (sym there.1 ∙ is) in
                        elim (other_side s side) [
                          | inl own ↦
                              absurd (other.0 (ok.goroutines.one_inside k g d side
                              (subst (λ (p : ℕ × Side). HasView wait_of w.goroutines k p) (place_is e s there.0 own) (sleeper_inside w.goroutines k (e, s) other.1))
                              (ap (option_and_then wait_of) at)))
                          | inr apart ↦
                              let before : SideFits s row.descriptor = λ was. h.may_sleep k e s row other.1 (ap (slice_get w.descriptors) there.0 ∙ row_at) was in
                              subst (λ (x : DescriptorRow). SideFits s x.descriptor) same (lets s apart before) waited
                        ]
                    | inr elsewhere ↦ h.may_sleep k e s r other.1 (sym elsewhere.1 ∙ is) waited
                  ]
            ];
      }
    where
      after : DescriptorRow
      after = record row { descriptor = with_wait_word side WaitWord.Wait row.descriptor }

      place_is : (e : ℕ) (s : Side) → e ≡ d → s ≡ side → ◌≡◌ {A = ℕ × Side} (e, s) (d, side)
      place_is e s same own = cc

      lets : (s : Side) → s ≢ side → SideFits s row.descriptor → SideFits s after.descriptor
      lets s apart before waited = before (sym (ap is_waited_on (of_side-with_side_other s side WaitWord.Wait row.descriptor.words apart)) ∙ waited)

  armed_rests : (w : World) (g d : ℕ) (side : Side) (row : DescriptorRow) (word : WaitWord) → WellFormed w → Fit w → slice_get w.goroutines g ≡ Some (Entering d side) → slice_get w.descriptors d ≡ Some row
      → Rests (armed_by g d side word row w)
  armed_rests w g d side row Nil ok h at row_at = ComesTo-ok (arms w g d side row ok h at row_at)
  armed_rests w g d side row Ready ok h at row_at =
      ComesTo-ok
      (status_rests g Idle (with_descriptor d row (with_wait_word side Nil row.descriptor) w) refl
      (row_rests w d row (record row { descriptor = with_wait_word side Nil row.descriptor }) row_at (cleared_lets side Nil row.descriptor refl) h))
  armed_rests w g d side row _ ok h at row_at = ComesTo-refused

  pub blockarm_rests : (w : World) (g : ℕ) → WellFormed w → Fit w → Rests (blockarm g w)
  blockarm_rests w g ok h =
      ComesTo-bind (ComesTo-ends (Ends-status_of g w)) λ status at.
      ComesTo-bind (ComesTo-ends (Ends-entering_of status)) λ place is.
      ComesTo-bind (ComesTo-ends (Ends-row_of place.0 w)) λ row row_at.
      armed_rests w g place.0 place.1 row (of_side place.1 row.descriptor.words) ok h (at ∙ ap Some is) row_at

  -- with a check of 0, the goroutine will park, and may
  checked : (w : World) (g d : ℕ) (side : Side) (row : DescriptorRow) (zero : Bool) → (check side row.descriptor == 0) ≡ zero → Fit w → slice_get w.goroutines g ≡ Some (Armed d side)
      → slice_get w.descriptors d ≡ Some row → Fit (with_status g (if zero then Parking d side else Swapping d side) w)
  checked w g d side row false is h at row_at = status_rests g (Swapping d side) w refl h
  checked w g d side row true is h at row_at =
      record {
        may_sleep = λ k e s r shows there waited.
            elim (view_cases sleeping_of w.goroutines g (Armed d side) (Parking d side) k (e, s) at shows) [
              | inl here ↦
                  let p = some_pair_parts d e side s here.1 in
                  let same : row ≡ r = same_Some row r (sym row_at ∙ ap (slice_get w.descriptors) p.0 ∙ there) in
                  subst (λ (x : Side). MaySleep exact x r.descriptor) p.1 (subst (λ (x : DescriptorRow). MaySleep exact side x.descriptor) same (zero_lets side row.descriptor is))
              | inr other ↦ h.may_sleep k e s r other.1 there waited
            ];
      }

  pub blockcheck_rests : (w : World) (g : ℕ) → Fit w → Rests (blockcheck g w)
  blockcheck_rests w g h =
      ComesTo-bind (ComesTo-ends (Ends-status_of g w)) λ status at.
      ComesTo-bind (ComesTo-ends (Ends-armed_of status)) λ place is.
      ComesTo-bind (ComesTo-ends (Ends-row_of place.0 w)) λ row row_at.
      ComesTo-ok (checked w g place.0 place.1 row (check place.1 row.descriptor == 0) refl h (at ∙ ap Some is) row_at)

  -- a goroutine that finds its word `wait` parks, and may
  committed : (w : World) (g d : ℕ) (side : Side) (word : WaitWord) (row : DescriptorRow) → of_side side row.descriptor.words ≡ word → Fit w → slice_get w.goroutines g ≡ Some (Parking d side)
      → slice_get w.descriptors d ≡ Some row → Fit (committed_by g d side word row w).1
  committed w g d side WaitWord.Wait row is h at row_at =
      let may : MaySleep exact side row.descriptor = h.may_sleep g d side row (ap (option_and_then sleeping_of) at) row_at (ap is_waited_on is) in
      fewer w.goroutines _ _ (λ k place shows. sym (slice_get-set_unseen (option_and_then sleeping_of) w.goroutines g (Parking d side) (Parked d side) k at refl) ∙ shows)
      (row_rests w d row (record row { descriptor = with_wait_word side (Held g) row.descriptor }) row_at (allowed_lets side (Held g) row.descriptor may) h)
  committed w g d side _ row is h at row_at = status_rests g (Swapping d side) w refl h

  pub parkcommit_rests : (w : World) (g : ℕ) → Fit w → Rests (parkcommit g w)
  parkcommit_rests w g h =
      ComesTo-bind (ComesTo-ends (Ends-status_of g w)) λ status at.
      ComesTo-bind (ComesTo-ends (Ends-parking_of status)) λ place is.
      ComesTo-bind (ComesTo-ends (Ends-row_of place.0 w)) λ row row_at.
      ComesTo-ok (committed w g place.0 place.1 (of_side place.1 row.descriptor.words) row refl h (at ∙ ap Some is) row_at)

  swapped : (w : World) (g d : ℕ) (side : Side) (word : WaitWord) (row : DescriptorRow) → Fit w → slice_get w.descriptors d ≡ Some row → Fit (swapped_by g d side word row w).1
  swapped w g d side word row h row_at = go word
    where
      next : World
      next = with_descriptor d row (with_wait_word side Nil row.descriptor) w

      cleared : Fit next
      cleared = row_rests w d row (record row { descriptor = with_wait_word side Nil row.descriptor }) row_at (cleared_lets side Nil row.descriptor refl) h

      go : (word : WaitWord) → Fit (swapped_by g d side word row w).1
      go Ready = status_rests g Idle next refl cleared
      go _ = status_rests g (Checking d side) next refl cleared

  pub blockswap_rests : (w : World) (g : ℕ) → Fit w → Rests (blockswap g w)
  blockswap_rests w g h =
      ComesTo-bind (ComesTo-any (status_of g w)) λ status _.
      ComesTo-bind (ComesTo-any (swapping_of status)) λ place _.
      ComesTo-bind (ComesTo-ends (Ends-row_of place.0 w)) λ row row_at.
      ComesTo-ok (swapped w g place.0 place.1 (of_side place.1 row.descriptor.words) row h row_at)

  -- ---- every kind

  by_aside : {w : World} {o : Outcome} → Fit w → Asides w o → Rests o
  by_aside h a = record { value = λ left is. aside_rests (a.value left is) h }

  pub step_rests : (w : World) (step : Step) → (exact ≡ true → IsOfLinux step) → WellFormed w → Fit w → Rests (outcome w step)
  step_rests w Step.Spawn linux ok h = by_aside h (spawn_aside w)
  step_rests w (Step.Exit g) linux ok h = by_aside h (exit_aside w g)
  step_rests w (Step.SockOpen rc wc) linux ok h = by_aside h (sockopen_aside w rc wc)
  step_rests w (Step.Arrive s bytes) linux ok h = by_aside h (arrive_aside w s bytes)
  step_rests w (Step.PeerClose s) linux ok h = by_aside h (peerclose_aside w s)
  step_rests w (Step.SysRead g s n) linux ok h = by_aside h (sysread_aside w g s n)
  step_rests w (Step.SysWrite g s bytes) linux ok h = by_aside h (syswrite_aside w g s bytes)
  step_rests w (Step.Drain s n) linux ok h = by_aside h (drain_aside w s n)
  step_rests w (Step.Incref g s) linux ok h = by_aside h (incref_aside w g s)
  step_rests w (Step.IncrefClose g s) linux ok h = by_aside h (increfclose_aside w g s)
  step_rests w (Step.Decref g s) linux ok h = by_aside h (decref_aside w g s)
  step_rests w (Step.RwLock g s side) linux ok h = by_aside h (rwlock_aside w g s side)
  step_rests w (Step.RwUnlock g s side) linux ok h = by_aside h (rwunlock_aside w g s side)
  step_rests w (Step.Acquire g) linux ok h = by_aside h (acquire_aside w g)
  step_rests w (Step.Release g) linux ok h = by_aside h (release_aside w g)
  step_rests w (Step.PollOpen g s) linux ok h = pollopen_rests w g s h
  step_rests w (Step.PollClose g d) linux ok h = pollclose_rests w g d h
  step_rests w (Step.PollReset g d side) linux ok h = pollreset_rests w g d side h
  step_rests w (Step.WaitBegin g d side) linux ok h = by_aside h (waitbegin_aside w g d side)
  step_rests w (Step.BlockArm g) linux ok h = blockarm_rests w g ok h
  step_rests w (Step.BlockCheck g) linux ok h = blockcheck_rests w g h
  step_rests w (Step.ParkCommit g) linux ok h = parkcommit_rests w g h
  step_rests w (Step.BlockSwap g) linux ok h = blockswap_rests w g h
  step_rests w (Step.WaitCheck g) linux ok h = by_aside h (waitcheck_aside w g)
  step_rests w (Step.SetDeadline g d mode t) linux ok h = setdeadline_rests w g d mode t h
  step_rests w (Step.Evict g d) linux ok h = evict_rests w g d h
  step_rests w (Step.PollEvent d tag mode error) linux ok h = pollevent_rests w d tag mode error linux h
  step_rests w (Step.Tick t) linux ok h = by_aside h (tick_aside w t)
  step_rests w Step.Pop linux ok h = pop_rests w h
  step_rests w (Step.Fire i) linux ok h = fire_rests w i h
  step_rests w (Step.CloseWrite g s) linux ok h = by_aside h (closewrite_aside w g s)

  pub step_keeps_sleepers : (w : World) (step : Step) (answer : Answer) (next : World) → (exact ≡ true → IsOfLinux step) → WellFormed w → Fit w → outcome w step ≡ Ok (answer, next) → Fit next
  step_keeps_sleepers w step answer next linux ok h e = (step_rests w step linux ok h).value (answer, next) e
