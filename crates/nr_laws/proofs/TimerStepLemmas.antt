-- tick, pop and fire keep a world well formed.
use Rattle.std.proofs.Common.{◌≡◌, ℕ, ℤ, pos, negsuc, ◌≤ℤ◌, int_lt, true, false, Some, None, refl, sym, ap, subst, ◌∙◌, length-set, arith, suc, ◌+◌, ◌*◌, ◌<◌, List, [], ◌∷◌, ◌++◌, Option, inl, inr, length, length-append, true≢false, lit<, ◌≢◌, ◌≤◌, int_eq, not, ◌&&◌, ap₂}
use Rattle.std.proofs.lemmas.Option.{none-some, same_Some, slice_get_within}
use Rattle.std.specs.Prelude.{slice_get, if◌then◌else◌, map, ◌==◌, option_map, remove, int_le, nat_lt}
use Rattle.std.specs.Option.{option_and_then}
use Rattle.nr_rev.specs.declared.sides.Side.{Side}
use Rattle.nr_rev.specs.declared.sides.Sides.{Sides}
use Rattle.nr_rev.specs.World.{World, with_row, is_free_number, least_entry}
use Rattle.nr_rev.specs.Timer.{IsTime, entries_from, entries_at, entry_of}
use Rattle.nr_rev.proofs.ListUpdateLemmas.{slice_get-push_cases}
use Rattle.nr_rev.proofs.HeapEntryLemmas.{In, entry_in, in_append, least_in}
use Rattle.nr_rev.specs.WellFormed.{WellFormed, RowFits, EntryFits, FiringFits, IsDueFor, ArmedAt, FiringAt, armed_at, IsCurrent}
use Rattle.nr_rev.proofs.SideLemmas.{each_side, other_side, of_side-twice, with_side_all}
use Rattle.nr_rev.proofs.NumberLemmas.{below_of, same_number}
use Rattle.nr_laws.proofs.BoolLemmas.{not_false, never_true, and_false}
use Rattle.nr_laws.proofs.LookupLemmas.{Ends-row_of}
use Rattle.nr_rev.specs.Step.{tick, pop, fire, fired_with}
use Rattle.std.proofs.lemmas.Int.{ints}
use Rattle.nr_rev.specs.declared.sides.Side.TheVariants.{Read, Write}
use Rattle.nr_rev.specs.Sides.{of_side, twice, with_side, same_side, covers_side, side_of_function}
use Rattle.nr_rev.specs.declared.descriptor.DescriptorRow.{DescriptorRow}
use Rattle.nr_rev.specs.declared.timer.Timer.{Timer}
use Rattle.nr_rev.specs.declared.timer.Entry.{Entry}
use Rattle.nr_laws.proofs.RowSetLemmas.{GoroutinesFit-rows, WaitWordsFit-rows, FreeFits-open}
use Rattle.nr_laws.proofs.TimersFitMoveLemmas.{TimersFit-popped, unarmed, TimersFit-removed, slice_get-remove, skip, skip_apart, same_firing}
use Rattle.nr_rev.specs.declared.timer.TimerFunction.{TimerFunction}
use Rattle.nr_rev.specs.declared.descriptor.Descriptor.{Descriptor}
use Rattle.nr_rev.specs.Descriptor.{Change, timer_function, quiet, is_combo, is_positive, then_if, unblocked, change_by_firing, expire, is_current, is_timed}
use Rattle.nr_laws.proofs.TimersFitChangeLemmas.{timers_unchanged}
use Rattle.nr_laws.proofs.TimerUpdateLemmas.{function_like, combo_of_both}
use Rattle.nr_laws.proofs.DescriptorChangeLemmas.{changed_keeps}
use Rattle.std.proofs.lemmas.List.Edits.{length-remove}
use Rattle.nr_rev.proofs.OutcomeLemmas.{Ends, Keeps, KeepsFor, Ends-ok, Ends-bind, Ends-then, Ends-either, Ends-certain, Ends-found_or, Ends-refused_if, Ends-refused_unless}

-- a time at or before the clock is also at or before a later clock
not_before : (a t c : ℤ) → int_lt t c ≡ false → a ≤ℤ c → a ≤ℤ t
not_before a t c e h = omega (arith, ints)

no_later : (a c : ℤ) → int_le a c ≡ true → a ≤ℤ c
no_later a c e = omega (arith, ints)

entries_in : (rows : List DescriptorRow) (d : ℕ) (e : Entry) → In e (entries_from d (map (λ row. row.timers) rows))
    → (k : ℕ) × (e.descriptor ≡ d + k) × ((row : DescriptorRow) × (slice_get rows k ≡ Some row) × (of_side e.side row.timers ≡ Some e.timer))
entries_in [] d e p = absurd p
entries_in (row ∷ rows) d e p =
    elim (in_append e (entries_at d row.timers) (entries_from (d + 1) (map (λ row. row.timers) rows)) p) [
      | inl here ↦
          elim (in_append e (entry_of d Read row.timers.read) (entry_of d Write row.timers.write) here) [
            | inl q ↦ let r = entry_in d Read row.timers.read e q in (0, at_zero r.1, (row, refl, ap (λ s. of_side s row.timers) r.2 ∙ r.0))
            | inr q ↦ let r = entry_in d Write row.timers.write e q in (0, at_zero r.1, (row, refl, ap (λ s. of_side s row.timers) r.2 ∙ r.0))
          ]
      | inr there ↦
          let r = entries_in rows (d + 1) e there in
          let n : e.descriptor ≡ d + 1 + r.0 = r.1 in
          (suc r.0, later r.0 n, r.2)
    ]
  where
    at_zero : e.descriptor ≡ d → e.descriptor ≡ d + 0
    at_zero q = omega arith

    later : (k : ℕ) → e.descriptor ≡ d + 1 + k → e.descriptor ≡ d + suc k
    later k q = omega arith

pub least_is_there : (w : World) (e : Entry) → least_entry w ≡ Some e → (row : DescriptorRow) × (slice_get w.descriptors e.descriptor ≡ Some row) × (of_side e.side row.timers ≡ Some e.timer)
least_is_there w e is =
    let r = entries_in w.descriptors 0 e (least_in _ e is) in
    let n : e.descriptor ≡ r.0 = zero_more r.0 r.1 in
    (r.2.0, ap (slice_get w.descriptors) n ∙ r.2.1, r.2.2)
  where
    zero_more : (k : ℕ) → e.descriptor ≡ 0 + k → e.descriptor ≡ k
    zero_more k q = omega arith

-- a descriptor with a running side isn't free
running_open : (w : World) (d : ℕ) (row : DescriptorRow) (side : Side) → WellFormed w → slice_get w.descriptors d ≡ Some row → of_side side row.descriptor.running ≡ true
    → is_free_number d w.free ≡ false
running_open w d row side h at runs =
    never_true (is_free_number d w.free) λ is.
    let fits : RowFits row = h.timers.entries_fit d row at in
    true≢false (sym runs ∙ ap (of_side side) (fits.closing (h.free.closing d row is at)) ∙ of_side-twice side false)

popped : (w : World) (e : Entry) (row : DescriptorRow) → WellFormed w → slice_get w.descriptors e.descriptor ≡ Some row → of_side e.side row.timers ≡ Some e.timer
    → length w.firings < 2 * w.limits.descriptors → e.timer.due ≤ℤ w.clock → WellFormed (record (with_row e.descriptor (unarmed row e.side) w) { firings = w.firings ++ e ∷ [] })
popped w e row h at is room due =
    record {
      goroutines = GoroutinesFit-rows _ w.sockets w.descriptors _ w.free (length-set _ e.descriptor _) h.goroutines;
      words = WaitWordsFit-rows w.goroutines w.descriptors w.waiters e.descriptor row (unarmed row e.side) at refl h.words;
      queues = h.queues;
      timers = TimersFit-popped w.descriptors w.firings w.next_arming row e at is h.timers;
      free = FreeFits-open w.descriptors w.free e.descriptor row (unarmed row e.side) at
          (running_open w e.descriptor row e.side h at ((h.timers.entries_fit e.descriptor row at).entries e.side e.timer is).running) h.free;
      sockets = h.sockets;
      goroutines_limited = h.goroutines_limited;
      sockets_limited = h.sockets_limited;
      descriptors_limited = rw length-set h.descriptors_limited;
      firings_limited = rw length-append (omega arith);
      clock =
          record {
            begun = h.clock.begun;
            time = h.clock.time;
            come = λ i firing f_is.
                elim (slice_get-push_cases w.firings e firing i f_is) [
                  | inl old ↦ h.clock.come i firing old
                  | inr new ↦ subst (λ (f : Entry). f.timer.due ≤ℤ w.clock) new.1 due
                ];
          };
    }

-- the deadlines that a function covers are past
abbrev past : TimerFunction → Sides ℤ → Sides ℤ
past TimerFunction.Read deadlines = with_side Read (negsuc 0) deadlines
past TimerFunction.Write deadlines = with_side Write (negsuc 0) deadlines
past TimerFunction.Both deadlines = twice (negsuc 0)

abbrev passed : DescriptorRow → TimerFunction → DescriptorRow
passed row f = record row { descriptor = record row.descriptor { deadlines = past f row.descriptor.deadlines } }

fired_change : (f : TimerFunction) (d : Descriptor) → then_if (then_if (quiet d) (covers_side f Read) (expire Read)) (covers_side f Write) (expire Write)
    ≡ then_if (then_if (quiet (record d { deadlines = past f d.deadlines })) (covers_side f Read) (unblocked false Read)) (covers_side f Write) (unblocked false Write)
fired_change TimerFunction.Read d = refl
fired_change TimerFunction.Write d = refl
fired_change TimerFunction.Both d = refl

past_positive : (x : ℤ) → (is_positive x && int_eq x (negsuc 0)) ≡ false
past_positive (pos n) = and_false (is_positive (pos n))
past_positive (negsuc n) = refl

-- neither side has a future deadline left
no_combo : (row : DescriptorRow) (f : TimerFunction) → is_combo (passed row f).descriptor ≡ false
no_combo row TimerFunction.Read = refl
no_combo row TimerFunction.Write = past_positive row.descriptor.deadlines.read
no_combo row TimerFunction.Both = refl

-- the facts about the descriptor whose firing is run
pub record MayFire (row : DescriptorRow) (f : TimerFunction) : Type 0 where
  pub fits : RowFits row
  pub function : f ≡ timer_function (side_of_function f) row.descriptor
  pub running : of_side (side_of_function f) row.descriptor.running ≡ true
  pub positive : (side : Side) → covers_side f side ≡ true → is_positive (of_side side row.descriptor.deadlines) ≡ true

-- under combo, the write side's timer doesn't run
quiet_write : (row : DescriptorRow) → MayFire row TimerFunction.Both → row.descriptor.running.write ≡ false
quiet_write row may = may.fits.combo (combo_of_both Read row.descriptor (sym may.function))

combo_off : (row : DescriptorRow) → MayFire row TimerFunction.Write → is_combo row.descriptor ≡ false
combo_off row may = never_true (is_combo row.descriptor) (λ is. true≢false (sym may.running ∙ may.fits.combo is))

read_alone : (row : DescriptorRow) → is_combo row.descriptor ≡ false → timer_function Read row.descriptor ≡ TimerFunction.Read
read_alone row e = ap (λ b. if b then TimerFunction.Both else TimerFunction.Read) e

-- a firing doesn't change the other side's deadline or timer function if that side is running
record Untouched (row : DescriptorRow) (f : TimerFunction) (side : Side) : Type 0 where
  pub deadline : of_side side (past f row.descriptor.deadlines) ≡ of_side side row.descriptor.deadlines
  pub function : timer_function side (passed row f).descriptor ≡ timer_function side row.descriptor
  pub alone : (s : Side) → covers_side (timer_function side row.descriptor) s ≡ true → s ≡ side

untouched : (row : DescriptorRow) (f : TimerFunction) (side : Side) → MayFire row f → side ≢ side_of_function f → of_side side row.descriptor.running ≡ true → Untouched row f side
untouched row TimerFunction.Read Read may apart runs = absurd (apart refl)
untouched row TimerFunction.Read Write may apart runs = record { deadline = refl; function = refl; alone = each_side _ (λ e. cc) (λ e. refl) }
untouched row TimerFunction.Write Read may apart runs =
    record {
      deadline = refl;
      function = function_like Read row.descriptor (passed row TimerFunction.Write).descriptor (no_combo row TimerFunction.Write ∙ sym (combo_off row may));
      alone = each_side _ (λ e. refl) (λ covers. absurd (true≢false (sym covers ∙ ap (λ g. covers_side g Write) (read_alone row (combo_off row may)))));
    }
untouched row TimerFunction.Write Write may apart runs = absurd (apart refl)
untouched row TimerFunction.Both Read may apart runs = absurd (apart refl)
untouched row TimerFunction.Both Write may apart runs = absurd (true≢false (sym runs ∙ quiet_write row may))

past_all : (P : ℤ → Type 0) (f : TimerFunction) (deadlines : Sides ℤ) → P (negsuc 0) → ((side : Side) → P (of_side side deadlines)) → (side : Side) → P (of_side side (past f deadlines))
past_all P TimerFunction.Read deadlines p all = with_side_all P Read _ deadlines p all
past_all P TimerFunction.Write deadlines p all = with_side_all P Write _ deadlines p all
past_all P TimerFunction.Both deadlines p all = each_side _ p p

passed_fits : (row : DescriptorRow) (f : TimerFunction) → MayFire row f → of_side (side_of_function f) row.timers ≡ None → RowFits (passed row f)
passed_fits row f may none =
    record {
      entries = λ side timer is.
          elim (other_side side (side_of_function f)) [
            | inl same ↦ absurd (none-some _ (sym none ∙ ap (λ s. of_side s row.timers) (sym same) ∙ is))
            | inr apart ↦
                let e : EntryFits row.descriptor side timer = may.fits.entries side timer is in
                let kept : Untouched row f side = untouched row f side may apart e.running in
                record { sequence = e.sequence; running = e.running; positive = e.positive; due = e.due ∙ sym kept.deadline; function = e.function ∙ sym kept.function }
          ];
      combo = λ e. absurd (true≢false (sym e ∙ no_combo row f));
      closing = may.fits.closing;
      sequences = may.fits.sequences;
      fdseq = may.fits.fdseq;
      times = past_all IsTime f row.descriptor.deadlines (record { sfits = lit< tt }) may.fits.times;
    }

passed_firing : (row : DescriptorRow) (f : TimerFunction) (e : Entry) → MayFire row f → (e.side ≡ side_of_function f → e.timer.sequence ≢ of_side (side_of_function f) row.descriptor.sequences)
    → FiringFits row.descriptor e → FiringFits (passed row f).descriptor e
passed_firing row f e may stale h = record { side = h.side; sequence = h.sequence; due = h.due; current = current }
  where
    current : e.timer.sequence ≡ of_side e.side row.descriptor.sequences → IsDueFor (passed row f).descriptor e
    current now =
        elim (other_side e.side (side_of_function f)) [
          | inl same ↦ absurd (stale same (now ∙ ap (λ s. of_side s row.descriptor.sequences) same))
          | inr apart ↦
              let due : IsDueFor row.descriptor e = h.current now in
              let kept : Untouched row f e.side = untouched row f e.side may apart due.running in
              record {
                positive = λ s covers.
                    let own : s ≡ e.side = kept.alone s (sym (ap (λ g. covers_side g s) due.function) ∙ covers) in
                    ap is_positive (ap (λ x. of_side x (past f row.descriptor.deadlines)) own ∙ kept.deadline ∙ sym (ap (λ x. of_side x row.descriptor.deadlines) own))
                    ∙ due.positive s covers;
                due = λ s covers.
                    let own : s ≡ e.side = kept.alone s (sym (ap (λ g. covers_side g s) due.function) ∙ covers) in
                    due.due s covers ∙ ap (λ x. of_side x row.descriptor.deadlines) own ∙ sym kept.deadline ∙ sym (ap (λ x. of_side x (past f row.descriptor.deadlines)) own);
                running = due.running;
                function = due.function ∙ sym kept.function;
              }
        ]

-- a firing is removed
removed_keeps : (w : World) (i : ℕ) (e : Entry) → WellFormed w → slice_get w.firings i ≡ Some e → WellFormed (record w { firings = remove w.firings i })
removed_keeps w i e h at =
    record {
      goroutines = h.goroutines;
      words = h.words;
      queues = h.queues;
      timers = TimersFit-removed w.descriptors w.firings w.next_arming i e at h.timers;
      free = h.free;
      sockets = h.sockets;
      goroutines_limited = h.goroutines_limited;
      sockets_limited = h.sockets_limited;
      descriptors_limited = h.descriptors_limited;
      firings_limited = let n = length-remove w.firings i (slice_get_within _ _ _ at) in let m = h.firings_limited in fewer _ _ _ n m;
      clock =
          record {
            begun = h.clock.begun;
            time = h.clock.time;
            come = λ j firing f_is. h.clock.come (skip i j) firing (sym (slice_get-remove w.firings i j e at) ∙ f_is);
          };
    }
  where
    fewer : (a b c : ℕ) → a + 1 ≡ b → b ≤ c → a ≤ c
    fewer a b c n m = omega arith

-- the current firing of a descriptor's side
module _ (w : World) (i : ℕ) (e : Entry) (row : DescriptorRow) (h : WellFormed w) (at : slice_get w.firings i ≡ Some e) (row_at : slice_get w.descriptors e.descriptor ≡ Some row)
    (now : e.timer.sequence ≡ of_side (side_of_function e.timer.function) row.descriptor.sequences) where
  fits_it : FiringFits row.descriptor e
  fits_it =
      let f = h.timers.firings_fit i e at in
      subst (λ (r : DescriptorRow). FiringFits r.descriptor e) (same_Some _ _ (sym f.1 ∙ row_at)) f.2

  now_here : e.timer.sequence ≡ of_side e.side row.descriptor.sequences
  now_here = now ∙ ap (λ s. of_side s row.descriptor.sequences) (sym fits_it.side)

  is_due : IsDueFor row.descriptor e
  is_due = fits_it.current now_here

  pub may_fire : MayFire row e.timer.function
  may_fire =
      record {
        fits = h.timers.entries_fit e.descriptor row row_at;
        function = is_due.function ∙ ap (λ s. timer_function s row.descriptor) fits_it.side;
        running = sym (ap (λ s. of_side s row.descriptor.running) fits_it.side) ∙ is_due.running;
        positive = is_due.positive;
      }

  abbrev seq_at : ℕ → Side → Option ℕ
  seq_at d side = option_map (λ (r : DescriptorRow). of_side side r.descriptor.sequences) (slice_get w.descriptors d)

  current_of : (f : Entry) → f.descriptor ≡ e.descriptor → f.timer.sequence ≡ of_side f.side row.descriptor.sequences → IsCurrent w.descriptors f
  current_of f same same_sequence =
      ap (λ d. seq_at d f.side) same ∙ ap (option_map (λ (r : DescriptorRow). of_side f.side r.descriptor.sequences)) row_at ∙ ap Some (sym same_sequence)

  unarmed_side : of_side (side_of_function e.timer.function) row.timers ≡ None
  unarmed_side = go (of_side (side_of_function e.timer.function) row.timers) refl
    where
      go : (o : Option Timer) → of_side (side_of_function e.timer.function) row.timers ≡ o → of_side (side_of_function e.timer.function) row.timers ≡ None
      go None is = is
      go (Some timer) is =
          let armed : Entry = record { descriptor = e.descriptor; side = side_of_function e.timer.function; timer = timer } in
          let fits : EntryFits row.descriptor (side_of_function e.timer.function) timer = (h.timers.entries_fit e.descriptor row row_at).entries _ timer is in
          let clash : ArmedAt e.descriptor (side_of_function e.timer.function) ≡ FiringAt i =
          h.timers.one_current (ArmedAt e.descriptor (side_of_function e.timer.function)) (FiringAt i) armed e
          (ap (option_and_then (armed_at e.descriptor (side_of_function e.timer.function))) row_at
          ∙ ap (option_map (λ (t : Timer). record { descriptor = e.descriptor; side = side_of_function e.timer.function; timer = t })) is)
          at refl (sym fits_it.side) (current_of armed refl fits.sequence) (current_of e refl now_here)
          in
          cc

  others_stale : (j : ℕ) (f : Entry) → slice_get (remove w.firings i) j ≡ Some f → f.descriptor ≡ e.descriptor → f.side ≡ side_of_function e.timer.function
      → f.timer.sequence ≢ of_side (side_of_function e.timer.function) row.descriptor.sequences
  others_stale j f is same same_side f_now =
      skip_apart i j
      (same_firing _ _
      (h.timers.one_current (FiringAt (skip i j)) (FiringAt i) f e (sym (slice_get-remove w.firings i j e at) ∙ is) at same (same_side ∙ sym fits_it.side)
      (current_of f same (f_now ∙ ap (λ s. of_side s row.descriptor.sequences) (sym same_side))) (current_of e refl now_here)))

pub current_is : (f : TimerFunction) (n : ℕ) (d : Descriptor) → not (is_current f n d) ≡ false → n ≡ of_side (side_of_function f) d.sequences
current_is f n d e = same_number n (of_side (side_of_function f) d.sequences) (not_false (n == of_side (side_of_function f) d.sequences) e)

pub tick_sound : (w : World) (t : ℤ) → WellFormed w → KeepsFor (IsTime t) (tick t w)
tick_sound w t h =
    Ends-then (Ends-refused_if (int_lt t w.clock) _ refl) λ later.
    Ends-ok (λ is_time. record {
      goroutines = h.goroutines;
      words = h.words;
      queues = h.queues;
      timers = h.timers;
      free = h.free;
      sockets = h.sockets;
      goroutines_limited = h.goroutines_limited;
      sockets_limited = h.sockets_limited;
      descriptors_limited = h.descriptors_limited;
      firings_limited = h.firings_limited;
      clock =
          record {
            begun = not_before (pos 0) t w.clock later h.clock.begun;
            time = is_time;
            come = λ i firing at. not_before firing.timer.due t w.clock later (h.clock.come i firing at);
          };
    })

pub pop_sound : (w : World) → WellFormed w → Keeps (pop w)
pop_sound w h =
    Ends-bind (Ends-found_or (least_entry w) _ refl) λ entry found.
    Ends-then (Ends-refused_unless (int_le entry.timer.due w.clock) _ refl) λ due.
    Ends-then (Ends-refused_unless (nat_lt (length w.firings) (2 * w.limits.descriptors)) _ refl) λ room.
    Ends-bind (Ends-row_of entry.descriptor w) λ row at.
    let s = least_is_there w entry found in
    let same : s.0 ≡ row = same_Some _ _ (sym s.1 ∙ at) in
    Ends-ok (popped w entry row h at (ap (λ (r : DescriptorRow). of_side entry.side r.timers) (sym same) ∙ s.2) (below_of _ _ room) (no_later entry.timer.due w.clock due))

pub timed : (row : DescriptorRow) (f : TimerFunction) → MayFire row f → is_timed f row.descriptor ≡ true
timed row TimerFunction.Read may = ap₂ (λ x y. x && y) (may.positive Read refl) may.running
timed row TimerFunction.Write may = ap₂ (λ x y. x && y) (may.positive Write refl) may.running
timed row TimerFunction.Both may = ap₂ (λ x y. x && y) (ap₂ (λ x y. x && y) (may.positive Read refl) may.running) (may.positive Write refl)

-- a firing is stale, or its change is applied
Ends-fired : (w : World) (i : ℕ) (entry : Entry) (row : DescriptorRow) → WellFormed w → slice_get w.firings i ≡ Some entry → slice_get w.descriptors entry.descriptor ≡ Some row
    → Ends (λ change. Keeps (fired_with entry.descriptor row change (record w { firings = remove w.firings i }))) (change_by_firing entry.timer.function entry.timer.sequence row.descriptor)
Ends-fired w i entry row h at row_at =
    let rest : WellFormed (record w { firings = remove w.firings i }) = removed_keeps w i entry h at in
    Ends-either (not (is_current entry.timer.function entry.timer.sequence row.descriptor)) (λ _. Ends-ok (Ends-ok rest)) λ fresh.
    let now = current_is entry.timer.function entry.timer.sequence row.descriptor fresh in
    let may = may_fire w i entry row h at row_at now in
    Ends-then (Ends-certain (is_timed entry.timer.function row.descriptor) _ (timed row entry.timer.function may)) λ _.
    Ends-ok
    (subst (λ (c : Change). Keeps (fired_with entry.descriptor row (Some c) (record w { firings = remove w.firings i }))) (sym (fired_change entry.timer.function row.descriptor))
    (Ends-bind
    (changed_keeps {T = Unit {0}} (record w { firings = remove w.firings i }) entry.descriptor row (quiet (record row.descriptor { deadlines = past entry.timer.function row.descriptor.deadlines }))
    (covers_side entry.timer.function Read) (covers_side entry.timer.function Write) false rest row_at
    (running_open w entry.descriptor row (side_of_function entry.timer.function) h row_at may.running) refl refl
    (Ends-ok λ _.
    timers_unchanged w.descriptors (remove w.firings i) w.next_arming entry.descriptor row (passed row entry.timer.function) row_at refl refl
    (passed_fits row entry.timer.function may (unarmed_side w i entry row h at row_at now))
    (λ j f f_is same_d f_fits. passed_firing row entry.timer.function f may (λ same_side. others_stale w i entry row h at row_at now j f f_is same_d same_side) f_fits) rest.timers))
    λ next fits.
    Ends-ok (fits tt)))

pub fire_sound : (w : World) (i : ℕ) → WellFormed w → Keeps (fire i w)
fire_sound w i h =
    Ends-bind (Ends-found_or (slice_get w.firings i) _ refl) λ entry at.
    Ends-bind (Ends-row_of entry.descriptor w) λ row row_at.
    Ends-bind (Ends-fired w i entry row h at row_at) λ change keeps.
    keeps
