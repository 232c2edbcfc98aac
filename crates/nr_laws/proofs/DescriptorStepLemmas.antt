-- pollopen, pollclose, evict and pollevent keep a world well formed.
use Rattle.std.proofs.Common.{◌≡◌, ℕ, ◌^◌, ◌<◌, Bool, true, not, ◌||◌, Option, Some, refl, subst, ◌+◌, false, [], ◌++◌, None, inr, sym, ap, ◌∙◌, arith, lit<, ◌≢◌, ◌≤◌, pos, ◌∷◌, inl, ap₂, set, length, length-set, All}
use Rattle.std.specs.Prelude.{slice_get, ◌==◌, if◌then◌else◌, count_by, option_map}
use Rattle.nr_rev.specs.declared.sides.Side.{Side}
use Rattle.nr_rev.specs.declared.sides.Side.TheVariants.{Read, Write}
use Rattle.nr_rev.specs.declared.sides.Sides.{Sides}
use Rattle.nr_rev.specs.declared.descriptor.DescriptorRow.{DescriptorRow}
use Rattle.nr_rev.specs.World.{World, is_free_number, with_row, with_descriptor, is_waited}
use Rattle.nr_rev.specs.WellFormed.{WellFormed, RowFits, IsInside, HasWaitWord}
use Rattle.nr_laws.proofs.BoolLemmas.{neither_of}
use Rattle.nr_rev.proofs.SideLemmas.{each_side, of_side-twice}
use Rattle.nr_laws.proofs.LookupLemmas.{nobody_inside, Ends-idle, Ends-socket_of, Ends-row_of, Ends-idle_open}
use Rattle.nr_rev.specs.declared.sides.Mode.{Mode}
use Rattle.nr_rev.specs.Sides.{names_side, of_side, twice, with_side}
use Rattle.nr_rev.specs.declared.timer.Timer.{Timer}
use Rattle.nr_rev.specs.Timer.{IsTime}
use Rattle.nr_rev.specs.Descriptor.{is_combo, quiet, stop_if, change_by_evict}
use Rattle.nr_rev.specs.Step.{pollevent, after_change, after_orders, evict, pollopen, pollclose}
use Rattle.nr_laws.proofs.DescriptorChangeLemmas.{changed_keeps, none_at_rest, set_set}
use Rattle.nr_laws.proofs.TimersFitChangeLemmas.{TimersChanged, TimersFit-changed}
use Rattle.std.proofs.lemmas.Option.{none-some, same_Some, slice_get_within}
use Rattle.nr_laws.proofs.TimerUpdateLemmas.{none_current}
use Rattle.nr_rev.specs.declared.descriptor.WaitWord.TheVariants.{Nil}
use Rattle.nr_rev.proofs.ListUpdateLemmas.{slice_get-set_unseen, slice_get-set_cases, slice_get-set_here}
use Rattle.nr_laws.proofs.RowSetLemmas.{timers_changed_keeps, WaitWordsFit-rows}
use Rattle.std.proofs.lemmas.List.Elements.{All-cons}
use Rattle.nr_rev.specs.Lock.{bit}
use Rattle.nr_laws.proofs.WaitWordChangeLemmas.{with_words, with_marks, marks_keep_timers}
use Rattle.nr_laws.proofs.WaitWordSetLemmas.{word_at_rest, word_has}
use Rattle.nr_laws.proofs.UnblockLemmas.{cleared}
use Rattle.nr_rev.proofs.NumberLemmas.{count_front, number_apart, same_number}
use Rattle.nr_rev.proofs.OutcomeLemmas.{Ends, Keeps, BothRaised, Ends-ok, Ends-map, Ends-bind, Ends-then, Ends-either, Ends-refused_if, Ends-refused_unless, Ends-raised_sequence, Ends-both_raised}
use Rattle.nr_laws.proofs.FreeNumberLemmas.{uncounted, free_cases}
use Rattle.nr_laws.proofs.DescriptorTakenLemmas.{DescriptorTaken, Ends-taken}

-- the running timers are stopped, and no other timers exist
Ends-stopped : (r c : Bool) (before : Sides (Option Timer)) (n : ℕ) → (r ≡ false → before.read ≡ None) → (c ≡ false → before.write ≡ None)
    → Ends (λ left. ((side : Side) → of_side side left.0 ≡ None) × (n ≡ left.1)) (after_orders (stop_if r Read ++ stop_if c Write) (before, n))
Ends-stopped true true before n read write = Ends-ok (each_side _ refl refl, refl)
Ends-stopped true false before n read write = Ends-ok (each_side _ refl (write refl), refl)
Ends-stopped false true before n read write = Ends-ok (each_side _ (read refl) refl, refl)
Ends-stopped false false before n read write = Ends-ok (each_side _ (read refl) (write refl), refl)

-- both timers are gone, and both sequences were incremented
timers_stopped : (w : World) (d : ℕ) (old new : DescriptorRow) → WellFormed w → ((side : Side) → of_side side new.timers ≡ None) → BothRaised old.descriptor.sequences new.descriptor.sequences
    → (is_combo new.descriptor ≡ true → new.descriptor.running.write ≡ false) → (new.descriptor.closing ≡ true → new.descriptor.running ≡ twice false) → new.descriptor.fdseq < 2 ^ 64
    → ((side : Side) → IsTime (of_side side new.descriptor.deadlines)) → TimersChanged w.firings d old new w.next_arming w.next_arming
timers_stopped w d old new h none raised combo closing fdseq times =
    record {
      fits =
          record {
            entries = λ side timer is. absurd (none-some _ (sym (none side) ∙ is));
            combo = combo;
            closing = closing;
            sequences = λ side. (raised side).1;
            fdseq = fdseq;
            times = times;
          };
      firing = λ i e _ _ f.
          let most = f.sequence in
          let up = (raised e.side).0 in
          record { side = f.side; sequence = omega arith; due = f.due; current = λ now. absurd (omega arith) };
      sides = λ side.
          inr (record {
            stale = λ e same f now. none_current e old.descriptor new.descriptor (inr (raised e.side).0) f (now ∙ ap (λ s. of_side s new.descriptor.sequences) (sym same));
            number = λ timer is. absurd (none-some _ (sym (none side) ∙ is));
          });
      apart = λ s t a b is_a is_b new_number same. absurd (none-some _ (sym (none s) ∙ is_a));
      rises = omega arith;
      in_range = h.timers.in_range;
    }

-- an open descriptor without waiters becomes free
freed : (w : World) (d : ℕ) (row : DescriptorRow) (fdseq : ℕ) → WellFormed w → slice_get w.descriptors d ≡ Some row → is_free_number d w.free ≡ false → row.descriptor.closing ≡ true
    → ((side : Side) → is_waited d side w.goroutines ≡ false) → fdseq < 2 ^ 64
    → WellFormed (record (with_row d (with_marks row row.descriptor.words row.descriptor.event_error fdseq) w) { free = d ∷ w.free })
freed w d row fdseq h at is_open closing nobody small =
    record {
      goroutines =
          record {
            one_inside = h.goroutines.one_inside;
            inside_open = λ g k side inside.
                let o = h.goroutines.inside_open g k side inside in
                (rw length-set o.0, ap₂ (λ x y. x || y) (number_apart k d (λ same. nobody_inside w.goroutines d side g (nobody side) (subst (λ n. IsInside w.goroutines g n side) same inside))) o.1);
            sockets_named = h.goroutines.sockets_named;
            owed = h.goroutines.owed;
          };
      words = WaitWordsFit-rows w.goroutines w.descriptors w.waiters d row after at refl h.words;
      queues = h.queues;
      timers =
          TimersFit-changed w.descriptors w.firings w.next_arming w.next_arming d row after at
          (marks_keep_timers w.descriptors w.firings w.next_arming d row row.descriptor.words row.descriptor.event_error fdseq at small h.timers) h.timers;
      free =
          record {
            made = made;
            once = once;
            closing = λ k other k_free is.
                elim (slice_get-set_cases w.descriptors d row after k at) [
                  | inl here ↦ subst (λ (r : DescriptorRow). r.descriptor.closing ≡ true) (same_Some after other (sym here.1 ∙ is)) closing
                  | inr there ↦ h.free.closing k other (old_free k there.0 k_free) (sym there.1 ∙ is)
                ];
            words = λ k side word k_free has.
                let same = slice_get-set_unseen (option_map (λ (r : DescriptorRow). of_side side r.descriptor.words)) w.descriptors d row after k at refl in
                let had : HasWaitWord w.descriptors k side word = sym same ∙ has in
                elim (free_cases k d w.free k_free) [
                  | inl here ↦ word_at_rest w d side word h (nobody side) (subst (λ n. HasWaitWord w.descriptors n side word) here had)
                  | inr there ↦ h.free.words k side word there.1 had
                ];
          };
      sockets = h.sockets;
      goroutines_limited = h.goroutines_limited;
      sockets_limited = h.sockets_limited;
      descriptors_limited = rw length-set h.descriptors_limited;
      firings_limited = h.firings_limited;
      clock = h.clock;
    }
  where
    after : DescriptorRow
    after = with_marks row row.descriptor.words row.descriptor.event_error fdseq

    old_free : (k : ℕ) → k ≢ d → is_free_number k (d ∷ w.free) ≡ true → is_free_number k w.free ≡ true
    old_free k apart e = elim (free_cases k d w.free e) [ inl here ↦ absurd (apart here) | inr there ↦ there.1 ]

    made : All (λ k. k < length (set w.descriptors d after)) (d ∷ w.free)
    made = All-cons (λ k. k < length (set w.descriptors d after)) d w.free (rw length-set (slice_get_within _ _ _ at)) (rw length-set h.free.made)

    once : (k : ℕ) → count_by (λ f. f == k) (d ∷ w.free) ≤ 1
    once k =
        let a = count_front d k w.free in
        let b : count_by (λ f. f == k) w.free ≤ 1 = h.free.once k in
        go (d == k) refl a b
      where
        go : (x : Bool) → (d == k) ≡ x → count_by (λ f. f == k) (d ∷ w.free) ≡ bit (d == k) + count_by (λ f. f == k) w.free → count_by (λ f. f == k) w.free ≤ 1
            → count_by (λ f. f == k) (d ∷ w.free) ≤ 1
        go true is a b =
            let c : count_by (λ f. f == k) w.free ≡ 0 = ap (λ n. count_by (λ f. f == n) w.free) (sym (same_number d k is)) ∙ uncounted d w.free is_open in
            let e : bit (d == k) ≡ 1 = ap bit is in
            omega arith
        go false is a b = let e : bit (d == k) ≡ 0 = ap bit is in omega arith

-- the row of a descriptor that is opened again
abbrev begun_row : DescriptorRow → ℕ → Sides ℕ → DescriptorRow
begun_row row s sequences =
    record row {
      descriptor =
          record row.descriptor {
            words = twice Nil;
            closing = false;
            event_error = false;
            deadlines = twice (pos 0);
            sequences = sequences;
            fdseq = if row.descriptor.fdseq == 0 then 1 else row.descriptor.fdseq;
            socket = s;
          };
    }

begins : (w : World) (d s : ℕ) (row : DescriptorRow) (sequences : Sides ℕ) → DescriptorTaken w d → slice_get w.descriptors d ≡ Some row → BothRaised row.descriptor.sequences sequences
    → WellFormed (with_row d (begun_row row s sequences) w)
begins w d s row sequences t at raised =
    subst WellFormed same
    (timers_changed_keeps second d w.next_arming row2 _ h2 at2 t.is_open refl
    (timers_stopped second d row2 _ h2 none raised (λ e. cc) (λ e. cc) (fdseq (row.descriptor.fdseq == 0))
    (each_side _ (record { sfits = lit< tt }) (record { sfits = lit< tt }))))
  where
    fits : RowFits row
    fits = t.fits.timers.entries_fit d row at

    fdseq : (b : Bool) → (if b then 1 else row.descriptor.fdseq) < 2 ^ 64
    fdseq true = omega arith
    fdseq false = fits.fdseq

    row1 : DescriptorRow
    row1 = with_words row (with_side Read Nil row.descriptor.words)

    row2 : DescriptorRow
    row2 = with_words row1 (with_side Write Nil row1.descriptor.words)

    first : World
    first = with_row d row1 w

    second : World
    second = with_row d row2 first

    h1 : WellFormed first
    h1 = cleared w d Read row t.fits at t.is_open (t.words Read _ (word_has w d Read row _ at refl))

    at1 : slice_get first.descriptors d ≡ Some row1
    at1 = slice_get-set_here w.descriptors d row row1 at

    h2 : WellFormed second
    h2 = cleared first d Write row1 h1 at1 t.is_open (t.words Write _ (word_has w d Write row _ at refl))

    at2 : slice_get second.descriptors d ≡ Some row2
    at2 = slice_get-set_here first.descriptors d row1 row2 at1

    none : (side : Side) → of_side side row.timers ≡ None
    none side = none_at_rest row side fits (ap (of_side side) (t.rests row at) ∙ of_side-twice side false)

    same : with_row d (begun_row row2 s sequences) second ≡ with_row d (begun_row row s sequences) w
    same =
        ap (λ rows. record w { descriptors = rows })
        (set_set (set w.descriptors d row1) d row2 (begun_row row2 s sequences) ∙ set_set w.descriptors d row1 (begun_row row2 s sequences))

pub pollopen_sound : (w : World) (g s : ℕ) → WellFormed w → Keeps (pollopen g s w)
pollopen_sound w g s h =
    Ends-then (Ends-idle g w) λ _.
    Ends-bind (Ends-socket_of s w) λ socket _.
    Ends-bind (Ends-taken w w.free h refl) λ took taken.
    Ends-bind (Ends-row_of took.0 took.1) λ row at.
    Ends-bind {P = λ descriptor. WellFormed (with_descriptor took.0 row descriptor took.1)}
    (Ends-bind (Ends-both_raised row.descriptor.sequences) λ sequences raised. Ends-ok (begins took.1 took.0 s row sequences taken at raised))
    λ descriptor fits.
    Ends-ok fits

pub pollclose_sound : (w : World) (g d : ℕ) → WellFormed w → Keeps (pollclose g d w)
pollclose_sound w g d h =
    Ends-idle_open g d w λ row _ at is_open.
    Ends-then (Ends-refused_unless row.descriptor.closing _ refl) λ closing.
    Ends-then (Ends-refused_if (is_waited d Read w.goroutines || is_waited d Write w.goroutines) _ refl) λ nobody.
    let alone = neither_of (is_waited d Read w.goroutines) (is_waited d Write w.goroutines) nobody in
    Ends-bind {P = λ descriptor. WellFormed (record (with_descriptor d row descriptor w) { free = d ∷ w.free })}
    (Ends-bind (Ends-raised_sequence row.descriptor.fdseq) λ fdseq raised.
    Ends-ok (freed w d row fdseq h at is_open closing (each_side _ alone.0 alone.1) raised.1))
    λ descriptor fits.
    Ends-ok fits

pub evict_sound : (w : World) (g d : ℕ) → WellFormed w → Keeps (evict g d w)
evict_sound w g d h =
    Ends-idle_open g d w λ row _ at is_open.
    Ends-bind (evicts row at is_open (h.timers.entries_fit d row at)) λ change keeps.
    Ends-bind keeps λ next fits.
    Ends-ok (fits tt)
  where
    evicts : (row : DescriptorRow) → slice_get w.descriptors d ≡ Some row → is_free_number d w.free ≡ false → RowFits row
        → Ends (λ change. Ends (λ next. Unit {0} → WellFormed next) (after_change d row change w)) (change_by_evict row.descriptor)
    evicts row at is_open before =
        Ends-then (Ends-refused_if row.descriptor.closing _ refl) λ _.
        Ends-bind (Ends-both_raised row.descriptor.sequences) λ sequences raised.
        Ends-ok
        (changed_keeps w d row
        (record {
          descriptor = record row.descriptor { closing = true; sequences = sequences; running = twice false };
          orders = stop_if row.descriptor.running.read Read ++ stop_if row.descriptor.running.write Write;
          woken = [];
        })
        true true false h at is_open refl refl
        (Ends-map (Ends-stopped row.descriptor.running.read row.descriptor.running.write row.timers w.next_arming (none_at_rest row Read before) (none_at_rest row Write before)) λ left stops _.
        subst (TimersChanged w.firings d row _ w.next_arming) stops.1 (timers_stopped w d row _ h stops.0 raised (λ _. refl) (λ _. refl) before.fdseq before.times)))

pub pollevent_sound : (w : World) (d tag : ℕ) (mode : Mode) (error : Bool) → WellFormed w → Keeps (pollevent d tag mode error w)
pollevent_sound w d tag mode error h =
    Ends-bind (Ends-row_of d w) λ row at.
    Ends-either (is_free_number d w.free || not (tag == row.descriptor.fdseq)) (λ _. Ends-ok h) λ fresh.
    Ends-bind
    (changed_keeps {T = Unit {0}} w d row (quiet (record row.descriptor { event_error = error })) (names_side mode Read) (names_side mode Write) true h at (neither_of _ _ fresh).0 refl refl
    (Ends-ok λ _. marks_keep_timers w.descriptors w.firings w.next_arming d row row.descriptor.words error row.descriptor.fdseq at (h.timers.entries_fit d row at).fdseq h.timers))
    λ next fits.
    Ends-ok (fits tt)
