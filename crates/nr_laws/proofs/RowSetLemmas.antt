-- Changing a descriptor's row, alone or with statuses of goroutines, keeps a world well formed.
use Rattle.std.proofs.Common.{◌≡◌, ℕ, ◌+◌, false, List, Some, inl, inr, refl, sym, ap, ◌∙◌, set, length, length-set, arith, true≢false, get_or}
use Rattle.std.proofs.lemmas.Option.{slice_get_within, get_or_from_slice_get}
use Rattle.std.proofs.lemmas.List.Sums.{sum_by-set}
use Rattle.std.specs.Prelude.{slice_get, sum_by, option_map}
use Rattle.nr_rev.specs.declared.sides.Side.{Side}
use Rattle.nr_rev.specs.declared.status.Status.{Status}
use Rattle.nr_rev.specs.declared.descriptor.WaitWord.{WaitWord}
use Rattle.nr_rev.specs.Lock.{bit}
use Rattle.nr_rev.specs.declared.sides.Sides.{Sides}
use Rattle.nr_rev.specs.Sides.{of_side}
use Rattle.nr_rev.specs.declared.descriptor.DescriptorRow.{DescriptorRow}
use Rattle.nr_rev.specs.Socket.{Socket}
use Rattle.nr_rev.specs.World.{World, with_row, is_free_number}
use Rattle.nr_rev.specs.WellFormed.{WellFormed, GoroutinesFit, QueuesFit, WaitWordsFit, FreeFits, held_count, is_held, is_queued}
use Rattle.nr_rev.proofs.ListUpdateLemmas.{slice_get-set_cases, slice_get-set_unseen}
use Rattle.nr_laws.proofs.WaitWordChangeLemmas.{with_words, words_keep_timers}
use Rattle.nr_laws.proofs.StatusViewLemmas.{QueuesFit-same}
use Rattle.nr_laws.proofs.StatusSetLemmas.{MayMove, GoroutinesFit-moved}
use Rattle.nr_laws.proofs.TimersFitChangeLemmas.{TimersChanged, TimersFit-changed}

pub GoroutinesFit-rows : (gs : List Status) (sockets : List Socket) (rows new : List DescriptorRow) (free : List ℕ) → length new ≡ length rows → GoroutinesFit gs sockets rows free
    → GoroutinesFit gs sockets new free
GoroutinesFit-rows gs sockets rows new free same h =
    record {
      one_inside = h.one_inside;
      inside_open = λ g d side p. let o = h.inside_open g d side p in (rw same o.0, o.1);
      sockets_named = h.sockets_named;
      owed = h.owed;
    }

-- changing the row of an open descriptor doesn't affect the free descriptors
pub FreeFits-open : (rows : List DescriptorRow) (free : List ℕ) (d : ℕ) (old new : DescriptorRow) → slice_get rows d ≡ Some old → is_free_number d free ≡ false → FreeFits rows free
    → FreeFits (set rows d new) free
FreeFits-open rows free d old new at is_open h =
    record {
      made = rw length-set h.made;
      once = h.once;
      closing = λ k other k_free is.
          elim (slice_get-set_cases rows d old new k at) [
            | inl here ↦ absurd (true≢false (sym k_free ∙ ap (λ x. is_free_number x free) here.0 ∙ is_open))
            | inr there ↦ h.closing k other k_free (sym there.1 ∙ is)
          ];
      words = λ k side word k_free has.
          elim (slice_get-set_cases rows d old new k at) [
            | inl here ↦ absurd (true≢false (sym k_free ∙ ap (λ x. is_free_number x free) here.0 ∙ is_open))
            | inr there ↦ h.words k side word k_free (sym (ap (option_map (λ (r : DescriptorRow). of_side side r.descriptor.words)) there.1) ∙ has)
          ];
    }

pub WaitWordsFit-rows : (gs : List Status) (rows : List DescriptorRow) (waiters d : ℕ) (old new : DescriptorRow) → slice_get rows d ≡ Some old → new.descriptor.words ≡ old.descriptor.words
    → WaitWordsFit gs rows waiters → WaitWordsFit gs (set rows d new) waiters
WaitWordsFit-rows gs rows waiters d old new at same h =
    record {
      held = λ g k side. (
        λ has. (h.held g k side).0 (sym (word k side) ∙ has),
        λ shows. word k side ∙ (h.held g k side).1 shows,
      );
      waited = λ k side has. h.waited k side (sym (word k side) ∙ has);
      counted =
          let changed : sum_by held_count (set rows d new) + held_count (get_or rows d old) ≡ sum_by held_count rows + held_count new =
          sum_by-set held_count rows d new old (slice_get_within _ _ _ at)
          in
          let was : held_count (get_or rows d old) ≡ held_count old = ap held_count (get_or_from_slice_get rows d old old at) in
          let held_same : held_count new ≡ held_count old = ap (λ (words : Sides WaitWord). bit (is_held words.read) + bit (is_held words.write)) same in
          let c : waiters ≡ sum_by held_count rows = h.counted in
          omega arith;
    }
  where
    word : (k : ℕ) (side : Side) → option_map (λ (r : DescriptorRow). of_side side r.descriptor.words) (slice_get (set rows d new) k)
        ≡ option_map (λ (r : DescriptorRow). of_side side r.descriptor.words) (slice_get rows k)
    word k side = slice_get-set_unseen (option_map (λ (r : DescriptorRow). of_side side r.descriptor.words)) rows d old new k at (ap (λ (w : Sides WaitWord). Some (of_side side w)) same)

-- an open descriptor's row and the statuses of goroutines change together
pub row_keeps : (w : World) (gs : List Status) (waiters d m : ℕ) (old new : DescriptorRow) → WellFormed w → slice_get w.descriptors d ≡ Some old → is_free_number d w.free ≡ false
    → length gs ≡ length w.goroutines → GoroutinesFit gs w.sockets w.descriptors w.free → QueuesFit gs w.sockets → WaitWordsFit gs (set w.descriptors d new) waiters
    → TimersChanged w.firings d old new w.next_arming m → WellFormed (record w { goroutines = gs; descriptors = set w.descriptors d new; waiters = waiters; next_arming = m })
row_keeps w gs waiters d m old new h at is_open as_many goroutines queues words change =
    record {
      goroutines = GoroutinesFit-rows gs w.sockets w.descriptors _ w.free (length-set _ d _) goroutines;
      words = words;
      queues = queues;
      timers = TimersFit-changed w.descriptors w.firings w.next_arming m d old new at change h.timers;
      free = FreeFits-open w.descriptors w.free d old new at is_open h.free;
      sockets = h.sockets;
      goroutines_limited = rw as_many h.goroutines_limited;
      sockets_limited = h.sockets_limited;
      descriptors_limited = rw length-set h.descriptors_limited;
      firings_limited = h.firings_limited;
      clock = h.clock;
    }

-- a row's timers change, but not its words
pub timers_changed_keeps : (w : World) (d m : ℕ) (old new : DescriptorRow) → WellFormed w → slice_get w.descriptors d ≡ Some old → is_free_number d w.free ≡ false
    → new.descriptor.words ≡ old.descriptor.words → TimersChanged w.firings d old new w.next_arming m → WellFormed (record (with_row d new w) { next_arming = m })
timers_changed_keeps w d m old new h at is_open same change =
    row_keeps w w.goroutines w.waiters d m old new h at is_open refl h.goroutines h.queues (WaitWordsFit-rows w.goroutines w.descriptors w.waiters d old new at same h.words) change

-- a goroutine's status and the words of a row change together
pub words_and_status_keep : (w : World) (g waiters d : ℕ) (old new : Status) (row : DescriptorRow) (words : Sides WaitWord) → WellFormed w → slice_get w.goroutines g ≡ Some old
    → slice_get w.descriptors d ≡ Some row → is_free_number d w.free ≡ false → MayMove w.goroutines w.sockets w.descriptors w.free g new
    → ((s : ℕ) (side : Side) → is_queued s side (Some new) ≡ is_queued s side (Some old)) → WaitWordsFit (set w.goroutines g new) (set w.descriptors d (with_words row words)) waiters
    → WellFormed (record w { goroutines = set w.goroutines g new; descriptors = set w.descriptors d (with_words row words); waiters = waiters })
words_and_status_keep w g waiters d old new row words h at row_at is_open may queued words_fit =
    row_keeps w (set w.goroutines g new) waiters d w.next_arming row _ h row_at is_open (length-set _ g _)
    (GoroutinesFit-moved _ w.sockets w.descriptors w.free g old new at may h.goroutines)
    (QueuesFit-same w.goroutines _ w.sockets (λ s side k. slice_get-set_unseen (is_queued s side) w.goroutines g old new k at (queued s side)) h.queues)
    words_fit (words_keep_timers w.descriptors w.firings w.next_arming d row words row_at h.timers)
