-- Taking a descriptor, the first free one or a new one, keeps the world well formed.
use Rattle.std.proofs.Common.{◌≡◌, ℕ, ◌<◌, true, ◌||◌, Option, Some, refl, subst, ◌+◌, false, [], ◌++◌, None, inr, sym, ap, ◌∙◌, arith, true≢false, lit<, ◌≤◌, List, ◌∷◌, ◌⊎◌, inl, length, length-append, All}
use Rattle.std.specs.Prelude.{slice_get, ◌==◌, nat_lt, count_by, sum_by, option_map}
use Rattle.nr_rev.specs.declared.sides.Side.{Side}
use Rattle.nr_rev.specs.declared.descriptor.DescriptorRow.{DescriptorRow}
use Rattle.nr_rev.specs.World.{World, is_free_number}
use Rattle.nr_rev.specs.WellFormed.{WellFormed, RowFits, TimersFit, HasWaitWord, held_count, TimerPlace, ArmedAt, FiringAt, timer_at, armed_at, IsCurrent}
use Rattle.nr_laws.proofs.BoolLemmas.{neither_of}
use Rattle.nr_rev.proofs.SideLemmas.{each_side}
use Rattle.nr_rev.specs.Sides.{of_side, twice}
use Rattle.nr_rev.specs.declared.timer.Entry.{Entry}
use Rattle.nr_rev.specs.Step.{taken, new_row}
use Rattle.nr_laws.proofs.TimersFitChangeLemmas.{armed_names}
use Rattle.std.proofs.lemmas.Option.{same_Some, slice_get_within}
use Rattle.std.specs.Option.{option_and_then}
use Rattle.nr_rev.specs.declared.descriptor.WaitWord.{WaitWord}
use Rattle.nr_rev.specs.declared.descriptor.WaitWord.TheVariants.{Nil, Ready, Held}
use Rattle.nr_rev.proofs.ListUpdateLemmas.{slice_get-push_cases, slice_get-push_kept, slice_get-push_unseen, slice_get-push_all}
use Rattle.std.proofs.lemmas.List.Sums.{sum_by-append}
use Rattle.std.proofs.lemmas.List.Elements.{All-tail, All-nil}
use Rattle.nr_rev.specs.Lock.{bit}
use Rattle.nr_rev.proofs.NumberLemmas.{below_of, count_front, number_same}
use Rattle.nr_laws.proofs.TimersFitMoveLemmas.{TimersFit-moved}
use Rattle.nr_rev.proofs.OutcomeLemmas.{Ends, Ends-ok, Ends-then, Ends-refused_unless}
use Rattle.nr_laws.proofs.FreeNumberLemmas.{unfree, free_more}

-- the world after a descriptor is taken, and the descriptor's row
pub record DescriptorTaken (next : World) (d : ℕ) : Type 0 where
  pub fits : WellFormed next
  pub is_open : is_free_number d next.free ≡ false
  pub words : (side : Side) (word : WaitWord) → HasWaitWord next.descriptors d side word → (word ≡ Nil) ⊎ (word ≡ Ready)
  pub rests : (row : DescriptorRow) → slice_get next.descriptors d ≡ Some row → row.descriptor.running ≡ twice false

popped : (w : World) (d : ℕ) (free : List ℕ) → WellFormed w → w.free ≡ d ∷ free → DescriptorTaken (record w { free = free }) d
popped w d free h is =
    record {
      fits =
          record {
            goroutines =
                record {
                  one_inside = h.goroutines.one_inside;
                  inside_open = λ g k side inside. let o = h.goroutines.inside_open g k side inside in (o.0, (neither_of _ _ (sym (ap (is_free_number k) is) ∙ o.1)).1);
                  sockets_named = h.goroutines.sockets_named;
                  owed = h.goroutines.owed;
                };
            words = h.words;
            queues = h.queues;
            timers = h.timers;
            free =
                record {
                  made = All-tail (λ k. k < length w.descriptors) d free (subst (All (λ k. k < length w.descriptors)) is h.free.made);
                  once = λ k.
                      let a = count_front d k free in
                      let b : count_by (λ f. f == k) w.free ≤ 1 = h.free.once k in
                      let c = ap (count_by (λ f. f == k)) is in
                      omega arith;
                  closing = λ k row k_free at. h.free.closing k row (was_free k k_free) at;
                  words = λ k side word k_free has. h.free.words k side word (was_free k k_free) has;
                };
            sockets = h.sockets;
            goroutines_limited = h.goroutines_limited;
            sockets_limited = h.sockets_limited;
            descriptors_limited = h.descriptors_limited;
            firings_limited = h.firings_limited;
            clock = h.clock;
          };
      is_open =
          unfree d free
          (let a = count_front d d free in
          let b : count_by (λ f. f == d) w.free ≤ 1 = h.free.once d in
          let c = ap (count_by (λ f. f == d)) is in
          let e : bit (d == d) ≡ 1 = ap bit (number_same d) in
          omega arith);
      words = λ side word has. h.free.words d side word free_d has;
      rests = λ row at. (h.timers.entries_fit d row at).closing (h.free.closing d row free_d at);
    }
  where
    was_free : (k : ℕ) → is_free_number k free ≡ true → is_free_number k w.free ≡ true
    was_free k e = ap (is_free_number k) is ∙ free_more k d free e

    free_d : is_free_number d w.free ≡ true
    free_d = ap (is_free_number d) is ∙ ap (λ b. b || is_free_number d free) (number_same d)

-- the new row has no armed timer, and its words are nil
new_unarmed : (k : ℕ) (side : Side) → armed_at k side new_row ≡ None
new_unarmed k = each_side _ refl refl

new_word : (side : Side) → of_side side new_row.descriptor.words ≡ Nil
new_word = each_side _ refl refl

new_fits : RowFits new_row
new_fits =
    record {
      entries = each_side _ (λ timer e. cc) (λ timer e. cc);
      combo = λ e. refl;
      closing = λ e. refl;
      sequences = each_side _ (omega arith) (omega arith);
      fdseq = omega arith;
      times = each_side _ (record { sfits = lit< tt }) (record { sfits = lit< tt });
    }

pushed_word : (rows : List DescriptorRow) (k : ℕ) (side : Side) (word : WaitWord) → HasWaitWord (rows ++ new_row ∷ []) k side word → HasWaitWord rows k side word ⊎ ((k ≡ length rows) × (word ≡ Nil))
pushed_word rows k side word has = go (slice_get (rows ++ new_row ∷ []) k) refl has
  where
    view : DescriptorRow → WaitWord
    view r = of_side side r.descriptor.words

    go : (o : Option DescriptorRow) → slice_get (rows ++ new_row ∷ []) k ≡ o → option_map view o ≡ Some word → HasWaitWord rows k side word ⊎ ((k ≡ length rows) × (word ≡ Nil))
    go None at e = cc
    go (Some row) at e =
        elim (slice_get-push_cases rows new_row row k at) [
          | inl old ↦ inl (ap (option_map view) old ∙ e)
          | inr new ↦ inr (new.0, sym (same_Some _ _ e) ∙ ap view (sym new.1) ∙ new_word side)
        ]

kept_word : (rows : List DescriptorRow) (k : ℕ) (side : Side) (word : WaitWord) → HasWaitWord rows k side word → HasWaitWord (rows ++ new_row ∷ []) k side word
kept_word rows k side word has = go (slice_get rows k) refl has
  where
    view : DescriptorRow → WaitWord
    view r = of_side side r.descriptor.words

    go : (o : Option DescriptorRow) → slice_get rows k ≡ o → option_map view o ≡ Some word → HasWaitWord (rows ++ new_row ∷ []) k side word
    go None at e = cc
    go (Some row) at e = ap (option_map view) (slice_get-push_kept rows new_row row k at) ∙ e

pushed_timers : (rows : List DescriptorRow) (firings : List Entry) (n : ℕ) → TimersFit rows firings n → TimersFit (rows ++ new_row ∷ []) firings n
pushed_timers rows firings n h =
    TimersFit-moved rows (rows ++ new_row ∷ []) firings firings n (λ p q. q ≡ p) (λ p e is. (p, refl, was_at p e is)) (λ p p' q q' a b e. sym a ∙ e ∙ b) now
    (slice_get-push_all RowFits rows new_row new_fits h.entries_fit)
    (λ i f is. let o = h.firings_fit i f is in (o.0, slice_get-push_kept rows new_row o.0 f.descriptor o.1, o.2)) h
  where
    was_at : (p : TimerPlace) (e : Entry) → timer_at (rows ++ new_row ∷ []) firings p ≡ Some e → timer_at rows firings p ≡ Some e
    was_at (ArmedAt k side) e is = sym (slice_get-push_unseen (option_and_then (armed_at k side)) rows new_row k (sym (new_unarmed k side))) ∙ is
    was_at (FiringAt i) e is = is

    view : Side → DescriptorRow → ℕ
    view side r = of_side side r.descriptor.sequences

    back : (e : Entry) (row : DescriptorRow) → slice_get rows e.descriptor ≡ Some row → IsCurrent (rows ++ new_row ∷ []) e → IsCurrent rows e
    back e row at current =
        ap (option_map (view e.side)) at ∙ sym (ap (option_map (view e.side)) (slice_get-push_kept rows new_row row e.descriptor at)) ∙ current

    now : (p : TimerPlace) (e : Entry) → timer_at (rows ++ new_row ∷ []) firings p ≡ Some e → IsCurrent (rows ++ new_row ∷ []) e → IsCurrent rows e
    now (ArmedAt k side) e is current =
        let a = armed_names rows firings k side e (was_at (ArmedAt k side) e is) in
        back e a.0 (ap (slice_get rows) a.3 ∙ a.1) current
    now (FiringAt i) e is current = let o = h.firings_fit i e is in back e o.0 o.1 current

pushed : (w : World) → WellFormed w → w.free ≡ [] → length w.descriptors < w.limits.descriptors → DescriptorTaken (record w { descriptors = w.descriptors ++ new_row ∷ [] }) (length w.descriptors)
pushed w h none room =
    record {
      fits =
          record {
            goroutines =
                record {
                  one_inside = h.goroutines.one_inside;
                  inside_open = λ g k side inside. let o = h.goroutines.inside_open g k side inside in (longer o.0, o.1);
                  sockets_named = h.goroutines.sockets_named;
                  owed = h.goroutines.owed;
                };
            words =
                record {
                  held = λ g k side. (
                    λ has. elim (pushed_word w.descriptors k side (Held g) has) [ inl old ↦ (h.words.held g k side).0 old | inr new ↦ let e : Held g ≡ Nil = new.1 in cc ],
                    λ shows. kept_word w.descriptors k side (Held g) ((h.words.held g k side).1 shows),
                  );
                  waited = λ k side has. elim (pushed_word w.descriptors k side WaitWord.Wait has) [ inl old ↦ h.words.waited k side old | inr new ↦ let e : WaitWord.Wait ≡ Nil = new.1 in cc ];
                  counted =
                      let a : sum_by held_count (w.descriptors ++ new_row ∷ []) ≡ sum_by held_count w.descriptors + sum_by held_count (new_row ∷ []) =
                      sum_by-append held_count w.descriptors (new_row ∷ []) in
                      let c : w.waiters ≡ sum_by held_count w.descriptors = h.words.counted in
                      omega arith;
                };
            queues = h.queues;
            timers = pushed_timers w.descriptors w.firings w.next_arming h.timers;
            free =
                record {
                  made = subst (All (λ k. k < length (w.descriptors ++ new_row ∷ []))) (sym none) (All-nil _);
                  once = h.free.once;
                  closing = λ k row k_free at. absurd (true≢false (sym k_free ∙ ap (is_free_number k) none));
                  words = λ k side word k_free has. absurd (true≢false (sym k_free ∙ ap (is_free_number k) none));
                };
            sockets = h.sockets;
            goroutines_limited = h.goroutines_limited;
            sockets_limited = h.sockets_limited;
            descriptors_limited = rw length-append (omega arith);
            firings_limited = h.firings_limited;
            clock = h.clock;
          };
      is_open = ap (is_free_number (length w.descriptors)) none;
      words = λ side word has.
          elim (pushed_word w.descriptors (length w.descriptors) side word has) [
            | inl old ↦ absurd (past_end w.descriptors side word old)
            | inr new ↦ inl new.1
          ];
      rests = λ row at.
          elim (slice_get-push_cases w.descriptors new_row row (length w.descriptors) at) [
            | inl old ↦ let b : length w.descriptors < length w.descriptors = slice_get_within _ _ _ old in absurd (omega arith)
            | inr new ↦ ap (λ (r : DescriptorRow). r.descriptor.running) (sym new.1)
          ];
    }
  where
    longer : {k : ℕ} → k < length w.descriptors → k < length (w.descriptors ++ new_row ∷ [])
    longer b = rw length-append (omega arith)

    past_end : (rows : List DescriptorRow) (side : Side) (word : WaitWord) → HasWaitWord rows (length rows) side word → ⊥
    past_end [] side word e = cc
    past_end (row ∷ rows) side word e = past_end rows side word e

pub Ends-taken : (w : World) (free : List ℕ) → WellFormed w → w.free ≡ free → Ends (λ (took : ℕ × World). DescriptorTaken took.1 took.0) (taken free w)
Ends-taken w (k ∷ free) h is = Ends-ok (popped w k free h is)
Ends-taken w [] h is =
    Ends-then (Ends-refused_unless (nat_lt (length w.descriptors) w.limits.descriptors) _ refl) λ room.
    Ends-ok (pushed w h is (below_of _ _ room))
