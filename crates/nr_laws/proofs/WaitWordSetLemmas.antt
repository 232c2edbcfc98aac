-- Changing a word of a descriptor together with a goroutine's status keeps a world well formed.
use Rattle.std.proofs.Common.{◌≡◌, ◌≢◌, ℕ, ◌+◌, ◌-◌, false, List, Option, Some, None, ◌⊎◌, inl, inr, refl, sym, ap, ◌∙◌, set, arith, true≢false, get_or}
use Rattle.std.proofs.lemmas.Option.{none-some, some_pair_parts, slice_get_within, get_or_from_slice_get}
use Rattle.std.proofs.lemmas.List.Sums.{sum_by-set}
use Rattle.std.specs.Prelude.{slice_get, sum_by, option_map}
use Rattle.std.specs.Option.{option_and_then}
use Rattle.nr_rev.specs.declared.sides.Side.{Side}
use Rattle.nr_rev.specs.declared.sides.Side.TheVariants.{Read, Write}
use Rattle.nr_rev.specs.declared.status.Status.{Status}
use Rattle.nr_rev.specs.declared.status.Status.TheVariants.{Entering, Armed, Parking, Parked, Swapping}
use Rattle.nr_rev.specs.declared.descriptor.WaitWord.{WaitWord}
use Rattle.nr_rev.specs.declared.descriptor.WaitWord.TheVariants.{Nil, Ready, Held}
use Rattle.nr_rev.specs.Sides.{of_side, with_side}
use Rattle.nr_rev.specs.declared.descriptor.DescriptorRow.{DescriptorRow}
use Rattle.nr_rev.specs.World.{World, wait_of, is_free_number, is_waited}
use Rattle.nr_rev.specs.WellFormed.{WellFormed, WaitWordsFit, IsInside, HasView, HasWaitWord, parked_of, awaiting_of, is_queued, is_held, held_count}
use Rattle.nr_rev.proofs.ListUpdateLemmas.{slice_get-set_here}
use Rattle.nr_laws.proofs.LookupLemmas.{nobody_inside}
use Rattle.nr_laws.proofs.StatusSetLemmas.{MayMove, view_cases, view_kept}
use Rattle.nr_rev.specs.Lock.{bit}
use Rattle.nr_rev.specs.Step.{with_wait}
use Rattle.nr_laws.proofs.WaitWordChangeLemmas.{with_words, with_word_at, word_at_cases, word_kept, word_here}
use Rattle.nr_laws.proofs.RowSetLemmas.{words_and_status_keep}

held_change : (side : Side) (row : DescriptorRow) (old new : WaitWord) → of_side side row.descriptor.words ≡ old
    → held_count (with_words row (with_side side new row.descriptor.words)) + bit (is_held old) ≡ held_count row + bit (is_held new)
held_change Read row old new e = let k : bit (is_held row.descriptor.words.read) ≡ bit (is_held old) = ap (λ (x : WaitWord). bit (is_held x)) e in omega arith
held_change Write row old new e = let k : bit (is_held row.descriptor.words.write) ≡ bit (is_held old) = ap (λ (x : WaitWord). bit (is_held x)) e in omega arith

-- how changing one word changes the number of words that hold a goroutine
pub held_sum : (rows : List DescriptorRow) (d : ℕ) (row : DescriptorRow) (side : Side) (old new : WaitWord) → slice_get rows d ≡ Some row → of_side side row.descriptor.words ≡ old
    → sum_by held_count (with_word_at rows d row side new) + bit (is_held old) ≡ sum_by held_count rows + bit (is_held new)
held_sum rows d row side old new at is =
    let changed : sum_by held_count (with_word_at rows d row side new) + held_count (get_or rows d row)
    ≡ sum_by held_count rows + held_count (with_words row (with_side side new row.descriptor.words)) =
    sum_by-set held_count rows d _ row (slice_get_within _ _ _ at)
    in
    let was : held_count (get_or rows d row) ≡ held_count row = ap held_count (get_or_from_slice_get rows d row row at) in
    let more = held_change side row old new is in
    omega arith

-- a word that holds no goroutine doesn't hold k
pub unheld : (word : WaitWord) (k : ℕ) → is_held word ≡ false → word ≢ Held k
unheld word k none same = true≢false (sym (ap is_held same) ∙ none)

pub same_place : (d e : ℕ) (side s : Side) → ◌≡◌ {A = Option (ℕ × Side)} (Some (d, side)) (Some (e, s)) → (e ≡ d) × (s ≡ side)
same_place d e side s same = let p = some_pair_parts d e side s same in (sym p.0, sym p.1)

-- true if a goroutine's status and d's word agree, both before and after they change
pub record StatusMatchesWaitWord (g d : ℕ) (side : Side) (old new : Status) (was word : WaitWord) : Type 0 where
  pub held_before : (k : ℕ) → was ≡ Held k → k ≡ g
  pub held : (k : ℕ) → word ≡ Held k → (k ≡ g) × (parked_of new ≡ Some (d, side))
  pub parked_before : (e : ℕ) (s : Side) → parked_of old ≡ Some (e, s) → (e ≡ d) × (s ≡ side)
  pub parked : (e : ℕ) (s : Side) → parked_of new ≡ Some (e, s) → (e ≡ d) × (s ≡ side) × (word ≡ Held g)
  pub waited_before : (e : ℕ) (s : Side) → awaiting_of old ≡ Some (e, s) → (e ≡ d) × (s ≡ side)
  pub waited : word ≡ WaitWord.Wait → awaiting_of new ≡ Some (d, side)
  pub unqueued : (s : ℕ) (other : Side) → is_queued s other (Some new) ≡ is_queued s other (Some old)

WaitWordsFit-set : (gs : List Status) (rows : List DescriptorRow) (waiters after g d : ℕ) (side : Side) (row : DescriptorRow) (old new : Status) (was word : WaitWord) → slice_get gs g ≡ Some old
    → slice_get rows d ≡ Some row → of_side side row.descriptor.words ≡ was → StatusMatchesWaitWord g d side old new was word → after ≡ waiters + bit (is_held word) - bit (is_held was)
    → WaitWordsFit gs rows waiters → WaitWordsFit (set gs g new) (with_word_at rows d row side word) after
WaitWordsFit-set gs rows waiters after g d side row old new was word at row_at is matches counts h =
    record {
      held = λ k e s. (
        λ has.
            elim (word_at_cases rows d row side word e s (Held k) row_at has) [
              | inl here ↦
                  let p = matches.held k here.2 in
                  rw (p.0, here.0, here.1) (ap (option_and_then parked_of) (slice_get-set_here gs g old new at) ∙ p.1)
              | inr there ↦ view_kept parked_of gs g old new k (e, s) at (λ same. there.0 (matches.parked_before e s same)) ((h.held k e s).0 there.1)
            ],
        λ shows.
            elim (view_cases parked_of gs g old new k (e, s) at shows) [
              | inl here ↦
                  let p = matches.parked e s here.1 in
                  rw (here.0, p.0, p.1) (word_here rows d row side word row_at ∙ ap Some p.2)
              | inr there ↦ word_kept rows d row side word e s (Held k) row_at (λ same. there.0 (matches.held_before k (sym is ∙ same))) ((h.held k e s).1 there.1)
            ],
      );
      waited = λ e s has.
          elim (word_at_cases rows d row side word e s WaitWord.Wait row_at has) [
            | inl here ↦ (g, rw (here.0, here.1) (ap (option_and_then awaiting_of) (slice_get-set_here gs g old new at) ∙ matches.waited here.2))
            | inr there ↦
                let before = h.waited e s there.1 in
                (before.0, view_kept awaiting_of gs g old new before.0 (e, s) at (λ same. there.0 (matches.waited_before e s same)) before.1)
          ];
      counted =
          let sums = held_sum rows d row side was word row_at is in
          let c : waiters ≡ sum_by held_count rows = h.counted in
          omega arith;
    }

-- a goroutine and a word change together
pub word_and_status_keep : (w : World) (g d after : ℕ) (side : Side) (row : DescriptorRow) (old new : Status) (was word : WaitWord) → WellFormed w → slice_get w.goroutines g ≡ Some old
    → slice_get w.descriptors d ≡ Some row → is_free_number d w.free ≡ false → of_side side row.descriptor.words ≡ was → StatusMatchesWaitWord g d side old new was word
    → MayMove w.goroutines w.sockets w.descriptors w.free g new → after ≡ w.waiters + bit (is_held word) - bit (is_held was)
    → WellFormed (record w { goroutines = set w.goroutines g new; descriptors = with_word_at w.descriptors d row side word; waiters = after })
word_and_status_keep w g d after side row old new was word h at row_at is_open is matches may counts =
    words_and_status_keep w g after d old new row _ h at row_at is_open may matches.unqueued
    (WaitWordsFit-set w.goroutines w.descriptors w.waiters after g d side row old new was word at row_at is matches counts h.words)

-- True if neither status is parked, both are queued at the same semaphores, and a goroutine with
-- the old status awaits no other wait word. If the word has the value `Wait`, a goroutine with the
-- new status awaits this word.
pub record StatusMatchesUnheld (d : ℕ) (side : Side) (old new : Status) (word : WaitWord) : Type 0 where
  pub unparked : (parked_of old ≡ None) × (parked_of new ≡ None)
  pub awaits : word ≡ WaitWord.Wait → awaiting_of new ≡ Some (d, side)
  pub only : (k : ℕ) (s : Side) → awaiting_of old ≡ Some (k, s) → (k ≡ d) × (s ≡ side)
  pub unqueued : (s : ℕ) (other : Side) → is_queued s other (Some new) ≡ is_queued s other (Some old)

-- neither word holds a goroutine
pub unheld_word_keeps : (w : World) (g d : ℕ) (side : Side) (row : DescriptorRow) (old new : Status) (was word : WaitWord) → WellFormed w → slice_get w.goroutines g ≡ Some old
    → slice_get w.descriptors d ≡ Some row → is_free_number d w.free ≡ false → of_side side row.descriptor.words ≡ was → is_held was ≡ false → is_held word ≡ false
    → StatusMatchesUnheld d side old new word → MayMove w.goroutines w.sockets w.descriptors w.free g new → WellFormed (with_wait g new d side word row w)
unheld_word_keeps w g d side row old new was word h at row_at is_open is was_free free waits may =
    let b : bit (is_held was) ≡ 0 = ap bit was_free in
    let a : bit (is_held word) ≡ 0 = ap bit free in
    word_and_status_keep w g d w.waiters side row old new was word h at row_at is_open is
    (record {
      held_before = λ k e. absurd (unheld was k was_free e);
      held = λ k e. absurd (unheld word k free e);
      parked_before = λ e s p. absurd (none-some _ (sym waits.unparked.0 ∙ p));
      parked = λ e s p. absurd (none-some _ (sym waits.unparked.1 ∙ p));
      waited_before = waits.only;
      waited = waits.awaits;
      unqueued = waits.unqueued;
    })
    may (omega arith)

parked_is : (status : Status) (d : ℕ) (side : Side) → parked_of status ≡ Some (d, side) → status ≡ Parked d side
parked_is (Parked k s) d side e = let p = some_pair_parts k d s side e in ap (λ x. Parked x s) p.0 ∙ ap (Parked d) p.1
parked_is _ d side e = cc

pub parked_at : (gs : List Status) (g d : ℕ) (side : Side) → HasView parked_of gs g (d, side) → slice_get gs g ≡ Some (Parked d side)
parked_at gs g d side shows = go (slice_get gs g) shows
  where
    go : (o : Option Status) → option_and_then parked_of o ≡ Some (d, side) → o ≡ Some (Parked d side)
    go None e = cc
    go (Some status) e = ap Some (parked_is status d side e)

awaiting_waits : (status : Status) (place : ℕ × Side) → awaiting_of status ≡ Some place → wait_of status ≡ Some place
awaiting_waits (Armed d side) place e = e
awaiting_waits (Parking d side) place e = e
awaiting_waits (Swapping d side) place e = e
awaiting_waits _ place e = cc

awaiting_inside : (o : Option Status) (place : ℕ × Side) → option_and_then awaiting_of o ≡ Some place → option_and_then wait_of o ≡ Some place
awaiting_inside None place e = cc
awaiting_inside (Some status) place e = awaiting_waits status place e

pub word_has : (w : World) (d : ℕ) (side : Side) (row : DescriptorRow) (word : WaitWord) → slice_get w.descriptors d ≡ Some row → of_side side row.descriptor.words ≡ word
    → HasWaitWord w.descriptors d side word
word_has w d side row word at is = ap (option_map (λ (r : DescriptorRow). of_side side r.descriptor.words)) at ∙ ap Some is

-- if a word holds a goroutine, it is the goroutine inside the wait, and is parked
held_alone : (w : World) (g k d : ℕ) (side : Side) → WellFormed w → IsInside w.goroutines g d side → HasWaitWord w.descriptors d side (Held k) → slice_get w.goroutines g ≡ Some (Parked d side)
held_alone w g k d side h inside has =
    let at : slice_get w.goroutines k ≡ Some (Parked d side) = parked_at w.goroutines k d side ((h.words.held k d side).0 has) in
    ap (slice_get w.goroutines) (h.goroutines.one_inside g k d side inside (ap (option_and_then wait_of) at)) ∙ at

-- if a side's word has the value `Wait`, the goroutine inside the wait at that side awaits this word
waiting_alone : (w : World) (g d : ℕ) (side : Side) → WellFormed w → IsInside w.goroutines g d side → HasWaitWord w.descriptors d side WaitWord.Wait → HasView awaiting_of w.goroutines g (d, side)
waiting_alone w g d side h inside has =
    let a = h.words.waited d side has in
    let same : g ≡ a.0 = h.goroutines.one_inside g a.0 d side inside (awaiting_inside _ _ a.1) in
    ap (λ k. option_and_then awaiting_of (slice_get w.goroutines k)) same ∙ a.1

-- at blockarm the word is nil or ready
pub word_at_arm : (w : World) (g d : ℕ) (side : Side) (word : WaitWord) → WellFormed w → slice_get w.goroutines g ≡ Some (Entering d side) → HasWaitWord w.descriptors d side word
    → (word ≡ Nil) ⊎ (word ≡ Ready)
word_at_arm w g d side Nil h at has = inl refl
word_at_arm w g d side Ready h at has = inr refl
word_at_arm w g d side WaitWord.Wait h at has =
    let a : option_and_then awaiting_of (slice_get w.goroutines g) ≡ Some (d, side) = waiting_alone w g d side h (ap (option_and_then wait_of) at) has in
    absurd (none-some _ (sym (ap (option_and_then awaiting_of) at) ∙ a))
word_at_arm w g d side (Held k) h at has = let a = held_alone w g k d side h (ap (option_and_then wait_of) at) has in cc

-- at blockswap the word holds no goroutine
pub word_at_swap : (w : World) (g k d : ℕ) (side : Side) → WellFormed w → slice_get w.goroutines g ≡ Some (Swapping d side) → HasWaitWord w.descriptors d side (Held k) → ⊥
word_at_swap w g k d side h at has = let a = held_alone w g k d side h (ap (option_and_then wait_of) at) has in cc

-- if no goroutine is inside the wait, the word is nil or ready
pub word_at_rest : (w : World) (d : ℕ) (side : Side) (word : WaitWord) → WellFormed w → is_waited d side w.goroutines ≡ false → HasWaitWord w.descriptors d side word → (word ≡ Nil) ⊎ (word ≡ Ready)
word_at_rest w d side Nil h nobody has = inl refl
word_at_rest w d side Ready h nobody has = inr refl
word_at_rest w d side WaitWord.Wait h nobody has =
    let a = h.words.waited d side has in absurd (nobody_inside w.goroutines d side a.0 nobody (awaiting_inside _ _ a.1))
word_at_rest w d side (Held k) h nobody has =
    let at : slice_get w.goroutines k ≡ Some (Parked d side) = parked_at w.goroutines k d side ((h.words.held k d side).0 has) in
    absurd (nobody_inside w.goroutines d side k nobody (ap (option_and_then wait_of) at))
