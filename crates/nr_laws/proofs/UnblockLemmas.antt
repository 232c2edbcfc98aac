-- Unblocking a word and waking the goroutine that it held keeps a world well formed.
use Rattle.std.proofs.Common.{◌≡◌, ◌≢◌, ℕ, ◌-◌, ◌⊎◌, Bool, true, false, List, [], ◌∷◌, Some, inl, inr, refl, sym, ap, subst, ◌∙◌, set, arith}
use Rattle.std.proofs.lemmas.Option.{get_or_from_slice_get}
use Rattle.std.specs.Prelude.{slice_get, sum_by, if◌then◌else◌, option_map}
use Rattle.nr_rev.specs.declared.sides.Side.{Side}
use Rattle.nr_rev.specs.declared.descriptor.WaitWord.{WaitWord}
use Rattle.nr_rev.specs.declared.descriptor.WaitWord.TheVariants.{Nil, Ready, Held}
use Rattle.nr_rev.specs.declared.status.Status.{Status}
use Rattle.nr_rev.specs.declared.status.Status.TheVariants.{Idle, Parked, Swapping}
use Rattle.nr_rev.specs.Sides.{of_side, with_side}
use Rattle.nr_rev.specs.Lock.{bit}
use Rattle.nr_rev.specs.Descriptor.{unblock}
use Rattle.nr_rev.specs.declared.descriptor.DescriptorRow.{DescriptorRow}
use Rattle.nr_rev.specs.World.{World, with_row, is_free_number}
use Rattle.nr_rev.specs.Step.{after_wakes, after_wake}
use Rattle.nr_rev.specs.WellFormed.{WellFormed, WaitWordsFit, is_held, held_count}
use Rattle.nr_laws.proofs.StatusSetLemmas.{may_stay}
use Rattle.nr_laws.proofs.WaitWordChangeLemmas.{with_words, with_word_at, word_at_cases, word_kept, words_keep_timers}
use Rattle.nr_laws.proofs.RowSetLemmas.{row_keeps}
use Rattle.nr_laws.proofs.WaitWordSetLemmas.{unheld, same_place, word_and_status_keep, held_sum, parked_at}

-- true if a word is nil or ready
abbrev IsClear : WaitWord → Type 0
IsClear word = (is_held word ≡ false) × (word ≢ WaitWord.Wait)

if_clear : (ioready : Bool) → IsClear (if ioready then Ready else Nil)
if_clear true = (refl, λ e. cc)
if_clear false = (refl, λ e. cc)

-- clearing a word that held no goroutine
cleared_words : (gs : List Status) (rows : List DescriptorRow) (waiters d : ℕ) (row : DescriptorRow) (side : Side) (old new : WaitWord) → slice_get rows d ≡ Some row
    → of_side side row.descriptor.words ≡ old → is_held old ≡ false → IsClear new → WaitWordsFit gs rows waiters → WaitWordsFit gs (with_word_at rows d row side new) waiters
cleared_words gs rows waiters d row side old new at is none clear h =
    record {
      held = λ k e s. (
        λ has.
            elim (word_at_cases rows d row side new e s (Held k) at has) [
              | inl here ↦ absurd (unheld new k clear.0 here.2)
              | inr there ↦ (h.held k e s).0 there.1
            ],
        λ shows. word_kept rows d row side new e s (Held k) at (λ same. unheld old k none (sym is ∙ same)) ((h.held k e s).1 shows),
      );
      waited = λ e s has.
          elim (word_at_cases rows d row side new e s WaitWord.Wait at has) [
            | inl here ↦ absurd (clear.1 here.2)
            | inr there ↦ h.waited e s there.1
          ];
      counted =
          let sums = held_sum rows d row side old new at is in
          let c : waiters ≡ sum_by held_count rows = h.counted in
          let a : bit (is_held old) ≡ 0 = ap bit none in
          let b : bit (is_held new) ≡ 0 = ap bit clear.0 in
          omega arith;
    }

-- the world after a side of d is unblocked
abbrev unblocked_world : World → ℕ → DescriptorRow → Side → WaitWord × List ℕ → World
unblocked_world w d row side new = after_wakes new.1 (with_row d (with_words row (with_side side new.0 row.descriptor.words)) w)

unblocked_quietly : (w : World) (d : ℕ) (row : DescriptorRow) (side : Side) (old new : WaitWord) → WellFormed w → slice_get w.descriptors d ≡ Some row → is_free_number d w.free ≡ false
    → of_side side row.descriptor.words ≡ old → is_held old ≡ false → IsClear new → WellFormed (unblocked_world w d row side (new, []))
unblocked_quietly w d row side old new h at is_open is none clear =
    row_keeps w w.goroutines w.waiters d w.next_arming row _ h at is_open refl h.goroutines h.queues
    (cleared_words w.goroutines w.descriptors w.waiters d row side old new at is none clear h.words)
    (words_keep_timers w.descriptors w.firings w.next_arming d row _ at h.timers)

unblocked_waking : (w : World) (d g : ℕ) (row : DescriptorRow) (side : Side) (new : WaitWord) → WellFormed w → slice_get w.descriptors d ≡ Some row → is_free_number d w.free ≡ false
    → of_side side row.descriptor.words ≡ Held g → IsClear new → WellFormed (unblocked_world w d row side (new, g ∷ []))
unblocked_waking w d g row side new h at is_open is clear =
    subst (λ (status : Status). WellFormed (record w { goroutines = set w.goroutines g status; descriptors = with_word_at w.descriptors d row side new; waiters = w.waiters - 1 }))
    (sym (ap after_wake (get_or_from_slice_get w.goroutines g _ Idle parked)))
    (let zero : bit (is_held new) ≡ 0 = ap bit clear.0 in
    word_and_status_keep w g d (w.waiters - 1) side row (Parked d side) (Swapping d side) (Held g) new h parked at is_open is
    (record {
      held_before = λ k e. cc;
      held = λ k e. absurd (unheld new k clear.0 e);
      parked_before = λ e s same. same_place d e side s same;
      parked = λ e s same. cc;
      waited_before = λ e s same. cc;
      waited = λ same. absurd (clear.1 same);
      unqueued = λ _ _. refl;
    })
    (may_stay w g _ _ (d, side) h parked refl refl refl refl) (omega arith))
  where
    parked : slice_get w.goroutines g ≡ Some (Parked d side)
    parked = parked_at w.goroutines g d side ((h.words.held g d side).0 (ap (option_map (λ (r : DescriptorRow). of_side side r.descriptor.words)) at ∙ ap Some is))

pub unblocked_keeps : (w : World) (d : ℕ) (row : DescriptorRow) (side : Side) (ioready : Bool) → WellFormed w → slice_get w.descriptors d ≡ Some row → is_free_number d w.free ≡ false
    → WellFormed (unblocked_world w d row side (unblock (of_side side row.descriptor.words) ioready))
unblocked_keeps w d row side ioready h at is_open = go (of_side side row.descriptor.words) refl
  where
    go : (word : WaitWord) → of_side side row.descriptor.words ≡ word → WellFormed (unblocked_world w d row side (unblock word ioready))
    go Ready is = unblocked_quietly w d row side Ready Ready h at is_open is refl (if_clear true)
    go Nil is = unblocked_quietly w d row side Nil _ h at is_open is refl (if_clear ioready)
    go WaitWord.Wait is = unblocked_quietly w d row side WaitWord.Wait _ h at is_open is refl (if_clear ioready)
    go (Held g) is = unblocked_waking w d g row side _ h at is_open is (if_clear ioready)

-- clearing a word that is nil or ready
pub cleared : (w : World) (d : ℕ) (side : Side) (row : DescriptorRow) → WellFormed w → slice_get w.descriptors d ≡ Some row → is_free_number d w.free ≡ false
    → (of_side side row.descriptor.words ≡ Nil) ⊎ (of_side side row.descriptor.words ≡ Ready) → WellFormed (with_row d (with_words row (with_side side Nil row.descriptor.words)) w)
cleared w d side row h row_at is_open either =
    elim either [
      | inl nil ↦ unblocked_quietly w d row side Nil Nil h row_at is_open nil refl (if_clear false)
      | inr ready ↦ unblocked_quietly w d row side Ready Nil h row_at is_open ready refl (if_clear false)
    ]
