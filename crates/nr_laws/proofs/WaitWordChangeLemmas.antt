-- The words and timers of a descriptor after a change to its words, event error or fdseq.
use Rattle.std.proofs.Common.{◌≡◌, ◌≢◌, ℕ, ◌^◌, ◌<◌, Bool, List, Some, ◌⊎◌, inl, inr, refl, sym, ap, ◌∙◌, set}
use Rattle.std.proofs.lemmas.Option.{same_Some}
use Rattle.std.specs.Prelude.{slice_get, option_map}
use Rattle.nr_rev.specs.declared.sides.Side.{Side}
use Rattle.nr_rev.specs.declared.descriptor.WaitWord.{WaitWord}
use Rattle.nr_rev.specs.declared.sides.Sides.{Sides}
use Rattle.nr_rev.specs.Sides.{of_side, with_side}
use Rattle.nr_rev.specs.Descriptor.{timer_function}
use Rattle.nr_rev.specs.declared.timer.Entry.{Entry}
use Rattle.nr_rev.specs.declared.descriptor.DescriptorRow.{DescriptorRow}
use Rattle.nr_rev.specs.WellFormed.{TimersFit, RowFits, EntryFits, IsDueFor, HasWaitWord}
use Rattle.nr_rev.proofs.SideLemmas.{each_side, other_side, of_side-with_side_same, of_side-with_side_other}
use Rattle.nr_laws.proofs.TimersFitChangeLemmas.{TimersChanged, timers_unchanged}
use Rattle.nr_rev.proofs.ListUpdateLemmas.{slice_get-set_cases, slice_get-set_here}

abbrev pub with_words : DescriptorRow → Sides WaitWord → DescriptorRow
with_words row words = record row { descriptor = record row.descriptor { words = words } }

-- the row with these wait words, this event error and this fdseq
abbrev pub with_marks : DescriptorRow → Sides WaitWord → Bool → ℕ → DescriptorRow
with_marks row words error fdseq = record row { descriptor = record row.descriptor { words = words; event_error = error; fdseq = fdseq } }

-- words, event error and fdseq don't concern timers
pub marks_keep_timers : (rows : List DescriptorRow) (firings : List Entry) (n d : ℕ) (row : DescriptorRow) (words : Sides WaitWord) (error : Bool) (fdseq : ℕ) → slice_get rows d ≡ Some row
    → fdseq < 2 ^ 64 → TimersFit rows firings n → TimersChanged firings d row (with_marks row words error fdseq) n n
marks_keep_timers rows firings n d row words error fdseq at small h =
    timers_unchanged rows firings n d row _ at refl refl
    (record {
      entries = λ side timer is.
          let entry : EntryFits row.descriptor side timer = fits.entries side timer is in
          record { sequence = entry.sequence; running = entry.running; positive = entry.positive; due = entry.due; function = entry.function ∙ sym (same side) };
      combo = fits.combo;
      closing = fits.closing;
      sequences = fits.sequences;
      fdseq = small;
      times = fits.times;
    })
    (λ i firing _ _ f.
    record {
      side = f.side;
      sequence = f.sequence;
      due = f.due;
      current = λ now.
          let due : IsDueFor row.descriptor firing = f.current now in
          record { positive = due.positive; due = due.due; running = due.running; function = due.function ∙ sym (same firing.side) };
    })
    h
  where
    fits : RowFits row
    fits = h.entries_fit d row at

    same : (side : Side) → timer_function side (with_marks row words error fdseq).descriptor ≡ timer_function side row.descriptor
    same = each_side _ refl refl

pub words_keep_timers : (rows : List DescriptorRow) (firings : List Entry) (n d : ℕ) (row : DescriptorRow) (words : Sides WaitWord) → slice_get rows d ≡ Some row → TimersFit rows firings n
    → TimersChanged firings d row (with_words row words) n n
words_keep_timers rows firings n d row words at h =
    marks_keep_timers rows firings n d row words row.descriptor.event_error row.descriptor.fdseq at (h.entries_fit d row at).fdseq h

-- the changed row has the new words, and every other row its old words
word_cases : (rows : List DescriptorRow) (d : ℕ) (row : DescriptorRow) (words : Sides WaitWord) (k : ℕ) (side : Side) (word : WaitWord) → slice_get rows d ≡ Some row
    → HasWaitWord (set rows d (with_words row words)) k side word → ((k ≡ d) × (of_side side words ≡ word)) ⊎ ((k ≢ d) × HasWaitWord rows k side word)
word_cases rows d row words k side word at has =
    elim (slice_get-set_cases rows d row (with_words row words) k at) [
      | inl here ↦ inl (here.0, same_Some _ _ (sym (ap (option_map view) here.1) ∙ has))
      | inr there ↦ inr (there.0, sym (ap (option_map view) there.1) ∙ has)
    ]
  where
    view : DescriptorRow → WaitWord
    view r = of_side side r.descriptor.words

-- the rows after a word is changed
abbrev pub with_word_at : List DescriptorRow → ℕ → DescriptorRow → Side → WaitWord → List DescriptorRow
with_word_at rows d row side new = set rows d (with_words row (with_side side new row.descriptor.words))

pub word_here : (rows : List DescriptorRow) (d : ℕ) (row : DescriptorRow) (side : Side) (new : WaitWord) → slice_get rows d ≡ Some row → HasWaitWord (with_word_at rows d row side new) d side new
word_here rows d row side new at =
    ap (option_map (λ (r : DescriptorRow). of_side side r.descriptor.words)) (slice_get-set_here rows d row _ at)
    ∙ ap Some (of_side-with_side_same side new row.descriptor.words)

-- the word that changed is the new one, and every other word is as before
pub word_at_cases : (rows : List DescriptorRow) (d : ℕ) (row : DescriptorRow) (side : Side) (new : WaitWord) (k : ℕ) (s : Side) (word : WaitWord) → slice_get rows d ≡ Some row
    → HasWaitWord (with_word_at rows d row side new) k s word → ((k ≡ d) × (s ≡ side) × (new ≡ word)) ⊎ (((k ≡ d) × (s ≡ side) → ⊥) × HasWaitWord rows k s word)
word_at_cases rows d row side new k s word at has =
    elim (word_cases rows d row _ k s word at has) [
      | inl here ↦
          elim (other_side s side) [
            | inl same ↦ inl (here.0, same, sym (ap (λ x. of_side x (with_side side new row.descriptor.words)) same ∙ of_side-with_side_same side new row.descriptor.words) ∙ here.1)
            | inr apart ↦
                inr (
                  (λ both. apart both.1),
                  ap (option_map (λ (r : DescriptorRow). of_side s r.descriptor.words)) (ap (slice_get rows) here.0 ∙ at)
                      ∙ ap Some (sym (of_side-with_side_other s side new row.descriptor.words apart) ∙ here.1),
                )
          ]
      | inr there ↦ inr ((λ both. there.0 both.0), there.1)
    ]

-- if the word that changes isn't `word`, each place that has `word` keeps it
pub word_kept : (rows : List DescriptorRow) (d : ℕ) (row : DescriptorRow) (side : Side) (new : WaitWord) (k : ℕ) (s : Side) (word : WaitWord) → slice_get rows d ≡ Some row
    → of_side side row.descriptor.words ≢ word → HasWaitWord rows k s word → HasWaitWord (with_word_at rows d row side new) k s word
word_kept rows d row side new k s word at other has =
    elim (slice_get-set_cases rows d row (with_words row (with_side side new row.descriptor.words)) k at) [
      | inl here ↦
          let was : of_side s row.descriptor.words ≡ word =
          same_Some _ _ (sym (ap (option_map (λ (r : DescriptorRow). of_side s r.descriptor.words)) (ap (slice_get rows) here.0 ∙ at)) ∙ has)
          in
          elim (other_side s side) [
            | inl same ↦ absurd (other (ap (λ x. of_side x row.descriptor.words) (sym same) ∙ was))
            | inr apart ↦
                ap (option_map (λ (r : DescriptorRow). of_side s r.descriptor.words)) here.1
                ∙ ap Some (of_side-with_side_other s side new row.descriptor.words apart ∙ was)
          ]
      | inr there ↦ ap (option_map (λ (r : DescriptorRow). of_side s r.descriptor.words)) there.1 ∙ has
    ]
