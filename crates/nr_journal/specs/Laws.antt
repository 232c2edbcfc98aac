-- Consequences of the rule.
use Rattle.std.specs.Prelude.{◌≡◌, ℕ, ◌+◌, ◌<◌, List, [], ◌∷◌, length, slice_index}
use mathlib.Core.Option.{some}
use lib.ListN.{get_elem?}
use Rattle.nr_journal.specs.declared.journal.Journal.TheInside as journal_parts
use Rattle.nr_journal.specs.declared.pass.Pass.TheInside as pass_parts
use Rattle.nr_journal.specs.declared.seat.Seat.TheInside as seat_parts
use Rattle.nr_journal.specs.declared.rule.Purpose.{Purpose}
use Rattle.nr_journal.specs.declared.view.PassState.{PassState}
use Rattle.nr_journal.specs.declared.view.View.{View}
use Rattle.nr_journal.specs.declared.view.View.TheVariants.{Within}
use Rattle.nr_journal.specs.Rule.{tag_of}
use Rattle.nr_journal.specs.Auxiliary.Rule.{Kept, first_view}

-- if the first word that a pass hasn't read is 0, the pass has read the whole log
abbrev pub EmptyLookSeesAll : Type 0
EmptyLookSeesAll = (purpose : Purpose) (id : ℕ) (pass_state : PassState) (words : List ℕ)
    (views : List View) → (k : Kept purpose words views)
    → get_elem? views id ≡ some (Within pass_state)
    → slice_index words (length pass_state.seen + 1) ≡ 0 → k.log ≡ pass_state.seen

-- if a journal may have only one pass, that pass has read all words
abbrev pub AnOnlyPassSeesAll : Type 0
AnOnlyPassSeesAll = (purpose : Purpose) (id : ℕ) (pass_state : PassState) (words : List ℕ)
    (views : List View) → (k : Kept purpose words views)
    → get_elem? views id ≡ some (Within pass_state)
    → pass_state.passes ≡ 1 → k.log ≡ pass_state.seen

-- each word of the log has been read, at its index, by the pass with its tag
abbrev pub EachWordHasItsPass : Type 0
EachWordHasItsPass = (purpose : Purpose) (words : List ℕ) (views : List View)
    → (k : Kept purpose words views) → (place : ℕ) → place < length k.log
    → (id : ℕ) × (pass_state : PassState) × (get_elem? views id ≡ some (Within pass_state))
    × (pass_state.tag ≡ tag_of (slice_index k.log place)) × (place < length pass_state.seen)
    × (slice_index pass_state.seen place ≡ slice_index k.log place)

-- True if passes, seats and journals have only these fields. A pass has an `atomic_table::Seat`, an
-- index and a tag. A seat has an `atomic_table::Seat`, the number of tags that it has tried, and
-- the maximum number of passes. A journal has its table and its number of words. An
-- `atomic_table::Seat` has no bytes at run time.
pub record NothingIsHidden : Type 0 where
  pub pass : (one other : pass_parts.Inside)
      → one.seat ≡ other.seat → one.place ≡ other.place → one.tag ≡ other.tag → one ≡ other
  pub seat : (one other : seat_parts.Inside)
      → one.seat ≡ other.seat → one.tried ≡ other.tried
      → one.passes ≡ other.passes → one ≡ other
  pub journal : (one other : journal_parts.Inside)
      → one.table ≡ other.table → one.words ≡ other.words → one ≡ other

-- a journal has no words as long as its only view is the first one
abbrev pub BeginsEmpty : Type 0
BeginsEmpty = (purpose : Purpose) (words : List ℕ)
    → (k : Kept purpose words (first_view purpose ∷ [])) → k.log ≡ []
