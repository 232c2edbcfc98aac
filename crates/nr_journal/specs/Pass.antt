-- The abstract value of a pass, and the effects of calls on it.
use Rattle.std.specs.Prelude.{◌≡◌, ◌≢◌, ◌<◌, ◌≤◌, ◌+◌, ◌⊎◌, ℕ, List, [], ◌++◌, length}
use Rattle.std.specs.List.{All}
use Rattle.atomic_table.specs.Seated.{TableId}
use Rattle.nr_journal.specs.declared.view.PassState.{PassState}
use Rattle.nr_journal.specs.declared.view.View.{View}
use Rattle.nr_journal.specs.declared.view.View.TheVariants.{Outside, Keeping, Within, Note, Spent}
use Rattle.nr_journal.specs.declared.pass.Offered.{Offered}
use Rattle.nr_journal.specs.declared.pass.Offered.TheVariants.{Placed, Lost, Full}
use Rattle.nr_journal.specs.Rule.{IsOthers, StartsWith}
use Rattle.nr_journal.specs.Auxiliary.Rule.{entering, having_seen, HasOpcode}

-- the abstract value of a pass: its journal, and what it knows
pub record Entered : Type 0 where
  pub table : TableId
  pub pass_state : PassState

-- the state of a pass, given the view of the pass, which is always `Within`
abbrev pub pass_state_of : View → PassState
pass_state_of (Outside _ _) = entering 0 0
pass_state_of (Keeping _ _) = entering 0 0
pass_state_of (Within pass_state) = pass_state
pass_state_of (Note _) = entering 0 0
pass_state_of Spent = entering 0 0

-- True if a pass can offer this word to a journal with this room and get this result. The offer
-- takes the pass from state `before` to state `after`.
abbrev pub WasOffered : ℕ → ℕ → PassState → PassState → Offered → Type 0
WasOffered word room before after Placed =
    (after ≡ having_seen before word) × (length before.seen < room)
WasOffered word room before after (Lost v) =
    (after ≡ having_seen before v) × (length before.seen < room) × HasOpcode v
    × IsOthers before.tag v × (before.passes ≢ 1)
WasOffered word room before after Full = (after ≡ before) × (length before.seen ≡ room)

-- true if the shorter of two lists is a prefix of the longer
abbrev pub AreInLine : List ℕ → List ℕ → Type 0
AreInLine xs ys =
    (length xs ≤ length ys → StartsWith ys xs) × (length ys ≤ length xs → StartsWith xs ys)

-- True if the pass placed no word: all newly read words belong to other passes, and there are none
-- if the journal has only one pass. The words that the pass learned from another pass are
-- unchanged.
abbrev pub SeesOthers : PassState → PassState → Type 0
SeesOthers before after = (added : List ℕ) × (after.seen ≡ before.seen ++ added)
    × All (IsOthers before.tag) added × (after.tag ≡ before.tag) × (after.learned ≡ before.learned)
    × (after.passes ≡ before.passes) × (before.passes ≡ 1 → added ≡ [])

-- true if the pass found no further word and has read all words that it learned from another pass,
-- or if it has read as many words as the journal has room for
abbrev pub CatchesUp : ℕ → PassState → PassState → Type 0
CatchesUp room before after =
    ((after.looks ≡ before.looks + 1) × StartsWith after.seen before.learned)
    ⊎ ((after.looks ≡ before.looks) × (length after.seen ≡ room))
