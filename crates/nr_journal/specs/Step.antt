-- The view after a step on a journal's table, depending on what the step found.
use Rattle.std.specs.Prelude.{◌≡◌, ◌≢◌, ℕ, ◌+◌, ◌-◌, List, [], slice_index}
use Rattle.std.specs.List.{All}
use Rattle.std.specs.Int.{bit_at}
use Rattle.atomic_table.specs.Table.{Me, Step}
use Rattle.nr_journal.specs.declared.view.PassState.{PassState}
use Rattle.nr_journal.specs.declared.view.View.{View}
use Rattle.nr_journal.specs.declared.view.View.TheVariants.{Outside, Keeping, Within, Note, Spent}
use Rattle.nr_journal.specs.Rule.{IsOthers, StartsWith}
use Rattle.nr_journal.specs.Auxiliary.Rule.{HasOpcode, HasTagBelow, entering, informed, looked, having_seen}

-- a seat of the table, without slots; its first component is its view
abbrev pub Seat : Type 0
Seat = Me (Unit {0}) View

-- true if the next word belongs to another pass, and the journal may have more than one pass
abbrev pub Found : PassState → ℕ → Seat → Type 0
Found pass_state found after =
    (after ≡ (Within (having_seen pass_state found), [])) × HasOpcode found
    × IsOthers pass_state.tag found × (pass_state.passes ≢ 1)

-- true if the next word is 0, and the pass has read all words that it learned from another pass; or
-- if the next word belongs to another pass
abbrev pub LookedFrom : View → ℕ → Seat → Type 0
LookedFrom (Within pass_state) found after =
    (found ≡ 0 → (after ≡ (Within (looked pass_state), []))
    × StartsWith pass_state.seen pass_state.learned)
    × (found ≢ 0 → Found pass_state found after)
LookedFrom _ found after = Unit {0}

-- true if reading the word `found` at the next place can turn seat `before` into `after`
abbrev pub Looked : Step (Unit {0}) → Seat → ℕ → Seat → Type 0
Looked step before found after = LookedFrom before.0 found after

-- true if the next word was 0 and is now the offered word, or if it belongs to another pass
abbrev pub OffersFrom : ℕ → View → ℕ → Seat → Type 0
OffersFrom word (Within pass_state) found after =
    (found ≡ 0 → after ≡ (Within (having_seen pass_state word), []))
    × (found ≢ 0 → Found pass_state found after)
OffersFrom word _ found after = Unit {0}

-- true if an offer that reads the word `found` at its place can turn seat `before` into `after`
abbrev pub Offers : Step (Unit {0}) → Seat → ℕ → Seat → Type 0
Offers step before found after = OffersFrom step.second before.0 found after

-- If the bit of the next tag was clear, the seat is now a pass with that tag. If the bit was set,
-- the seat goes on to the tag after it.
abbrev pub DrawsFrom : View → ℕ → Seat → Type 0
DrawsFrom (Outside tried passes) found after =
    (bit_at found tried ≡ 0 → after ≡ (Within (entering passes tried), []))
    × (bit_at found tried ≢ 0 → after ≡ (Outside (tried + 1) passes, []))
DrawsFrom _ found after = Unit {0}

-- true if reading the tag bits `found`, in an attempt to take the next tag, can turn seat `before`
-- into `after`
abbrev pub Draws : Step (Unit {0}) → Seat → ℕ → Seat → Type 0
Draws step before found after = DrawsFrom before.0 found after

-- true if a word that was read is still there
abbrev pub RereadsFrom : ℕ → View → ℕ → Seat → Type 0
RereadsFrom word (Within pass_state) found after =
    (after ≡ (Within pass_state, [])) × (found ≡ slice_index pass_state.seen (word - 1))
RereadsFrom word _ found after = Unit {0}

-- true if rereading a word and getting `found` can turn seat `before` into `after`
abbrev pub Rereads : Step (Unit {0}) → Seat → ℕ → Seat → Type 0
Rereads step before found after = RereadsFrom step.word before.0 found after

-- True if the pass is unchanged, and each word that it has read has a tag below the maximum number
-- of passes. The words that the pass has read and those that it learned from another pass are
-- prefixes of the same list.
abbrev pub ComparesFrom : View → Seat → Type 0
ComparesFrom (Within pass_state) after = (after ≡ (Within pass_state, []))
    × ((log : List ℕ) × StartsWith log pass_state.seen × StartsWith log pass_state.learned)
    × All (HasTagBelow pass_state.passes) pass_state.seen
ComparesFrom _ after = Unit {0}

-- true if a comparison with what another pass has read can turn seat `before` into `after`
abbrev pub Compares : Step (Unit {0}) → Seat → ℕ → Seat → Type 0
Compares step before found after = ComparesFrom before.0 after

-- the view of the remaining passes after the next one is handed out; other views stay the same
abbrev pub left_of : View → View
left_of (Outside tried passes) = Outside tried passes
left_of (Keeping next passes) = Keeping (next + 1) passes
left_of (Within pass_state) = Within pass_state
left_of (Note seen) = Note seen
left_of Spent = Spent

-- the view of the pass that is handed out next
abbrev pub given_by : View → View
given_by (Outside _ _) = Spent
given_by (Keeping next passes) = Within (entering passes next)
given_by (Within _) = Spent
given_by (Note _) = Spent
given_by Spent = Spent

-- a note of what a pass has read
abbrev pub note_of : View → View
note_of (Outside _ _) = Note []
note_of (Keeping _ _) = Note []
note_of (Within pass_state) = Note pass_state.seen
note_of (Note _) = Note []
note_of Spent = Note []

-- the words of a note
abbrev pub note_words : View → List ℕ
note_words (Outside _ _) = []
note_words (Keeping _ _) = []
note_words (Within _) = []
note_words (Note seen) = seen
note_words Spent = []

-- the view of a pass after it learns from a note which words another pass has read; other views
-- stay the same
abbrev pub learned_from : View → View → View
learned_from (Outside tried passes) note = Outside tried passes
learned_from (Keeping next passes) note = Keeping next passes
learned_from (Within pass_state) note = Within (informed pass_state (note_words note))
learned_from (Note seen) note = Note seen
learned_from Spent note = Spent
