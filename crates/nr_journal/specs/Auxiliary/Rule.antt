-- Helper definitions for `Rule`. The laws in THEOREM.md don't use them.
use Rattle.std.specs.Prelude.{◌≡◌, ℕ, ◌+◌, ◌%◌, ◌<◌, ◌≤◌, if◌then◌else◌, List, [], ◌∷◌, ◌++◌, length, replicate}
use Rattle.std.specs.List.{All}
use Rattle.std.specs.Int.{bit_at}
use mathlib.Core.Option.{some}
use lib.ListN.{get_elem?}
use Rattle.nr_journal.specs.declared.rule.Purpose.{Purpose}
use Rattle.nr_journal.specs.declared.rule.TheConstants.{BYTE_VALUES, GREATEST_OPCODE}
use Rattle.nr_journal.specs.declared.view.PassState.{PassState}
use Rattle.nr_journal.specs.declared.view.View.{View}
use Rattle.nr_journal.specs.declared.view.View.TheVariants.{Outside, Keeping, Within, Note, Spent}
use Rattle.nr_journal.specs.Rule.{Covers, StartsWith, tag_of}

-- true if the lowest byte of a word is an opcode
abbrev pub HasOpcode : ℕ → Type 0
HasOpcode word = (1 ≤ word % BYTE_VALUES) × (word % BYTE_VALUES ≤ GREATEST_OPCODE)

-- true if the bit of the tag is set
abbrev pub IsDrawn : ℕ → ℕ → Type 0
IsDrawn tags tag = bit_at tags tag ≡ 1

-- true if the bits of this many tags are set, from tag 0 on
abbrev pub AreDrawn : ℕ → ℕ → Type 0
AreDrawn tags count = (tag : ℕ) → tag < count → IsDrawn tags tag

-- true if each tag whose bit is set is below this number
abbrev pub AreFew : ℕ → ℕ → Type 0
AreFew passes tags = (tag : ℕ) → IsDrawn tags tag → tag < passes

-- true if the tag of a word is below this number
abbrev pub HasTagBelow : ℕ → ℕ → Type 0
HasTagBelow passes word = tag_of word < passes

-- true if some pass may have placed the word
abbrev pub IsEntry : ℕ → ℕ → Type 0
IsEntry tags word = HasOpcode word × IsDrawn tags (tag_of word)

-- True if a view is correct. The view of a seat, a pass or the remaining passes has the journal's
-- maximum number of passes. The words of a note are a prefix of the log. For a seat, the bits of
-- the tags that it tried are set. For the remaining passes, the bits of all tags are set, and no
-- word has the tag of a remaining pass. For a pass, the bits of its tag and of all lower tags are
-- set. The words that the pass has read are a prefix of the log, and this prefix contains every
-- word with the pass's tag. The words that the pass learned from another pass are also a prefix of
-- the log.
abbrev pub Fits : ℕ → ℕ → List ℕ → View → Type 0
Fits most tags log (Outside tried passes) = (passes ≡ most) × AreDrawn tags tried
Fits most tags log (Keeping next passes) =
    (passes ≡ most) × AreDrawn tags passes × All (HasTagBelow next) log
Fits most tags log (Within pass_state) =
    (pass_state.passes ≡ most) × AreDrawn tags (pass_state.tag + 1)
    × Covers log pass_state.tag pass_state.seen × StartsWith log pass_state.learned
Fits most tags log (Note seen) = StartsWith log seen
Fits most tags log Spent = Unit {0}

-- true if the view belongs to a pass with this tag, or to remaining passes that include this tag
abbrev pub HasTag : View → ℕ → Type 0
HasTag (Outside _ _) tag = ⊥
HasTag (Keeping next passes) tag = (next ≤ tag) × (tag < passes)
HasTag (Within pass_state) tag = pass_state.tag ≡ tag
HasTag (Note _) tag = ⊥
HasTag Spent tag = ⊥

-- true if no two passes have the same tag
abbrev pub AreApart : List View → Type 0
AreApart views =
    (i j tag : ℕ) (v w : View) → get_elem? views i ≡ some v → get_elem? views j ≡ some w
    → HasTag v tag → HasTag w tag → i ≡ j

-- true if each tag whose bit is set belongs to a pass or to a remaining pass
abbrev pub AreTaken : ℕ → List View → Type 0
AreTaken tags views = (tag : ℕ) → IsDrawn tags tag
    → (id : ℕ) × (v : View) × (get_elem? views id ≡ some v) × HasTag v tag

-- The invariant of a journal. There is one log: the journal is the log followed by zeros, each word
-- of the log is an entry, and all views are correct.
pub record Kept (purpose : Purpose) (words : List ℕ) (views : List View) : Type 0 where
  pub tags : ℕ
  pub log : List ℕ
  pub free : ℕ
  pub words_are : words ≡ tags ∷ (log ++ replicate free 0)
  pub room_is : length log + free ≡ purpose.words
  pub entries : All (IsEntry tags) log
  pub each_view : (id : ℕ) (v : View) → get_elem? views id ≡ some v → Fits purpose.passes tags log v
  pub apart : AreApart views
  pub taken : AreTaken tags views
  pub few : AreFew purpose.passes tags

-- the view of the first seat of a journal with at most this many passes
abbrev pub newcomer : ℕ → View
newcomer passes = Outside 0 passes

-- the state of a pass that has just entered a journal, given the maximum number of passes and the
-- tag of the pass
abbrev pub entering : ℕ → ℕ → PassState
entering passes tag = record { tag = tag; seen = []; looks = 0; learned = []; passes = passes }

-- the first state of a journal's only pass
abbrev pub entering_alone : PassState
entering_alone = entering 1 0

-- the first view of a journal: the view of the remaining passes if all passes are made at once, or
-- else the view of the first seat
abbrev pub first_view : Purpose → View
first_view purpose =
    if purpose.drawn then Keeping 0 purpose.passes else newcomer purpose.passes

-- the state of a pass after a look that found no word
abbrev pub looked : PassState → PassState
looked pass_state = record {
  tag = pass_state.tag;
  seen = pass_state.seen;
  looks = pass_state.looks + 1;
  learned = pass_state.learned;
  passes = pass_state.passes;
}

-- the state of a pass after it read one more word
abbrev pub having_seen : PassState → ℕ → PassState
having_seen pass_state word = record {
  tag = pass_state.tag;
  seen = pass_state.seen ++ word ∷ [];
  looks = pass_state.looks;
  learned = pass_state.learned;
  passes = pass_state.passes;
}

-- the state of a pass after it learned the words that another pass has read; they replace the words
-- that it learned earlier
abbrev pub informed : PassState → List ℕ → PassState
informed pass_state learned = record {
  tag = pass_state.tag;
  seen = pass_state.seen;
  looks = pass_state.looks;
  learned = learned;
  passes = pass_state.passes;
}
