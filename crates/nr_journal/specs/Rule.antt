-- The invariant of a journal. Word 0 of its table has the tag bits, and the words after it are the
-- journal.
use Rattle.std.specs.Prelude.{◌≡◌, ◌≢◌, ℕ, ◌-◌, ◌/◌, ◌%◌, List, ◌++◌}
use Rattle.std.specs.List.{All}
use Rattle.atomic_table.specs.Seated.{TableId}
use Rattle.nr_journal.specs.declared.rule.TheConstants.{BYTE_VALUES}

-- the tag of a word, its second byte
abbrev pub tag_of : ℕ → ℕ
tag_of word = word / BYTE_VALUES % BYTE_VALUES

-- true if the word doesn't have this tag, so another pass placed it
abbrev pub IsOthers : ℕ → ℕ → Type 0
IsOthers tag word = tag_of word ≢ tag

-- true if the second list is a prefix of the first
abbrev pub StartsWith : List ℕ → List ℕ → Type 0
StartsWith log seen = (rest : List ℕ) × (log ≡ seen ++ rest)

-- true if the log begins with the words read, and every word with the tag is among them
abbrev pub Covers : List ℕ → ℕ → List ℕ → Type 0
Covers log tag seen = (rest : List ℕ) × (log ≡ seen ++ rest) × All (IsOthers tag) rest

-- the number of words that a journal has room for: its table also has the word of the tag bits
abbrev pub journal_room : TableId → ℕ
journal_room table = table.words - 1
