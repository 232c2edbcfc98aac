-- The abstract values of a seat and of the remaining passes.
use Rattle.std.specs.Prelude.{ℕ}
use Rattle.atomic_table.specs.Seated.{TableId}
use Rattle.nr_journal.specs.declared.view.View.{View}
use Rattle.nr_journal.specs.declared.view.View.TheVariants.{Outside, Keeping, Within, Note, Spent}

-- The abstract value of a seat: its journal, the number of tags that it has tried, and the maximum
-- number of passes of the journal. A seat tries the tags in order, from 0, until it finds a free
-- one.
pub record Waiting : Type 0 where
  pub table : TableId
  pub tried : ℕ
  pub passes : ℕ

-- the abstract value of the remaining passes: their journal, the tag of the next pass, and the
-- number of passes of the journal
pub record Left : Type 0 where
  pub table : TableId
  pub next : ℕ
  pub passes : ℕ

-- the number of tags that a seat has tried, given the view of the seat, which is always `Outside`
abbrev pub tried_of : View → ℕ
tried_of (Outside tried _) = tried
tried_of (Keeping _ _) = 0
tried_of (Within _) = 0
tried_of (Note _) = 0
tried_of Spent = 0

-- The tag of the next remaining pass, given the view of the remaining passes. That view is always
-- `Keeping`.
abbrev pub next_of : View → ℕ
next_of (Outside _ _) = 0
next_of (Keeping next _) = next
next_of (Within _) = 0
next_of (Note _) = 0
next_of Spent = 0

-- the maximum number of passes of the journal, given the view of a seat (`Outside`) or the view of
-- the remaining passes (`Keeping`)
abbrev pub passes_of : View → ℕ
passes_of (Outside _ passes) = passes
passes_of (Keeping _ passes) = passes
passes_of (Within _) = 0
passes_of (Note _) = 0
passes_of Spent = 0
