-- The marks, the results of making and deleting a mark, and the marks after a stop.
use Rattle.std.specs.Prelude.{ℕ, ◌+◌, ◌==◌, ◌&&◌, Bool, true, false, not, List, Result, Ok, Err, if◌then◌else◌}
use Rattle.std.specs.List.{list_any}
use Rattle.nr_marks.specs.Numbered.{NumberedItems, is_full, is_present, kept_by}
use Rattle.nr_marks.specs.declared.mark.Mark.{Mark}
use Rattle.nr_marks.specs.declared.mark.Mark.TheVariants.{TemporaryBreak, Watch}
use Rattle.nr_marks.specs.declared.marks.MarkFault.{MarkFault}
use Rattle.nr_marks.specs.declared.marks.MarkFault.TheVariants.{NoSuchMark, MarksFull}
use Rattle.nr_marks.specs.declared.numbered.Numbered.{Numbered}

-- a mark and its number
abbrev pub NumberedMark : Type 0
NumberedMark = Numbered Mark

-- the marks, and the number of marks ever made
abbrev pub MarkList : Type 0
MarkList = NumberedItems Mark

-- The result of making a mark: it gets the next number.
abbrev pub next_number : MarkList → Result ℕ MarkFault
next_number table = if is_full table then Err MarksFull else Ok (table.made + 1)

-- The result of deleting a mark.
abbrev pub mark_deletion : ℕ → MarkList → Result (Unit {0}) MarkFault
mark_deletion number table = if is_present number table then Ok tt else Err NoSuchMark

-- True if the mark is deleted after the first stop at which it hits.
abbrev pub is_temporary : Mark → Bool
is_temporary (TemporaryBreak wanted) = true
is_temporary _ = false

-- True for a watchpoint, whose hits depend on worlds; a breakpoint's hits depend on steps only.
abbrev pub is_watch : Mark → Bool
is_watch (Watch c) = true
is_watch _ = false

-- true if one of the marks is a watchpoint
abbrev pub any_watch : List NumberedMark → Bool
any_watch marks = list_any (λ m. is_watch m.item) marks

-- True if a stop deletes the mark: it is temporary, and its number is among those of the marks that
-- hit.
abbrev pub goes : List ℕ → NumberedMark → Bool
goes hits m = is_temporary m.item && list_any (λ number. number == m.number) hits

-- The marks that remain after a stop. Only the temporary marks that hit are deleted.
abbrev pub after_stop : List ℕ → MarkList → MarkList
after_stop hits table = kept_by (λ m. not (goes hits m)) table
