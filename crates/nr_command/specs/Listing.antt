-- The lines in which `info` lists marks and checkpoints.
use Rattle.std.specs.Prelude.{ℕ, List, ◌++◌, length, flat_map, codes, decimal}
use Rattle.nr_rev.specs.Kind.{kind_name}
use Rattle.nr_command.specs.Value.{cell_text}
use Rattle.nr_command.specs.Checkpoints.{Checkpoint}
use Rattle.nr_marks.specs.declared.mark.Break.{Break}
use Rattle.nr_marks.specs.declared.mark.Break.TheVariants as breaks
use Rattle.nr_marks.specs.declared.mark.Mark.{Mark}
use Rattle.nr_marks.specs.declared.mark.Mark.TheVariants as marks
use Rattle.nr_marks.specs.Marks.{NumberedMark}

-- where a break hits: before each step of a kind, or before the step with a number
abbrev pub break_text : Break → List ℕ
break_text (breaks.Kind kind) = kind_name kind
break_text (breaks.Step step) = codes "@" ++ decimal step.value

-- the command that makes a mark
abbrev pub mark_text : Mark → List ℕ
mark_text (marks.Break wanted) = codes "break " ++ break_text wanted
mark_text (marks.TemporaryBreak wanted) = codes "tbreak " ++ break_text wanted
mark_text (marks.Watch cell) = codes "watch " ++ cell_text cell

-- a line of the list of marks
abbrev pub mark_line : NumberedMark → List ℕ
mark_line m = decimal m.number ++ codes " " ++ mark_text m.item ++ codes "\n"

-- a line of the list of checkpoints
abbrev pub checkpoint_line : Checkpoint → List ℕ
checkpoint_line c = decimal c.number ++ codes " at " ++ decimal c.item ++ codes "\n"

-- the list of marks: a line with the number of marks, and then a line for each mark
abbrev pub marks_text : List NumberedMark → List ℕ
marks_text marks =
    codes "marks " ++ decimal (length marks) ++ codes "\n" ++ flat_map mark_line marks

-- the list of checkpoints: a line with the number of checkpoints, and then a line for each
-- checkpoint
abbrev pub checkpoints_text : List Checkpoint → List ℕ
checkpoints_text checkpoints = codes "checkpoints " ++ decimal (length checkpoints) ++ codes "\n"
    ++ flat_map checkpoint_line checkpoints
