-- The positions at which marks hit.
use Rattle.std.specs.Prelude.{ℕ, ◌+◌, ◌-◌, ◌==◌, Bool, false, not, List, slice_get, map, filter, Option, Some, None, option_map}
use Rattle.std.specs.Int.NonZero.{non_zero_u32_get}
use Rattle.nr_rev.specs.Cell.{cell, same_value}
use Rattle.nr_rev.specs.Kind.{kind_of, same_kind}
use Rattle.nr_rev.specs.Run.{Recording, world_at}
use Rattle.nr_rev.specs.World.{World}
use Rattle.nr_rev.specs.declared.cell_value.CellValue.{CellValue}
use Rattle.nr_rev.specs.declared.cell_value.CellValue.TheVariants.{Absent}
use Rattle.nr_rev.specs.declared.step.Step.{Step}
use Rattle.nr_marks.specs.declared.mark.Break.{Break}
use Rattle.nr_marks.specs.declared.mark.Break.TheVariants as break
use Rattle.nr_marks.specs.declared.mark.Mark.{Mark}
use Rattle.nr_marks.specs.declared.mark.Mark.TheVariants as mark
use Rattle.nr_marks.specs.declared.mark.NextStep.{NextStep}
use Rattle.nr_marks.specs.Marks.{NumberedMark}

-- True if a break names a step, by its kind or by its number.
abbrev pub names : Break → NextStep → Bool
names (break.Kind kind) step = same_kind kind step.kind
names (break.Step number) step = non_zero_u32_get number == step.number

-- True if a break names the next step.
abbrev pub break_hits : Break → Option NextStep → Bool
break_hits wanted None = false
break_hits wanted (Some step) = names wanted step

-- The value that a mark watches in a world: the value of its cell. A break watches no cell, so its
-- value counts as absent.
abbrev pub watched : World → Mark → CellValue
watched w (mark.Break wanted) = Absent
watched w (mark.TemporaryBreak wanted) = Absent
watched w (mark.Watch c) = cell w c

-- True if a mark hits. A break, temporary or not, hits if it names the next step. A watch hits if
-- its cell's value in this world differs from its value in the world before. Absence counts as a
-- value.
abbrev pub hits_by : CellValue → CellValue → Option NextStep → Mark → Bool
hits_by before now next (mark.Break wanted) = break_hits wanted next
hits_by before now next (mark.TemporaryBreak wanted) = break_hits wanted next
hits_by before now next (mark.Watch c) = not (same_value before now)

-- true if a mark hits between two worlds
abbrev pub mark_hits : World → World → Option NextStep → Mark → Bool
mark_hits before after next mark = hits_by (watched before mark) (watched after mark) next mark

-- The numbers of the marks that hit, in the order of the marks.
abbrev pub hits_between : World → World → Option NextStep → List NumberedMark → List ℕ
hits_between before after next marks =
    map (λ m. m.number) (filter (λ m. mark_hits before after next m.item) marks)

-- the number of a step, counted from 1, and its kind; a breakpoint checks nothing else
abbrev pub step_numbered : ℕ → Step → NextStep
step_numbered n step = record { number = n; kind = kind_of step }

-- the number and the kind of the step after position p, if there is such a step
abbrev pub numbered : ℕ → Option Step → Option NextStep
numbered p step = option_map (step_numbered (p + 1)) step

-- The marks that hit at position p of a recording. Before position 0 nothing has changed, so no
-- watch hits there.
abbrev pub hits_at : Recording → List NumberedMark → ℕ → List ℕ
hits_at r marks p =
    hits_between (world_at r (p - 1)) (world_at r p) (numbered p (slice_get r.steps p)) marks
