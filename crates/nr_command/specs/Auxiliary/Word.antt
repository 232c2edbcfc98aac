-- Helper definitions for `Word`. The laws in THEOREM.md don't use them.
use Rattle.std.specs.Prelude.{◌^◌, ◌<◌, IfSome, ⊤}
use Rattle.nr_rev.specs.CellName.{cell_index}
use Rattle.nr_marks.specs.declared.mark.Break.{Break}
use Rattle.nr_marks.specs.declared.mark.Break.TheVariants as breaks
use Rattle.nr_command.specs.declared.command.Command.{Command}
use Rattle.nr_command.specs.declared.command.Command.TheVariants.{Step, ReverseStep, Watch, Delete, Restart, DeleteCheckpoint, TemporaryBreak}
use Rattle.nr_command.specs.declared.command.Command.TheVariants as commands

-- true if the break names no step, or the step's number has at most 32 bits, as its type says
abbrev pub HasTypedStep : Break → Type 0
HasTypedStep (breaks.Kind kind) = ⊤
HasTypedStep (breaks.Step step) = step.value < 2 ^ 32

-- true if the numbers in a command have at most 32 bits, as their types say
abbrev pub HasTypedNumbers : Command → Type 0
HasTypedNumbers (Step count) = count.value < 2 ^ 32
HasTypedNumbers (ReverseStep count) = count.value < 2 ^ 32
HasTypedNumbers (commands.Break at) = HasTypedStep at
HasTypedNumbers (TemporaryBreak at) = HasTypedStep at
HasTypedNumbers (Watch cell) = IfSome (cell_index cell) (λ index. index < 2 ^ 32)
HasTypedNumbers (Delete number) = number < 2 ^ 32
HasTypedNumbers (Restart number) = number < 2 ^ 32
HasTypedNumbers (DeleteCheckpoint number) = number < 2 ^ 32
HasTypedNumbers _ = ⊤
