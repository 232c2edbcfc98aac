-- Commands as words.
use Rattle.std.specs.Prelude.{ℕ, ◌+◌, ◌*◌, ◌/◌, ◌%◌, ◌^◌, ◌==◌, nat_lt, Option, Some, None, option_map, if◌then◌else◌}
use Rattle.std.specs.Option.{option_or}
use Rattle.std.specs.declared.num.NonZeroU32.{NonZeroU32}
use Rattle.nr_rev.specs.declared.cell.Cell.{Cell}
use Rattle.nr_rev.specs.CellName.{cell_index, cell_number, cell_numbered}
use Rattle.nr_rev.specs.Kind.{kind_number, kind_numbered}
use Rattle.nr_command.specs.Count.{from_one}
use Rattle.nr_marks.specs.declared.mark.Break.{Break}
use Rattle.nr_marks.specs.declared.mark.Break.TheVariants as breaks
use Rattle.nr_search.specs.declared.direction.Direction.{Direction}
use Rattle.nr_search.specs.declared.direction.Direction.TheVariants.{Forward, Backward}
use Rattle.nr_command.specs.declared.command.Command.{Command}
use Rattle.nr_command.specs.declared.command.Command.TheVariants.{Step, ReverseStep, Continue, ReverseContinue, SetDirection, Watch, Delete, Checkpoint, Restart, DeleteCheckpoint, TemporaryBreak}
use Rattle.nr_command.specs.declared.command.Command.TheVariants as commands

-- the opcode of a command
abbrev pub opcode_of : Command → ℕ
opcode_of (Step count) = 1
opcode_of (ReverseStep count) = 2
opcode_of Continue = 3
opcode_of ReverseContinue = 4
opcode_of (SetDirection direction) = 5
opcode_of (commands.Break at) = 6
opcode_of (Watch cell) = 7
opcode_of (Delete number) = 8
opcode_of Checkpoint = 9
opcode_of (Restart number) = 10
opcode_of (DeleteCheckpoint number) = 11
opcode_of (TemporaryBreak at) = 12

-- an index, or 0 if there is none
abbrev pub index_or_0 : Option ℕ → ℕ
index_or_0 None = 0
index_or_0 (Some index) = index

-- a break as a number: its low byte says whether the break names a kind or a step, and the rest is
-- the number of that kind or step
abbrev pub break_number : Break → ℕ
break_number (breaks.Kind kind) = 256 * kind_number kind
break_number (breaks.Step step) = 1 + 256 * step.value

-- the argument of a command
abbrev pub argument_of : Command → ℕ
argument_of (Step count) = count.value
argument_of (ReverseStep count) = count.value
argument_of (SetDirection Forward) = 0
argument_of (SetDirection Backward) = 1
argument_of (commands.Break at) = break_number at
argument_of (TemporaryBreak at) = break_number at
argument_of (Watch cell) = cell_number cell + 256 * index_or_0 (cell_index cell)
argument_of (Delete number) = number
argument_of (Restart number) = number
argument_of (DeleteCheckpoint number) = number
argument_of _ = 0

-- the word of a command with a tag
abbrev pub word_of : ℕ → Command → ℕ
word_of tag command = opcode_of command + 256 * tag + 65536 * argument_of command

infixl 10 ◌>>=◌
-- passes a value, if there is one, on to the next function
abbrev pub ◌>>=◌ : {A B : Type 0} → Option A → (A → Option B) → Option B
None >>= f = None
(Some x) >>= f = f x

-- a number, if it has at most 32 bits
abbrev pub small : ℕ → Option ℕ
small n = if nat_lt n (2 ^ 32) then Some n else None

-- a number, if it has at most 32 bits and isn't 0
abbrev pub from_one_below : ℕ → Option NonZeroU32
from_one_below n = small n >>= from_one

-- the command, if the word's argument is 0; otherwise `None`, because the command takes no argument
abbrev pub only_without : ℕ → Command → Option Command
only_without argument command = if argument == 0 then Some command else None

-- the direction that a word's argument names
abbrev pub direction_numbered : ℕ → Option Direction
direction_numbered argument =
    if argument == 0 then Some Forward else if argument == 1 then Some Backward else None

-- the break that this number represents
abbrev pub break_numbered : ℕ → Option Break
break_numbered argument =
    if argument % 256 == 0 then option_map breaks.Kind (kind_numbered (argument / 256))
    else if argument % 256 == 1 then option_map breaks.Step (from_one_below (argument / 256))
    else None

-- the cell with this number and index; the index 0 also stands for no index
abbrev pub cell_at : ℕ → ℕ → Option Cell
cell_at number index =
    if index == 0 then option_or (cell_numbered number None) (cell_numbered number (Some index))
    else cell_numbered number (Some index)

-- the cell that a word's argument names: its low byte is the cell's number, and the rest is the
-- index
abbrev pub watch_at : ℕ → Option Cell
watch_at argument = small (argument / 256) >>= cell_at (argument % 256)

-- the command with an opcode and an argument
abbrev pub command_with : ℕ → ℕ → Option Command
command_with opcode argument =
    if opcode == 1 then option_map Step (from_one_below argument)
    else if opcode == 2 then option_map ReverseStep (from_one_below argument)
    else if opcode == 3 then only_without argument Continue
    else if opcode == 4 then only_without argument ReverseContinue
    else if opcode == 5 then option_map SetDirection (direction_numbered argument)
    else if opcode == 6 then option_map commands.Break (break_numbered argument)
    else if opcode == 7 then option_map Watch (watch_at argument)
    else if opcode == 8 then option_map Delete (small argument)
    else if opcode == 9 then only_without argument Checkpoint
    else if opcode == 10 then option_map Restart (small argument)
    else if opcode == 11 then option_map DeleteCheckpoint (small argument)
    else if opcode == 12 then option_map TemporaryBreak (break_numbered argument)
    else None

-- the tag and the command of a word, or `None` if no command has this word
abbrev pub command_of : ℕ → Option (ℕ × Command)
command_of word =
    option_map (λ command. (word / 256 % 256, command)) (command_with (word % 256) (word / 65536))
