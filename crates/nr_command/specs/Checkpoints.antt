-- The checkpoints, and the results of making and deleting a checkpoint.
use Rattle.std.specs.Prelude.{ℕ, Result, Ok, Err, if◌then◌else◌}
use Rattle.nr_marks.specs.Numbered.{NumberedItems, is_full, newest, is_present}
use Rattle.nr_marks.specs.declared.numbered.Numbered.{Numbered}
use Rattle.nr_command.specs.declared.checkpoint.CheckpointFault.{CheckpointFault}
use Rattle.nr_command.specs.declared.checkpoint.CheckpointFault.TheVariants.{NoSuchCheckpoint, CheckpointsFull}

-- a kept position and its number
abbrev pub Checkpoint : Type 0
Checkpoint = Numbered ℕ

-- the checkpoints, and how many were ever made
abbrev pub CheckpointList : Type 0
CheckpointList = NumberedItems ℕ

-- the result of keeping a position: a checkpoint with the next number
abbrev pub next_checkpoint : ℕ → CheckpointList → Result Checkpoint CheckpointFault
next_checkpoint position table =
    if is_full table then Err CheckpointsFull else Ok (newest position table)

-- the result of deleting the checkpoint with this number
abbrev pub checkpoint_deletion : ℕ → CheckpointList → Result (Unit {0}) CheckpointFault
checkpoint_deletion number table = if is_present number table then Ok tt else Err NoSuchCheckpoint
