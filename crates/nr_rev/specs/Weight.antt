-- The weight of a value is its size in words. A number has at most 64 bits and counts as one word.
-- A Boolean and the tag of a variant count as one word each. Bytes are counted in words of eight
-- bytes, rounded up. These definitions give the size of all data that are kept for undoing.
use Rattle.std.specs.Prelude.{ℕ, ◌+◌, ◌/◌, ℤ, Bool, List, length, Option, Some, None}
use Rattle.nr_rev.specs.declared.sides.Side.{Side}
use Rattle.nr_rev.specs.declared.sides.Sides.{Sides}
use Rattle.nr_rev.specs.declared.descriptor.WaitWord.{WaitWord}
use Rattle.nr_rev.specs.declared.descriptor.WaitWord.TheVariants as word
use Rattle.nr_rev.specs.declared.descriptor.Descriptor.{Descriptor}
use Rattle.nr_rev.specs.declared.descriptor.DescriptorRow.{DescriptorRow}
use Rattle.nr_rev.specs.declared.status.Status.{Status}
use Rattle.nr_rev.specs.declared.status.Status.TheVariants as status
use Rattle.nr_rev.specs.declared.lock.Lock.{Lock}
use Rattle.nr_rev.specs.declared.timer.Timer.{Timer}
use Rattle.nr_rev.specs.declared.timer.TimerFunction.{TimerFunction}
use Rattle.nr_rev.specs.declared.timer.Entry.{Entry}

-- the weight of a variant's tag: one word
abbrev pub variant_weight : ℕ
variant_weight = 1

-- the weight of a number: one word
abbrev pub number_weight : ℕ → ℕ
number_weight n = 1

-- the weight of a time: one word
abbrev pub time_weight : ℤ → ℕ
time_weight t = 1

-- the weight of a Boolean: one word
abbrev pub bool_weight : Bool → ℕ
bool_weight b = 1

-- the weight of bytes: one word for each eight bytes, rounded up
abbrev pub bytes_weight : List ℕ → ℕ
bytes_weight bytes = (length bytes + 7) / 8

-- the weight of an optional value: its variant's tag, and the value if it has one
abbrev pub option_weight : {A : Type 0} → (A → ℕ) → Option A → ℕ
option_weight words None = variant_weight
option_weight words (Some a) = variant_weight + words a

-- the weight of a side: one word
abbrev pub side_weight : Side → ℕ
side_weight side = variant_weight

-- the weight of a pair for both sides: the sum of its two values' weights
abbrev pub sides_weight : {A : Type 0} → (A → ℕ) → Sides A → ℕ
sides_weight words both = words both.read + words both.write

-- the weight of a wait word: its variant's tag, and the number of the goroutine if it holds one
abbrev pub wait_word_weight : WaitWord → ℕ
wait_word_weight (word.Held g) = variant_weight + number_weight g
wait_word_weight _ = variant_weight

-- the weight of a status with a number and a side
abbrev pub wait_weight : ℕ → Side → ℕ
wait_weight n side = variant_weight + number_weight n + side_weight side

-- the weight of a status: its variant's tag, and the numbers and the side that it names
abbrev pub status_weight : Status → ℕ
status_weight status.Idle = variant_weight
status_weight (status.Acquiring s side) = wait_weight s side
status_weight (status.Queued s side) = wait_weight s side
status_weight (status.Relock s side) = wait_weight s side
status_weight (status.Owing s reads writes) =
    variant_weight + number_weight s + number_weight reads + number_weight writes
status_weight (status.Entering d side) = wait_weight d side
status_weight (status.Armed d side) = wait_weight d side
status_weight (status.Parking d side) = wait_weight d side
status_weight (status.Parked d side) = wait_weight d side
status_weight (status.Swapping d side) = wait_weight d side
status_weight (status.Checking d side) = wait_weight d side
status_weight status.Gone = variant_weight

-- the weight of a lock: the sum of the weights of closed, locked, references and waiters
abbrev pub lock_weight : Lock → ℕ
lock_weight lock =
    bool_weight lock.closed + sides_weight bool_weight lock.locked + number_weight lock.references
    + sides_weight number_weight lock.waiters

-- the weight of a timer's function: one word
abbrev pub function_weight : TimerFunction → ℕ
function_weight function = variant_weight

-- the weight of a timer: the sum of the weights of due, number, function and sequence
abbrev pub timer_weight : Timer → ℕ
timer_weight timer =
    time_weight timer.due + number_weight timer.number + function_weight timer.function
    + number_weight timer.sequence

-- the weight of a heap entry: the sum of the weights of its descriptor number, side and timer
abbrev pub entry_weight : Entry → ℕ
entry_weight entry =
    number_weight entry.descriptor + side_weight entry.side + timer_weight entry.timer

-- the weight of a descriptor: the sum of the weights of its eight fields
abbrev pub descriptor_weight : Descriptor → ℕ
descriptor_weight d =
    sides_weight wait_word_weight d.words + bool_weight d.closing + bool_weight d.event_error
    + sides_weight time_weight d.deadlines
    + sides_weight bool_weight d.running
    + sides_weight number_weight d.sequences
    + number_weight d.fdseq
    + number_weight d.socket

-- the weight of a row: the sum of the weights of its descriptor and the armed timers
abbrev pub row_weight : DescriptorRow → ℕ
row_weight row =
    descriptor_weight row.descriptor + sides_weight (option_weight timer_weight) row.timers
