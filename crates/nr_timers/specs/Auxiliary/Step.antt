-- Helper definitions for `Step`. The laws in THEOREM.md don't use them.
use Rattle.std.specs.Prelude.{◌^◌, ◌-◌, ◌*◌, nat_lt, int_le, length, if◌then◌else◌, Option, Some, None}
use Rattle.nr_rev.specs.declared.refusal.Refusal.{Refusal}
use Rattle.nr_rev.specs.declared.refusal.Refusal.TheVariants.{NoSuchDescriptor, NoTimerDue, FiringsFull, NoSuchFiring, LastNumber}
use Rattle.nr_timers.specs.declared.op.TimersOp.{TimersOp}
use Rattle.nr_timers.specs.declared.op.TimersOp.TheVariants.{Arm, Stop, Pop, TakeFiring}
use Rattle.nr_timers.specs.Order.{at}
use Rattle.nr_timers.specs.State.{State}

-- the first reason why an operation is refused, if it is
abbrev pub timers_reason : State → TimersOp → Option Refusal
timers_reason old (Arm d side due function sequence) =
    if nat_lt d old.descriptors
    then (if nat_lt old.next (2 ^ 64 - 1) then None else Some LastNumber)
    else Some NoSuchDescriptor
timers_reason old (Stop d side) = if nat_lt d old.descriptors then None else Some NoSuchDescriptor
timers_reason old (Pop now) =
    if nat_lt 0 (length old.entries)
    then (if int_le (at old.entries 0).timer.due now
    then (if nat_lt (length old.firings) (2 * old.descriptors) then None else Some FiringsFull)
    else Some NoTimerDue)
    else Some NoTimerDue
timers_reason old (TakeFiring place) =
    if nat_lt place (length old.firings) then None else Some NoSuchFiring

-- no operation allocates memory
abbrev pub TakesMemory : State → TimersOp → Type 0
TakesMemory old op = ⊥
