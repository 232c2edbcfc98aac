-- The timer operations that steps request. They determine the timers' places in the heap, which the
-- represented world doesn't show.
use Rattle.std.specs.Prelude.{◌≡◌, ℕ, List, [], ◌∷◌, map, Ok, Err}
use Rattle.nr_rev.specs.declared.step.Step.{Step}
use Rattle.nr_rev.specs.declared.step.Step.TheVariants as step
use Rattle.nr_rev.specs.declared.timer.TimerOrder.{TimerOrder}
use Rattle.nr_rev.specs.declared.timer.TimerOrder.TheVariants as order
use Rattle.nr_desc.specs.Op.{Outcome}
use Rattle.nr_desc.specs.declared.op.DescOp.{DescOp}
use Rattle.nr_desc.specs.declared.op.DescOp.TheVariants as desc
use Rattle.nr_timers.specs.State.{State}
use Rattle.nr_timers.specs.Step.{TimersStep}
use Rattle.nr_timers.specs.declared.op.TimersOp.{TimersOp}
use Rattle.nr_timers.specs.declared.op.TimersOp.TheVariants as timers
use Rattle.nr_machine.specs.Changing.{desc_outcome}
use Rattle.nr_machine.specs.World.{WorldParts}

-- true if these operations, one after another, turn the old timers into the new ones
abbrev pub TimersMade : List TimersOp → State → State → Type 0
TimersMade [] old new = new ≡ old
TimersMade (op ∷ asked) old new =
    (mid : State) × TimersStep old op tt mid × TimersMade asked mid new

-- the operation that carries out an order to the timers of descriptor d
abbrev pub timers_op : ℕ → TimerOrder → TimersOp
timers_op d (order.Arm side due function sequence) = timers.Arm d side due function sequence
timers_op d (order.Stop side) = timers.Stop d side

-- the timer operations that an outcome of descriptor d requests
abbrev pub asked_by : ℕ → Outcome → List TimersOp
asked_by d (Ok left) = map (timers_op d) left.1.orders
asked_by d (Err e) = []

-- the timer operations that an operation on descriptor d requests
abbrev pub asked_at : ℕ → DescOp → WorldParts → List TimersOp
asked_at d op m = asked_by d (desc_outcome d op m.core)

-- the timer operations that a step requests
abbrev pub asked_of : WorldParts → Step → List TimersOp
asked_of m (step.SetDeadline g d mode t) = asked_at d (desc.SetDeadline m.core.clock mode t) m
asked_of m (step.Evict g d) = asked_at d desc.Evict m
asked_of m step.Pop = timers.Pop m.core.clock ∷ []
asked_of m (step.Fire place) = timers.TakeFiring place ∷ []
asked_of m _ = []
