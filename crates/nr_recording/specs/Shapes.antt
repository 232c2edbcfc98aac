-- The argument lists of steps. Each definition reads the arguments from the front of a list, and
-- makes a step from them.
use Rattle.std.specs.Prelude.{ℕ, ℤ, List, Bool, Result, Ok, Err}
use Rattle.serde_json.specs.Data.{Items}
use Rattle.nr_rev.specs.declared.sides.Side.{Side}
use Rattle.nr_rev.specs.declared.sides.Mode.{Mode}
use Rattle.nr_rev.specs.declared.step.Step.{Step}
use Rattle.nr_recording.specs.declared.fault.Fault.{Fault}
use Rattle.nr_recording.specs.Arguments.{◌and◌, none, number, tag, bit, moment, time, side, mode, bytes}

-- the step made from the values that were read, and the rest of the list
abbrev pub step_from : {A : Type 0} → (A → Step) → Result (A × Items) Fault
    → Result (Step × Items) Fault
step_from step (Ok found) = Ok (step found.0, found.1)
step_from step (Err f) = Err f

-- a step made from three values, the last two of which are a pair
abbrev pub with_three : {A B C : Type 0} → (A → B → C → Step) → A × (B × C) → Step
with_three step (first, (second, third)) = step first second third

-- a step made from four values
abbrev pub with_four : {A B C D : Type 0} → (A → B → C → D → Step) → A × (B × (C × D)) → Step
with_four step (first, (second, (third, fourth))) = step first second third fourth

-- no arguments
abbrev pub bare : Step → Items → Result (Step × Items) Fault
bare step ds = step_from (λ p. step) (none ds)

-- a number
abbrev pub one : (ℕ → Step) → Items → Result (Step × Items) Fault
one step ds = step_from (λ p. step p) (number ds)

-- two numbers
abbrev pub pair : (ℕ → ℕ → Step) → Items → Result (Step × Items) Fault
pair step ds = step_from (λ p. step p.0 p.1) ((number and number) ds)

-- three numbers
abbrev pub triple : (ℕ → ℕ → ℕ → Step) → Items → Result (Step × Items) Fault
triple step ds = step_from (with_three step) ((number and number and number) ds)

-- two numbers and a side
abbrev pub sided : (ℕ → ℕ → Side → Step) → Items → Result (Step × Items) Fault
sided step ds = step_from (with_three step) ((number and number and side) ds)

-- a number and bytes
abbrev pub arrival : (ℕ → List ℕ → Step) → Items → Result (Step × Items) Fault
arrival step ds = step_from (λ p. step p.0 p.1) ((number and bytes) ds)

-- two numbers and bytes
abbrev pub transfer : (ℕ → ℕ → List ℕ → Step) → Items → Result (Step × Items) Fault
transfer step ds = step_from (with_three step) ((number and number and bytes) ds)

-- two numbers, a mode and a signed time
abbrev pub deadline : (ℕ → ℕ → Mode → ℤ → Step) → Items → Result (Step × Items) Fault
deadline step ds = step_from (with_four step) ((number and number and mode and moment) ds)

-- a number, a tag, a mode and a bit
abbrev pub event : (ℕ → ℕ → Mode → Bool → Step) → Items → Result (Step × Items) Fault
event step ds = step_from (with_four step) ((number and tag and mode and bit) ds)

-- a time that is at least 0
abbrev pub timed : (ℤ → Step) → Items → Result (Step × Items) Fault
timed step ds = step_from (λ p. step p) (time ds)
