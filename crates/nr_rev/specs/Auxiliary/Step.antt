-- Helper definitions for `Step`. The laws in THEOREM.md don't use them.
use Rattle.std.specs.Prelude.{◌≡◌, Ok}
use Rattle.nr_rev.specs.declared.answer.Answer.{Answer}
use Rattle.nr_rev.specs.declared.step.Step.{Step}
use Rattle.nr_rev.specs.Timer.{IsTime}
use Rattle.nr_rev.specs.World.{World}
use Rattle.nr_rev.specs.Step.{outcome}

-- true if the time in the step, if it has one, is in the range of times
abbrev pub IsTimely : Step → Type 0
IsTimely (Step.SetDeadline g d mode t) = IsTime t
IsTimely (Step.Tick t) = IsTime t
IsTimely _ = Unit {0}

-- true if the step applies, with this answer and next world
abbrev pub StepTo : World → Step → Answer → World → Type 0
StepTo w step answer next = outcome w step ≡ Ok (answer, next)
