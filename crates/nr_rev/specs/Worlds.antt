-- Statements about a world that don't depend on its representation.
use Rattle.std.specs.Prelude.{◌≡◌, ℕ, ◌<◌, Option, Some, None, Ok, Err}
use Rattle.nr_rev.specs.declared.answer.Answer.{Answer}
use Rattle.nr_rev.specs.declared.answer.Answer.TheVariants.{Got}
use Rattle.nr_rev.specs.declared.refusal.Refusal.{Refusal}
use Rattle.nr_rev.specs.declared.step.Step.{Step}
use Rattle.nr_rev.specs.declared.step.Step.TheVariants.{SysRead, Drain}
use Rattle.nr_rev.specs.Step.{Outcome, outcome}
use Rattle.nr_rev.specs.World.{World}

-- the reason why a step with this outcome does not apply
abbrev pub refusal_of : Outcome → Option Refusal
refusal_of (Ok left) = None
refusal_of (Err reason) = Some reason

-- the number of bytes that a read got, according to its answer
abbrev pub bytes_got : Answer → ℕ
bytes_got (Got k) = k
bytes_got _ = 0

-- the number of bytes that left a buffer at a step with this answer
abbrev pub bytes_left : Step → Answer → ℕ
bytes_left (SysRead g s n) answer = bytes_got answer
bytes_left (Drain s n) answer = n
bytes_left _ answer = 0

-- true if the step applies, and bytes leave a buffer
pub record LosesBytes (w : World) (step : Step) : Type 0 where
  pub answer : Answer
  pub next : World
  pub applies : outcome w step ≡ Ok (answer, next)
  pub loses : 0 < bytes_left step answer
