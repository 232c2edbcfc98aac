-- The meaning of an accepted recording.
use Rattle.std.specs.Prelude.{◌≡◌, ℕ, ◌+◌, Ok}
use Rattle.nr_rev.specs.Run.{Recording, world_at}
use Rattle.nr_rev.specs.Step.{outcome}
use Rattle.nr_rev.specs.declared.answer.Answer.{Answer}
use Rattle.nr_rev.specs.declared.step.Step.{Step}

-- The step applies at position n, with some answer, and turns the world there into the world of the
-- next position.
abbrev pub LeadsOnAt : Recording → ℕ → Step → Type 0
LeadsOnAt r n step =
    (answer : Answer) × (outcome (world_at r n) step ≡ Ok (answer, world_at r (n + 1)))
