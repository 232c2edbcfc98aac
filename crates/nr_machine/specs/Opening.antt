-- The outcome of opening a descriptor after its number is taken.
use Rattle.std.specs.Prelude.{ℕ, List, Ok}
use Rattle.nr_rev.specs.declared.answer.Answer.TheVariants.{Number}
use Rattle.nr_rev.specs.Descriptor.{opened_for}
use Rattle.nr_rev.specs.Refusing.{◌>>=◌}
use Rattle.nr_rev.specs.Step.{Outcome, row_of, taken}
use Rattle.nr_rev.specs.World.{World, with_descriptor}

-- the outcome of opening descriptor d for socket s, in a world in which the number d is already
-- taken
abbrev pub opening : ℕ → ℕ → World → Outcome
opening s d w = do
  row ← row_of d w
  descriptor ← opened_for s row.descriptor
  Ok (Number d, with_descriptor d row descriptor w)

-- takes a free number or a new one, and opens its descriptor for socket s
abbrev pub opening_of : ℕ → List ℕ → World → Outcome
opening_of s free w = do
  (d, next) ← taken free w
  opening s d next
