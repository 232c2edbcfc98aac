-- The name and the arguments in a line to write.
use Rattle.std.specs.Prelude.{ℕ, ℤ, Bool, List}
use Rattle.nr_rev.specs.declared.answer.Answer.{Answer}
use Rattle.nr_rev.specs.declared.sides.Side.{Side}
use Rattle.nr_rev.specs.declared.sides.Mode.{Mode}

-- a part of a line after its name: a 32-bit number, a 64-bit tag, a signed time, a side, a mode, a
-- bit, bytes, or the answer
pub data Argument : Type 0 where
  numeral : ℕ → Argument
  tag : ℕ → Argument
  time : ℤ → Argument
  side : Side → Argument
  mode : Mode → Argument
  bit : Bool → Argument
  digits : List ℕ → Argument
  answer : Answer → Argument
