-- The marks of a descriptor, and the byte that encodes them.
use Rattle.std.specs.Prelude.{◌≡◌, ℕ, ◌+◌, ◌*◌, ◌/◌, ◌%◌, ◌<◌, ◌==◌, Bool}
use Rattle.std.proofs.Common.{arith}
use Rattle.nr_rev.specs.declared.sides.Sides.{Sides}
use Rattle.nr_rev.specs.Lock.{bit}
use Rattle.nr_rev.proofs.BitLemmas.{bit_of}

-- the marks of a descriptor
pub record DescMarks : Type 0 where
  pub closing : Bool
  pub event_error : Bool
  pub running : Sides Bool

-- the byte of the marks: bit 0 is closing, bit 1 an event error, bit 2 a running read timer, bit 3
-- a running write timer
abbrev pub marks_number : DescMarks → ℕ
marks_number marks = bit marks.closing + 2 * bit marks.event_error + 4 * bit marks.running.read
    + 8 * bit marks.running.write

-- the marks that a byte encodes
abbrev pub marks_of : ℕ → DescMarks
marks_of n =
    record {
      closing = n % 2 == 1;
      event_error = n / 2 % 2 == 1;
      running = record { read = n / 4 % 2 == 1; write = n / 8 % 2 == 1 };
    }

-- decoding a byte below 16 to marks and encoding these marks again gives the same byte
pub marks_number-marks_of : (n : ℕ) → n < 16 → marks_number (marks_of n) ≡ n
marks_number-marks_of n small =
    omega (arith, bit_of n, bit_of (n / 2), bit_of (n / 4), bit_of (n / 8))
