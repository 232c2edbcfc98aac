use Rattle.std.proofs.Common.{◌≡◌, ◌<◌, ◌++◌, decimal, length}
use Rattle.nr_recording.proofs.plain.digits.Given as goal

-- the text consists of the digits of the number read so far, followed by the rest
abbrev pub invariant-loop-left : goal.invariant-loop-left
invariant-loop-left l = (l.fn.text ≡ decimal l.number ++ l.left) × (0 < l.number) × (length l.left < length l.fn.text)

abbrev pub decreases-loop-left : goal.decreases-loop-left
decreases-loop-left l = length l.left
