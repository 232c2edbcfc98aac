use Rattle.std.proofs.Common.{◌≡◌, ◌<◌, ◌≤◌, ℕ, false, slice_index}
use Rattle.nr_recording.proofs.plain.has_control.Given as goal

-- if the search hasn't found a control character, the bytes searched so far contain none
abbrev pub invariant-loop-byte : goal.invariant-loop-byte
invariant-loop-byte l = l.found ≡ false → (k : ℕ) → k < l.byte-index → 32 ≤ slice_index l.bytes k
