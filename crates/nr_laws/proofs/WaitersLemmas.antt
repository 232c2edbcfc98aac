-- The number of goroutines that the words of a well-formed world can hold.
use Rattle.std.proofs.Common.{◌*◌, ◌≤◌, List, [], ◌∷◌, length, arith}
use Rattle.std.proofs.lemmas.List.Sums.{sum_by-cons}
use Rattle.std.specs.Prelude.{Bool, true, false, sum_by}
use Rattle.nr_rev.specs.declared.descriptor.DescriptorRow.{DescriptorRow}
use Rattle.nr_rev.specs.Lock.{bit}
use Rattle.nr_rev.specs.WellFormed.{WellFormed, held_count, is_held}
use Rattle.nr_rev.specs.World.{World}

bit_le : (b : Bool) → bit b ≤ 1
bit_le true = omega arith
bit_le false = omega arith

held_within : (rows : List DescriptorRow) → sum_by held_count rows ≤ 2 * length rows
held_within [] = omega arith
held_within (row ∷ rows) =
    let one = sum_by-cons held_count row rows in
    let read = bit_le (is_held row.descriptor.words.read) in
    let write = bit_le (is_held row.descriptor.words.write) in
    let rest = held_within rows in
    omega (arith, one, read, write, rest)

-- at most two goroutines for each descriptor
pub waiters_within : (w : World) → WellFormed w → w.waiters ≤ 2 * w.limits.descriptors
waiters_within w h =
    let most = held_within w.descriptors in
    let made = h.descriptors_limited in
    let counted = h.words.counted in
    omega (arith, most, made, counted)
