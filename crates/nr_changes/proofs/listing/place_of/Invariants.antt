use Rattle.std.proofs.Common.{◌≡◌, ◌++◌, drop, take}
use Rattle.std.specs.BTreeSet.{insert_key}
use Rattle.std.specs.Ordering.{nat_cmp}
use Rattle.nr_changes.proofs.listing.place_of.Given as goal

abbrev pub invariant-loop-i : goal.invariant-loop-i
invariant-loop-i l = insert_key nat_cmp l.numbers l.number ≡ take l.i l.numbers ++ insert_key nat_cmp (drop l.i l.numbers) l.number
