use Rattle.std.proofs.Common.{◌≡◌, ◌≤◌, ◌+◌, length, drop}
use Rattle.nr_changes.specs.Changed.{in_order}
use Rattle.nr_changes.proofs.listing.in_order.Given as goal

abbrev pub invariant-loop-rest : goal.invariant-loop-rest
invariant-loop-rest l =
    record {
      within : l.rest ≤ length l.numbers;
      items : l.listed.items ≡ in_order (drop l.rest l.numbers);
      few : length l.listed.items + l.rest ≤ length l.numbers;
    }

abbrev pub decreases-loop-rest : goal.decreases-loop-rest
decreases-loop-rest l = l.rest
