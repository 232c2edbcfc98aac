use Rattle.std.proofs.Common.{◌≡◌, ◌≤◌, replicate, vec_capacity}
use Rattle.nr_search.specs.declared.slot.Slot.TheVariants.{Unknown}
use Rattle.nr_search.proofs.slot.unknown.Given as goal

-- the list contains the slots added so far, and has room for all slots
abbrev pub invariant-loop : goal.invariant-loop
invariant-loop l = (l.known.items ≡ replicate l.counter Unknown) × (l.fn.count ≤ vec_capacity l.known) × (l.count ≡ l.fn.count)
