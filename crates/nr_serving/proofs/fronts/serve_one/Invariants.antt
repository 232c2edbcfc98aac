use Rattle.std.proofs.Common.{◌≡◌, length}
use Rattle.std.specs.List.{list_any}
use Rattle.nr_serving.specs.Fronts.{came, is_failure}
use Rattle.nr_serving.specs.Auxiliary.Fronts.{ServesCallers}
use Rattle.nr_serving.proofs.fronts.serve_one.Given as goal

-- all callers so far have been served
abbrev pub invariant-loop : goal.invariant-loop
invariant-loop g l =
    (l.front.table ≡ l.journal) × (l.callers.arrivals ≡ came l.callers.callers) × ServesCallers l.callers.callers l.fn.front l.front × (l.failed ≡ list_any is_failure l.callers.callers) × (length l.callers.arrivals ≡ l.counter)
