use Rattle.std.proofs.Common.{map, take}
use Rattle.nr_search.specs.Reports.{AddsTo, noted}
use Rattle.nr_search.proofs.search.Search.decide_by.Given as goal

-- the table contains the results from all reports in the rows read so far
abbrev pub invariant-loop-reports : goal.invariant-loop-reports
invariant-loop-reports g l = AddsTo l.fn.table (noted (map (λ one_worker. one_worker.items) (take l.reports-index l.by_worker))) l.table
