use Rattle.std.proofs.Common.{take}
use Rattle.nr_search.specs.Reports.{AddsTo, said_in}
use Rattle.nr_search.proofs.slot.note_all.Given as goal

-- the table contains the results from all reports noted so far
abbrev pub invariant-loop-report : goal.invariant-loop-report
invariant-loop-report l = AddsTo l.fn.known (said_in (take l.report-index l.reports)) l.known
