use Rattle.std.proofs.Common.{subst}
use Rattle.std.proofs.lemmas.List.{take_all}
use Rattle.nr_search.specs.Reports.{AddsTo, said_in}
use Rattle.nr_search.proofs.ReportLemmas.{adds-none, adds-report}
use Rattle.nr_search.proofs.slot.note_all.Goals as goal

pub loop-report-init : goal.loop-report-init
loop-report-init c = adds-none c.args.known.now

-- one more report
pub loop-report-preserved : goal.loop-report-preserved
loop-report-preserved c =
    adds-report c.args.known.now c.loop-report.known c.note.new.known c.args.reports.now c.loop-report.report-index c.report-item.result c.loop-report-test.true c.report-item.is
    c.loop-report.invariant c.note.ensures.noted

pub returns : goal.returns
returns c =
    subst (λ rs. AddsTo c.args.known.now (said_in rs) c.loop-report.known) (take_all c.loop-report.report-index c.args.reports.now c.loop-report-test.false)
    c.loop-report.invariant
