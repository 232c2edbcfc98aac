use Rattle.std.proofs.Common.{◌+◌, map, subst}
use Rattle.std.proofs.lemmas.List.{take_all}
use Rattle.nr_marks.specs.Hit.{hits_at}
use Rattle.nr_search.specs.Known.{slot_of}
use Rattle.nr_search.specs.Reports.{AddsTo, noted, said_in}
use Rattle.nr_search.proofs.ReportLemmas.{adds-none, adds-one_worker, on_err-like, open-like, table-is, table-true}
use Rattle.nr_search.proofs.search.Search.decide_by.Goals as goal

pub loop-reports-init : goal.loop-reports-init
loop-reports-init g c = adds-none c.args.table.now

-- one more row
pub loop-reports-preserved : goal.loop-reports-preserved
loop-reports-preserved g c =
    adds-one_worker (λ one_worker. one_worker.items) c.args.table.now c.loop-reports.table c.note_all.new.known c.args.by_worker.now c.loop-reports.reports-index c.reports-item.result
    c.loop-reports-test.true c.reports-item.is
    c.loop-reports.invariant (subst (λ rs. AddsTo c.loop-reports.table (said_in rs) c.note_all.new.known) c.as_slice.ensures.value c.note_all.ensures)

-- the complete table is right: it contains what the reports say, and they are right
pub decide-requires : goal.decide-requires
decide-requires g c =
    let search = c.args.self.now in
    let hits = hits_at search.film.now.recording search.marks.now.present in
    let n = search.span.first + search.span.count in
    let said = noted (map (λ one_worker. one_worker.items) c.args.by_worker.now) in
    let last = take_all c.loop-reports.reports-index c.args.by_worker.now c.loop-reports-test.false in
    let all : AddsTo c.args.table.now said c.loop-reports.table =
    subst (λ rs. AddsTo c.args.table.now (noted (map (λ one_worker. one_worker.items) rs)) c.loop-reports.table) last c.loop-reports.invariant
    in
    table-true search.span hits (λ one_worker. one_worker.items) n c.args.by_worker.now c.loop-reports.table c.requires.reports
    (subst (λ table. AddsTo table said c.loop-reports.table) c.requires.table all)

pub returns-clause-open : goal.returns-clause-open
returns-clause-open g c =
    let search = c.args.self.now in
    let n = search.span.first + search.span.count in
    let said = noted (map (λ one_worker. one_worker.items) c.args.by_worker.now) in
    let last = take_all c.loop-reports.reports-index c.args.by_worker.now c.loop-reports-test.false in
    let all : AddsTo c.args.table.now said c.loop-reports.table =
    subst (λ rs. AddsTo c.args.table.now (noted (map (λ one_worker. one_worker.items) rs)) c.loop-reports.table) last c.loop-reports.invariant
    in
    on_err-like c.decide.result
    (open-like search.span (slot_of c.loop-reports.table) said (table-is n said c.loop-reports.table (subst (λ table. AddsTo table said c.loop-reports.table) c.requires.table all)))
    c.decide.ensures.open
