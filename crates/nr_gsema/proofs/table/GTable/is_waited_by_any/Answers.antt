use Rattle.std.proofs.Common.{◌∙◌, ap, rules, tests}
use Rattle.std.proofs.lemmas.Iterator.{YieldsList-from_slice}
use Rattle.std.proofs.lemmas.Iterator.Search.{any_from_yields_List}
use Rattle.nr_rev.specs.World.{is_wait_at, is_waited, wait_of}
use Rattle.nr_gsema.specs.Table.{GoroutineTable}
use Rattle.nr_gsema.proofs.ReadLemmas.{any_waits}
use Rattle.nr_gsema.proofs.table.GTable.is_waited_by_any.Goals as goal

pub returns : goal.returns
returns c =
    let d = c.args.descriptor in
    let side = c.args.side in
    let nodes = c.self.inside.nodes.items in
    any_from_yields_List (λ node. is_wait_at d side (wait_of node.status)) _ _ c.any.result c.any.ensures.ran (YieldsList-from_slice nodes cc) (λ x b q k. search (rules, tests))
    ∙ any_waits d side nodes ∙ ap (λ (t : GoroutineTable). is_waited d side t.goroutines) c.self.view_is
