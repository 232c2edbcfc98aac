use Rattle.std.proofs.Common.{sym, ap, ◌∙◌}
use Rattle.nr_rev.specs.World.{is_waited}
use Rattle.nr_gsema.specs.Links.{statuses}
use Rattle.nr_gsema.specs.Table.{GoroutineTable}
use Rattle.nr_gsema.proofs.WaitLemmas.{waited_by_count}
use Rattle.nr_gsema.proofs.table.GTable.is_waited.Goals as goal

pub returns-in-Some : goal.returns-in-Some
returns-in-Some c =
    let d = c.args.descriptor in
    let side = c.args.side in
    waited_by_count c.self.inside.waits (statuses c.self.inside.nodes.items) d side c.in-Some.count c.self.invariant.counted (sym c.count.ensures ∙ c.in-Some.is)
    ∙ ap (λ (t : GoroutineTable). is_waited d side t.goroutines) c.self.view_is
