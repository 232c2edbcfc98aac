use Rattle.std.proofs.Common.{◌≡◌, set, refl, ap, ◌∙◌}
use Rattle.nr_rev.specs.Sides.{of_side, with_side}
use Rattle.nr_gsema.specs.declared.node.SemaphoreHead.{SemaphoreHead}
use Rattle.nr_gsema.specs.SemaphoreChange.{with_count}
use Rattle.nr_gsema.specs.Auxiliary.Table.{on_semaphore}
use Rattle.nr_gsema.proofs.TableLemmas.{AreTable, AreTable-same, count_set, head_read}
use Rattle.nr_gsema.proofs.table.GTable.set_count.Goals as goal
use Rattle.nr_gsema.proofs.table.GTable.set_count.Goals.{After-with}

recounted : (c : goal.After-with) → AreTable c.self.inside.nodes.items (set c.self.inside.semaphores.items c.args.socket c.with.result) c.self.inside.limit
    (on_semaphore c.args.socket c.args.side (with_count c.args.count) c.args.self.now)
recounted c =
    let is : AreTable c.self.inside.nodes.items c.self.inside.semaphores.items c.self.inside.limit c.args.self.now = record { queues = c.self.invariant.queues; view = c.self.view_is } in
    let x = c.index-semaphores.result.now in
    let both_are : c.with.result ≡ with_side c.args.side (record (of_side c.args.side x) { count = c.args.count }) x =
    c.with.ensures ∙ ap (λ (y : SemaphoreHead). with_side c.args.side (record y { count = c.args.count }) x) c.of.ensures in
    AreTable-same _ _ (count_set is c.args.socket c.args.side x c.args.count (head_read is c.args.socket x c.requires c.index-semaphores.ensures)) refl
    (ap (set c.self.inside.semaphores.items c.args.socket) both_are)

pub invariant_of-self : goal.invariant_of-self
invariant_of-self c = record { queues = (recounted (goal.at.invariant_of-self c).After-with).queues; few = c.self.invariant.few; room = c.self.invariant.room; counted = c.self.invariant.counted }

pub returns : goal.returns
returns c = (recounted (goal.at.returns c).After-with).view
