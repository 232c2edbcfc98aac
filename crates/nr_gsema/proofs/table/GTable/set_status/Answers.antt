use Rattle.std.proofs.Common.{◌≡◌, length, set, Some, refl, arith}
use Rattle.std.proofs.lemmas.List.{length-map, map-set}
use Rattle.std.proofs.lemmas.Option.{slice_get_read, slice_get_within}
use Rattle.std.specs.Prelude.{slice_get}
use Rattle.nr_gsema.specs.declared.node.GoroutineNode.{GoroutineNode}
use Rattle.nr_gsema.specs.Auxiliary.Table.{with_status}
use Rattle.nr_gsema.proofs.QueueLemmas.{status_at}
use Rattle.nr_gsema.proofs.TableLemmas.{AreTable, outside_node, status_set}
use Rattle.nr_gsema.proofs.WaitLemmas.{counts_kept, room_for}
use Rattle.nr_gsema.proofs.table.GTable.set_status.Goals as goal
use Rattle.nr_gsema.proofs.table.GTable.set_status.Goals.{After-index-node}

is : (c : After-index-node) → AreTable c.self.inside.nodes.items c.self.inside.semaphores.items c.self.inside.limit c.args.self.now
is c = record { queues = c.self.invariant.queues; view = c.self.view_is }

at : (c : After-index-node) → slice_get c.self.inside.nodes.items c.args.goroutine ≡ Some c.index-node.result.now
at c =
    let nodes = c.self.inside.nodes.items in
    let old = outside_node (is c) c.args.goroutine c.requires.old in
    slice_get_read nodes (length nodes) c.args.goroutine c.index-node.result.now refl (slice_get_within nodes c.args.goroutine old.0 old.1) c.index-node.ensures

moved : (c : After-index-node) → AreTable (set c.self.inside.nodes.items c.args.goroutine (record c.index-node.result.now { status = c.args.status })) c.self.inside.semaphores.items
    c.self.inside.limit (with_status c.args.goroutine c.args.status c.args.self.now)
moved c = status_set (is c) c.args.goroutine c.index-node.result.now c.args.status (at c) c.requires.old c.requires.new

pub change-requires : goal.change-requires
change-requires c =
    let nodes = c.self.inside.nodes.items in
    let node = c.index-node.result.now in
    let few = c.self.invariant.few in
    let size = c.self.inside.nodes.ok.0 in
    let sizes = length-map nodes (λ (x : GoroutineNode). x.status) in
    room_for c.self.inside.waits _ c.args.goroutine node.status c.args.status c.self.invariant.counted (status_at nodes c.args.goroutine node (at (goal.at.change-requires c).After-index-node)) (omega arith)

pub invariant_of-self : goal.invariant_of-self
invariant_of-self c =
    let p = (goal.at.invariant_of-self c).After-index-node in
    let nodes = c.self.inside.nodes.items in
    let node = c.index-node.result.now in
    let new : GoroutineNode = record node { status = c.args.status } in
    record {
      queues = (moved p).queues;
      few = c.self.invariant.few;
      room = c.self.invariant.room;
      counted =
          counts_kept c.self.inside.waits _ nodes _ c.args.goroutine node.status c.args.status c.self.invariant.counted (status_at nodes c.args.goroutine node (at p))
          (map-set (λ (x : GoroutineNode). x.status) nodes c.args.goroutine new) c.change.ensures;
    }

pub returns : goal.returns
returns c = (moved (goal.at.returns c).After-index-node).view
