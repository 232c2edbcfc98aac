use Rattle.std.proofs.Common.{◌≡◌, ℕ, length, set, Option, Some, None, refl, sym, ap, ◌∙◌}
use Rattle.std.proofs.lemmas.List.{with_items_is}
use Rattle.std.proofs.lemmas.Option.{slice_get_read, slice_get_within}
use Rattle.std.specs.Prelude.{slice_get}
use Rattle.std.specs.Vec.{with_item, with_items}
use Rattle.nr_rev.specs.declared.sides.Sides.{Sides}
use Rattle.nr_rev.specs.declared.status.Status.TheVariants.{Queued}
use Rattle.nr_rev.specs.Sides.{with_side}
use Rattle.nr_gsema.specs.declared.node.SemaphoreHead.{SemaphoreHead}
use Rattle.nr_gsema.specs.Links.{node_with}
use Rattle.nr_gsema.specs.Relinking.{with_next}
use Rattle.nr_gsema.specs.SemaphoreChange.{with_last}
use Rattle.nr_gsema.specs.Auxiliary.Table.{on_semaphore, with_status}
use Rattle.nr_gsema.proofs.QueueLemmas.{status_at}
use Rattle.nr_gsema.proofs.TableLemmas.{AreTable, back_within, head_read, joined_back, outside_node}
use Rattle.nr_gsema.proofs.WaitLemmas.{counts_kept, statuses_requeued}
use Rattle.nr_gsema.proofs.table.GTable.join_back.Goals as goal
use Rattle.nr_gsema.proofs.table.GTable.join_back.Goals.{After-of-queue, After-with}

is : (c : goal.After-of-queue) → AreTable c.self.inside.nodes.items c.self.inside.semaphores.items c.self.inside.limit c.args.self.now
is c = record { queues = c.self.invariant.queues; view = c.self.view_is }

there : (c : goal.After-of-queue) → slice_get c.self.inside.semaphores.items c.args.socket ≡ Some c.index-semaphores.result.now
there c = head_read (is c) c.args.socket c.index-semaphores.result.now c.requires.there c.index-semaphores.ensures

pub set_next-requires : goal.set_next-requires
set_next-requires c =
    let p = (goal.at.set_next-requires c).After-of-queue in
    back_within (is p) c.args.socket c.args.side c.index-semaphores.result.now c.of-queue.result (there p) c.of-queue.ensures
    (length c.deref_mut.result.now) (c.deref_mut.ensures.len ∙ c.self.inside.nodes.ok.0)

-- the table when `join_back` returns
left : (c : goal.After-with)
    → AreTable (with_items (with_item c.self.inside.nodes c.args.goroutine (node_with (Queued c.args.socket c.args.side) None c.of-queue.result.back)) c.set_next.new.nodes).items
    (set c.self.inside.semaphores.items c.args.socket c.with.result)
    c.self.inside.limit (with_status c.args.goroutine (Queued c.args.socket c.args.side) (on_semaphore c.args.socket c.args.side (with_last c.args.goroutine) c.args.self.now))
left c =
    let g = c.args.goroutine in
    let s = c.args.socket in
    let side = c.args.side in
    let x = c.index-semaphores.result.now in
    let q = c.of-queue.result in
    let i = c.self.inside in
    let is : AreTable i.nodes.items i.semaphores.items i.limit c.args.self.now = record { queues = c.self.invariant.queues; view = c.self.view_is } in
    let there = head_read is s x c.requires.there c.index-semaphores.ensures in
    joined_back is s side g x q there c.of-queue.ensures c.requires.outside _ c.set_next.new.nodes _
    (λ size. with_items_is (with_item i.nodes g (node_with (Queued s side) None q.back)) c.set_next.new.nodes (size ∙ sym i.nodes.ok.0))
    (c.set_next.ensures ∙ ap (with_next q.back (Some g)) c.deref_mut.ensures.value)
    (ap (λ (y : Sides SemaphoreHead). set i.semaphores.items s y) (c.with.ensures ∙ ap (λ (e : Option ℕ). with_side side (record { count = q.count; front = e; back = Some g }) x) c.or_else.ensures))

pub invariant_of-self : goal.invariant_of-self
invariant_of-self c =
    let p = (goal.at.invariant_of-self c).After-with in
    let g = c.args.goroutine in
    let before = c.index.result.now in
    let i = c.self.inside in
    let is : AreTable i.nodes.items i.semaphores.items i.limit c.args.self.now = record { queues = c.self.invariant.queues; view = c.self.view_is } in
    let old = outside_node is g c.requires.outside in
    let at = slice_get_read i.nodes.items (length i.nodes.items) g before refl (slice_get_within i.nodes.items g old.0 old.1) c.index.ensures in
    record {
      queues = (left p).queues;
      few = c.self.invariant.few;
      room = c.self.invariant.room;
      counted =
          counts_kept i.waits _ i.nodes.items _ g before.status (Queued c.args.socket c.args.side) c.self.invariant.counted (status_at i.nodes.items g before at)
          (statuses_requeued _ _ _ _ _ g c.args.socket (Queued c.args.socket c.args.side) c.args.side (with_last c.args.goroutine) c.args.self.now is (left p)) c.leave.ensures;
    }

pub returns : goal.returns
returns c = (left (goal.at.returns c).After-with).view
