use Rattle.std.proofs.Common.{◌≡◌, ℕ, ◌-◌, ◌<◌, ◌≤◌, length, set, Option, Some, None, refl, sym, ap, subst, ◌∙◌, arith}
use Rattle.std.proofs.lemmas.List.{with_items_is}
use Rattle.std.proofs.lemmas.Option.{slice_get_read, slice_get_within}
use Rattle.std.specs.Prelude.{slice_get}
use Rattle.std.specs.Vec.{with_item, with_items}
use Rattle.nr_rev.specs.declared.sides.Sides.{Sides}
use Rattle.nr_rev.specs.declared.status.Status.TheVariants.{Queued}
use Rattle.nr_rev.specs.Semaphore.{Semaphore}
use Rattle.nr_rev.specs.Sides.{of_side, with_side}
use Rattle.nr_gsema.specs.declared.node.SemaphoreHead.{SemaphoreHead}
use Rattle.nr_gsema.specs.Links.{node_with, queue_from}
use Rattle.nr_gsema.specs.Relinking.{with_previous}
use Rattle.nr_gsema.specs.SemaphoreChange.{unreleased}
use Rattle.nr_gsema.specs.Auxiliary.Table.{on_semaphore, with_status}
use Rattle.nr_gsema.proofs.QueueLemmas.{status_at}
use Rattle.nr_gsema.proofs.TableLemmas.{AreTable, front_within, has_within, head_has, head_read, joined_front, outside_node}
use Rattle.nr_gsema.proofs.WaitLemmas.{counts_kept, statuses_requeued}
use Rattle.nr_gsema.proofs.table.GTable.join_front.Goals as goal
use Rattle.nr_gsema.proofs.table.GTable.join_front.Goals.{After-of-queue, After-with}

-- the condition on the semaphore
abbrev Asked : ℕ → Semaphore → Type 0
Asked g semaphore = 0 < semaphore.count

is : (c : goal.After-of-queue) → AreTable c.self.inside.nodes.items c.self.inside.semaphores.items c.self.inside.limit c.args.self.now
is c = record { queues = c.self.invariant.queues; view = c.self.view_is }

there : (c : goal.After-of-queue) → slice_get c.self.inside.semaphores.items c.args.socket ≡ Some c.index-semaphores.result.now
there c = head_read (is c) c.args.socket c.index-semaphores.result.now (has_within c.args.socket c.args.side (Asked c.args.goroutine) c.args.self.now c.requires.there) c.index-semaphores.ensures

has : (c : goal.After-of-queue)
    → Asked c.args.goroutine
    (record { count = (of_side c.args.side c.index-semaphores.result.now).count; queue = queue_from c.self.inside.nodes.items (of_side c.args.side c.index-semaphores.result.now) })
has c = head_has (is c) c.args.socket c.args.side (Asked c.args.goroutine) c.index-semaphores.result.now (there c) c.requires.there

pub set_previous-requires : goal.set_previous-requires
set_previous-requires c =
    let p = (goal.at.set_previous-requires c).After-of-queue in
    front_within (is p) c.args.socket c.args.side c.index-semaphores.result.now c.of-queue.result (there p) c.of-queue.ensures
    (length c.deref_mut.result.now) (c.deref_mut.ensures.len ∙ c.self.inside.nodes.ok.0)

pub overflow_sub-head : goal.overflow_sub-head
overflow_sub-head c = subst (λ (y : SemaphoreHead). 1 ≤ y.count) (sym c.of-queue.ensures) (has (goal.at.overflow_sub-head c).After-of-queue)

pub index_mut-requires-2 : goal.index_mut-requires-2
index_mut-requires-2 c =
    let within = slice_get_within c.self.inside.semaphores.items c.args.socket c.index-semaphores.result.now (there (goal.at.index_mut-requires-2 c).After-of-queue) in
    let size = c.self.inside.semaphores.ok.0 in
    omega arith

-- the table after the function has run
left : (c : goal.After-with)
    → AreTable (with_items (with_item c.self.inside.nodes c.args.goroutine (node_with (Queued c.args.socket c.args.side) c.of-queue.result.front None)) c.set_previous.new.nodes).items
    (set c.self.inside.semaphores.items c.args.socket c.with.result)
    c.self.inside.limit (with_status c.args.goroutine (Queued c.args.socket c.args.side) (on_semaphore c.args.socket c.args.side (unreleased (Some c.args.goroutine)) c.args.self.now))
left c =
    let g = c.args.goroutine in
    let s = c.args.socket in
    let side = c.args.side in
    let x = c.index-semaphores.result.now in
    let q = c.of-queue.result in
    let i = c.self.inside in
    let is : AreTable i.nodes.items i.semaphores.items i.limit c.args.self.now = record { queues = c.self.invariant.queues; view = c.self.view_is } in
    let there = head_read is s x (has_within s side (Asked g) c.args.self.now c.requires.there) c.index-semaphores.ensures in
    joined_front is s side g x q there c.of-queue.ensures c.requires.outside _ c.set_previous.new.nodes _
    (λ size. with_items_is (with_item i.nodes g (node_with (Queued s side) q.front None)) c.set_previous.new.nodes (size ∙ sym i.nodes.ok.0))
    (c.set_previous.ensures ∙ ap (with_previous q.front (Some g)) c.deref_mut.ensures.value)
    (ap (λ (y : Sides SemaphoreHead). set i.semaphores.items s y) (c.with.ensures ∙ ap (λ (e : Option ℕ). with_side side (record { count = q.count - 1; front = Some g; back = e }) x)
    c.or_else.ensures))

pub invariant_of-self : goal.invariant_of-self
invariant_of-self c =
    let p = (goal.at.invariant_of-self c).After-with in
    let g = c.args.goroutine in
    let before = c.index.result.now in
    let i = c.self.inside in
    let is : AreTable i.nodes.items i.semaphores.items i.limit c.args.self.now = record { queues = c.self.invariant.queues; view = c.self.view_is } in
    let old = outside_node is g c.requires.outside in
    let at = slice_get_read i.nodes.items (length i.nodes.items) g before refl (slice_get_within i.nodes.items g old.0 old.1) c.index.ensures in
    record {
      queues = (left p).queues;
      few = c.self.invariant.few;
      room = c.self.invariant.room;
      counted =
          counts_kept i.waits _ i.nodes.items _ g before.status (Queued c.args.socket c.args.side) c.self.invariant.counted (status_at i.nodes.items g before at)
          (statuses_requeued _ _ _ _ _ g c.args.socket (Queued c.args.socket c.args.side) c.args.side (unreleased (Some c.args.goroutine)) c.args.self.now is (left p)) c.leave.ensures;
    }

pub returns : goal.returns
returns c = (left (goal.at.returns c).After-with).view
