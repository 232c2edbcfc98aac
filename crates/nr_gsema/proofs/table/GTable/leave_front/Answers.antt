use Rattle.std.proofs.Common.{◌≡◌, ℕ, ◌+◌, ◌^◌, ◌<◌, length, set, Fits, w32, rules, Option, Some, None, refl, sym, ap, subst, ◌∙◌, arith}
use Rattle.std.proofs.lemmas.List.{with_items_is}
use Rattle.std.proofs.lemmas.Option.{slice_get_read, slice_get_within}
use Rattle.std.specs.Prelude.{slice_get}
use Rattle.std.specs.Vec.{with_item, with_items}
use Rattle.nr_rev.specs.declared.sides.Sides.{Sides}
use Rattle.nr_rev.specs.declared.status.Status.TheVariants.{Acquiring, Queued}
use Rattle.nr_rev.specs.Semaphore.{Semaphore}
use Rattle.nr_rev.specs.Sides.{of_side, with_side}
use Rattle.nr_gsema.specs.declared.node.SemaphoreHead.{SemaphoreHead}
use Rattle.nr_gsema.specs.Links.{queue_from}
use Rattle.nr_gsema.specs.Relinking.{with_previous}
use Rattle.nr_gsema.specs.SemaphoreChange.{released_once}
use Rattle.nr_gsema.specs.Auxiliary.Table.{on_semaphore, with_status}
use Rattle.nr_gsema.proofs.QueueLemmas.{status_at}
use Rattle.nr_gsema.proofs.TableLemmas.{AreTable, has_within, head_has, head_read, left_front, member_queued, member_within, next_within}
use Rattle.nr_gsema.proofs.WaitLemmas.{counts_kept, statuses_requeued}
use Rattle.nr_gsema.proofs.table.GTable.leave_front.Goals as goal
use Rattle.nr_gsema.proofs.table.GTable.leave_front.Goals.{After-of-queue, After-with}

-- the condition on the semaphore
abbrev Asked : ℕ → Semaphore → Type 0
Asked g semaphore = (slice_get semaphore.queue 0 ≡ Some g) × (semaphore.count + 1 < 2 ^ 32)

is : (c : goal.After-of-queue) → AreTable c.self.inside.nodes.items c.self.inside.semaphores.items c.self.inside.limit c.args.self.now
is c = record { queues = c.self.invariant.queues; view = c.self.view_is }

there : (c : goal.After-of-queue) → slice_get c.self.inside.semaphores.items c.args.socket ≡ Some c.index-semaphores.result.now
there c = head_read (is c) c.args.socket c.index-semaphores.result.now (has_within c.args.socket c.args.side (Asked c.args.goroutine) c.args.self.now c.requires) c.index-semaphores.ensures

has : (c : goal.After-of-queue)
    → Asked c.args.goroutine
    (record { count = (of_side c.args.side c.index-semaphores.result.now).count; queue = queue_from c.self.inside.nodes.items (of_side c.args.side c.index-semaphores.result.now) })
has c = head_has (is c) c.args.socket c.args.side (Asked c.args.goroutine) c.index-semaphores.result.now (there c) c.requires

goroutine_within : (c : goal.After-of-queue) → c.args.goroutine < length c.self.inside.nodes.items
goroutine_within c = member_within (is c) c.args.socket c.args.side c.index-semaphores.result.now (there c) 0 c.args.goroutine (has c).0

pub index-requires : goal.index-requires
index-requires c = let within = goroutine_within (goal.at.index-requires c).After-of-queue in let size = c.self.inside.nodes.ok.0 in omega arith

pub index_mut-requires : goal.index_mut-requires
index_mut-requires c = let within = goroutine_within (goal.at.index_mut-requires c).After-of-queue in let size = c.self.inside.nodes.ok.0 in omega arith

pub set_previous-requires : goal.set_previous-requires
set_previous-requires c =
    let p = (goal.at.set_previous-requires c).After-of-queue in
    let node = slice_get_read c.self.inside.nodes.items (length c.self.inside.nodes.items) c.args.goroutine c.index.result.now refl (goroutine_within p) c.index.ensures in
    next_within (is p) c.args.socket c.args.side c.index-semaphores.result.now (there p) c.args.goroutine c.index.result.now node ((has p).0)
    (length c.deref_mut.result.now) (c.deref_mut.ensures.len ∙ c.self.inside.nodes.ok.0)

pub overflow_add-head : goal.overflow_add-head
overflow_add-head c =
    let small = (has (goal.at.overflow_add-head c).After-of-queue).1 in
    subst (λ (y : SemaphoreHead). Fits w32 (y.count + 1)) (sym c.of-queue.ensures) (search (rules, small))

pub index_mut-requires-2 : goal.index_mut-requires-2
index_mut-requires-2 c =
    let within = slice_get_within c.self.inside.semaphores.items c.args.socket c.index-semaphores.result.now (there (goal.at.index_mut-requires-2 c).After-of-queue) in
    let size = c.self.inside.semaphores.ok.0 in
    omega arith

-- the table after the function has run
left : (c : goal.After-with)
    → AreTable (with_items (with_item c.self.inside.nodes c.args.goroutine c.alone.result) c.set_previous.new.nodes).items
    (set c.self.inside.semaphores.items c.args.socket c.with.result)
    c.self.inside.limit (with_status c.args.goroutine (Acquiring c.args.socket c.args.side) (on_semaphore c.args.socket c.args.side released_once c.args.self.now))
left c =
    let g = c.args.goroutine in
    let s = c.args.socket in
    let side = c.args.side in
    let x = c.index-semaphores.result.now in
    let q = c.of-queue.result in
    let i = c.self.inside in
    let old = c.index.result.now in
    let is : AreTable i.nodes.items i.semaphores.items i.limit c.args.self.now = record { queues = c.self.invariant.queues; view = c.self.view_is } in
    let there = head_read is s x (has_within s side (Asked g) c.args.self.now c.requires) c.index-semaphores.ensures in
    let has = head_has is s side (Asked g) x there c.requires in
    let within = member_within is s side x there 0 g has.0 in
    let node = slice_get_read i.nodes.items (length i.nodes.items) g old refl within c.index.ensures in
    left_front is s side g x q there c.of-queue.ensures old node has.0 _ c.set_previous.new.nodes _
    (λ size. with_items_is (with_item i.nodes g c.alone.result) c.set_previous.new.nodes (size ∙ sym i.nodes.ok.0))
    (c.set_previous.ensures ∙ ap (with_previous old.next None) (c.deref_mut.ensures.value ∙ ap (set i.nodes.items g) c.alone.ensures))
    (ap (λ (y : Sides SemaphoreHead). set i.semaphores.items s y) (c.with.ensures ∙ ap (λ (e : Option ℕ). with_side side (record { count = q.count + 1; front = old.next; back = e }) x)
    c.end_left.ensures))

pub invariant_of-self : goal.invariant_of-self
invariant_of-self c =
    let p = (goal.at.invariant_of-self c).After-with in
    let q = (goal.at.invariant_of-self c).After-of-queue in
    let g = c.args.goroutine in
    let s = c.args.socket in
    let side = c.args.side in
    let nodes = c.self.inside.nodes.items in
    let queued = member_queued (is q) s side c.index-semaphores.result.now (there q) 0 g (has q).0 in
    record {
      queues = (left p).queues;
      few = c.self.invariant.few;
      room = c.self.invariant.room;
      counted =
          counts_kept c.self.inside.waits _ nodes _ g (Queued s side) (Acquiring s side) c.self.invariant.counted (status_at nodes g queued.0 queued.1 ∙ ap Some queued.2)
          (statuses_requeued _ _ _ _ _ g s (Acquiring s side) side released_once c.args.self.now (is q) (left p)) refl;
    }

pub returns : goal.returns
returns c = (left (goal.at.returns c).After-with).view
