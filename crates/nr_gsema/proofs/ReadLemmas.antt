-- The values read from nodes and heads are those of the table.
use Rattle.std.proofs.Common.{◌≡◌, ℕ, ◌<◌, false, ◌||◌, List, [], ◌∷◌, map, Option, Some, None, refl, sym, ap, subst, ◌∙◌, arith}
use Rattle.std.proofs.lemmas.List.{length-map}
use Rattle.std.proofs.lemmas.Option.{same_Some, slice_get_within}
use Rattle.std.specs.Prelude.{slice_get}
use Rattle.nr_rev.specs.declared.sides.Side.{Side}
use Rattle.nr_rev.specs.declared.sides.Sides.{Sides}
use Rattle.nr_rev.specs.declared.status.Status.{Status}
use Rattle.nr_rev.specs.Semaphore.{Semaphore}
use Rattle.nr_rev.specs.Sides.{of_side}
use Rattle.nr_gsema.specs.declared.node.GoroutineNode.{GoroutineNode}
use Rattle.nr_gsema.specs.declared.node.SemaphoreHead.{SemaphoreHead}
use Rattle.nr_rev.specs.World.{is_wait_at, is_waited, wait_of}
use Rattle.std.specs.List.{list_any}
use Rattle.nr_gsema.specs.Links.{IsLinked, is_waiting, queues_from, semaphores_from, statuses}
use Rattle.nr_gsema.specs.Table.{GoroutineTable}
use Rattle.nr_gsema.specs.Auxiliary.Table.{before, behind, in_queue, back_of, next_in_queue, previous_of, queue_at, queue_found}
use Rattle.nr_rev.specs.WellFormed.{is_queued}
use Rattle.nr_rev.specs.Lock.{bit}
use Rattle.nr_laws.proofs.DistinctNumberLemmas.{times}
use Rattle.nr_rev.specs.declared.status.Status.TheVariants.{Queued}
use Rattle.nr_gsema.proofs.LinkLemmas.{first-is, last-is, next-is, previous-is}
use Rattle.nr_gsema.specs.Applying.{IsQueuedUp}
use Rattle.nr_gsema.proofs.PlaceLemmas.{queued_here}
use Rattle.nr_gsema.proofs.ListLemmas.{there_is}
use Rattle.nr_gsema.proofs.QueueLemmas.{status_at, queue_is}
use Rattle.nr_gsema.proofs.TableLemmas.{AreTable, of_side-from, semaphores_at}

-- a node with a status inside a wait belongs to a goroutine inside that wait
pub any_waits : (d : ℕ) (side : Side) (nodes : List GoroutineNode) → list_any (λ node. is_wait_at d side (wait_of node.status)) nodes ≡ is_waited d side (statuses nodes)
any_waits d side [] = refl
any_waits d side (node ∷ nodes) = ap (λ b. is_wait_at d side (wait_of node.status) || b) (any_waits d side nodes)

module _ {nodes : List GoroutineNode} {semaphores : List (Sides SemaphoreHead)} {limit : ℕ} {t : GoroutineTable} (is : AreTable nodes semaphores limit t) where
  queue_read : (s : ℕ) (side : Side) (x : Sides SemaphoreHead) → slice_get semaphores s ≡ Some x → queue_at s side t ≡ queues_from nodes semaphores s side
  queue_read s side x there =
      ap (λ (u : GoroutineTable). queue_at s side u) (sym is.view) ∙ ap (queue_found side) (semaphores_at nodes semaphores s x there) ∙ ap (λ (y : Semaphore). y.queue) (of_side-from nodes side x)
      ∙ queue_is nodes semaphores (queues_from nodes semaphores) is.queues s side x there

  -- the front that a semaphore's head stores is the front of the queue
  pub front_read : (s : ℕ) (side : Side) (x : Sides SemaphoreHead) → slice_get semaphores s ≡ Some x → (of_side side x).front ≡ slice_get (queue_at s side t) 0
  front_read s side x there =
      first-is nodes (Queued s side) None (queues_from nodes semaphores s side) (of_side side x).front (of_side side x).back (is.queues.linked s side x there)
      ∙ ap (λ (q : List ℕ). slice_get q 0) (sym (queue_read s side x there))

  -- the back that a semaphore's head stores is the back of the queue
  pub back_read : (s : ℕ) (side : Side) (x : Sides SemaphoreHead) → slice_get semaphores s ≡ Some x → (of_side side x).back ≡ back_of (queue_at s side t)
  back_read s side x there =
      last-is nodes (Queued s side) (queues_from nodes semaphores s side) (of_side side x).front (of_side side x).back (is.queues.linked s side x there)
      ∙ ap back_of (sym (queue_read s side x there))

  -- the neighbour in a node is the neighbour in the queue, or none if the goroutine isn't queued
  neighbour_read : (g : ℕ) (node : GoroutineNode) (named : Option ℕ) (found : List ℕ → Option ℕ) → slice_get nodes g ≡ Some node
      → (is_waiting node.status ≡ false → named ≡ None)
      → ((s : ℕ) (side : Side) (queue : List ℕ) (first last : Option ℕ) → IsLinked nodes (Queued s side) None queue first last → 0 < times g queue → named ≡ found queue)
      → named ≡ in_queue found (slice_get t.goroutines g) t
  neighbour_read g node named found there alone in_one = go node.status refl
    where
      at : slice_get t.goroutines g ≡ Some node.status
      at = ap (λ (u : GoroutineTable). slice_get u.goroutines g) (sym is.view) ∙ status_at nodes g node there

      nobody : (status : Status) → is_waiting status ≡ false → in_queue found (Some status) t ≡ None
      nobody (Queued s side) e = cc
      nobody _ e = refl

      other : (status : Status) → node.status ≡ status → is_waiting status ≡ false → named ≡ in_queue found (slice_get t.goroutines g) t
      other status e none = alone (ap is_waiting e ∙ none) ∙ sym (ap (λ (o : Option Status). in_queue found o t) (at ∙ ap Some e) ∙ nobody status none)

      go : (status : Status) → node.status ≡ status → named ≡ in_queue found (slice_get t.goroutines g) t
      go (Queued s side) e =
          let x = there_is semaphores s (is.queues.named g s side (status_at nodes g node there ∙ ap Some e)) in
          let within = slice_get_within semaphores s x.0 x.1 in
          let once : times g (queues_from nodes semaphores s side) ≡ 1 =
          is.queues.queued s side within g ∙ ap (λ (o : Option Status). bit (is_queued s side o)) (status_at nodes g node there ∙ ap Some e) ∙ ap bit (queued_here s side) in
          in_one s side (queues_from nodes semaphores s side) (of_side side x.0).front (of_side side x.0).back (is.queues.linked s side x.0 x.1) (omega (arith, once))
          ∙ ap found (sym (queue_read s side x.0 x.1))
          ∙ sym (ap (λ (o : Option Status). in_queue found o t) (at ∙ ap Some e))
      go _ e = other _ e refl

  -- the next goroutine that a node stores is the next one in the queue
  pub next_read : (g : ℕ) (node : GoroutineNode) → slice_get nodes g ≡ Some node → node.next ≡ next_in_queue g t
  next_read g node there =
      neighbour_read g node node.next (behind g) there (λ none. (is.queues.alone g node there none).0)
      (λ s side queue first last l some. next-is nodes (Queued s side) None queue first last l g node there some)

  -- the previous goroutine that a node stores is the previous one in the queue
  pub previous_read : (g : ℕ) (node : GoroutineNode) → slice_get nodes g ≡ Some node → node.previous ≡ previous_of g t
  previous_read g node there =
      neighbour_read g node node.previous (before g None) there (λ none. (is.queues.alone g node there none).1)
      (λ s side queue first last l some. previous-is nodes (Queued s side) None queue first last l g node there some)

  -- a queue contains a goroutine, once, if and only if the goroutine's status says that it is
  -- queued there
  pub queued_up : IsQueuedUp t
  queued_up =
      subst IsQueuedUp is.view (record {
        queued = λ s side both at g.
            let x = there_is semaphores s (let a = slice_get_within (map (semaphores_from nodes) semaphores) s both at in let b = length-map semaphores (semaphores_from nodes) in omega arith) in
            let same : both ≡ semaphores_from nodes x.0 = same_Some both (semaphores_from nodes x.0) (sym at ∙ semaphores_at nodes semaphores s x.0 x.1) in
            ap (λ (y : Sides Semaphore). times g (of_side side y).queue) same
            ∙ ap (λ (y : Semaphore). times g y.queue) (of_side-from nodes side x.0)
            ∙ ap (times g) (queue_is nodes semaphores (queues_from nodes semaphores) is.queues s side x.0 x.1)
            ∙ is.queues.queued s side (slice_get_within semaphores s x.0 x.1) g;
      })
