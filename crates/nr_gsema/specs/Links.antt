-- How the nodes of goroutines and semaphores represent the table: each queue is a doubly linked
-- list.
use Rattle.std.specs.Prelude.{◌≡◌, ℕ, zero, suc, ◌<◌, ◌≤◌, ◌==◌, Bool, true, false, List, [], ◌∷◌, length, map, count_by, slice_get, Option, Some, None, vec_len, vec_capacity}
use Rattle.nr_rev.specs.declared.sides.Side.{Side}
use Rattle.nr_rev.specs.declared.sides.Sides.{Sides}
use Rattle.nr_rev.specs.declared.status.Status.{Status}
use Rattle.nr_rev.specs.declared.status.Status.TheVariants.{Queued}
use Rattle.nr_rev.specs.Lock.{bit}
use Rattle.nr_rev.specs.Semaphore.{Semaphore}
use Rattle.nr_rev.specs.Sides.{of_side}
use Rattle.nr_rev.specs.WellFormed.{is_queued}
use Rattle.nr_gsema.specs.declared.node.GoroutineNode.{GoroutineNode}
use Rattle.nr_gsema.specs.declared.node.SemaphoreHead.{SemaphoreHead}
use Rattle.nr_gsema.specs.declared.table.GTable.TheInside.{Inside}
use Rattle.nr_gsema.specs.Table.{GoroutineTable}
use Rattle.nr_gsema.specs.Waits.{AreCounts}

-- the statuses of nodes
abbrev pub statuses : List GoroutineNode → List Status
statuses nodes = map (λ (node : GoroutineNode). node.status) nodes

-- the goroutine that a node stores as the next one, if the node exists
abbrev pub next_in : Option GoroutineNode → Option ℕ
next_in None = None
next_in (Some node) = node.next

-- the first n goroutines that are reached by following the links from `first`
unfoldable pub chain : ℕ → List GoroutineNode → Option ℕ → List ℕ
chain zero nodes first = []
chain (suc n) nodes None = []
chain (suc n) nodes (Some g) = g ∷ chain n nodes (next_in (slice_get nodes g))

-- the queue that starts at a head
abbrev pub queue_from : List GoroutineNode → SemaphoreHead → List ℕ
queue_from nodes head = chain (length nodes) nodes head.front

-- the semaphore that a head represents
abbrev pub semaphore_from : List GoroutineNode → SemaphoreHead → Semaphore
semaphore_from nodes head = record { count = head.count; queue = queue_from nodes head }

-- the semaphores that the heads of both sides represent
abbrev pub semaphores_from : List GoroutineNode → Sides SemaphoreHead → Sides Semaphore
semaphores_from nodes both =
    record { read = semaphore_from nodes both.read; write = semaphore_from nodes both.write }

-- the table in contracts
abbrev pub table_from : Inside → GoroutineTable
table_from t =
    record {
      goroutines = statuses t.nodes.items;
      semaphores = map (semaphores_from t.nodes.items) t.semaphores.items;
      limit = t.limit;
    }

-- the node of a goroutine with this status and these neighbours
abbrev pub node_with : Status → Option ℕ → Option ℕ → GoroutineNode
node_with status next previous = record { status = status; next = next; previous = previous }

-- True if the rest of a queue is linked from `first` to `last`. Each goroutine's node has this
-- status, and stores the goroutines before and after it in the queue. The last node stores no next
-- goroutine.
abbrev pub IsLinked : List GoroutineNode → Status → Option ℕ → List ℕ → Option ℕ → Option ℕ → Type 0
IsLinked nodes status previous [] first last = (first ≡ None) × (last ≡ previous)
IsLinked nodes status previous (g ∷ queue) first last =
    (first ≡ Some g)
    × ((next : Option ℕ) × (slice_get nodes g ≡ Some (node_with status next previous))
    × IsLinked nodes status (Some g) queue next last)

-- true if a goroutine with this status is queued
abbrev pub is_waiting : Status → Bool
is_waiting (Queued s side) = true
is_waiting _ = false

-- true if the links between the nodes form these queues
pub record AreQueues (nodes : List GoroutineNode) (semaphores : List (Sides SemaphoreHead))
    (queues : ℕ → Side → List ℕ) : Type 0 where
  -- each queue is linked from its front to its back
  pub linked : (s : ℕ) (side : Side) (both : Sides SemaphoreHead)
      → slice_get semaphores s ≡ Some both
      → IsLinked nodes (Queued s side) None (queues s side) (of_side side both).front
      (of_side side both).back
  -- a queue contains a goroutine, once, if and only if the goroutine's status says that it is
  -- queued there
  pub queued : (s : ℕ) (side : Side) → s < length semaphores → (g : ℕ)
      → count_by (λ h. h == g) (queues s side)
      ≡ bit (is_queued s side (slice_get (statuses nodes) g))
  -- goroutines outside every queue have no neighbours
  pub alone : (g : ℕ) (node : GoroutineNode) → slice_get nodes g ≡ Some node
      → is_waiting node.status ≡ false
      → (node.next ≡ None) × (node.previous ≡ None)
  -- goroutines are queued only at semaphores that exist
  pub named : (g s : ℕ) (side : Side) → slice_get (statuses nodes) g ≡ Some (Queued s side)
      → s < length semaphores

-- the front of the queue of a side, or none if there is no such socket
abbrev pub front_in : Side → Option (Sides SemaphoreHead) → Option ℕ
front_in side None = None
front_in side (Some both) = (of_side side both).front

-- the queue of a side of socket s
abbrev pub queues_from : List GoroutineNode → List (Sides SemaphoreHead) → ℕ → Side → List ℕ
queues_from nodes semaphores s side =
    chain (length nodes) nodes (front_in side (slice_get semaphores s))

-- true if the queues are linked, the goroutines inside waits are counted, and there is room for all
-- goroutines up to the limit
pub record IsTable (t : Inside) : Type 0 where
  pub queues : AreQueues t.nodes.items t.semaphores.items
      (queues_from t.nodes.items t.semaphores.items)
  pub few : vec_len t.nodes ≤ t.limit
  pub room : t.limit ≤ vec_capacity t.nodes
  pub counted : AreCounts t.waits (statuses t.nodes.items)
