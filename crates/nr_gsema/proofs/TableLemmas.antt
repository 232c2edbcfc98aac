-- Lemmas about the table that nodes and heads represent after each change to them.
use Rattle.std.proofs.Common.{◌≡◌, ℕ, zero, suc, ◌+◌, ◌-◌, ◌<◌, false, List, [], ◌∷◌, ◌++◌, length, replicate, set, map, take, Option, Some, None, refl, sym, ap, ap₂, subst, ◌∙◌, arith}
use Rattle.std.proofs.lemmas.List.{length-map, map-set, take-map}
use Rattle.std.proofs.lemmas.Option.{none-some, same_Some, slice_get-map, slice_get_within}
use Rattle.std.specs.Prelude.{slice_get, option_map}
use Rattle.nr_rev.specs.declared.sides.Side.{Side}
use Rattle.nr_rev.specs.declared.sides.Side.TheVariants.{Read, Write}
use Rattle.nr_rev.specs.declared.sides.Sides.{Sides}
use Rattle.nr_rev.specs.declared.status.Status.{Status}
use Rattle.nr_rev.specs.Semaphore.{Semaphore, new_semaphore}
use Rattle.nr_rev.specs.Sides.{of_side, twice, with_side}
use Rattle.nr_gsema.specs.declared.node.GoroutineNode.{GoroutineNode}
use Rattle.nr_gsema.specs.declared.node.SemaphoreHead.{SemaphoreHead}
use Rattle.nr_gsema.specs.Links.{AreQueues, IsLinked, is_waiting, queue_from, queues_from, semaphores_from, statuses}
use Rattle.nr_gsema.specs.Table.{GoroutineTable}
use Rattle.nr_gsema.specs.Auxiliary.Table.{back_of, on_found, on_semaphore, with_semaphore, with_status}
use Rattle.nr_gsema.specs.SemaphoreChange.{with_count}
use Rattle.nr_gsema.specs.Links.{chain}
use Rattle.std.specs.Option.{IfSome}
use Rattle.nr_rev.specs.declared.status.Status.TheVariants.{Idle, Queued}
use Rattle.nr_gsema.proofs.LinkLemmas.{chain-is, first_within, last_within}
use Rattle.nr_gsema.specs.Delta.{HasSemaphore}
use Rattle.nr_gsema.proofs.ListLemmas.{last_split, each_alike, map_same}
use Rattle.nr_gsema.proofs.QueueLemmas.{queue_is, AreQueues-from}
use Rattle.nr_gsema.proofs.RequeueLemmas.{Requeues, joins_back, joins_front, leaves_back, leaves_front, next_there, previous_there}
use Rattle.nr_gsema.proofs.UnqueuedLemmas.{popped, pushed, recounted, recounted_semaphores, restated, same_semaphores, statuses_push}
use Rattle.std.specs.Prelude.{get_or}
use Rattle.std.proofs.lemmas.Option.{slice_get_read}
use Rattle.std.proofs.Common.{drop}
use Rattle.nr_gsema.specs.Delta.{IsOutside}
use Rattle.nr_rev.specs.declared.status.Status.TheVariants.{Acquiring}
use Rattle.nr_gsema.specs.Links.{node_with}
use Rattle.nr_gsema.specs.Relinking.{end_left, or_else, with_next, with_previous}
use Rattle.nr_gsema.specs.SemaphoreChange.{released_once, unreleased, with_last, without_last}
use Rattle.nr_gsema.proofs.ListLemmas.{first_split}

-- the table of these nodes and heads
abbrev pub table_of : List GoroutineNode → List (Sides SemaphoreHead) → ℕ → GoroutineTable
table_of nodes semaphores limit = record { goroutines = statuses nodes; semaphores = map (semaphores_from nodes) semaphores; limit = limit }

-- true if these nodes and heads are linked and represent this table
pub record AreTable (nodes : List GoroutineNode) (semaphores : List (Sides SemaphoreHead)) (limit : ℕ) (t : GoroutineTable) : Type 0 where
  pub queues : AreQueues nodes semaphores (queues_from nodes semaphores)
  pub view : table_of nodes semaphores limit ≡ t

-- lists equal to such nodes and heads also represent the table
pub AreTable-same : {nodes : List GoroutineNode} {semaphores : List (Sides SemaphoreHead)} {limit : ℕ} {t : GoroutineTable} (ys : List GoroutineNode) (zs : List (Sides SemaphoreHead))
    → AreTable nodes semaphores limit t → ys ≡ nodes → zs ≡ semaphores → AreTable ys zs limit t
AreTable-same {nodes} {semaphores} {limit} {t} ys zs is a b =
    subst (λ (r : List GoroutineNode). AreTable r zs limit t) (sym a) (subst (λ (s : List (Sides SemaphoreHead)). AreTable nodes s limit t) (sym b) is)

-- a change to a semaphore that exists
pub on_semaphore_is : (s : ℕ) (side : Side) (change : Semaphore → Semaphore) (t : GoroutineTable) (both : Sides Semaphore) → slice_get t.semaphores s ≡ Some both
    → on_semaphore s side change t ≡ with_semaphore s side both (change (of_side side both)) t
on_semaphore_is s side change t both is = ap (λ (o : Option (Sides Semaphore)). on_found s side change o t) is

pub semaphores_at : (nodes : List GoroutineNode) (semaphores : List (Sides SemaphoreHead)) (s : ℕ) (both : Sides SemaphoreHead) → slice_get semaphores s ≡ Some both
    → slice_get (map (semaphores_from nodes) semaphores) s ≡ Some (semaphores_from nodes both)
semaphores_at nodes semaphores s both is = slice_get-map (semaphores_from nodes) semaphores s ∙ ap (option_map (semaphores_from nodes)) is

pub of_side-from : (nodes : List GoroutineNode) (side : Side) (both : Sides SemaphoreHead)
    → of_side side (semaphores_from nodes both) ≡ record { count = (of_side side both).count; queue = queue_from nodes (of_side side both) }
of_side-from nodes Read both = refl
of_side-from nodes Write both = refl

-- each status in the table is the status of a node
status_node : (nodes : List GoroutineNode) (g : ℕ) (status : Status) → slice_get (statuses nodes) g ≡ Some status → (node : GoroutineNode) × (slice_get nodes g ≡ Some node) × (node.status ≡ status)
status_node nodes g status is = go (slice_get nodes g) refl
  where
    go : (o : Option GoroutineNode) → slice_get nodes g ≡ o → (node : GoroutineNode) × (slice_get nodes g ≡ Some node) × (node.status ≡ status)
    go None none = absurd (none-some status (sym (slice_get-map (λ (x : GoroutineNode). x.status) nodes g ∙ ap (option_map (λ (x : GoroutineNode). x.status)) none) ∙ is))
    go (Some node) found = (node, found, same_Some node.status status (sym (slice_get-map (λ (x : GoroutineNode). x.status) nodes g ∙ ap (option_map (λ (x : GoroutineNode). x.status)) found) ∙ is))

pub has_within : (s : ℕ) (side : Side) (P : Semaphore → Type 0) (t : GoroutineTable) → HasSemaphore s side P t → s < length t.semaphores
has_within s side P t has = slice_get_within t.semaphores s has.0 has.1

within_of : (o : Option ℕ) (m n : ℕ) → n ≡ m → ((b : ℕ) → o ≡ Some b → b < m) → IfSome o (λ b. b < n)
within_of None m n same h = tt
within_of (Some b) m n same h = let below = h b refl in omega arith

-- The table after a change to a queue. `written` is the list of nodes that the code wrote; it is as
-- long as the old list.
requeued_table : {nodes new : List GoroutineNode} {semaphores : List (Sides SemaphoreHead)} {limit s g : ℕ} {t : GoroutineTable} {side : Side} {x : Sides SemaphoreHead} {head : SemaphoreHead}
    {status : Status} {queue : List ℕ} → AreTable nodes semaphores limit t → Requeues nodes new semaphores s side x head g status queue → slice_get semaphores s ≡ Some x
    → (change : Semaphore → Semaphore) → change (record { count = (of_side side x).count; queue = queue_from nodes (of_side side x) }) ≡ record { count = head.count; queue = queue }
    → (ys written : List GoroutineNode) (zs : List (Sides SemaphoreHead)) → (length written ≡ length nodes → ys ≡ written) → written ≡ new → zs ≡ set semaphores s (with_side side head x)
    → AreTable ys zs limit (with_status g status (on_semaphore s side change t))
requeued_table {nodes} {new} {semaphores} {limit} {s} {g} {t} {side} {x} {head} {status} {queue} is change_of there change is_change ys written zs same written_is heads_are =
    let table : List Status → List (Sides Semaphore) → GoroutineTable = λ gs ss. record { goroutines = gs; semaphores = ss; limit = limit } in
    let was = semaphores_from nodes x in
    let changed : change (of_side side was) ≡ record { count = head.count; queue = queue } = ap change (of_side-from nodes side x) ∙ is_change in
    AreTable-same ys zs
    (record {
      queues = change_of.queues;
      view =
          ap₂ table change_of.moved (change_of.written ∙ ap (λ (y : Semaphore). set (map (semaphores_from nodes) semaphores) s (with_side side y was)) (sym changed))
          ∙ ap (with_status g status) (sym (on_semaphore_is s side change (table_of nodes semaphores limit) was (semaphores_at nodes semaphores s x there)))
          ∙ ap (λ (u : GoroutineTable). with_status g status (on_semaphore s side change u)) is.view;
    })
    (same (ap length written_is ∙ change_of.size) ∙ written_is) heads_are

abbrev pub idle_node : GoroutineNode
idle_node = record { status = Idle; next = None; previous = None }

module _ {nodes : List GoroutineNode} {semaphores : List (Sides SemaphoreHead)} {limit : ℕ} {t : GoroutineTable} (is : AreTable nodes semaphores limit t) where
  -- a goroutine outside the queues has a node whose status isn't queued
  pub outside_node : (g : ℕ) → IsOutside g t → (old : GoroutineNode) × (slice_get nodes g ≡ Some old) × (is_waiting old.status ≡ false)
  outside_node g outside = go (slice_get (statuses nodes) g) refl
    where
      same : option_map is_waiting (slice_get (statuses nodes) g) ≡ Some false
      same = ap (λ (u : GoroutineTable). option_map is_waiting (slice_get u.goroutines g)) is.view ∙ outside

      go : (o : Option Status) → slice_get (statuses nodes) g ≡ o → (old : GoroutineNode) × (slice_get nodes g ≡ Some old) × (is_waiting old.status ≡ false)
      go None none = absurd (none-some false (sym (ap (option_map is_waiting) none) ∙ same))
      go (Some status) found =
          let node = status_node nodes g status found in
          (node.0, node.1, ap is_waiting node.2 ∙ same_Some (is_waiting status) false (sym (ap (option_map is_waiting) found) ∙ same))

  -- for a socket below the limit, the heads that `get_or` reads are in the list at the socket's
  -- index
  pub head_read : (s : ℕ) (x : Sides SemaphoreHead) → s < length t.semaphores → x ≡ get_or semaphores s x → slice_get semaphores s ≡ Some x
  head_read s x within read =
      let sizes = length-map semaphores (semaphores_from nodes) in
      let same : length (map (semaphores_from nodes) semaphores) ≡ length t.semaphores = ap (λ (u : GoroutineTable). length u.semaphores) is.view in
      slice_get_read semaphores (length semaphores) s x refl (omega arith) read

  -- a property of a semaphore in the table also holds for its head
  pub head_has : (s : ℕ) (side : Side) (P : Semaphore → Type 0) (x : Sides SemaphoreHead) → slice_get semaphores s ≡ Some x → HasSemaphore s side P t
      → P (record { count = (of_side side x).count; queue = queue_from nodes (of_side side x) })
  head_has s side P x there has =
      let e : has.0 ≡ semaphores_from nodes x =
      same_Some has.0 (semaphores_from nodes x) (sym has.1 ∙ ap (λ (u : GoroutineTable). slice_get u.semaphores s) (sym is.view) ∙ semaphores_at nodes semaphores s x there) in
      subst P (ap (of_side side) e ∙ of_side-from nodes side x) has.2

  -- a goroutine in a queue has a node with that status
  pub member_queued : (s : ℕ) (side : Side) (x : Sides SemaphoreHead) → slice_get semaphores s ≡ Some x → (i g : ℕ) → slice_get (queue_from nodes (of_side side x)) i ≡ Some g
      → (node : GoroutineNode) × (slice_get nodes g ≡ Some node) × (node.status ≡ Queued s side)
  member_queued s side x there i g e =
      go (queues_from nodes semaphores s side) None (of_side side x).front (is.queues.linked s side x there) i
      (ap (λ (q : List ℕ). slice_get q i) (sym (queue_is nodes semaphores (queues_from nodes semaphores) is.queues s side x there)) ∙ e)
    where
      go : (q : List ℕ) (previous first : Option ℕ) → IsLinked nodes (Queued s side) previous q first (of_side side x).back → (k : ℕ) → slice_get q k ≡ Some g
          → (node : GoroutineNode) × (slice_get nodes g ≡ Some node) × (node.status ≡ Queued s side)
      go [] previous first l k f = absurd (none-some g f)
      go (y ∷ ys) previous first l zero f = (node_with (Queued s side) l.1.0 previous, ap (slice_get nodes) (sym (same_Some y g f)) ∙ l.1.1, refl)
      go (y ∷ ys) previous first l (suc k) f = go ys (Some y) l.1.0 l.1.2 k f

  pub member_within : (s : ℕ) (side : Side) (x : Sides SemaphoreHead) → slice_get semaphores s ≡ Some x → (i g : ℕ) → slice_get (queue_from nodes (of_side side x)) i ≡ Some g → g < length nodes
  member_within s side x there i g e = let found = member_queued s side x there i g e in slice_get_within nodes g found.0 found.1

  -- the ends of a queue have nodes
  pub front_within : (s : ℕ) (side : Side) (x : Sides SemaphoreHead) (q : SemaphoreHead) → slice_get semaphores s ≡ Some x → q ≡ of_side side x → (n : ℕ) → n ≡ length nodes
      → IfSome q.front (λ g. g < n)
  front_within s side x q there q_is n same =
      subst (λ (y : SemaphoreHead). IfSome y.front (λ g. g < n)) (sym q_is) (within_of (of_side side x).front (length nodes) n same (λ g e.
      let found = first_within nodes (Queued s side) (queues_from nodes semaphores s side) (of_side side x).front (of_side side x).back (is.queues.linked s side x there) g e in
      slice_get_within nodes g found.0 found.1))

  pub back_within : (s : ℕ) (side : Side) (x : Sides SemaphoreHead) (q : SemaphoreHead) → slice_get semaphores s ≡ Some x → q ≡ of_side side x → (n : ℕ) → n ≡ length nodes → IfSome q.back (λ g. g < n)
  back_within s side x q there q_is n same =
      subst (λ (y : SemaphoreHead). IfSome y.back (λ g. g < n)) (sym q_is) (within_of (of_side side x).back (length nodes) n same (λ g e.
      let found = last_within nodes (Queued s side) (queues_from nodes semaphores s side) (of_side side x).front (of_side side x).back (is.queues.linked s side x there) g e in
      slice_get_within nodes g found.0 found.1))

  -- the neighbours of the ends of a queue have nodes
  pub next_within : (s : ℕ) (side : Side) (x : Sides SemaphoreHead) → slice_get semaphores s ≡ Some x → (g : ℕ) (old : GoroutineNode) → slice_get nodes g ≡ Some old
      → slice_get (queue_from nodes (of_side side x)) 0 ≡ Some g → (n : ℕ) → n ≡ length nodes → IfSome old.next (λ k. k < n)
  next_within s side x there g old at first n same =
      let queue = queue_from nodes (of_side side x) in
      within_of old.next (length nodes) n same (next_there nodes semaphores is.queues s side x there g old at (drop 1 queue) (first_split queue g first))

  pub previous_within : (s : ℕ) (side : Side) (x : Sides SemaphoreHead) → slice_get semaphores s ≡ Some x → (g : ℕ) (old : GoroutineNode) → slice_get nodes g ≡ Some old
      → back_of (queue_from nodes (of_side side x)) ≡ Some g → (n : ℕ) → n ≡ length nodes → IfSome old.previous (λ k. k < n)
  previous_within s side x there g old at last n same =
      let queue = queue_from nodes (of_side side x) in
      within_of old.previous (length nodes) n same (previous_there nodes semaphores is.queues s side x there g old at (take (length queue - 1) queue) (last_split queue g last))

  -- a goroutine that is in no queue joins the back of a queue
  pub joined_back : (s : ℕ) (side : Side) (g : ℕ) (x : Sides SemaphoreHead) (q : SemaphoreHead) → slice_get semaphores s ≡ Some x → q ≡ of_side side x → IsOutside g t
      → (ys written : List GoroutineNode) (zs : List (Sides SemaphoreHead)) → (length written ≡ length nodes → ys ≡ written)
      → written ≡ with_next q.back (Some g) (set nodes g (node_with (Queued s side) None q.back))
      → zs ≡ set semaphores s (with_side side (record { count = q.count; front = or_else q.front g; back = Some g }) x)
      → AreTable ys zs limit (with_status g (Queued s side) (on_semaphore s side (with_last g) t))
  joined_back s side g x q there q_is outside =
      let old = outside_node g outside in
      subst
      (λ (y : SemaphoreHead). (ys written : List GoroutineNode) (zs : List (Sides SemaphoreHead)) → (length written ≡ length nodes → ys ≡ written)
      → written ≡ with_next y.back (Some g) (set nodes g (node_with (Queued s side) None y.back))
      → zs ≡ set semaphores s (with_side side (record { count = y.count; front = or_else y.front g; back = Some g }) x)
      → AreTable ys zs limit (with_status g (Queued s side) (on_semaphore s side (with_last g) t)))
      (sym q_is) (requeued_table is (joins_back nodes semaphores is.queues s side x there g old.0 old.1 (of_side side x).count old.2) there (with_last g) refl)

  -- a goroutine that is in no queue joins the front of a queue, and the semaphore's count decreases
  pub joined_front : (s : ℕ) (side : Side) (g : ℕ) (x : Sides SemaphoreHead) (q : SemaphoreHead) → slice_get semaphores s ≡ Some x → q ≡ of_side side x → IsOutside g t
      → (ys written : List GoroutineNode) (zs : List (Sides SemaphoreHead)) → (length written ≡ length nodes → ys ≡ written)
      → written ≡ with_previous q.front (Some g) (set nodes g (node_with (Queued s side) q.front None))
      → zs ≡ set semaphores s (with_side side (record { count = q.count - 1; front = Some g; back = or_else q.back g }) x)
      → AreTable ys zs limit (with_status g (Queued s side) (on_semaphore s side (unreleased (Some g)) t))
  joined_front s side g x q there q_is outside =
      let old = outside_node g outside in
      subst
      (λ (y : SemaphoreHead). (ys written : List GoroutineNode) (zs : List (Sides SemaphoreHead)) → (length written ≡ length nodes → ys ≡ written)
      → written ≡ with_previous y.front (Some g) (set nodes g (node_with (Queued s side) y.front None))
      → zs ≡ set semaphores s (with_side side (record { count = y.count - 1; front = Some g; back = or_else y.back g }) x)
      → AreTable ys zs limit (with_status g (Queued s side) (on_semaphore s side (unreleased (Some g)) t)))
      (sym q_is) (requeued_table is (joins_front nodes semaphores is.queues s side x there g old.0 old.1 ((of_side side x).count - 1) old.2) there (unreleased (Some g)) refl)

  -- the last goroutine leaves a queue
  pub left_back : (s : ℕ) (side : Side) (g : ℕ) (x : Sides SemaphoreHead) (q : SemaphoreHead) → slice_get semaphores s ≡ Some x → q ≡ of_side side x → (old : GoroutineNode)
      → slice_get nodes g ≡ Some old → back_of (queue_from nodes (of_side side x)) ≡ Some g
      → (ys written : List GoroutineNode) (zs : List (Sides SemaphoreHead)) → (length written ≡ length nodes → ys ≡ written)
      → written ≡ with_next old.previous None (set nodes g (node_with (Acquiring s side) None None))
      → zs ≡ set semaphores s (with_side side (record { count = q.count; front = end_left old.previous q.front; back = old.previous }) x)
      → AreTable ys zs limit (with_status g (Acquiring s side) (on_semaphore s side without_last t))
  left_back s side g x q there q_is old at last =
      let queue = queue_from nodes (of_side side x) in
      subst
      (λ (y : SemaphoreHead). (ys written : List GoroutineNode) (zs : List (Sides SemaphoreHead)) → (length written ≡ length nodes → ys ≡ written)
      → written ≡ with_next old.previous None (set nodes g (node_with (Acquiring s side) None None))
      → zs ≡ set semaphores s (with_side side (record { count = y.count; front = end_left old.previous y.front; back = old.previous }) x)
      → AreTable ys zs limit (with_status g (Acquiring s side) (on_semaphore s side without_last t)))
      (sym q_is) (requeued_table is (leaves_back nodes semaphores is.queues s side x there g old at (of_side side x).count (Acquiring s side) (take (length queue - 1) queue) refl
      (last_split queue g last)) there without_last refl)

  -- the first goroutine leaves a queue, and the semaphore's count increases
  pub left_front : (s : ℕ) (side : Side) (g : ℕ) (x : Sides SemaphoreHead) (q : SemaphoreHead) → slice_get semaphores s ≡ Some x → q ≡ of_side side x → (old : GoroutineNode)
      → slice_get nodes g ≡ Some old → slice_get (queue_from nodes (of_side side x)) 0 ≡ Some g
      → (ys written : List GoroutineNode) (zs : List (Sides SemaphoreHead)) → (length written ≡ length nodes → ys ≡ written)
      → written ≡ with_previous old.next None (set nodes g (node_with (Acquiring s side) None None))
      → zs ≡ set semaphores s (with_side side (record { count = q.count + 1; front = old.next; back = end_left old.next q.back }) x)
      → AreTable ys zs limit (with_status g (Acquiring s side) (on_semaphore s side released_once t))
  left_front s side g x q there q_is old at first =
      let queue = queue_from nodes (of_side side x) in
      subst
      (λ (y : SemaphoreHead). (ys written : List GoroutineNode) (zs : List (Sides SemaphoreHead)) → (length written ≡ length nodes → ys ≡ written)
      → written ≡ with_previous old.next None (set nodes g (node_with (Acquiring s side) None None))
      → zs ≡ set semaphores s (with_side side (record { count = y.count + 1; front = old.next; back = end_left old.next y.back }) x)
      → AreTable ys zs limit (with_status g (Acquiring s side) (on_semaphore s side released_once t)))
      (sym q_is) (requeued_table is (leaves_front nodes semaphores is.queues s side x there g old at ((of_side side x).count + 1) (Acquiring s side) (drop 1 queue) refl (first_split queue g first))
      there released_once refl)

  -- the table after a goroutine outside the queues gets another status
  pub status_set : (g : ℕ) (node : GoroutineNode) (status : Status) → slice_get nodes g ≡ Some node → IsOutside g t → is_waiting status ≡ false
      → AreTable (set nodes g (record node { status = status })) semaphores limit (with_status g status t)
  status_set g node status at outside none =
      let new = set nodes g (record node { status = status }) in
      let old = outside_node g outside in
      let was : is_waiting node.status ≡ false = ap (λ (y : GoroutineNode). is_waiting y.status) (same_Some node old.0 (sym at ∙ old.1)) ∙ old.2 in
      let k = restated nodes semaphores (queues_from nodes semaphores) g node (record node { status = status }) is.queues at was none refl refl in
      let table : List Status → List (Sides Semaphore) → GoroutineTable = λ gs ss. record { goroutines = gs; semaphores = ss; limit = limit } in
      record {
        queues = AreQueues-from new semaphores (queues_from nodes semaphores) k;
        view =
            ap₂ table (map-set (λ (x : GoroutineNode). x.status) nodes g (record node { status = status })) (same_semaphores nodes new semaphores (queues_from nodes semaphores) is.queues k)
            ∙ ap (with_status g status) is.view;
      }

  -- the table after the count of a semaphore changes
  pub count_set : (s : ℕ) (side : Side) (x : Sides SemaphoreHead) (count : ℕ) → slice_get semaphores s ≡ Some x
      → AreTable nodes (set semaphores s (with_side side (record (of_side side x) { count = count }) x)) limit (on_semaphore s side (with_count count) t)
  count_set s side x count there =
      let head : SemaphoreHead = record (of_side side x) { count = count } in
      let was = semaphores_from nodes x in
      let table : List (Sides Semaphore) → GoroutineTable = λ ss. record { goroutines = statuses nodes; semaphores = ss; limit = limit } in
      let same : record { count = count; queue = queue_from nodes (of_side side x) } ≡ with_count count (of_side side was) = ap (with_count count) (sym (of_side-from nodes side x)) in
      record {
        queues = AreQueues-from nodes (set semaphores s (with_side side head x)) (queues_from nodes semaphores)
            (recounted nodes semaphores (queues_from nodes semaphores) s side x head is.queues there refl refl);
        view =
            ap table (recounted_semaphores nodes semaphores s side x head refl ∙ ap (λ (y : Semaphore). set (map (semaphores_from nodes) semaphores) s (with_side side y was)) same)
            ∙ sym (on_semaphore_is s side (with_count count) (table_of nodes semaphores limit) was (semaphores_at nodes semaphores s x there))
            ∙ ap (on_semaphore s side (with_count count)) is.view;
      }

  -- the table with one more goroutine, which is idle
  pub one_more : AreTable (nodes ++ idle_node ∷ []) semaphores limit (record t { goroutines = t.goroutines ++ Idle ∷ [] })
  one_more =
      let new = nodes ++ idle_node ∷ [] in
      let k = pushed nodes semaphores (queues_from nodes semaphores) idle_node is.queues refl refl refl in
      let table : List Status → List (Sides Semaphore) → GoroutineTable = λ gs ss. record { goroutines = gs; semaphores = ss; limit = limit } in
      record {
        queues = AreQueues-from new semaphores (queues_from nodes semaphores) k;
        view =
            ap₂ table (statuses_push nodes idle_node) (same_semaphores nodes new semaphores (queues_from nodes semaphores) is.queues k)
            ∙ ap (λ (u : GoroutineTable). record u { goroutines = u.goroutines ++ Idle ∷ [] }) is.view;
      }

  -- the table without the last goroutine, which is idle
  pub last_gone : slice_get t.goroutines (length t.goroutines - 1) ≡ Some Idle
      → AreTable (take (length nodes - 1) nodes) semaphores limit (record t { goroutines = take (length t.goroutines - 1) t.goroutines })
  last_gone idle =
      let n = length nodes - 1 in
      let new = take n nodes in
      let same : length (statuses nodes) - 1 ≡ n = ap (λ k. k - 1) (length-map nodes (λ (x : GoroutineNode). x.status)) in
      let found = status_node nodes n Idle (ap (slice_get (statuses nodes)) (sym same) ∙ ap (λ (u : GoroutineTable). slice_get u.goroutines (length u.goroutines - 1)) is.view ∙ idle) in
      let whole : nodes ≡ new ++ found.0 ∷ [] = last_split nodes found.0 found.1 in
      let k = popped new semaphores (queues_from nodes semaphores) found.0 (subst (λ (ys : List GoroutineNode). AreQueues ys semaphores (queues_from nodes semaphores)) whole is.queues)
      (ap is_waiting found.2) in
      let table : List Status → List (Sides Semaphore) → GoroutineTable = λ gs ss. record { goroutines = gs; semaphores = ss; limit = limit } in
      record {
        queues = AreQueues-from new semaphores (queues_from nodes semaphores) k;
        view =
            ap₂ table (sym (take-map (λ (x : GoroutineNode). x.status) n nodes) ∙ ap (λ m. take m (statuses nodes)) (sym same))
            (same_semaphores nodes new semaphores (queues_from nodes semaphores) is.queues k)
            ∙ ap (λ (u : GoroutineTable). record u { goroutines = take (length u.goroutines - 1) u.goroutines }) is.view;
      }

abbrev pub new_head : SemaphoreHead
new_head = record { count = 0; front = None; back = None }

abbrev pub new_heads : Sides SemaphoreHead
new_heads = record { read = new_head; write = new_head }

-- without goroutines, each queue is empty
pub none_queued : (n : ℕ) → AreQueues [] (replicate n (record { read = new_head; write = new_head })) (λ s side. [])
none_queued n =
    record {
      linked = λ s side both at.
          let same : both ≡ record { read = new_head; write = new_head } = each_alike n (record { read = new_head; write = new_head }) s both at in
          (ap (λ (y : Sides SemaphoreHead). (of_side side y).front) same ∙ front_none side, ap (λ (y : Sides SemaphoreHead). (of_side side y).back) same ∙ back_none side);
      queued = λ s side within g. refl;
      alone = λ g node is. absurd (none-some node is);
      named = λ g s side is. absurd (none-some (Queued s side) is);
    }
  where
    front_none : (side : Side) → (of_side side (record { read = new_head; write = new_head })).front ≡ None
    front_none Read = refl
    front_none Write = refl

    back_none : (side : Side) → (of_side side (record { read = new_head; write = new_head })).back ≡ None
    back_none Read = refl
    back_none Write = refl

pub none_table : (n limit : ℕ) → table_of [] (replicate n new_heads) limit ≡ record { goroutines = []; semaphores = replicate n (twice new_semaphore); limit = limit }
none_table n limit =
    let table : List (Sides Semaphore) → GoroutineTable = λ ss. record { goroutines = []; semaphores = ss; limit = limit } in
    let none : chain 0 [] None ≡ [] = chain-is 0 [] (Queued 0 Read) None [] None None (refl, refl) (omega arith) in
    let both : List ℕ → Sides Semaphore = λ q. twice (record { count = 0; queue = q }) in
    ap table (map_same (semaphores_from []) n new_heads (twice new_semaphore) (ap both none))

pub none_made : (n limit : ℕ) → AreTable [] (replicate n new_heads) limit (record { goroutines = []; semaphores = replicate n (twice new_semaphore); limit = limit })
none_made n limit = record { queues = AreQueues-from [] (replicate n new_heads) (λ s side. []) (none_queued n); view = none_table n limit }
