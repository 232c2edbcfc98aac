-- Lemmas about the queues when a goroutine joins or leaves one of them at an end.
use Rattle.std.proofs.Common.{◌≡◌, ◌≢◌, inl, inr, ℕ, ◌+◌, ◌<◌, ◌≤◌, true, false, ◌&&◌, List, [], ◌∷◌, ◌++◌, length, length-set, set, map, Option, Some, None, refl, sym, ap, subst, ◌∙◌, arith}
use Rattle.std.proofs.lemmas.Bool.{cases_eq}
use Rattle.std.proofs.lemmas.List.{map-set}
use Rattle.std.proofs.lemmas.Option.{same_Some, none-some, slice_get_within}
use Rattle.std.specs.Prelude.{slice_get, ◌==◌, if◌then◌else◌}
use Rattle.nr_rev.specs.declared.sides.Side.{Side}
use Rattle.nr_rev.specs.declared.sides.Sides.{Sides}
use Rattle.nr_rev.specs.declared.status.Status.{Status}
use Rattle.nr_rev.specs.declared.status.Status.TheVariants.{Queued}
use Rattle.nr_rev.specs.Lock.{bit}
use Rattle.nr_rev.specs.Sides.{of_side, with_side, same_side}
use Rattle.nr_rev.specs.WellFormed.{is_queued}
use Rattle.nr_rev.proofs.SideLemmas.{other_side, of_side-with_side_same, of_side-with_side_other}
use Rattle.nr_rev.proofs.ListUpdateLemmas.{slice_get-set_cases, slice_get-set_unseen}
use Rattle.nr_rev.proofs.NumberLemmas.{number_same, count_push, count_front}
use Rattle.nr_laws.proofs.SemaphoreStepLemmas.{bits_moved}
use Rattle.nr_gsema.specs.declared.node.GoroutineNode.{GoroutineNode}
use Rattle.nr_gsema.specs.declared.node.SemaphoreHead.{SemaphoreHead}
use Rattle.nr_gsema.specs.Links.{AreQueues, IsLinked, chain, front_in, is_waiting, queue_from, queues_from, node_with, semaphores_from, statuses}
use Rattle.nr_gsema.specs.Relinking.{followed_by, preceded_by, with_next, with_previous, or_else, end_left}
use Rattle.nr_laws.proofs.DistinctNumberLemmas.{times}
use Rattle.nr_gsema.proofs.NodeLemmas.{Relinks, relinks}
use Rattle.nr_gsema.proofs.LinkLemmas.{IsLinked-kept, agree_from, back_left, before_member, first-is, first_within, itself, last_within, linked_back, linked_front, member, unlinked_back, unlinked_front}
use Rattle.nr_gsema.proofs.PlaceLemmas.{Near, Apart, place_apart, place_same, place_cases, unqueued, not_elsewhere, queued_parts, differs, bit_false, bit_true, queued_here}
use Rattle.nr_gsema.proofs.ListLemmas.{there_is, set_map_alike}
use Rattle.nr_gsema.proofs.QueueLemmas.{status_at, once, queue_is, AreQueues-from, both_from, both_kept}

-- the queues with one of them replaced
abbrev requeue : ℕ → Side → List ℕ → (ℕ → Side → List ℕ) → ℕ → Side → List ℕ
requeue s side queue queues k other = if (k == s) && same_side other side then queue else queues k other

requeue_here : (s : ℕ) (side : Side) (queue : List ℕ) (queues : ℕ → Side → List ℕ) → requeue s side queue queues s side ≡ queue
requeue_here s side queue queues = ap (λ t. if t then queue else queues s side) (place_same s side)

requeue_apart : (s : ℕ) (side : Side) (queue : List ℕ) (queues : ℕ → Side → List ℕ) (k : ℕ) (other : Side) → Apart s side k other → requeue s side queue queues k other ≡ queues k other
requeue_apart s side queue queues k other apart = ap (λ t. if t then queue else queues k other) (place_apart s side k other apart)

-- true if, after a change, the queues are linked, g has its new status, and the semaphore is as
-- defined
pub record Requeues (nodes new : List GoroutineNode) (semaphores : List (Sides SemaphoreHead)) (s : ℕ) (side : Side) (both : Sides SemaphoreHead) (head : SemaphoreHead) (g : ℕ) (status : Status)
    (queue : List ℕ) : Type 0 where
  pub queues : AreQueues new (set semaphores s (with_side side head both)) (queues_from new (set semaphores s (with_side side head both)))
  pub moved : statuses new ≡ set (statuses nodes) g status
  pub written : map (semaphores_from new) (set semaphores s (with_side side head both))
      ≡ set (map (semaphores_from nodes) semaphores) s (with_side side (record { count = head.count; queue = queue }) (semaphores_from nodes both))
  pub size : length new ≡ length nodes

-- a change to one queue, and to the status of the goroutine that joins or leaves it
module _ (nodes new : List GoroutineNode) (semaphores : List (Sides SemaphoreHead)) (queues : ℕ → Side → List ℕ) (s : ℕ) (side : Side) (both : Sides SemaphoreHead) (head : SemaphoreHead) (g : ℕ)
    (old at : GoroutineNode) (neighbour : Option ℕ) (change : GoroutineNode → GoroutineNode) (queue : List ℕ) (h : AreQueues nodes semaphores queues) (there : slice_get semaphores s ≡ Some both)
    (is : slice_get nodes g ≡ Some old) (r : Relinks nodes new g at neighbour change) (was_near : Near s side old.status) (near : Near s side at.status)
    (beside : (b : ℕ) → neighbour ≡ Some b → (x : GoroutineNode) × (slice_get nodes b ≡ Some x) × (x.status ≡ Queued s side)) (keeps : (x : GoroutineNode) → (change x).status ≡ x.status)
    (free : is_waiting at.status ≡ false → (at.next ≡ None) × (at.previous ≡ None)) (linked : IsLinked new (Queued s side) None queue head.front head.back)
    (counted : (k : ℕ) → times k queue + bit (is_queued s side (Some old.status) && (g == k)) ≡ times k (queues s side) + bit (is_queued s side (Some at.status) && (g == k))) where
  changed : Sides SemaphoreHead
  changed = with_side side head both

  within : s < length semaphores
  within = slice_get_within semaphores s both there

  kept : (k : ℕ) (other : Side) → Apart s side k other → (x : Sides SemaphoreHead) → slice_get semaphores k ≡ Some x
      → IsLinked new (Queued k other) None (queues k other) (of_side other x).front (of_side other x).back
  kept k other apart x at_k =
      let linked_k = h.linked k other x at_k in
      IsLinked-kept nodes new (Queued k other) None (queues k other) (of_side other x).front (of_side other x).back
      (agree_from nodes new (queues k other) (λ m some.
      let found = member nodes (Queued k other) None (queues k other) (of_side other x).front (of_side other x).back linked_k m some in
      let m_apart : m ≢ g =
      λ e. differs s side k other old.status was_near apart (ap (λ (y : GoroutineNode). y.status) (same_Some old found.0 (sym is ∙ ap (slice_get nodes) (sym e) ∙ found.1)) ∙ found.2) in
      elim (r.beside m found.0 m_apart found.1) [
        | inl it ↦
            let b = beside m it.0 in
            absurd (differs s side k other b.0.status (inl b.2) apart (ap (λ (y : GoroutineNode). y.status) (same_Some b.0 found.0 (sym b.1 ∙ found.1)) ∙ found.2))
        | inr it ↦ it.1 ∙ sym found.1
      ]))
      linked_k

  Linked : ℕ → Side → Sides SemaphoreHead → Type 0
  Linked k other x = IsLinked new (Queued k other) None (requeue s side queue queues k other) (of_side other x).front (of_side other x).back

  linked_here : Linked s side (with_side side head both)
  unfolding Linked
  linked_here =
      subst (λ (x : SemaphoreHead). IsLinked new (Queued s side) None (requeue s side queue queues s side) x.front x.back) (sym (of_side-with_side_same side head both))
      (subst (λ (q : List ℕ). IsLinked new (Queued s side) None q head.front head.back) (sym (requeue_here s side queue queues)) linked)

  linked_other : (other : Side) → other ≢ side → Linked s other (with_side side head both)
  unfolding Linked
  linked_other other ne =
      subst (λ (x : SemaphoreHead). IsLinked new (Queued s other) None (requeue s side queue queues s other) x.front x.back) (sym (of_side-with_side_other other side head both ne))
      (subst (λ (q : List ℕ). IsLinked new (Queued s other) None q (of_side other both).front (of_side other both).back) (sym (requeue_apart s side queue queues s other (λ _ e. ne e)))
      (kept s other (λ _ e. ne e) both there))

  linked_beyond : (k : ℕ) (other : Side) → k ≢ s → (x : Sides SemaphoreHead) → slice_get semaphores k ≡ Some x → Linked k other x
  unfolding Linked
  linked_beyond k other ne x at_k =
      subst (λ (q : List ℕ). IsLinked new (Queued k other) None q (of_side other x).front (of_side other x).back) (sym (requeue_apart s side queue queues k other (λ e _. ne e)))
      (kept k other (λ e _. ne e) x at_k)

  linked_all : (k : ℕ) (other : Side) (x : Sides SemaphoreHead) → slice_get (set semaphores s (with_side side head both)) k ≡ Some x → Linked k other x
  linked_all k other x at_k =
      elim (slice_get-set_cases semaphores s both (with_side side head both) k there) [
        | inl here ↦
            subst (λ y. Linked k other y) (same_Some (with_side side head both) x (sym here.1 ∙ at_k))
            (subst (λ n. Linked n other (with_side side head both)) (sym here.0)
            (elim (other_side other side) [
              | inl e ↦ subst (λ o. Linked s o (with_side side head both)) (sym e) linked_here
              | inr ne ↦ linked_other other ne
            ]))
        | inr beyond ↦ linked_beyond k other beyond.0 x (sym beyond.1 ∙ at_k)
      ]

  counted_here : (m : ℕ) → times m (requeue s side queue queues s side) ≡ bit (is_queued s side (slice_get (statuses new) m))
  counted_here m =
      let a = bits_moved (is_queued s side) (statuses nodes) g m old.status at.status (status_at nodes g old is) in
      let b = h.queued s side within m in
      let c = counted m in
      let d : times m (requeue s side queue queues s side) ≡ times m queue = ap (times m) (requeue_here s side queue queues) in
      let e : bit (is_queued s side (slice_get (statuses new) m)) ≡ bit (is_queued s side (slice_get (set (statuses nodes) g at.status) m)) =
      ap (λ st. bit (is_queued s side (slice_get st m))) r.moved in
      omega arith

  counted_beyond : (k : ℕ) (other : Side) → Apart s side k other → k < length semaphores → (m : ℕ)
      → times m (requeue s side queue queues k other) ≡ bit (is_queued k other (slice_get (statuses new) m))
  counted_beyond k other apart k_within m =
      ap (times m) (requeue_apart s side queue queues k other apart) ∙ h.queued k other k_within m
      ∙ ap bit (sym (slice_get-set_unseen (is_queued k other) (statuses nodes) g old.status at.status m (status_at nodes g old is)
      (not_elsewhere s side k other at.status near apart ∙ sym (not_elsewhere s side k other old.status was_near apart))))
      ∙ ap (λ st. bit (is_queued k other (slice_get st m))) (sym r.moved)

  counted_all : (k : ℕ) (other : Side) → k < length (set semaphores s (with_side side head both)) → (m : ℕ)
      → times m (requeue s side queue queues k other) ≡ bit (is_queued k other (slice_get (statuses new) m))
  counted_all k other k_within m =
      elim (place_cases s side k other) [
        | inl same ↦
            subst (λ n. times m (requeue s side queue queues n other) ≡ bit (is_queued n other (slice_get (statuses new) m))) (sym same.0)
            (subst (λ o. times m (requeue s side queue queues s o) ≡ bit (is_queued s o (slice_get (statuses new) m))) (sym same.1) (counted_here m))
        | inr apart ↦ counted_beyond k other apart (let e = length-set semaphores s (with_side side head both) in omega arith) m
      ]

  alone_all : (k : ℕ) (x : GoroutineNode) → slice_get new k ≡ Some x → is_waiting x.status ≡ false → (x.next ≡ None) × (x.previous ≡ None)
  alone_all k x at_k none =
      elim (cases_eq k g) [
        | inl e ↦
            let same : at ≡ x = same_Some at x (sym r.here ∙ ap (slice_get new) (sym e) ∙ at_k) in
            subst (λ (y : GoroutineNode). (y.next ≡ None) × (y.previous ≡ None)) same (free (ap (λ (y : GoroutineNode). is_waiting y.status) same ∙ none))
        | inr ne ↦
            let was : (y : GoroutineNode) × (slice_get nodes k ≡ Some y) = there_is nodes k (let a = slice_get_within new k x at_k in let b = r.size in omega arith) in
            elim (r.beside k was.0 ne was.1) [
              | inl it ↦
                  let b = beside k it.0 in
                  let same : change was.0 ≡ x = same_Some (change was.0) x (sym it.1 ∙ at_k) in
                  let waits : x.status ≡ Queued s side =
                  ap (λ (y : GoroutineNode). y.status) (sym same) ∙ keeps was.0 ∙ ap (λ (y : GoroutineNode). y.status) (same_Some was.0 b.0 (sym was.1 ∙ b.1)) ∙ b.2 in
                  absurd (let t : true ≡ false = ap is_waiting (sym waits) ∙ none in cc)
              | inr it ↦
                  let same : was.0 ≡ x = same_Some was.0 x (sym it.1 ∙ at_k) in
                  subst (λ (y : GoroutineNode). (y.next ≡ None) × (y.previous ≡ None)) same (h.alone k was.0 was.1 (ap (λ (y : GoroutineNode). is_waiting y.status) same ∙ none))
            ]
      ]

  named_all : (k m : ℕ) (other : Side) → slice_get (statuses new) k ≡ Some (Queued m other) → m < length (set semaphores s (with_side side head both))
  named_all k m other is_k =
      let size = length-set semaphores s (with_side side head both) in
      let now : slice_get (set (statuses nodes) g at.status) k ≡ Some (Queued m other) = ap (λ st. slice_get st k) (sym r.moved) ∙ is_k in
      let below : m < length semaphores =
      elim (slice_get-set_cases (statuses nodes) g old.status at.status k (status_at nodes g old is)) [
        | inl here ↦
            let q : at.status ≡ Queued m other = same_Some at.status (Queued m other) (sym here.1 ∙ now) in
            elim near [
              | inl e ↦ let p = queued_parts s side m other (sym e ∙ q) in subst (λ n. n < length semaphores) (sym p.0) within
              | inr none ↦ absurd (let t : true ≡ false = ap is_waiting (sym q) ∙ none in cc)
            ]
        | inr beyond ↦ h.named k m other (sym beyond.1 ∙ now)
      ] in
      omega arith

  requeued : AreQueues new (set semaphores s (with_side side head both)) (requeue s side queue queues)
  unfolding Linked
  requeued = record { linked = linked_all; queued = counted_all; alone = alone_all; named = named_all }

  queue_new : (k : ℕ) (other : Side) (x : Sides SemaphoreHead) → slice_get (set semaphores s (with_side side head both)) k ≡ Some x
      → queue_from new (of_side other x) ≡ requeue s side queue queues k other
  queue_new = queue_is new (set semaphores s (with_side side head both)) (requeue s side queue queues) requeued

  -- every other queue is unchanged
  queue_kept : (k : ℕ) (other : Side) (x y : Sides SemaphoreHead) → Apart s side k other → slice_get (set semaphores s (with_side side head both)) k ≡ Some x → slice_get semaphores k ≡ Some y
      → of_side other x ≡ of_side other y → queue_from new (of_side other y) ≡ queue_from nodes (of_side other y)
  queue_kept k other x y apart at_x at_y same =
      ap (queue_from new) (sym same) ∙ queue_new k other x at_x ∙ requeue_apart s side queue queues k other apart ∙ sym (queue_is nodes semaphores queues h k other y at_y)

  at_s : slice_get (set semaphores s (with_side side head both)) s ≡ Some (with_side side head both)
  at_s = elim (slice_get-set_cases semaphores s both (with_side side head both) s there) [ inl here ↦ here.1 | inr beyond ↦ absurd (beyond.0 refl) ]

  queue_here : queue_from new head ≡ queue
  queue_here =
      ap (queue_from new) (sym (of_side-with_side_same side head both)) ∙ queue_new s side (with_side side head both) at_s ∙ requeue_here s side queue queues

  requeues : Requeues nodes new semaphores s side both head g at.status queue
  requeues =
      let f = semaphores_from new in
      let was = semaphores_from nodes in
      record {
        queues = AreQueues-from new (set semaphores s (with_side side head both)) (requeue s side queue queues) requeued;
        moved = r.moved;
        written =
            map-set f semaphores s (with_side side head both)
            ∙ set_map_alike f was semaphores s (f (with_side side head both)) (λ k x ne at_k.
            both_kept nodes new x (λ other.
            queue_kept k other x x (λ e _. ne e) (elim (slice_get-set_cases semaphores s both (with_side side head both) k there) [ inl here ↦ absurd (ne here.0) | inr beyond ↦ beyond.1 ∙ at_k ]) at_k
            refl))
            ∙ ap (set (map was semaphores) s)
            (both_from nodes new side head both queue queue_here (λ other ne.
            queue_kept s other (with_side side head both) both (λ _ e. ne e) at_s there (of_side-with_side_other other side head both ne)));
        size = r.size;
      }

-- the four changes to a table's queues: a goroutine joins or leaves a queue at either end
module _ (nodes : List GoroutineNode) (semaphores : List (Sides SemaphoreHead)) (h : AreQueues nodes semaphores (queues_from nodes semaphores)) (s : ℕ) (side : Side) (both : Sides SemaphoreHead)
    (there : slice_get semaphores s ≡ Some both) (g : ℕ) (old : GoroutineNode) (is : slice_get nodes g ≡ Some old) where
  queue : List ℕ
  queue = queue_from nodes (of_side side both)

  is_queue : queues_from nodes semaphores s side ≡ queue_from nodes (of_side side both)
  is_queue = ap (λ (o : Option (Sides SemaphoreHead)). chain (length nodes) nodes (front_in side o)) there

  below : s < length semaphores
  below = slice_get_within semaphores s both there

  linked_now : IsLinked nodes (Queued s side) None (queue_from nodes (of_side side both)) (of_side side both).front (of_side side both).back
  linked_now = subst (λ (q : List ℕ). IsLinked nodes (Queued s side) None q (of_side side both).front (of_side side both).back) is_queue (h.linked s side both there)

  once_now : (k : ℕ) → times k (queue_from nodes (of_side side both)) ≤ 1
  once_now k = subst (λ (q : List ℕ). times k q ≤ 1) is_queue (once nodes semaphores (queues_from nodes semaphores) h s side below k)

  absent : is_waiting old.status ≡ false → times g (queue_from nodes (of_side side both)) ≡ 0
  absent none =
      ap (times g) (sym is_queue) ∙ h.queued s side below g ∙ ap (λ o. bit (is_queued s side o)) (status_at nodes g old is) ∙ ap bit (unqueued old.status s side none)

  -- a goroutine outside the queues is nobody's neighbour
  not_waiting : is_waiting old.status ≡ false → (b : ℕ) (node : GoroutineNode) → slice_get nodes b ≡ Some node → node.status ≡ Queued s side → b ≢ g
  not_waiting none b node at queued e =
      let same : node ≡ old = same_Some node old (sym at ∙ ap (slice_get nodes) e ∙ is) in
      absurd (let t : true ≡ false = ap is_waiting (sym queued) ∙ ap (λ (x : GoroutineNode). is_waiting x.status) same ∙ none in cc)

  pub joins_back : (count : ℕ) → is_waiting old.status ≡ false
      → Requeues nodes (with_next (of_side side both).back (Some g) (set nodes g (node_with (Queued s side) None (of_side side both).back))) semaphores s side both
      (record { count = count; front = or_else (of_side side both).front g; back = Some g }) g (Queued s side) (queue_from nodes (of_side side both) ++ g ∷ [])
  joins_back count none =
      let x = of_side side both in
      let q = queue_from nodes x in
      let at = node_with (Queued s side) None x.back in
      let beside = λ (b : ℕ) (e : x.back ≡ Some b). last_within nodes (Queued s side) q x.front x.back linked_now b e in
      let r = relinks nodes g old at (followed_by (Some g)) is (λ _. refl) x.back (λ e. let b = beside g e in not_waiting none g b.0 b.1 b.2 refl) in
      requeues nodes (with_next x.back (Some g) (set nodes g at)) semaphores (queues_from nodes semaphores) s side both
      (record { count = count; front = or_else x.front g; back = Some g }) g old at x.back (followed_by (Some g)) (q ++ g ∷ []) h there is r (inr none) (inl refl) beside (λ _. refl) (λ e. cc)
      (linked_back nodes (with_next x.back (Some g) (set nodes g at)) (Queued s side) g x.back r None q x.front once_now (absent none) linked_now)
      (λ k.
      let a = count_push g k q in
      let b : times k (queues_from nodes semaphores s side) ≡ times k q = ap (times k) is_queue in
      let c = bit_false (is_queued s side (Some old.status)) (g == k) (unqueued old.status s side none) in
      let d = bit_true (is_queued s side (Some (Queued s side))) (g == k) (queued_here s side) in
      omega arith)

  pub joins_front : (count : ℕ) → is_waiting old.status ≡ false
      → Requeues nodes (with_previous (of_side side both).front (Some g) (set nodes g (node_with (Queued s side) (of_side side both).front None))) semaphores s side both
      (record { count = count; front = Some g; back = or_else (of_side side both).back g }) g (Queued s side) (g ∷ queue_from nodes (of_side side both))
  joins_front count none =
      let x = of_side side both in
      let q = queue_from nodes x in
      let at = node_with (Queued s side) x.front None in
      let beside = λ (b : ℕ) (e : x.front ≡ Some b). first_within nodes (Queued s side) q x.front x.back linked_now b e in
      let r = relinks nodes g old at (preceded_by (Some g)) is (λ _. refl) x.front (λ e. let b = beside g e in not_waiting none g b.0 b.1 b.2 refl) in
      requeues nodes (with_previous x.front (Some g) (set nodes g at)) semaphores (queues_from nodes semaphores) s side both
      (record { count = count; front = Some g; back = or_else x.back g }) g old at x.front (preceded_by (Some g)) (g ∷ q) h there is r (inr none) (inl refl) beside (λ _. refl) (λ e. cc)
      (linked_front nodes (with_previous x.front (Some g) (set nodes g at)) (Queued s side) g q x.front x.back r once_now (absent none) linked_now)
      (λ k.
      let a = count_front g k q in
      let b : times k (queues_from nodes semaphores s side) ≡ times k q = ap (times k) is_queue in
      let c = bit_false (is_queued s side (Some old.status)) (g == k) (unqueued old.status s side none) in
      let d = bit_true (is_queued s side (Some (Queued s side))) (g == k) (queued_here s side) in
      omega arith)

  -- a goroutine in the queue has the queued status
  member_status : 0 < times g (queue_from nodes (of_side side both)) → old.status ≡ Queued s side
  member_status some =
      let found = member nodes (Queued s side) None (queue_from nodes (of_side side both)) (of_side side both).front (of_side side both).back linked_now g some in
      ap (λ (x : GoroutineNode). x.status) (same_Some old found.0 (sym is ∙ found.1)) ∙ found.2

  pub leaves_front : (count : ℕ) (status : Status) (rest : List ℕ) → is_waiting status ≡ false → queue_from nodes (of_side side both) ≡ g ∷ rest
      → Requeues nodes (with_previous old.next None (set nodes g (node_with status None None))) semaphores s side both
      (record { count = count; front = old.next; back = end_left old.next (of_side side both).back }) g status rest
  leaves_front count status rest outside whole =
      let x = of_side side both in
      let q = queue_from nodes x in
      let at = node_with status None None in
      let l : IsLinked nodes (Queued s side) None (g ∷ rest) x.front x.back = subst (λ (y : List ℕ). IsLinked nodes (Queued s side) None y x.front x.back) whole linked_now in
      let one : (k : ℕ) → times k (g ∷ rest) ≤ 1 = λ k. subst (λ (y : List ℕ). times k y ≤ 1) whole (once_now k) in
      let was : old.status ≡ Queued s side = member_status (subst (λ (y : List ℕ). 0 < times g y) (sym whole) (let a = itself g rest in omega arith)) in
      let next_is : old.next ≡ slice_get rest 0 =
      ap (λ (y : GoroutineNode). y.next) (same_Some old (node_with (Queued s side) l.1.0 None) (sym is ∙ l.1.1)) ∙ first-is nodes (Queued s side) (Some g) rest l.1.0 x.back l.1.2 in
      let in_rest : (b : ℕ) → old.next ≡ Some b → 0 < times b rest = λ b e. first_is_in rest b (sym next_is ∙ e) in
      let beside = λ (b : ℕ) (e : old.next ≡ Some b). member nodes (Queued s side) (Some g) rest l.1.0 x.back l.1.2 b (in_rest b e) in
      let r = relinks nodes g old at (preceded_by None) is (λ _. refl) old.next (λ e. let a = in_rest g e in let b = one g in let c = itself g rest in absurd (omega arith)) in
      requeues nodes (with_previous old.next None (set nodes g at)) semaphores (queues_from nodes semaphores) s side both
      (record { count = count; front = old.next; back = end_left old.next x.back }) g old at old.next (preceded_by None) rest h there is r (inl was) (inr outside) beside (λ _. refl)
      (λ _. (refl, refl))
      (subst (λ (e : Option ℕ). IsLinked (with_previous old.next None (set nodes g at)) (Queued s side) None rest old.next e) (back_is rest old.next x.back next_is)
      (unlinked_front nodes (with_previous old.next None (set nodes g at)) (Queued s side) g old at rest x.front x.back is r one l))
      (λ k.
      let a = count_front g k rest in
      let b : times k (queues_from nodes semaphores s side) ≡ times k (g ∷ rest) = ap (times k) (is_queue ∙ whole) in
      let c = bit_true (is_queued s side (Some old.status)) (g == k) (ap (λ y. is_queued s side (Some y)) was ∙ queued_here s side) in
      let d = bit_false (is_queued s side (Some status)) (g == k) (unqueued status s side outside) in
      omega arith)
    where
      first_is_in : (xs : List ℕ) (b : ℕ) → slice_get xs 0 ≡ Some b → 0 < times b xs
      first_is_in [] b e = absurd (none-some b e)
      first_is_in (y ∷ ys) b e = subst (λ (k : ℕ). 0 < times k (y ∷ ys)) (same_Some y b e) (let a = itself y ys in omega arith)

      back_is : (xs : List ℕ) (next end : Option ℕ) → next ≡ slice_get xs 0 → back_left xs end ≡ end_left next end
      back_is [] next end e = ap (λ n. end_left n end) (sym e)
      back_is (y ∷ ys) next end e = ap (λ n. end_left n end) (sym e)

  pub leaves_back : (count : ℕ) (status : Status) (rest : List ℕ) → is_waiting status ≡ false → queue_from nodes (of_side side both) ≡ rest ++ g ∷ []
      → Requeues nodes (with_next old.previous None (set nodes g (node_with status None None))) semaphores s side both
      (record { count = count; front = end_left old.previous (of_side side both).front; back = old.previous }) g status rest
  leaves_back count status rest outside whole =
      let x = of_side side both in
      let q = queue_from nodes x in
      let at = node_with status None None in
      let l : IsLinked nodes (Queued s side) None (rest ++ g ∷ []) x.front x.back = subst (λ (y : List ℕ). IsLinked nodes (Queued s side) None y x.front x.back) whole linked_now in
      let one : (k : ℕ) → times k (rest ++ g ∷ []) ≤ 1 = λ k. subst (λ (y : List ℕ). times k y ≤ 1) whole (once_now k) in
      let was : old.status ≡ Queued s side =
      member_status (subst (λ (y : List ℕ). 0 < times g y) (sym whole) (let a = count_push g g rest in let b : bit (g == g) ≡ 1 = ap bit (number_same g) in omega arith)) in
      let in_rest = before_is_in rest g old x.front x.back is l in
      let not_itself : old.previous ≢ Some g = λ e.
      let a = in_rest g e in
      let b = one g in
      let c = count_push g g rest in
      let d : bit (g == g) ≡ 1 = ap bit (number_same g) in
      absurd (omega arith) in
      let beside = λ (b : ℕ) (e : old.previous ≡ Some b). member_kept rest g x.front x.back l b (in_rest b e) in
      let r = relinks nodes g old at (followed_by None) is (λ _. refl) old.previous not_itself in
      let new_linked = unlinked_back nodes (with_next old.previous None (set nodes g at)) (Queued s side) g old at is r None rest x.front x.back one l in
      requeues nodes (with_next old.previous None (set nodes g at)) semaphores (queues_from nodes semaphores) s side both
      (record { count = count; front = end_left old.previous x.front; back = old.previous }) g old at old.previous (followed_by None) rest h there is r (inl was) (inr outside) beside (λ _. refl)
      (λ _. (refl, refl))
      (subst (λ (e : Option ℕ). IsLinked (with_next old.previous None (set nodes g at)) (Queued s side) None rest e old.previous)
      (front_is (with_next old.previous None (set nodes g at)) rest g x.front x.back old.previous l new_linked) new_linked)
      (λ k.
      let a = count_push g k rest in
      let b : times k (queues_from nodes semaphores s side) ≡ times k (rest ++ g ∷ []) = ap (times k) (is_queue ∙ whole) in
      let c = bit_true (is_queued s side (Some old.status)) (g == k) (ap (λ y. is_queued s side (Some y)) was ∙ queued_here s side) in
      let d = bit_false (is_queued s side (Some status)) (g == k) (unqueued status s side outside) in
      omega arith)
    where
      before_is_in : (xs : List ℕ) (last : ℕ) (at : GoroutineNode) (first end : Option ℕ) → slice_get nodes last ≡ Some at → IsLinked nodes (Queued s side) None (xs ++ last ∷ []) first end → (b : ℕ)
          → at.previous ≡ Some b → 0 < times b xs
      before_is_in [] last at first end at_is l b e =
          absurd (none-some b (ap (λ (y : GoroutineNode). y.previous) (sym (same_Some at (node_with (Queued s side) l.1.0 None) (sym at_is ∙ l.1.1))) ∙ e))
      before_is_in (y ∷ ys) last at first end at_is l b e = before_member nodes (Queued s side) None y ys last first end at at_is l b e

      member_kept : (xs : List ℕ) (last : ℕ) (first end : Option ℕ) → IsLinked nodes (Queued s side) None (xs ++ last ∷ []) first end → (b : ℕ) → 0 < times b xs
          → (node : GoroutineNode) × (slice_get nodes b ≡ Some node) × (node.status ≡ Queued s side)
      member_kept xs last first end l b some = member nodes (Queued s side) None (xs ++ last ∷ []) first end l b (let a = count_push last b xs in omega arith)

      front_is : (changed : List GoroutineNode) (xs : List ℕ) (last : ℕ) (first end previous : Option ℕ) → IsLinked nodes (Queued s side) None (xs ++ last ∷ []) first end
          → IsLinked changed (Queued s side) None xs (slice_get xs 0) previous → slice_get xs 0 ≡ end_left previous first
      front_is changed [] last first end previous l n = ap (λ p. end_left p first) (sym n.1)
      front_is changed (y ∷ ys) last first end previous l n = by_previous previous refl
        where
          by_previous : (p : Option ℕ) → previous ≡ p → Some y ≡ end_left p first
          by_previous None e = absurd (ends_somewhere ys (Some y) n.1.0 y refl n.1.2 e)
            where
              ends_somewhere : (zs : List ℕ) (before next : Option ℕ) (b : ℕ) → before ≡ Some b → IsLinked changed (Queued s side) before zs next previous → previous ≡ None → ⊥
              ends_somewhere [] before next b is_b m none = none-some b (sym none ∙ m.1 ∙ is_b)
              ends_somewhere (z ∷ zs) before next b is_b m none = ends_somewhere zs (Some z) m.1.0 z refl m.1.2 none
          by_previous (Some p) e = sym l.0

  -- if another goroutine follows the front of the queue, it has a node
  pub next_there : (rest : List ℕ) → queue_from nodes (of_side side both) ≡ g ∷ rest → (b : ℕ) → old.next ≡ Some b → b < length nodes
  next_there rest whole b e =
      let x = of_side side both in
      let l : IsLinked nodes (Queued s side) None (g ∷ rest) x.front x.back = subst (λ (y : List ℕ). IsLinked nodes (Queued s side) None y x.front x.back) whole linked_now in
      let next_is : old.next ≡ l.1.0 = ap (λ (y : GoroutineNode). y.next) (same_Some old (node_with (Queued s side) l.1.0 None) (sym is ∙ l.1.1)) in
      go rest l.1.0 l.1.2 (sym next_is ∙ e)
    where
      go : (xs : List ℕ) (next : Option ℕ) → IsLinked nodes (Queued s side) (Some g) xs next (of_side side both).back → next ≡ Some b → b < length nodes
      go [] next m f = absurd (none-some b (sym m.0 ∙ f))
      go (y ∷ ys) next m f =
          let same : y ≡ b = same_Some y b (sym m.0 ∙ f) in
          subst (λ (k : ℕ). k < length nodes) same (slice_get_within nodes y _ m.1.1)

  -- the goroutine before the last one has a node
  pub previous_there : (rest : List ℕ) → queue_from nodes (of_side side both) ≡ rest ++ g ∷ [] → (b : ℕ) → old.previous ≡ Some b → b < length nodes
  previous_there rest whole b e =
      let x = of_side side both in
      go rest x.front (subst (λ (y : List ℕ). IsLinked nodes (Queued s side) None y x.front x.back) whole linked_now)
    where
      go : (xs : List ℕ) (first : Option ℕ) → IsLinked nodes (Queued s side) None (xs ++ g ∷ []) first (of_side side both).back → b < length nodes
      go [] first m = absurd (none-some b (ap (λ (y : GoroutineNode). y.previous) (sym (same_Some old (node_with (Queued s side) m.1.0 None) (sym is ∙ m.1.1))) ∙ e))
      go (y ∷ ys) first m =
          let some = before_member nodes (Queued s side) None y ys g first (of_side side both).back old is m b e in
          let found = member nodes (Queued s side) None (y ∷ (ys ++ g ∷ [])) first (of_side side both).back m b (let a = count_push g b (y ∷ ys) in omega arith) in
          slice_get_within nodes b found.0 found.1
