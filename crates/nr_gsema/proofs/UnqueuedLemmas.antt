-- Lemmas about the queues when only a count or a status outside the queues changes.
use Rattle.std.proofs.Common.{◌≡◌, inl, inr, ℕ, ◌<◌, true, false, List, [], ◌∷◌, ◌++◌, length, length-set, set, map, Some, None, refl, sym, ap, subst, ◌∙◌, arith}
use Rattle.std.proofs.lemmas.List.{map-set, map_push}
use Rattle.std.proofs.lemmas.Option.{same_Some}
use Rattle.std.specs.Prelude.{slice_get}
use Rattle.nr_rev.specs.declared.sides.Side.{Side}
use Rattle.nr_rev.specs.declared.sides.Sides.{Sides}
use Rattle.nr_rev.specs.declared.status.Status.TheVariants.{Queued}
use Rattle.nr_rev.specs.Lock.{bit}
use Rattle.nr_rev.specs.Sides.{of_side, with_side}
use Rattle.nr_rev.specs.WellFormed.{is_queued}
use Rattle.nr_rev.proofs.SideLemmas.{other_side, of_side-with_side_same, of_side-with_side_other}
use Rattle.nr_rev.proofs.ListUpdateLemmas.{slice_get-push_cases, slice_get-push_kept, slice_get-push_unseen, slice_get-set_cases, slice_get-set_unseen}
use Rattle.nr_gsema.specs.declared.node.GoroutineNode.{GoroutineNode}
use Rattle.nr_gsema.specs.declared.node.SemaphoreHead.{SemaphoreHead}
use Rattle.nr_gsema.specs.Links.{AreQueues, IsLinked, chain, is_waiting, queue_from, semaphores_from, statuses}
use Rattle.nr_gsema.proofs.LinkLemmas.{IsLinked-kept, agree_from, member}
use Rattle.nr_gsema.proofs.PlaceLemmas.{unqueued}
use Rattle.nr_gsema.proofs.ListLemmas.{map_alike}
use Rattle.nr_gsema.proofs.QueueLemmas.{status_at, queue_is, both_from, both_kept}

-- the queues stay the same if the nodes of queued goroutines are unchanged and no other goroutine
-- is queued
pub same_queues : (nodes new : List GoroutineNode) (semaphores : List (Sides SemaphoreHead)) (queues : ℕ → Side → List ℕ) → AreQueues nodes semaphores queues
    → ((s : ℕ) (side : Side) (m : ℕ) (node : GoroutineNode) → slice_get nodes m ≡ Some node → node.status ≡ Queued s side → slice_get new m ≡ Some node)
    → ((s : ℕ) (side : Side) (m : ℕ) → is_queued s side (slice_get (statuses new) m) ≡ is_queued s side (slice_get (statuses nodes) m))
    → ((m : ℕ) (node : GoroutineNode) → slice_get new m ≡ Some node → is_waiting node.status ≡ false → (node.next ≡ None) × (node.previous ≡ None))
    → ((m s : ℕ) (side : Side) → slice_get (statuses new) m ≡ Some (Queued s side) → s < length semaphores)
    → AreQueues new semaphores queues
same_queues nodes new semaphores queues h kept bits alone named =
    record {
      linked = λ s side both at.
          let l = h.linked s side both at in
          IsLinked-kept nodes new (Queued s side) None (queues s side) (of_side side both).front (of_side side both).back
          (agree_from nodes new (queues s side) (λ m some.
          let found = member nodes (Queued s side) None (queues s side) (of_side side both).front (of_side side both).back l m some in
          kept s side m found.0 found.1 found.2 ∙ sym found.1))
          l;
      queued = λ s side within g. h.queued s side within g ∙ ap bit (sym (bits s side g));
      alone = alone;
      named = named;
    }

-- if the old and the new nodes form the same queues, the semaphores stay the same
pub same_semaphores : (nodes new : List GoroutineNode) (semaphores : List (Sides SemaphoreHead)) (queues : ℕ → Side → List ℕ) → AreQueues nodes semaphores queues → AreQueues new semaphores queues
    → map (semaphores_from new) semaphores ≡ map (semaphores_from nodes) semaphores
same_semaphores nodes new semaphores queues h k =
    map_alike (semaphores_from new) (semaphores_from nodes) semaphores (λ s x at.
    both_kept nodes new x (λ other. queue_is new semaphores queues k s other x at ∙ sym (queue_is nodes semaphores queues h s other x at)))

pub statuses_push : (nodes : List GoroutineNode) (node : GoroutineNode) → statuses (nodes ++ node ∷ []) ≡ statuses nodes ++ node.status ∷ []
statuses_push nodes node = map_push (λ (x : GoroutineNode). x.status) nodes node

-- a goroutine that is in no queue is added
pub pushed : (nodes : List GoroutineNode) (semaphores : List (Sides SemaphoreHead)) (queues : ℕ → Side → List ℕ) (node : GoroutineNode) → AreQueues nodes semaphores queues
    → is_waiting node.status ≡ false → node.next ≡ None → node.previous ≡ None → AreQueues (nodes ++ node ∷ []) semaphores queues
pushed nodes semaphores queues node h none no_next no_previous =
    same_queues nodes (nodes ++ node ∷ []) semaphores queues h
    (λ s side m x at queued. slice_get-push_kept nodes node x m at)
    (λ s side m.
    ap (λ st. is_queued s side (slice_get st m)) (statuses_push nodes node)
    ∙ slice_get-push_unseen (is_queued s side) (statuses nodes) node.status m (sym (unqueued node.status s side none)))
    (λ m x at outside. elim (slice_get-push_cases nodes node x m at) [
      | inl old ↦ h.alone m x old outside
      | inr last ↦ subst (λ (y : GoroutineNode). (y.next ≡ None) × (y.previous ≡ None)) last.1 (no_next, no_previous)
    ])
    (λ m s side is. elim (slice_get-push_cases (statuses nodes) node.status (Queued s side) m (ap (λ st. slice_get st m) (sym (statuses_push nodes node)) ∙ is)) [
      | inl old ↦ h.named m s side old
      | inr last ↦ absurd (let t : true ≡ false = ap is_waiting (sym last.1) ∙ none in cc)
    ])

-- the goroutine made last, which is in no queue, is removed
pub popped : (nodes : List GoroutineNode) (semaphores : List (Sides SemaphoreHead)) (queues : ℕ → Side → List ℕ) (node : GoroutineNode) → AreQueues (nodes ++ node ∷ []) semaphores queues
    → is_waiting node.status ≡ false → AreQueues nodes semaphores queues
popped nodes semaphores queues node h none =
    same_queues (nodes ++ node ∷ []) nodes semaphores queues h
    (λ s side m x at queued. elim (slice_get-push_cases nodes node x m at) [
      | inl old ↦ old
      | inr last ↦ absurd (let t : true ≡ false = ap is_waiting (sym queued) ∙ ap (λ (y : GoroutineNode). is_waiting y.status) (sym last.1) ∙ none in cc)
    ])
    (λ s side m.
    sym (ap (λ st. is_queued s side (slice_get st m)) (statuses_push nodes node)
    ∙ slice_get-push_unseen (is_queued s side) (statuses nodes) node.status m (sym (unqueued node.status s side none))))
    (λ m x at outside. h.alone m x (slice_get-push_kept nodes node x m at) outside)
    (λ m s side is. h.named m s side (ap (λ st. slice_get st m) (statuses_push nodes node) ∙ slice_get-push_kept (statuses nodes) node.status (Queued s side) m is))

-- the queues stay the same when a goroutine's status changes, if neither status is queued
pub restated : (nodes : List GoroutineNode) (semaphores : List (Sides SemaphoreHead)) (queues : ℕ → Side → List ℕ) (g : ℕ) (old new : GoroutineNode) → AreQueues nodes semaphores queues
    → slice_get nodes g ≡ Some old → is_waiting old.status ≡ false → is_waiting new.status ≡ false → new.next ≡ old.next → new.previous ≡ old.previous → AreQueues (set nodes g new) semaphores queues
restated nodes semaphores queues g old new h is was none same_next same_previous =
    same_queues nodes (set nodes g new) semaphores queues h
    (λ s side m x at queued. elim (slice_get-set_cases nodes g old new m is) [
      | inl here ↦
          let same : x ≡ old = same_Some x old (sym at ∙ ap (slice_get nodes) here.0 ∙ is) in
          absurd (let t : true ≡ false = ap is_waiting (sym queued) ∙ ap (λ (y : GoroutineNode). is_waiting y.status) same ∙ was in cc)
      | inr beyond ↦ beyond.1 ∙ at
    ])
    (λ s side m.
    ap (λ st. is_queued s side (slice_get st m)) (map-set (λ (x : GoroutineNode). x.status) nodes g new)
    ∙ slice_get-set_unseen (is_queued s side) (statuses nodes) g old.status new.status m (status_at nodes g old is) (unqueued new.status s side none ∙ sym (unqueued old.status s side was)))
    (λ m x at outside. elim (slice_get-set_cases nodes g old new m is) [
      | inl here ↦
          let a = h.alone g old is was in
          subst (λ (y : GoroutineNode). (y.next ≡ None) × (y.previous ≡ None)) (same_Some new x (sym here.1 ∙ at)) (same_next ∙ a.0, same_previous ∙ a.1)
      | inr beyond ↦ h.alone m x (sym beyond.1 ∙ at) outside
    ])
    (λ m s side named. elim (slice_get-set_cases (statuses nodes) g old.status new.status m (status_at nodes g old is)) [
      | inl here ↦
          let q : new.status ≡ Queued s side = same_Some new.status (Queued s side) (sym here.1 ∙ ap (λ st. slice_get st m) (sym (map-set (λ (x : GoroutineNode). x.status) nodes g new)) ∙ named) in
          absurd (let t : true ≡ false = ap is_waiting (sym q) ∙ none in cc)
      | inr beyond ↦ h.named m s side (sym beyond.1 ∙ ap (λ st. slice_get st m) (sym (map-set (λ (x : GoroutineNode). x.status) nodes g new)) ∙ named)
    ])

-- only the count of a semaphore changes
pub recounted : (nodes : List GoroutineNode) (semaphores : List (Sides SemaphoreHead)) (queues : ℕ → Side → List ℕ) (s : ℕ) (side : Side) (both : Sides SemaphoreHead) (head : SemaphoreHead)
    → AreQueues nodes semaphores queues → slice_get semaphores s ≡ Some both → head.front ≡ (of_side side both).front → head.back ≡ (of_side side both).back
    → AreQueues nodes (set semaphores s (with_side side head both)) queues
recounted nodes semaphores queues s side both head h there same_front same_back =
    record {
      linked = λ k other x at.
          let size = length-set semaphores s (with_side side head both) in
          elim (slice_get-set_cases semaphores s both (with_side side head both) k there) [
            | inl here ↦
                let same : with_side side head both ≡ x = same_Some (with_side side head both) x (sym here.1 ∙ at) in
                let was : IsLinked nodes (Queued k other) None (queues k other) (of_side other both).front (of_side other both).back =
                h.linked k other both (ap (slice_get semaphores) here.0 ∙ there) in
                subst (λ (y : Sides SemaphoreHead). IsLinked nodes (Queued k other) None (queues k other) (of_side other y).front (of_side other y).back) same
                (elim (other_side other side) [
                  | inl e ↦
                      let row_is : of_side other (with_side side head both) ≡ head = ap (λ o. of_side o (with_side side head both)) e ∙ of_side-with_side_same side head both in
                      let both_is : of_side other both ≡ of_side side both = ap (λ o. of_side o both) e in
                      subst (λ (y : SemaphoreHead). IsLinked nodes (Queued k other) None (queues k other) y.front y.back) (sym row_is)
                      (subst (λ f. IsLinked nodes (Queued k other) None (queues k other) f head.back) (ap (λ (y : SemaphoreHead). y.front) both_is ∙ sym same_front)
                      (subst (λ b. IsLinked nodes (Queued k other) None (queues k other) (of_side other both).front b) (ap (λ (y : SemaphoreHead). y.back) both_is ∙ sym same_back) was))
                  | inr ne ↦
                      subst (λ (y : SemaphoreHead). IsLinked nodes (Queued k other) None (queues k other) y.front y.back) (sym (of_side-with_side_other other side head both ne)) was
                ])
            | inr beyond ↦ h.linked k other x (sym beyond.1 ∙ at)
          ];
      queued = λ k other within g. h.queued k other (let size = length-set semaphores s (with_side side head both) in omega arith) g;
      alone = h.alone;
      named = λ g k other is. let below = h.named g k other is in let size = length-set semaphores s (with_side side head both) in omega arith;
    }

pub recounted_semaphores : (nodes : List GoroutineNode) (semaphores : List (Sides SemaphoreHead)) (s : ℕ) (side : Side) (both : Sides SemaphoreHead) (head : SemaphoreHead)
    → head.front ≡ (of_side side both).front
    → map (semaphores_from nodes) (set semaphores s (with_side side head both))
    ≡ set (map (semaphores_from nodes) semaphores) s (with_side side (record { count = head.count; queue = queue_from nodes (of_side side both) }) (semaphores_from nodes both))
recounted_semaphores nodes semaphores s side both head same_front =
    map-set (semaphores_from nodes) semaphores s (with_side side head both)
    ∙ ap (set (map (semaphores_from nodes) semaphores) s) (both_from nodes nodes side head both (queue_from nodes (of_side side both)) (ap (chain (length nodes) nodes) same_front) (λ other ne. refl))
