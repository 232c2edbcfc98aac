-- Lemmas about the queues that nodes and heads form.
use Rattle.std.proofs.Common.{◌≡◌, ◌≢◌, ℕ, ◌<◌, ◌≤◌, List, length, Option, Some, None, refl, sym, ap, ap₂, subst, ◌∙◌, arith}
use Rattle.std.proofs.lemmas.List.{length-map}
use Rattle.std.proofs.lemmas.Option.{slice_get_within, slice_get-map}
use Rattle.std.specs.Prelude.{slice_get, option_map}
use Rattle.nr_rev.specs.declared.sides.Side.{Side}
use Rattle.nr_rev.specs.declared.sides.Side.TheVariants.{Read, Write}
use Rattle.nr_rev.specs.declared.sides.Sides.{Sides}
use Rattle.nr_rev.specs.declared.status.Status.{Status}
use Rattle.nr_rev.specs.declared.status.Status.TheVariants.{Queued}
use Rattle.nr_rev.specs.Lock.{bit}
use Rattle.nr_rev.specs.Semaphore.{Semaphore}
use Rattle.nr_rev.specs.Sides.{of_side, with_side}
use Rattle.nr_rev.specs.WellFormed.{is_queued}
use Rattle.nr_gsema.specs.declared.node.GoroutineNode.{GoroutineNode}
use Rattle.nr_gsema.specs.declared.node.SemaphoreHead.{SemaphoreHead}
use Rattle.nr_gsema.specs.Links.{AreQueues, IsLinked, chain, front_in, queue_from, queues_from, semaphores_from, statuses}
use Rattle.nr_laws.proofs.DistinctNumberLemmas.{times, few_below}
use Rattle.nr_gsema.proofs.LinkLemmas.{chain-is}
use Rattle.nr_gsema.proofs.PlaceLemmas.{bit_le}
use Rattle.nr_gsema.proofs.ListLemmas.{there_is}

pub status_at : (nodes : List GoroutineNode) (g : ℕ) (node : GoroutineNode) → slice_get nodes g ≡ Some node → slice_get (statuses nodes) g ≡ Some node.status
status_at nodes g node is = slice_get-map (λ (x : GoroutineNode). x.status) nodes g ∙ ap (option_map (λ (x : GoroutineNode). x.status)) is

module _ (nodes : List GoroutineNode) (semaphores : List (Sides SemaphoreHead)) (queues : ℕ → Side → List ℕ) (h : AreQueues nodes semaphores queues) where
  pub once : (s : ℕ) (side : Side) → s < length semaphores → (k : ℕ) → times k (queues s side) ≤ 1
  once s side within k = let a = h.queued s side within k in let b = bit_le (is_queued s side (slice_get (statuses nodes) k)) in omega arith

  member_there : (s : ℕ) (side : Side) → s < length semaphores → (k : ℕ) → 0 < times k (queues s side) → k < length nodes
  member_there s side within k some = go (slice_get (statuses nodes) k) refl
    where
      go : (o : Option Status) → slice_get (statuses nodes) k ≡ o → k < length nodes
      go None none = absurd (let a = h.queued s side within k in let b : bit (is_queued s side (slice_get (statuses nodes) k)) ≡ 0 = ap (λ o. bit (is_queued s side o)) none in omega arith)
      go (Some status) is = let a = slice_get_within (statuses nodes) k status is in let b = length-map nodes (λ (x : GoroutineNode). x.status) in omega arith

  pub short : (s : ℕ) (side : Side) → s < length semaphores → length (queues s side) ≤ length nodes
  short s side within = few_below (queues s side) (length nodes) (once s side within) (member_there s side within)

  -- following the links from the front yields the queue
  pub queue_is : (s : ℕ) (side : Side) (both : Sides SemaphoreHead) → slice_get semaphores s ≡ Some both → queue_from nodes (of_side side both) ≡ queues s side
  queue_is s side both at = chain-is (length nodes) nodes (Queued s side) None (queues s side) _ _ (h.linked s side both at) (short s side (slice_get_within semaphores s both at))

  queue_found_is : (s : ℕ) (side : Side) (both : Sides SemaphoreHead) → slice_get semaphores s ≡ Some both → queues_from nodes semaphores s side ≡ queues s side
  queue_found_is s side both at = ap (λ (o : Option (Sides SemaphoreHead)). chain (length nodes) nodes (front_in side o)) at ∙ queue_is s side both at

  pub AreQueues-from : AreQueues nodes semaphores (queues_from nodes semaphores)
  AreQueues-from =
      record {
        linked =
            λ s side both at. subst (λ q. IsLinked nodes (Queued s side) None q (of_side side both).front (of_side side both).back) (sym (queue_found_is s side both at)) (h.linked s side both at);
        queued = λ s side within g. let both = there_is semaphores s within in ap (times g) (queue_found_is s side both.0 both.1) ∙ h.queued s side within g;
        alone = h.alone;
        named = h.named;
      }

-- the semaphores of both sides are unchanged
pub both_kept : (nodes new : List GoroutineNode) (x : Sides SemaphoreHead) → ((other : Side) → queue_from new (of_side other x) ≡ queue_from nodes (of_side other x))
    → semaphores_from new x ≡ semaphores_from nodes x
both_kept nodes new x same =
    let sides : List ℕ → List ℕ → Sides Semaphore = λ q r. record { read = record { count = x.read.count; queue = q }; write = record { count = x.write.count; queue = r } } in
    ap₂ sides (same Read) (same Write)

-- the semaphores of both sides, if one of them is new
pub both_from : (nodes new : List GoroutineNode) (side : Side) (head : SemaphoreHead) (both : Sides SemaphoreHead) (queue : List ℕ) → queue_from new head ≡ queue
    → ((other : Side) → other ≢ side → queue_from new (of_side other both) ≡ queue_from nodes (of_side other both))
    → semaphores_from new (with_side side head both) ≡ with_side side (record { count = head.count; queue = queue }) (semaphores_from nodes both)
both_from nodes new Read head both queue here others =
    let sides : List ℕ → List ℕ → Sides Semaphore = λ q r. record { read = record { count = head.count; queue = q }; write = record { count = both.write.count; queue = r } } in
    ap₂ sides here (others Write (λ e. cc))
both_from nodes new Write head both queue here others =
    let sides : List ℕ → List ℕ → Sides Semaphore = λ q r. record { read = record { count = both.read.count; queue = q }; write = record { count = head.count; queue = r } } in
    ap₂ sides (others Read (λ e. cc)) here
