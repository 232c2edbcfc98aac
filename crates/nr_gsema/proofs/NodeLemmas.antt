-- Lemmas about the two nodes that change when a goroutine joins or leaves a queue: its own node and
-- its neighbour's.
use Rattle.std.proofs.Common.{◌≡◌, ◌≢◌, ◌⊎◌, inl, inr, ℕ, List, length, length-set, set, Option, Some, None, refl, sym, ap, ◌∙◌}
use Rattle.std.proofs.lemmas.List.{map-set}
use Rattle.std.proofs.Math.Seq.{map-set_same}
use Rattle.std.proofs.lemmas.Option.{same_Some, none-some, get_or_from_slice_get}
use Rattle.std.specs.Prelude.{slice_get}
use Rattle.nr_rev.proofs.ListUpdateLemmas.{slice_get-set_cases, slice_get-set_here}
use Rattle.nr_gsema.specs.declared.node.GoroutineNode.{GoroutineNode}
use Rattle.nr_gsema.specs.Links.{statuses}
use Rattle.nr_gsema.specs.Relinking.{set_found, with_node}

-- true if the node of g is now `at`; the node of the neighbour, if there is one, is changed; and all
-- other nodes are unchanged
pub record Relinks (nodes new : List GoroutineNode) (g : ℕ) (at : GoroutineNode) (neighbour : Option ℕ) (change : GoroutineNode → GoroutineNode) : Type 0 where
  pub here : slice_get new g ≡ Some at
  pub beside : (h : ℕ) (node : GoroutineNode) → h ≢ g → slice_get nodes h ≡ Some node
      → ((neighbour ≡ Some h) × (slice_get new h ≡ Some (change node))) ⊎ ((neighbour ≢ Some h) × (slice_get new h ≡ Some node))
  pub size : length new ≡ length nodes
  pub moved : statuses new ≡ set (statuses nodes) g at.status

module _ (nodes : List GoroutineNode) (g : ℕ) (old at : GoroutineNode) (change : GoroutineNode → GoroutineNode) (there : slice_get nodes g ≡ Some old)
    (keeps : (node : GoroutineNode) → (change node).status ≡ node.status) where
  mid : List GoroutineNode
  mid = set nodes g at

  mid_status : statuses (set nodes g at) ≡ set (statuses nodes) g at.status
  mid_status = map-set (λ (node : GoroutineNode). node.status) nodes g at

  none_beside : Relinks nodes (set nodes g at) g at None change
  none_beside =
      record {
        here = slice_get-set_here nodes g old at there;
        beside = λ h node apart is.
            elim (slice_get-set_cases nodes g old at h there) [
              | inl same ↦ absurd (apart same.0)
              | inr other ↦ inr ((λ e. none-some _ e), other.1 ∙ is)
            ];
        size = length-set nodes g at;
        moved = mid_status;
      }

  -- the change to the neighbour's node, if it has one
  one_beside : (b : ℕ) → b ≢ g → (o : Option GoroutineNode) → slice_get (set nodes g at) b ≡ o → Relinks nodes (set_found b change o (set nodes g at)) g at (Some b) change
  one_beside b apart None none =
      record {
        here = slice_get-set_here nodes g old at there;
        beside = λ h node other is.
            elim (slice_get-set_cases nodes g old at h there) [
              | inl same ↦ absurd (other same.0)
              | inr kept ↦ inr (
                (λ e. let same : b ≡ h = same_Some b h e in
                    let found : slice_get (set nodes g at) b ≡ Some node = ap (slice_get (set nodes g at)) same ∙ kept.1 ∙ is in
                    none-some node (sym none ∙ found)),
                kept.1 ∙ is,
              )
            ];
        size = length-set nodes g at;
        moved = mid_status;
      }
  one_beside b apart (Some r) found =
      record {
        here =
            elim (slice_get-set_cases (set nodes g at) b r (change r) g found) [
              | inl same ↦ absurd (apart (sym same.0))
              | inr kept ↦ kept.1 ∙ slice_get-set_here nodes g old at there
            ];
        beside = λ h node other is.
            elim (slice_get-set_cases nodes g old at h there) [
              | inl same ↦ absurd (other same.0)
              | inr kept ↦
                  elim (slice_get-set_cases (set nodes g at) b r (change r) h found) [
                    | inl same ↦
                        let found_h : slice_get (set nodes g at) h ≡ Some r = ap (slice_get (set nodes g at)) same.0 ∙ found in
                        let is_r : r ≡ node = same_Some r node (sym found_h ∙ kept.1 ∙ is) in
                        inl (ap Some (sym same.0), same.1 ∙ ap (λ x. Some (change x)) is_r)
                    | inr far ↦ inr ((λ e. far.0 (sym (same_Some b h e))), far.1 ∙ kept.1 ∙ is)
                  ]
            ];
        size = length-set (set nodes g at) b (change r) ∙ length-set nodes g at;
        moved =
            map-set_same (λ (node : GoroutineNode). node.status) (set nodes g at) b (change r) r
            (keeps r ∙ ap (λ (node : GoroutineNode). node.status) (sym (get_or_from_slice_get (set nodes g at) b r r found)))
            ∙ mid_status;
      }

  pub relinks : (neighbour : Option ℕ) → neighbour ≢ Some g → Relinks nodes (with_node neighbour change (set nodes g at)) g at neighbour change
  relinks None apart = none_beside
  relinks (Some b) apart = one_beside b (λ e. apart (ap Some e)) (slice_get (set nodes g at) b) refl
