-- Lemmas about one swap while an entry is sifted up or down.
use Rattle.std.proofs.Common.{◌≡◌, ◌⊎◌, inl, inr, ⊎_elim, ℕ, suc, ◌<◌, ◌≤◌, true, false, List, length, refl, sym, ap, ◌∙◌, subst, arith}
use Rattle.std.proofs.lemmas.List.Edits.{Swapped}
use Rattle.std.proofs.lemmas.Bool.{cases_eq, cases_lt}
use Rattle.nr_rev.specs.declared.timer.Entry.{Entry}
use Rattle.nr_timers.specs.Order.{at, is_less}
use Rattle.nr_timers.specs.PathToRoot.{parent, Leads, OnPath, Raised, Sunk}
use Rattle.nr_timers.specs.Auxiliary.PathToRoot.{OrderedAbove, OrderedBelow}
use Rattle.nr_timers.specs.PathLaws.{Leads-more, OnPath-cases, OnPath-more, OnPath-le}
use Rattle.nr_timers.proofs.OrderLemmas.{less_once, not_less-trans, same_less}
use Rattle.nr_timers.proofs.PathLemmas.{Leads-between}

module _ (old new : List Entry) (p : ℕ) (above : 0 < p) (within : p < length old) (size : length new ≡ length old) (less : is_less (at old p) (at old (parent p)) ≡ true)
    (swapped : Swapped (at old) (at new) p (parent p)) where
  -- a move up by one place
  pub OrderedAbove-up : OrderedAbove old p → OrderedAbove new (parent p)
  OrderedAbove-up h = record {
    others = λ i i_above i_within not_here.
        ⊎_elim (λ e. same_less _ _ (at old (parent p)) (at old p) false (ap (at new) e ∙ swapped.0) (ap (λ j. at new (parent j)) e ∙ swapped.1) (less_once _ _ less))
        (
        λ not_p. ⊎_elim
        (λ e. same_less _ _ (at old i) (at old (parent p)) false (swapped.2 i not_p not_here) (ap (at new) e ∙ swapped.0) (h.across i i_above (omega arith) e above))
        (
        λ not_child. ⊎_elim
        (
        λ e. same_less _ _ (at old i) (at old p) false (swapped.2 i not_p not_here) (ap (at new) e ∙ swapped.1)
        (not_less-trans (at old p) (at old (parent p)) (at old i) (less_once _ _ less) (same_less _ _ _ _ false refl (sym (ap (at old) e)) (h.others i i_above (omega arith) not_p)))
        )
        (λ not_beside. same_less _ _ (at old i) (at old (parent i)) false (swapped.2 i not_p not_here) (swapped.2 (parent i) not_child not_beside) (h.others i i_above (omega arith) not_p))
        (cases_eq (parent i) (parent p))
        )
        (cases_eq (parent i) p)
        )
        (cases_eq i p);
    across = λ i i_above i_within child top.
        let higher : at new (parent (parent p)) ≡ at old (parent (parent p)) = swapped.2 (parent (parent p)) (λ e. omega arith) (λ e. omega arith) in
        let first : is_less (at old (parent p)) (at old (parent (parent p))) ≡ false = h.others (parent p) top (omega arith) (λ e. omega arith) in
        ⊎_elim (λ e. same_less _ _ (at old (parent p)) (at old (parent (parent p))) false (ap (at new) e ∙ swapped.0) higher first)
        (
        λ not_p. same_less _ _ (at old i) (at old (parent (parent p))) false (swapped.2 i not_p (λ e. omega arith)) higher
        (not_less-trans (at old (parent (parent p))) (at old (parent p)) (at old i) first (same_less _ _ _ _ false refl (sym (ap (at old) child)) (h.others i i_above (omega arith) not_p)))
        )
        (cases_eq i p);
  }

  pub Raised-up : (q : ℕ) (last : List Entry) → length last ≡ length old → Raised new (parent p) (at new (parent p)) q last → Raised old p (at old p) q last
  Raised-up q last size_last h =
      let q_le : q ≤ parent p = OnPath-le (parent p) q h.on_path in
      record {
        on_path = OnPath-more p q above h.on_path;
        arrives = h.arrives ∙ swapped.1;
        lower = λ k on_path higher. ⊎_elim
            (λ e. rw e (h.others p (omega arith) (λ on. λ le. let k_le = OnPath-le (parent p) p on in omega arith) ∙ swapped.0))
            (λ rest. let k_le = OnPath-le (parent p) k rest.1 in h.lower k rest.1 higher ∙ swapped.2 (parent k) (λ e. omega arith) (λ e. omega arith))
            (OnPath-cases p k on_path);
        greater = λ k on_path higher. ⊎_elim
            (λ e. rw e less)
            (λ rest. let k_le = OnPath-le (parent p) k rest.1 in same_less _ _ _ _ true (sym swapped.1) (sym (swapped.2 (parent k) (λ e. omega arith) (λ e. omega arith))) (h.greater k rest.1 higher))
            (OnPath-cases p k on_path);
        highest = λ top. same_less _ _ _ _ false (sym swapped.1) (sym (swapped.2 (parent q) (λ e. omega arith) (λ e. omega arith))) (h.highest top);
        others = λ k lt off.
            h.others k lt (λ on le. off (OnPath-more p k above on) le)
            ∙ swapped.2 k (λ e. off (0, e) (omega arith)) (λ e. off (1, (above, e)) (omega arith));
      }

module _ (old new : List Entry) (p c : ℕ) (above : 0 < c) (is_child : parent c ≡ p) (within : c < length old) (size : length new ≡ length old) (less : is_less (at old c) (at old p) ≡ true)
    (least : (i : ℕ) → 0 < i → i < length old → parent i ≡ p → is_less (at old i) (at old c) ≡ false) (swapped : Swapped (at old) (at new) c p) where
  -- a move down by one place
  pub OrderedBelow-down : OrderedBelow old p → OrderedBelow new c
  OrderedBelow-down h = record {
    others = λ i i_above i_within not_below.
        ⊎_elim (λ e. same_less _ _ (at old p) (at old c) false (ap (at new) e ∙ swapped.0) (ap (λ j. at new (parent j)) e ∙ ap (at new) is_child ∙ swapped.1) (less_once _ _ less))
        (
        λ not_c. ⊎_elim
        (λ e. same_less _ _ (at old i) (at old c) false (swapped.2 i not_c (λ e2. omega arith)) (ap (at new) e ∙ swapped.1) (least i i_above (omega arith) e))
        (
        λ not_beside. ⊎_elim
        (λ e. same_less _ _ (at old c) (at old (parent p)) false (ap (at new) e ∙ swapped.1) (ap (λ j. at new (parent j)) e ∙ swapped.2 (parent p) (λ e2. omega arith) (λ e2. omega arith))
        (h.across c above within is_child (omega arith)))
        (λ not_p. same_less _ _ (at old i) (at old (parent i)) false (swapped.2 i not_c not_p) (swapped.2 (parent i) not_below not_beside) (h.others i i_above (omega arith) not_beside))
        (cases_eq i p)
        )
        (cases_eq (parent i) p)
        )
        (cases_eq i c);
    across = λ i i_above i_within child top.
        same_less _ _ (at old i) (at old c) false (swapped.2 i (λ e. omega arith) (λ e. omega arith)) (ap (at new) is_child ∙ swapped.1)
        (same_less _ _ _ _ false refl (sym (ap (at old) child)) (h.others i i_above (omega arith) (λ e. omega arith)));
  }

  pub Sunk-down : (q : ℕ) (last : List Entry) → length last ≡ length old → Sunk new c (at new c) q last → Sunk old p (at old p) q last
  Sunk-down q last size_last h =
      let p_below : p < c = omega arith in
      let c_le : c ≤ q = OnPath-le q c h.on_path in
      let to_p : OnPath q p = (suc h.on_path.0, subst (λ x. Leads (suc h.on_path.0) q x) is_child (Leads-more h.on_path.0 q c h.on_path.1 above)) in
      -- a place on the path below p is c or is below c
      let below : (k : ℕ) → OnPath q k → p < k → (k ≡ c) ⊎ ((c < k) × (c ≤ parent k)) =
      λ k on_path lower. ⊎_elim
      (λ le. let on_c = Leads-between h.on_path.0 on_path.0 q c k h.on_path.1 on_path.1 le in
      ⊎_elim (λ e. inl e) (λ rest. let k_le = OnPath-le (parent c) k rest.1 in absurd (omega arith)) (OnPath-cases c k on_c))
      (λ lt. let on_k = Leads-between on_path.0 h.on_path.0 q k c on_path.1 h.on_path.1 (omega arith) in
      ⊎_elim (λ e. absurd (omega arith)) (λ rest. inr (lt, OnPath-le (parent k) c rest.1)) (OnPath-cases k c on_k))
      (⊎_elim (λ lt. inr lt) (λ le. inl le) (cases_lt c k))
      in
      record {
        on_path = to_p;
        within = h.within;
        arrives = h.arrives ∙ swapped.0;
        higher = λ k on_path lower. ⊎_elim
            (λ e. ap (λ j. at last (parent j)) e ∙ ap (at last) is_child ∙ h.others p (omega arith) (λ on le. omega arith) ∙ swapped.1 ∙ sym (ap (at old) e))
            (λ rest. h.higher k on_path rest.0 ∙ swapped.2 k (λ e. omega arith) (λ e. omega arith))
            (below k on_path lower);
        less = λ k on_path lower. ⊎_elim
            (λ e. rw e less)
            (λ rest. same_less _ _ _ _ true (sym (swapped.2 k (λ e. omega arith) (λ e. omega arith))) (sym swapped.0) (h.less k on_path rest.0))
            (below k on_path lower);
        least = λ k i on_path lower i_above i_within beside. ⊎_elim
            (λ e. same_less _ _ _ _ false refl (ap (at old) e) (least i i_above (omega arith) (beside ∙ ap parent e ∙ is_child)))
            (λ rest. same_less _ _ _ _ false (sym (swapped.2 i (λ e. omega arith) (λ e. omega arith))) (sym (swapped.2 k (λ e. omega arith) (λ e. omega arith)))
            (h.least k i on_path rest.0 i_above i_within beside))
            (below k on_path lower);
        lowest = λ i i_above i_within child. same_less _ _ _ _ false (sym (swapped.2 i (λ e. omega arith) (λ e. omega arith))) (sym swapped.0) (h.lowest i i_above i_within child);
        others = λ k lt off.
            h.others k lt (λ on le. off on (omega arith))
            ∙ swapped.2 k (λ e. off (rw e h.on_path) (omega arith)) (λ e. off (rw e to_p) (omega arith));
      }
