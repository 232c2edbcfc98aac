-- Lemmas that derive a sift up or down from one swap and the rest of the sift.
use Rattle.std.proofs.Common.{◌≡◌, ⊎_elim, ℕ, suc, ◌+◌, ◌<◌, ◌≤◌, true, false, List, length, refl, sym, ap, ◌∙◌, subst, arith}
use Rattle.std.specs.List.{swap}
use Rattle.std.proofs.lemmas.List.Edits.{Swapped, length-swap}
use Rattle.std.proofs.lemmas.Bool.{cases_eq, cases_lt}
use Rattle.nr_rev.specs.declared.timer.Entry.{Entry}
use Rattle.nr_timers.specs.Order.{at, is_less}
use Rattle.nr_timers.specs.PathToRoot.{parent, Leads, OnPath, Ordered, Raised, Sunk}
use Rattle.nr_timers.specs.Auxiliary.PathToRoot.{moved_up, moved_down, OrderedAbove, OrderedBelow}
use Rattle.nr_timers.proofs.OrderLemmas.{less_self, less_once, not_less-trans}
use Rattle.nr_timers.specs.PathLaws.{Leads-more, OnPath-le}
use Rattle.nr_timers.proofs.PathLemmas.{at-swap, moved_down-more, length-moved_up, length-moved_down}
use Rattle.nr_timers.proofs.ExchangeLemmas.{OrderedAbove-up, Raised-up, OrderedBelow-down, Sunk-down}

-- an entry that is less than the least entry so far is the new least entry
pub least_new : (xs : List Entry) (from i least new : ℕ) → new ≡ i → is_less (at xs i) (at xs least) ≡ true → ((j : ℕ) → from ≤ j → j < i → is_less (at xs j) (at xs least) ≡ false) → (j : ℕ)
    → from ≤ j → j < i + 1 → is_less (at xs j) (at xs new) ≡ false
least_new xs from i least new e less so_far j lo hi =
    ⊎_elim (λ lt. rw e (not_less-trans (at xs i) (at xs least) (at xs j) (less_once _ _ less) (so_far j lo lt)))
    (λ ge. let same : j ≡ i = omega arith in rw (e, same) (less_self (at xs i)))
    (cases_lt j i)

pub least_kept : (xs : List Entry) (from i least new : ℕ) → new ≡ least → is_less (at xs i) (at xs least) ≡ false → ((j : ℕ) → from ≤ j → j < i → is_less (at xs j) (at xs least) ≡ false) → (j : ℕ)
    → from ≤ j → j < i + 1 → is_less (at xs j) (at xs new) ≡ false
least_kept xs from i least new e less so_far j lo hi =
    ⊎_elim (λ lt. rw e (so_far j lo lt))
    (λ ge. let same : j ≡ i = omega arith in rw (e, same) less)
    (cases_lt j i)

swapped_is : (old mid : List Entry) (a b : ℕ) → a < length old → b < length old → mid ≡ swap old a b → Swapped (at old) (at mid) a b
swapped_is old mid a b p q e = subst (λ (xs : List Entry). Swapped (at old) (at xs) a b) (sym e) (at-swap old a b p q)

module _ (old mid last : List Entry) (p q : ℕ) (above : 0 < p) (within : p < length old) (less : is_less (at old p) (at old (parent p)) ≡ true) (e : mid ≡ swap old p (parent p)) where
  pub up_moved : ((n : ℕ) × Leads n (parent p) q × (last ≡ moved_up n mid (parent p))) → (n : ℕ) × Leads n p q × (last ≡ moved_up n old p)
  up_moved h = (suc h.0, (above, h.1), subst (λ (xs : List Entry). last ≡ moved_up h.0 xs (parent p)) e h.2)

  pub up_raised : ((n : ℕ) × Leads n (parent p) q × (last ≡ moved_up n mid (parent p))) → Raised mid (parent p) (at mid (parent p)) q last → Raised old p (at old p) q last
  up_raised way h =
      let size : length mid ≡ length old = ap length e ∙ length-swap old p (parent p) in
      Raised-up old mid p above within size less (swapped_is old mid p (parent p) within (omega arith) e) q last (ap length way.2 ∙ length-moved_up way.0 mid (parent p) ∙ size) h

  pub up_ordered : (OrderedAbove mid (parent p) → Ordered last) → OrderedAbove old p → Ordered last
  up_ordered rest h = rest (OrderedAbove-up old mid p above within (ap length e ∙ length-swap old p (parent p)) less (swapped_is old mid p (parent p) within (omega arith) e) h)

pub Raised-none : (old : List Entry) (p : ℕ) → (0 < p → is_less (at old p) (at old (parent p)) ≡ false) → Raised old p (at old p) p old
Raised-none old p h = record {
  on_path = (0, refl);
  arrives = refl;
  lower = λ k on lt. let le = OnPath-le p k on in absurd (omega arith);
  greater = λ k on lt. let le = OnPath-le p k on in absurd (omega arith);
  highest = h;
  others = λ k lt off. refl;
}

module _ (old mid last : List Entry) (p c q : ℕ) (above : 0 < c) (is_child : parent c ≡ p) (within : c < length old) (less : is_less (at old c) (at old p) ≡ true)
    (least : (i : ℕ) → 0 < i → i < length old → parent i ≡ p → is_less (at old i) (at old c) ≡ false) (e : mid ≡ swap old c p) where
  pub down_moved : ((n : ℕ) × Leads n q c × (last ≡ moved_down n mid q)) → (n : ℕ) × Leads n q p × (last ≡ moved_down n old q)
  down_moved h = (
    suc h.0,
    subst (λ x. Leads (suc h.0) q x) is_child (Leads-more h.0 q c h.1 above),
    h.2 ∙ ap (λ xs. moved_down h.0 xs q) (e ∙ ap (swap old c) (sym is_child)) ∙ sym (moved_down-more h.0 old q c h.1),
  )

  pub down_sunk : ((n : ℕ) × Leads n q c × (last ≡ moved_down n mid q)) → Sunk mid c (at mid c) q last → Sunk old p (at old p) q last
  down_sunk way h =
      let size : length mid ≡ length old = ap length e ∙ length-swap old c p in
      Sunk-down old mid p c above is_child within size less least (swapped_is old mid c p within (omega arith) e) q last (ap length way.2 ∙ length-moved_down way.0 mid q ∙ size) h

  pub down_ordered : (OrderedBelow mid c → Ordered last) → OrderedBelow old p → Ordered last
  down_ordered rest h = rest (OrderedBelow-down old mid p c above is_child within (ap length e ∙ length-swap old c p) less least (swapped_is old mid c p within (omega arith) e) h)

module _ (old : List Entry) (p : ℕ) (within : p < length old) (lowest : (i : ℕ) → 0 < i → i < length old → parent i ≡ p → is_less (at old i) (at old p) ≡ false) where
  pub Sunk-none : Sunk old p (at old p) p old
  Sunk-none = record {
    on_path = (0, refl);
    within = within;
    arrives = refl;
    higher = λ k on lt. let le = OnPath-le p k on in absurd (omega arith);
    less = λ k on lt. let le = OnPath-le p k on in absurd (omega arith);
    least = λ k i on lt. let le = OnPath-le p k on in absurd (omega arith);
    lowest = lowest;
    others = λ k lt off. refl;
  }

  pub OrderedBelow-none : OrderedBelow old p → Ordered old
  OrderedBelow-none h i above within = ⊎_elim (λ e. rw e (lowest i above within e)) (λ other. h.others i above within other) (cases_eq (parent i) p)

-- if the least child isn't less than its parent, no child is
pub none_less : (old : List Entry) (p c : ℕ) → is_less (at old c) (at old p) ≡ false → ((i : ℕ) → 0 < i → i < length old → parent i ≡ p → is_less (at old i) (at old c) ≡ false) → (i : ℕ) → 0 < i
    → i < length old → parent i ≡ p → is_less (at old i) (at old p) ≡ false
none_less old p c not_less least i above within child = not_less-trans (at old p) (at old c) (at old i) not_less (least i above within child)

-- a sift that is longer by one swap
pub lower_more : (old mid new : List Entry) (p q : ℕ) → q < p → ((n : ℕ) × Leads n (parent p) q × (mid ≡ moved_down n old (parent p))) → new ≡ swap mid p (parent p)
    → (n : ℕ) × Leads n p q × (new ≡ moved_down n old p)
lower_more old mid new p q lt h e = (suc h.0, (omega arith, h.1), e ∙ ap (λ xs. swap xs p (parent p)) h.2)

pub lift_more : (old mid new : List Entry) (p q : ℕ) → q < p → mid ≡ swap old p (parent p) → ((n : ℕ) × Leads n (parent p) q × (new ≡ moved_up n mid (parent p)))
    → (n : ℕ) × Leads n p q × (new ≡ moved_up n old p)
lift_more old mid new p q lt e h = (suc h.0, (omega arith, h.1), h.2 ∙ ap (λ xs. moved_up h.0 xs (parent p)) e)

-- each place on the path from p to the root, except p itself, has a lower number than p
pub path_end : (p q : ℕ) → OnPath p q → p ≤ q → q ≡ p
path_end p q on le = let ge = OnPath-le p q on in omega arith

pub size_of : (old new : List Entry) (p q : ℕ) → ((n : ℕ) × Leads n p q × (new ≡ moved_down n old p)) → length new ≡ length old
size_of old new p q h = ap length h.2 ∙ length-moved_down h.0 old p

pub size_of_up : (old new : List Entry) (p q : ℕ) → ((n : ℕ) × Leads n p q × (new ≡ moved_up n old p)) → length new ≡ length old
size_of_up old new p q h = ap length h.2 ∙ length-moved_up h.0 old p
