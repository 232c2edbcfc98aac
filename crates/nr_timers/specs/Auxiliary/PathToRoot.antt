-- Helper definitions for `PathToRoot`. The laws in THEOREM.md don't use them.
use Rattle.std.specs.Prelude.{◌≡◌, ◌⊎◌, ℕ, zero, suc, ◌<◌, false, List, length}
use Rattle.std.specs.List.{swap}
use Rattle.nr_rev.specs.declared.timer.Entry.{Entry}
use Rattle.nr_timers.specs.Order.{is_less, at}
use Rattle.nr_timers.specs.PathToRoot.{InOrder, Raised, Sunk, parent}

-- the entries after an entry moved n steps up a path, from p
abbrev pub moved_up : ℕ → List Entry → ℕ → List Entry
moved_up zero places p = places
moved_up (suc n) places p = moved_up n (swap places p (parent p)) (parent p)

-- the entries, once one of them has moved n steps down a path, to p
abbrev pub moved_down : ℕ → List Entry → ℕ → List Entry
moved_down zero places p = places
moved_down (suc n) places p = swap (moved_down n places (parent p)) p (parent p)

-- true if no child of p is less than p's parent
abbrev pub InOrderAcross : List Entry → ℕ → Type 0
InOrderAcross places p =
    (i : ℕ) → 0 < i → i < length places → parent i ≡ p → 0 < p
    → is_less (at places i) (at places (parent p)) ≡ false

-- True if no entry is less than its parent, except perhaps the entry at p, and no child of p is
-- less than p's parent.
pub record OrderedAbove (places : List Entry) (p : ℕ) : Type 0 where
  pub others : (i : ℕ) → 0 < i → i < length places → (i ≡ p → ⊥) → InOrder places i
  pub across : InOrderAcross places p

-- True if no entry is less than its parent, except perhaps the children of p, and no child of p is
-- less than p's parent.
pub record OrderedBelow (places : List Entry) (p : ℕ) : Type 0 where
  pub others : (i : ℕ) → 0 < i → i < length places → (parent i ≡ p → ⊥) → InOrder places i
  pub across : InOrderAcross places p

-- True if no entry is less than its parent, except perhaps the entry at p and the children of p,
-- and no child of p is less than p's parent.
pub record OrderedAround (places : List Entry) (p : ℕ) : Type 0 where
  pub others : (i : ℕ) → 0 < i → i < length places → (i ≡ p → ⊥) → (parent i ≡ p → ⊥)
      → InOrder places i
  pub across : InOrderAcross places p

-- true if the entry at p moved up to q, or moved down to q because it isn't less than its parent
abbrev pub Sifted : List Entry → ℕ → ℕ → List Entry → Type 0
Sifted old p q new =
    ((q < p) × Raised old p (at old p) q new)
    ⊎ ((0 < p → is_less (at old p) (at old (parent p)) ≡ false) × Sunk old p (at old p) q new)
