-- Paths from a place to the root of the heap, place 0, and entries that move along them.
use Rattle.std.specs.Prelude.{◌≡◌, ℕ, zero, suc, ◌<◌, ◌≤◌, ◌-◌, ◌/◌, true, false, List, length}
use Rattle.nr_rev.specs.declared.timer.Entry.{Entry}
use Rattle.nr_timers.specs.Order.{is_less, at}

-- the parent of place p; the children of p are 4 p + 1 to 4 p + 4
abbrev pub parent : ℕ → ℕ
parent p = (p - 1) / 4

-- true if q is reached from p by n steps, each from a place to its parent
abbrev pub Leads : ℕ → ℕ → ℕ → Type 0
Leads zero p q = q ≡ p
Leads (suc n) p q = (0 < p) × Leads n (parent p) q

-- true if q is on the path from p to the root
abbrev pub OnPath : ℕ → ℕ → Type 0
OnPath p q = (n : ℕ) × Leads n p q

-- true if the entry at p isn't less than the entry at p's parent
abbrev pub InOrder : List Entry → ℕ → Type 0
InOrder places p = is_less (at places p) (at places (parent p)) ≡ false

-- true if no entry is less than the entry at its place's parent
abbrev pub Ordered : List Entry → Type 0
Ordered places = (p : ℕ) → 0 < p → p < length places → InOrder places p

-- True if the entry was inserted at q, with p as the empty place. On the path from p to the root, q
-- is the highest place such that all entries from q to p's parent were greater than the inserted
-- one. These entries moved one place down the path, and all others stayed.
pub record Raised (old : List Entry) (p : ℕ) (entry : Entry) (q : ℕ) (new : List Entry) : Type 0
  where
    pub on_path : OnPath p q
    pub arrives : at new q ≡ entry
    pub lower : (k : ℕ) → OnPath p k → q < k → at new k ≡ at old (parent k)
    pub greater : (k : ℕ) → OnPath p k → q < k → is_less entry (at old (parent k)) ≡ true
    pub highest : 0 < q → is_less entry (at old (parent q)) ≡ false
    pub others : (k : ℕ) → k < length new → (OnPath p k → q ≤ k → ⊥) → at new k ≡ at old k

-- True if the entry was inserted at q, with p as the empty place, and no child of q is less. The
-- entries on the path from q up to p, without p, moved one place up, and all others stayed. Each
-- entry that moved was the least child of its parent and less than the inserted entry.
pub record Sunk (old : List Entry) (p : ℕ) (entry : Entry) (q : ℕ) (new : List Entry) : Type 0 where
  pub on_path : OnPath q p
  pub within : q < length new
  pub arrives : at new q ≡ entry
  pub higher : (k : ℕ) → OnPath q k → p < k → at new (parent k) ≡ at old k
  pub less : (k : ℕ) → OnPath q k → p < k → is_less (at old k) entry ≡ true
  pub least : (k i : ℕ) → OnPath q k → p < k → 0 < i → i < length new → parent i ≡ parent k
      → is_less (at old i) (at old k) ≡ false
  pub lowest : (i : ℕ) → 0 < i → i < length new → parent i ≡ q → is_less (at old i) entry ≡ false
  pub others : (k : ℕ) → k < length new → (OnPath q k → p ≤ k → ⊥) → at new k ≡ at old k
