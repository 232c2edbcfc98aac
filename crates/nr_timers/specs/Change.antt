-- The results of insertions and removals.
use Rattle.std.specs.Prelude.{◌≡◌, ◌⊎◌, ℕ, suc, ◌<◌, ◌-◌, true, false, List, length, take}
use Rattle.nr_rev.specs.declared.timer.Entry.{Entry}
use Rattle.nr_timers.specs.Order.{is_less, at}
use Rattle.nr_timers.specs.PathToRoot.{parent, Raised, Sunk}

-- true if the entry was inserted at q, on the path from the new last place to the root
pub record Inserted (old : List Entry) (entry : Entry) (q : ℕ) (new : List Entry) : Type 0 where
  pub size : length new ≡ suc (length old)
  pub raised : Raised old (length old) entry q new

-- true if the removed entry was at the last place
pub record LastRemoved (old : List Entry) (p q : ℕ) (new : List Entry) : Type 0 where
  pub last : suc p ≡ length old
  pub stays : q ≡ p
  pub rest : new ≡ take p old

-- true if the last entry, which is less than the one at p's parent, moved up from p to q
pub record RemovedUp (old : List Entry) (p q : ℕ) (new : List Entry) : Type 0 where
  pub size : suc (length new) ≡ length old
  pub within : p < length new
  pub below : 0 < p
  pub less : is_less (at old (length old - 1)) (at old (parent p)) ≡ true
  pub raised : Raised old p (at old (length old - 1)) q new

-- true if the last entry, which isn't less than the one at p's parent, moved down from p to q
pub record RemovedDown (old : List Entry) (p q : ℕ) (new : List Entry) : Type 0 where
  pub size : suc (length new) ≡ length old
  pub within : p < length new
  pub not_less : 0 < p → is_less (at old (length old - 1)) (at old (parent p)) ≡ false
  pub sunk : Sunk old p (at old (length old - 1)) q new

-- True if the entry at p was removed. If p wasn't the last place, the last entry took its place and
-- moved up or down to q.
abbrev pub Removed : List Entry → ℕ → ℕ → List Entry → Type 0
Removed old p q new = LastRemoved old p q new ⊎ (RemovedUp old p q new ⊎ RemovedDown old p q new)
