-- Helper definitions for `Change`. The laws in THEOREM.md don't use them.
use Rattle.std.specs.Prelude.{◌≡◌, ◌⊎◌, ℕ, ◌<◌, ◌-◌, List, [], ◌∷◌, ◌++◌, length, take}
use Rattle.std.specs.List.{swap}
use Rattle.nr_rev.specs.declared.timer.Entry.{Entry}
use Rattle.nr_timers.specs.PathToRoot.{Leads}
use Rattle.nr_timers.specs.Auxiliary.PathToRoot.{moved_up, moved_down}

-- the entries after the entry at p is removed and the last entry takes its place
abbrev pub refilled : List Entry → ℕ → List Entry
refilled old p = take (length old - 1) (swap old p (length old - 1))

-- true if the entry at q was moved back to p along the path to the root
abbrev pub TakenBack : ℕ → ℕ → List Entry → List Entry → Type 0
TakenBack p q new rest =
    ((n : ℕ) × Leads n p q × (rest ≡ moved_down n new p))
    ⊎ ((n : ℕ) × Leads n q p × (rest ≡ moved_up n new q))

-- true if this undoes an insertion that ended at q
abbrev pub InsertedBack : ℕ → List Entry → List Entry → Type 0
InsertedBack q new old =
    (0 < length new) × (n : ℕ) × Leads n (length new - 1) q
    × (old ≡ take (length new - 1) (moved_down n new (length new - 1)))

-- true if this undoes a removal from p that moved the last entry to q
abbrev pub RemovedBack : ℕ → ℕ → Entry → List Entry → List Entry → Type 0
RemovedBack p q entry new old =
    ((p ≡ length new) × (q ≡ p) ⊎ (p < length new) × (q < length new))
    × (rest : List Entry) × TakenBack p q new rest
    × (old ≡ swap (rest ++ entry ∷ []) p (length new))
