-- Helper definitions for `Numbered`. The laws in THEOREM.md don't use them.
use Rattle.std.specs.Prelude.{ℕ, ◌<◌, ◌≤◌, List, [], ◌∷◌, map, Option, Some, None, if◌then◌else◌}
use Rattle.nr_marks.specs.declared.numbered.Numbered.{Numbered}
use Rattle.nr_marks.specs.Numbered.{NumberedItems, is_full, newest}

-- True if each number is above the one before it, the first number is above `low`, and the last one
-- is at most `high`.
abbrev pub RisesWithin : ℕ → List ℕ → ℕ → Type 0
RisesWithin low [] high = low ≤ high
RisesWithin low (n ∷ ns) high = (low < n) × RisesWithin n ns high

module _ {Item : Type 0} where
  -- the numbers of some items
  abbrev pub numbers_of : List (Numbered Item) → List ℕ
  numbers_of items = map (λ n. n.number) items

  -- The result of making an item: the item gets the next number, unless it can't be made.
  abbrev pub next : Item → NumberedItems Item → Option (Numbered Item)
  next item table = if is_full table then None else Some (newest item table)
