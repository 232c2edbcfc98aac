-- When items are made and deleted, their numbers stay in ascending order, and a property of all
-- items still holds.
use Rattle.std.proofs.Common.{◌≡◌, ℕ, ◌+◌, ◌<◌, ◌≤◌, ◌==◌, Bool, true, false, not, cond, List, [], ◌∷◌, ◌++◌, filter, find, is_some, Option, Some, option_map, refl, ap, arith}
use Rattle.std.specs.Prelude.{All}
use Rattle.std.proofs.lemmas.List.Elements.{All-push}
use Rattle.nr_marks.specs.Numbered.{NumberedItems, is_full, newest, with_item}
use Rattle.nr_marks.specs.Auxiliary.Numbered.{RisesWithin, numbers_of}
use Rattle.nr_marks.specs.declared.numbered.Numbered.{Numbered}

-- if ascending numbers are above `low`, they are also above any smaller number
RisesWithin-lower : (low low' : ℕ) (ns : List ℕ) (high : ℕ) → low' ≤ low → RisesWithin low ns high → RisesWithin low' ns high
RisesWithin-lower low low' [] high below rising = omega arith
RisesWithin-lower low low' (n ∷ ns) high below rising = (omega (arith, rising.0), rising.1)

module _ {Item : Type 0} where
  -- the numbers stay in ascending order if the first item is kept, and also if it is dropped
  RisesWithin-first : (first : Bool) (low : ℕ) (n : Numbered Item) (items : List (Numbered Item)) (high : ℕ) → low < n.number → RisesWithin n.number (numbers_of items) high
      → RisesWithin low (numbers_of (cond first (n ∷ items) items)) high
  RisesWithin-first true low n items high above rest = (above, rest)
  RisesWithin-first false low n items high above rest = RisesWithin-lower n.number low (numbers_of items) high (omega arith) rest

  -- filtering items keeps their numbers in ascending order
  pub RisesWithin-filter : (p : Numbered Item → Bool) (low : ℕ) (items : List (Numbered Item)) (high : ℕ) → RisesWithin low (numbers_of items) high → RisesWithin low (numbers_of (filter p items)) high
  RisesWithin-filter p low [] high rising = rising
  RisesWithin-filter p low (n ∷ items) high rising =
      RisesWithin-first (p n) low n (filter p items) high rising.0 (RisesWithin-filter p n.number items high rising.1)

  -- appending an item with the next number keeps the numbers in ascending order
  pub RisesWithin-push : (low : ℕ) (items : List (Numbered Item)) (last : Numbered Item) (high : ℕ) → last.number ≡ high + 1 → RisesWithin low (numbers_of items) high
      → RisesWithin low (numbers_of (items ++ last ∷ [])) (high + 1)
  RisesWithin-push low [] last high next rising = (omega (arith, next, rising), omega (arith, next))
  RisesWithin-push low (n ∷ items) last high next rising = (rising.0, RisesWithin-push n.number items last high next rising.1)

  -- if no item has the number, the first item isn't deleted
  kept-first : (named : Bool) (n : Numbered Item) (items others : List (Numbered Item)) (found : Option (Numbered Item)) → is_some (option_map (λ m. m.item) (cond named (Some n) found)) ≡ false
      → (is_some (option_map (λ m. m.item) found) ≡ false → others ≡ items) → cond (not named) (n ∷ others) others ≡ n ∷ items
  kept-first true n items others found none rest = cc
  kept-first false n items others found none rest = ap (λ ns. n ∷ ns) (rest none)

  -- if no item has the number, deleting it leaves all items
  pub filter-others : (number : ℕ) (items : List (Numbered Item)) → is_some (option_map (λ n. n.item) (find (λ n. n.number == number) items)) ≡ false
      → filter (λ n. not (n.number == number)) items ≡ items
  filter-others number [] none = refl
  filter-others number (n ∷ items) none =
      kept-first (n.number == number) n items (filter (λ m. not (m.number == number)) items) (find (λ m. m.number == number) items) none (filter-others number items)

  All-either : (P : Numbered Item → Type 0) (first : Bool) (a b : NumberedItems Item) → All P a.present → All P b.present → All P (cond first a b).present
  All-either P true a b of_a of_b = of_a
  All-either P false a b of_a of_b = of_b

  -- if all items in the list and the new item have a property, all items have it after the new item
  -- is made
  pub with_item-All : (P : Numbered Item → Type 0) (item : Item) (table : NumberedItems Item) → All P table.present → P (newest item table) → All P (with_item item table).present
  with_item-All P item table each next =
      All-either P (is_full table) table (record { present = table.present ++ newest item table ∷ []; made = table.made + 1 })
      each (All-push P table.present (newest item table) each next)
