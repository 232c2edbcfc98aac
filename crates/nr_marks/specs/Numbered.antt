-- Numbered items.
use Rattle.std.specs.Prelude.{ℕ, ◌+◌, ◌-◌, ◌^◌, ◌==◌, Bool, not, ◌||◌, List, [], ◌∷◌, ◌++◌, length, filter, find, is_some, Option, option_map, if◌then◌else◌}
use Rattle.nr_marks.specs.declared.numbered.Numbered.{Numbered}
use Rattle.nr_marks.specs.declared.numbered.TheConstants.{MOST_NUMBERED}

-- The items, and the number of items ever made, which is also the number of the item made last.
pub record NumberedItems (Item : Type 0) : Type 0 where
  pub present : List (Numbered Item)
  pub made : ℕ

module _ {Item : Type 0} where
  -- the initial list: no items, and no number used
  abbrev pub empty : NumberedItems Item
  empty = record { present = []; made = 0 }

  -- true if no item can be made: the list is full, or the numbers are used up
  abbrev pub is_full : NumberedItems Item → Bool
  is_full table = (length table.present == MOST_NUMBERED) || (table.made == 2 ^ 32 - 1)

  -- an item with the next number
  abbrev pub newest : Item → NumberedItems Item → Numbered Item
  newest item table = record { number = table.made + 1; item = item }

  -- The list after an item is made; the new item comes last.
  abbrev pub with_item : Item → NumberedItems Item → NumberedItems Item
  with_item item table =
      if is_full table then table else record {
        present = table.present ++ newest item table ∷ [];
        made = table.made + 1;
      }

  -- the item with this number
  abbrev pub item_of : ℕ → NumberedItems Item → Option Item
  item_of number table = option_map (λ n. n.item) (find (λ n. n.number == number) table.present)

  -- true if an item has this number
  abbrev pub is_present : ℕ → NumberedItems Item → Bool
  is_present number table = is_some (item_of number table)

  -- the items that pass a test, with their numbers; the numbers of the other items aren't reused
  abbrev pub kept_by : (Numbered Item → Bool) → NumberedItems Item → NumberedItems Item
  kept_by test table = record table { present = filter test table.present }

  -- The list after an item is deleted.
  abbrev pub without_item : ℕ → NumberedItems Item → NumberedItems Item
  without_item number table = kept_by (λ n. not (n.number == number)) table
