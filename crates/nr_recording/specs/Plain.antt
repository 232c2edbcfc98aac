-- The tokens of an array's items in the usual spelling, according to JSON's rules.
use Rattle.std.specs.Prelude.{◌≡◌, ◌≤◌, ℕ, true, Bool, false, List, [], ◌∷◌, ◌++◌, ◌||◌, ◌==◌, Some}
use Rattle.json.specs.Token.{Token}
use Rattle.json.specs.Lex.{Place, after_value, after_comma, between, lex, may_begin, punctuate}
use Rattle.json.specs.Tree.{depth, json_tokens}
use Rattle.serde_json.specs.Read.{of_json}
use Rattle.serde_json.specs.Written.{outline}
use Rattle.nr_recording.specs.declared.part.Part.{Part}
use Rattle.nr_recording.specs.Part.{part_data}

-- the tokens of a text that follows an item
abbrev pub items_behind : List ℕ → List Token
items_behind text = punctuate after_value (lex between text)

-- the tokens of a text that follows an item and a comma
abbrev pub items_after_comma : List ℕ → List Token
items_after_comma text = punctuate after_comma (lex between text)

-- true if, at any place where an item may begin, the text has these tokens, followed by those of
-- the rest
abbrev pub Begins : List ℕ → List Token → List ℕ → Type 0
Begins text ts left = (place : Place) → may_begin place ≡ true
    → punctuate place (lex between text) ≡ ts ++ items_behind left

-- the tokens of a part
abbrev pub part_tokens : Part → List Token
part_tokens part = json_tokens (outline (part_data part))

-- true if a part can be read back from its tokens, and is nested at most one level deep
pub record ReadsBack (part : Part) : Type 0 where
  pub flat : depth (outline (part_data part)) ≤ 1
  pub same : of_json (outline (part_data part)) ≡ Some (part_data part)

-- true if a comma or the bracket that closes an array comes next
abbrev pub ends_item : List ℕ → Bool
ends_item [] = false
ends_item (x ∷ xs) = (x == 44) || (x == 93)
