-- Helper definitions for `Text`. The laws in THEOREM.md don't use them.
use Rattle.std.specs.Prelude.{ℕ, List, [], ◌∷◌, ◌++◌, flat_map, decimal}
use Rattle.std.specs.Fmt.{signed_decimal}
use Rattle.nr_text.specs.declared.token.Token.{Token}
use Rattle.nr_text.specs.declared.token.Token.TheVariants as tokens
use Rattle.nr_text.specs.Text.{hex_pair, spaced_number}

-- the text of a part
abbrev pub token_text : Token → List ℕ
token_text (tokens.Text text) = text.now
token_text (tokens.Number n) = decimal n
token_text (tokens.Time t) = signed_decimal t
token_text (tokens.Hex bytes) = flat_map hex_pair bytes.now
token_text (tokens.Numbers numbers) = flat_map spaced_number numbers.now

-- the texts of these parts, one after the other
abbrev pub text_of_parts : {X : Type 0} → (X → List ℕ) → List X → List ℕ
text_of_parts f [] = []
text_of_parts f (x ∷ []) = f x
text_of_parts f (x ∷ y ∷ xs) = f x ++ text_of_parts f (y ∷ xs)
