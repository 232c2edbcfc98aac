-- The texts of bytes and numbers.
use Rattle.std.specs.Prelude.{ℕ, ◌/◌, ◌%◌, List, [], ◌∷◌, ◌++◌, slice_index, codes, decimal}

-- a byte as two digits, in lower case
abbrev pub hex_pair : ℕ → List ℕ
hex_pair b = slice_index (codes "0123456789abcdef") (b / 16)
    ∷ slice_index (codes "0123456789abcdef") (b % 16) ∷ []

-- a number in decimal, after a space
abbrev pub spaced_number : ℕ → List ℕ
spaced_number n = codes " " ++ decimal n
