-- The text of a cell is read as that cell.
use Rattle.std.proofs.Common.{◌≡◌, ℕ, ◌^◌, ◌<◌, Bool, true, cond, List, [], ◌∷◌, ◌++◌, arith, length, filter, Option, Some, None, refl, ap, ap₂, ◌∙◌, nat_eq, nat_lt, ◌&&◌, Ok, Err, codes, decimal}
use Rattle.std.specs.Prelude.{IfSome}
use Rattle.std.specs.List.{slice_split, onto_first, list_all}
use Rattle.std.specs.Option.{ok_or}
use Rattle.std.specs.Char.{is_ascii_digit}
use Rattle.std.specs.Str.Parse.{AllDigits, digits_value}
use Rattle.std.proofs.lemmas.Bool.{lt-ltb, le-leb, ne_eqb}
use Rattle.std.proofs.lemmas.Fmt.{decimal_is_IsNumeral}
use Rattle.std.proofs.lemmas.List.Splits.{slice_split-cons_no}
use Rattle.std.proofs.lemmas.Str.Parse.{digit_from_value}
use Rattle.nr_rev.specs.CellName.{cell_index, cell_name, cell_named}
use Rattle.nr_rev.specs.declared.cell.Cell.{Cell}
use Rattle.nr_command.specs.declared.command.LineFault.TheVariants.{BadArgument}
use Rattle.nr_command.specs.Command.{◌>>=◌, cell_of, number_of, words}
use Rattle.nr_command.specs.Value.{cell_text, text_with}

-- digits contain no space, so a number is one part of a line
digits-split : (ds : List ℕ) → AllDigits 10 ds → slice_split (λ b. nat_eq b 32) ds ≡ ds ∷ []
digits-split [] all = refl
digits-split (d ∷ ds) all =
    let digit = digit_from_value d all.0 in
    slice_split-cons_no (λ b. nat_eq b 32) d ds (ne_eqb d 32 (λ space. omega (arith, digit.0, space))) ∙ ap (onto_first d) (digits-split ds all.1)

digits_pass : (ds : List ℕ) → AllDigits 10 ds → list_all is_ascii_digit ds ≡ true
digits_pass [] all = refl
digits_pass (d ∷ ds) all =
    let digit = digit_from_value d all.0 in
    ap₂ (λ (a b : Bool). a && b) (ap₂ (λ (a b : Bool). a && b) (le-leb 48 d digit.0) (le-leb d 57 digit.1)) (digits_pass ds all.1)

-- the digits of a number are one word, which is read as that number
words-decimal : (n : ℕ) → n < 2 ^ 32 → words (decimal n) ≡ decimal n ∷ []
words-decimal n small =
    let numeral = decimal_is_IsNumeral n (omega (arith, small)) in
    ap (filter (λ word. nat_lt 0 (length word))) (digits-split (decimal n) numeral.0.1)
    ∙ ap (λ (some : Bool). cond some (decimal n ∷ []) []) (lt-ltb 0 (length (decimal n)) numeral.0.0)

number_of-decimal : (n : ℕ) → n < 2 ^ 32 → number_of (decimal n) ≡ Ok n
number_of-decimal n small =
    let numeral = decimal_is_IsNumeral n (omega (arith, small)) in
    let ds = decimal n in
    ap (λ (some : Bool). cond (some && list_all is_ascii_digit ds && nat_lt (digits_value 10 ds) (2 ^ 32)) (Ok (digits_value 10 ds)) (Err BadArgument)) (lt-ltb 0 (length ds) numeral.0.0)
    ∙ ap (λ (digits : Bool). cond (digits && nat_lt (digits_value 10 ds) (2 ^ 32)) (Ok (digits_value 10 ds)) (Err BadArgument)) (digits_pass ds numeral.0.1)
    ∙ ap (λ value. cond (nat_lt value (2 ^ 32)) (Ok value) (Err BadArgument)) numeral.1
    ∙ ap (λ (fits : Bool). cond fits (Ok n) (Err BadArgument)) (lt-ltb n (2 ^ 32) small)

-- the words of a text that begins with the name of a cell
name_word : (cell : Cell) (rest : List ℕ) → words (cell_name cell ++ codes " " ++ rest) ≡ cell_name cell ∷ words rest
name_word Cell.Clock rest = refl
name_word _ rest = refl

only_name : (cell : Cell) → words (cell_name cell) ≡ cell_name cell ∷ []
only_name Cell.Clock = refl
only_name _ = refl

named_again : (cell : Cell) → cell_named (cell_name cell) (cell_index cell) ≡ Some cell
named_again Cell.Clock = refl
named_again _ = refl

pub cell_again : (cell : Cell) → IfSome (cell_index cell) (λ n. n < 2 ^ 32) → cell_of (words (cell_text cell)) ≡ Ok cell
cell_again cell = read_back (cell_index cell) (named_again cell)
  where
    read_back : (index : Option ℕ) → cell_named (cell_name cell) index ≡ Some cell → IfSome index (λ n. n < 2 ^ 32) → cell_of (words (text_with (cell_name cell) index)) ≡ Ok cell
    read_back None is small = ap cell_of (only_name cell) ∙ ap (λ found. ok_or found BadArgument) is
    read_back (Some n) is small =
        ap cell_of (name_word cell (decimal n))
        ∙ ap (λ ws. cell_of (cell_name cell ∷ ws)) (words-decimal n small)
        ∙ ap (λ number. number >>= λ i. ok_or (cell_named (cell_name cell) (Some i)) BadArgument) (number_of-decimal n small)
        ∙ ap (λ found. ok_or found BadArgument) is
