-- Lemmas about two facts: the first four words of a line determine its meaning, and appending
-- digits to a number never makes it smaller.
use Rattle.std.proofs.Common.{◌≡◌, ℕ, ◌+◌, ◌*◌, ◌^◌, ◌≤◌, Bool, false, cond, List, [], ◌∷◌, arith, length, take, refl, sym, ap, ◌∙◌, nat_lt, ◌&&◌, Ok, Err}
use Rattle.std.proofs.Math.Bool.{and-false}
use Rattle.std.proofs.lemmas.Bool.{le-ltb}
use Rattle.std.specs.List.{list_all}
use Rattle.std.specs.Char.{is_ascii_digit, digit_value}
use Rattle.std.specs.Str.Parse.{digits_value, digits_value_after}
use Rattle.nr_command.specs.declared.command.LineFault.TheVariants.{BadArgument, TooLong}
use Rattle.nr_command.specs.declared.parsing.TheConstants.{MAX_LINE}
use Rattle.nr_command.specs.Command.{meaning_of, break_of, cell_of, meaning_of_words, number_of, without_return, words}

-- a request has at most three words; a fourth word makes it a fault, and later words change nothing
-- more
meaning_of_words-take : (ws : List (List ℕ)) → meaning_of_words (take 4 ws) ≡ meaning_of_words ws
meaning_of_words-take [] = refl
meaning_of_words-take (a ∷ []) = refl
meaning_of_words-take (a ∷ b ∷ []) = refl
meaning_of_words-take (a ∷ b ∷ c ∷ []) = refl
meaning_of_words-take (a ∷ b ∷ c ∷ d ∷ ws) = refl

-- the first four words of a line determine its request
pub meaning_of-first : (line : List ℕ) (first : List (List ℕ)) → nat_lt MAX_LINE (length line) ≡ false → first ≡ take 4 (words (without_return line)) → meaning_of_words first ≡ meaning_of line
meaning_of-first line first short is =
    ap meaning_of_words is ∙ meaning_of_words-take (words (without_return line)) ∙ sym (ap (λ long. cond long (Err TooLong) (meaning_of_words (words (without_return line)))) short)

-- appending digits to a number doesn't make it smaller
pub value_grows : (n : ℕ) (ds : List ℕ) → n ≤ digits_value_after 10 n ds
value_grows n [] = omega arith
value_grows n (d ∷ ds) = let next = value_grows (n * 10 + digit_value d) ds in omega (arith, next)

pub number_big : (ds : List ℕ) → 2 ^ 32 ≤ digits_value 10 ds → number_of ds ≡ Err BadArgument
number_big ds big =
    let t = nat_lt 0 (length ds) && list_all is_ascii_digit ds in
    ap (λ (small : Bool). cond (t && small) (Ok (digits_value 10 ds)) (Err BadArgument)) (le-ltb _ _ big)
    ∙ ap (λ (b : Bool). cond b (Ok (digits_value 10 ds)) (Err BadArgument)) (and-false t)

-- a break is one word; two or more words are refused with `BadArgument`
pub break_of-more : (ws : List (List ℕ)) → 2 ≤ length ws → break_of ws ≡ Err BadArgument
break_of-more [] more = refl
break_of-more (a ∷ []) more = absurd (omega (arith, more))
break_of-more (a ∷ b ∷ ws) more = refl

-- a cell is at most two words; three or more words are refused with `BadArgument`
pub cell_of-more : (ws : List (List ℕ)) → 3 ≤ length ws → cell_of ws ≡ Err BadArgument
cell_of-more [] more = absurd (omega (arith, more))
cell_of-more (a ∷ []) more = absurd (omega (arith, more))
cell_of-more (a ∷ b ∷ []) more = absurd (omega (arith, more))
cell_of-more (a ∷ b ∷ c ∷ ws) more = refl
