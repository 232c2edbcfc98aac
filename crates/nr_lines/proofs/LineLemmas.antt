-- The lines of a text that grows byte by byte.
use Rattle.std.proofs.Common.{◌≡◌, ℕ, ◌<◌, ◌≤◌, Bool, true, false, cond, List, [], ◌∷◌, ◌++◌, arith, length, take, refl, sym, ap, ◌∙◌, nat_eq, nat_lt, append_assoc, append-nil, take_all, Err}
use Rattle.std.proofs.lemmas.List.{length-take-le, take_at, take-append-le}
use Rattle.std.proofs.lemmas.List.Splits.{length-slice_split}
use Rattle.std.proofs.lemmas.Bool.{lt-ltb, ltb-false, ltb-true}
use Rattle.std.specs.List.{slice_split, onto_first}
use Rattle.nr_command.specs.declared.command.LineFault.TheVariants.{TooLong}
use Rattle.nr_command.specs.Command.{meaning_of, meaning_of_words, words, without_return}
use Rattle.nr_lines.specs.Engine.{lines_in, lines_of}
use Rattle.nr_lines.specs.Auxiliary.Engine.{whole_lines}
use Rattle.nr_lines.specs.LoopInvariant.{last_part, unfinished_line}

-- the parts of a text between its line feeds
abbrev parts : List ℕ → List (List ℕ)
parts text = slice_split (λ b. nat_eq b 10) text

some_parts : (text : List ℕ) → 0 < length (parts text)
some_parts text = omega (arith, length-slice_split (λ b. nat_eq b 10) text)

-- putting a byte in front of the first part doesn't change the parts after it
onto_first-append : (x : ℕ) (ps qs : List (List ℕ)) → 0 < length ps → onto_first x (ps ++ qs) ≡ onto_first x ps ++ qs
onto_first-append x [] qs h = absurd (omega arith)
onto_first-append x (p ∷ ps) qs h = refl

-- a line feed splits the parts of a text into those before it and those after it
parts-feed : (text : List ℕ) (b : ℕ) (bs : List ℕ) → nat_eq b 10 ≡ true → parts (text ++ b ∷ bs) ≡ parts text ++ parts bs
parts-feed [] b bs e = ap (λ t. cond t ([] ∷ parts bs) (onto_first b (parts bs))) e
parts-feed (x ∷ xs) b bs e =
    ap (λ ps. cond (nat_eq x 10) ([] ∷ ps) (onto_first x ps)) (parts-feed xs b bs e)
    ∙ elim (nat_eq x 10) as (λ t. cond t ([] ∷ (parts xs ++ parts bs)) (onto_first x (parts xs ++ parts bs)) ≡ cond t ([] ∷ parts xs) (onto_first x (parts xs)) ++ parts bs)
    [ true ↦ refl | false ↦ onto_first-append x (parts xs) (parts bs) (some_parts xs) ]

-- the parts after a byte was appended to the last part
abbrev grown : List (List ℕ) → ℕ → List (List ℕ)
grown ps b = lines_in false ps ++ (last_part ps ++ b ∷ []) ∷ []

onto_first-grown : (x : ℕ) (ps : List (List ℕ)) (b : ℕ) → onto_first x (grown ps b) ≡ grown (onto_first x ps) b
onto_first-grown x [] b = refl
onto_first-grown x (p ∷ []) b = refl
onto_first-grown x (p ∷ q ∷ qs) b = refl

empty_first-grown : (ps : List (List ℕ)) (b : ℕ) → 0 < length ps → [] ∷ grown ps b ≡ grown ([] ∷ ps) b
empty_first-grown [] b h = absurd (omega arith)
empty_first-grown (p ∷ ps) b h = refl

parts-byte : (text : List ℕ) (b : ℕ) → nat_eq b 10 ≡ false → parts (text ++ b ∷ []) ≡ grown (parts text) b
parts-byte [] b e = ap (λ t. cond t ([] ∷ [] ∷ []) ((b ∷ []) ∷ [])) e
parts-byte (x ∷ xs) b e =
    ap (λ ps. cond (nat_eq x 10) ([] ∷ ps) (onto_first x ps)) (parts-byte xs b e)
    ∙ elim (nat_eq x 10) as (λ t. cond t ([] ∷ grown (parts xs) b) (onto_first x (grown (parts xs) b)) ≡ grown (cond t ([] ∷ parts xs) (onto_first x (parts xs))) b)
    [ true ↦ empty_first-grown (parts xs) b (some_parts xs) | false ↦ onto_first-grown x (parts xs) b ]

-- if another part follows `ps`, all parts of `ps` are lines
lines_in-append : (ended : Bool) (ps : List (List ℕ)) (q : List ℕ) (qs : List (List ℕ)) → lines_in ended (ps ++ q ∷ qs) ≡ ps ++ lines_in ended (q ∷ qs)
lines_in-append ended [] q qs = refl
lines_in-append ended (p ∷ []) q qs = refl
lines_in-append ended (p ∷ next ∷ ps) q qs = ap (λ ls. p ∷ ls) (lines_in-append ended (next ∷ ps) q qs)

last_part-append : (ps : List (List ℕ)) (q : List ℕ) (qs : List (List ℕ)) → last_part (ps ++ q ∷ qs) ≡ last_part (q ∷ qs)
last_part-append [] q qs = refl
last_part-append (p ∷ []) q qs = refl
last_part-append (p ∷ next ∷ ps) q qs = last_part-append (next ∷ ps) q qs

front_and_last : (ps : List (List ℕ)) → 0 < length ps → ps ≡ lines_in false ps ++ last_part ps ∷ []
front_and_last [] h = absurd (omega arith)
front_and_last (p ∷ []) h = refl
front_and_last (p ∷ next ∷ ps) h = ap (λ qs. p ∷ qs) (front_and_last (next ∷ ps) (omega arith))

-- if a nonempty list of parts follows `ps`, all parts of `ps` are lines
lines_in-behind : (ended : Bool) (ps qs : List (List ℕ)) → 0 < length qs → lines_in ended (ps ++ qs) ≡ ps ++ lines_in ended qs
lines_in-behind ended ps [] h = absurd (omega arith)
lines_in-behind ended ps (q ∷ qs) h = lines_in-append ended ps q qs

last_part-behind : (ps qs : List (List ℕ)) → 0 < length qs → last_part (ps ++ qs) ≡ last_part qs
last_part-behind ps [] h = absurd (omega arith)
last_part-behind ps (q ∷ qs) h = last_part-append ps q qs

-- a byte that isn't a line feed is appended to the unfinished line
pub whole_lines-byte : (text : List ℕ) (b : ℕ) → nat_eq b 10 ≡ false → whole_lines (text ++ b ∷ []) ≡ whole_lines text
whole_lines-byte text b e = ap (lines_in false) (parts-byte text b e) ∙ lines_in-append false (whole_lines text) (unfinished_line text ++ b ∷ []) [] ∙ append-nil (whole_lines text)

pub unfinished_line-byte : (text : List ℕ) (b : ℕ) → nat_eq b 10 ≡ false → unfinished_line (text ++ b ∷ []) ≡ unfinished_line text ++ b ∷ []
unfinished_line-byte text b e = ap last_part (parts-byte text b e) ∙ last_part-append (whole_lines text) (unfinished_line text ++ b ∷ []) []

-- a line feed ends the unfinished line, whatever follows it
pub whole_lines-feed : (text : List ℕ) (b : ℕ) (bs : List ℕ) → nat_eq b 10 ≡ true → whole_lines (text ++ b ∷ bs) ≡ whole_lines text ++ unfinished_line text ∷ whole_lines bs
whole_lines-feed text b bs e =
    ap (lines_in false) (parts-feed text b bs e) ∙ lines_in-behind false (parts text) (parts bs) (some_parts bs)
    ∙ ap (λ ps. ps ++ whole_lines bs) (front_and_last (parts text) (some_parts text)) ∙ append_assoc (whole_lines text) (unfinished_line text ∷ []) (whole_lines bs)

pub unfinished_line-feed : (text : List ℕ) (b : ℕ) → nat_eq b 10 ≡ true → unfinished_line (text ++ b ∷ []) ≡ []
unfinished_line-feed text b e = ap last_part (parts-feed text b [] e) ∙ last_part-behind (parts text) (parts []) (some_parts [])

-- at the end of a text, the unfinished line is a line too, if it isn't empty
pub lines_at_end : (text : List ℕ) → lines_of true text ≡ whole_lines text ++ cond (nat_lt 0 (length (unfinished_line text))) (unfinished_line text ∷ []) []
lines_at_end text =
    ap (lines_in true) (front_and_last (parts text) (some_parts text)) ∙ lines_in-append true (whole_lines text) (unfinished_line text) []

too_long : (line : List ℕ) → nat_lt 256 (length line) ≡ true → meaning_of line ≡ Err TooLong
too_long line h = ap (λ t. cond t (Err TooLong) (meaning_of_words (words (without_return line)))) h

-- reading the first 257 bytes of a line gives the same result as reading the whole line, since every
-- line of more than 256 bytes is too long
pub meaning_of-take : (line : List ℕ) → meaning_of (take 257 line) ≡ meaning_of line
meaning_of-take line =
    elim (nat_lt 256 (length line)) as (λ t. nat_lt 256 (length line) ≡ t → meaning_of (take 257 line) ≡ meaning_of line) [
      | true ↦ λ long. let h = ltb-true _ _ long in let same : length (take 257 line) ≡ 257 = length-take-le 257 line (omega (arith, h)) in
          too_long (take 257 line) (lt-ltb _ _ (omega (arith, same))) ∙ sym (too_long line long)
      | false ↦ λ short. ap meaning_of (take_all 257 line (let h = ltb-false _ _ short in omega (arith, h)))
    ] refl

-- the bytes kept after one more byte depend only on that byte and on the bytes kept before it
pub kept_more : (line : List ℕ) (b : ℕ) → take 257 (take 257 line ++ b ∷ []) ≡ take 257 (line ++ b ∷ [])
kept_more line b =
    elim (nat_lt 256 (length line)) as (λ t. nat_lt 256 (length line) ≡ t → take 257 (take 257 line ++ b ∷ []) ≡ take 257 (line ++ b ∷ [])) [
      | true ↦ λ long. let h = ltb-true _ _ long in let enough : 257 ≤ length line = omega (arith, h) in
          take_at (take 257 line) (b ∷ []) 257 (length-take-le 257 line enough) ∙ sym (take-append-le 257 line (b ∷ []) enough)
      | false ↦ λ short. ap (λ l. take 257 (l ++ b ∷ [])) (take_all 257 line (let h = ltb-false _ _ short in omega (arith, h)))
    ] refl
