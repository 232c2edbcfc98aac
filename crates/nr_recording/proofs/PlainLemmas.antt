-- Items in the usual spelling have the tokens of the parts that they denote.
use Rattle.std.proofs.Common.{◌≡◌, ◌≤◌, ◌<◌, ◌^◌, ◌/◌, ◌%◌, ◌*◌, ◌+◌, ℕ, true, false, ◌==◌, List, [], ◌∷◌, ◌++◌, length, take, drop, ◌-◌, get_or, get_or-take, decimal, lit≤, Some, option_map, refl, sym, ap, ap₂, ◌∙◌, append_assoc, append-nil, inl, inr, ◌⊎◌, arith}
use Rattle.std.proofs.lemmas.Bool.{eqb-true, ne_eqb, or_cases, false≢true, le-ltb}
use Rattle.std.proofs.lemmas.Fmt.{decimal_digit, decimal_step}
use Rattle.std.proofs.lemmas.List.{take_all}
use Rattle.memchr.specs.Find.{Nowhere, Passes, is_byte2}
use Rattle.std.specs.Borrow.{Bor}
use Rattle.json.specs.Token.{Token}
use Rattle.json.specs.Lex.{Place, fresh, after_value, after_comma, after_key, Lexeme, begins_colon, between, lex, may_begin, punctuate, string_token, tokens}
use Rattle.json.specs.Word.{ends_word}
use Rattle.json.specs.Run.{is_plain}
use Rattle.json.specs.Print.{escape}
use Rattle.json.specs.Tree.{items_depth, items_tokens}
use Rattle.json.proofs.Printed.Decimals.{IsNumber-decimal}
use Rattle.json.proofs.Printed.Numbers.{lex-number}
use Rattle.json.proofs.Printed.Plain.{escape_on_plain}
use Rattle.json.proofs.Printed.Strings.{content-escape, lex-escape}
use Rattle.serde_json.specs.Data.{number, array}
use Rattle.serde_json.specs.Read.{of_items, read}
use Rattle.serde_json.specs.Written.{items_outline}
use Rattle.serde_json.proofs.Numbers.{number_of-decimal}
use Rattle.nr_recording.specs.declared.part.Part.{Part}
use Rattle.nr_recording.specs.Part.{parts_data}
use Rattle.nr_recording.specs.Plain.{Begins, ReadsBack, ends_item, items_after_comma, items_behind, part_tokens}
use Rattle.nr_recording.proofs.ReadBackLemmas.{tokens_read}

-- ---- one item

-- A comma or a closing bracket ends a word. A string before it isn't a key, because no colon
-- follows the string.
ended : (x : ℕ) (xs : List ℕ) → (x ≡ 44) ⊎ (x ≡ 93) → (ends_word (x ∷ xs) ≡ true) × (begins_colon (lex between (x ∷ xs)) ≡ false)
unfolding lex
ended x xs (inl e) = rw e (refl, refl)
ended x xs (inr e) = rw e (refl, refl)

either : (x : ℕ) → ((x == 44) ≡ true) ⊎ ((x == 93) ≡ true) → (x ≡ 44) ⊎ (x ≡ 93)
either x (inl e) = inl (eqb-true x 44 e)
either x (inr e) = inr (eqb-true x 93 e)

pub item_ends : (text : List ℕ) → ends_item text ≡ true → (ends_word text ≡ true) × (begins_colon (lex between text) ≡ false)
item_ends [] e = absurd (false≢true e)
item_ends (x ∷ xs) e = ended x xs (either x (or_cases (x == 44) (x == 93) e))

-- a string is an item if an item may begin at its place and no colon follows the string
string_placed : (place : Place) (s : List ℕ) (ls : List Lexeme) → may_begin place ≡ true → begins_colon ls ≡ false
    → punctuate place (Lexeme.token (Token.string s) ∷ ls) ≡ Token.string s ∷ punctuate after_value ls
unfolding punctuate
string_placed fresh s ls may plain = rw plain refl
string_placed after_value s ls may plain = absurd (false≢true may)
string_placed after_comma s ls may plain = rw plain refl
string_placed after_key s ls may plain = absurd (false≢true may)

number_placed : (place : Place) (s : List ℕ) (ls : List Lexeme) → may_begin place ≡ true
    → punctuate place (Lexeme.token (Token.number s) ∷ ls) ≡ Token.number s ∷ punctuate after_value ls
unfolding punctuate
number_placed fresh s ls may = refl
number_placed after_value s ls may = absurd (false≢true may)
number_placed after_comma s ls may = refl
number_placed after_key s ls may = absurd (false≢true may)

array_placed : (place : Place) (ls : List Lexeme) → may_begin place ≡ true
    → punctuate place (Lexeme.token Token.begin_array ∷ ls) ≡ Token.begin_array ∷ punctuate fresh ls
unfolding punctuate
array_placed fresh ls may = refl
array_placed after_value ls may = absurd (false≢true may)
array_placed after_comma ls may = refl
array_placed after_key ls may = absurd (false≢true may)

-- a quoted text whose bytes are all literal is lexed as one string
text_lexed : (s left : List ℕ) → escape s ≡ s → lex between (34 ∷ (s ++ 34 ∷ left)) ≡ Lexeme.token (Token.string s) ∷ lex between left
unfolding lex
text_lexed s left plain =
    ap (λ bytes. lex between (34 ∷ (bytes ++ 34 ∷ left))) (sym plain)
    ∙ ap₂ (λ o l. Lexeme.token (string_token o) ∷ l) (content-escape s left) (lex-escape s left)

plain_byte : (x : ℕ) → (x ≡ 34 → ⊥) → (x ≡ 92 → ⊥) → 32 ≤ x → is_plain x ≡ true
plain_byte x quote backslash control = rw (ne_eqb x 34 quote, ne_eqb x 92 backslash, le-ltb x 32 control) refl

-- true if each byte stands for itself in a string, so none is a quote, backslash or control
-- character
pub record AreLiteral (s : List ℕ) : Type 0 where
  pub none : (k : ℕ) → k < length s → (get_or s k 0 ≡ 34 → ⊥) × (get_or s k 0 ≡ 92 → ⊥)
  pub printable : (k : ℕ) → k < length s → 32 ≤ get_or s k 0

pub text_begins : (s left : List ℕ) → AreLiteral s → ends_item left ≡ true → Begins (34 ∷ (s ++ 34 ∷ left)) (Token.string s ∷ []) left
text_begins s left bytes ends place may =
    let plain : escape s ≡ s = escape_on_plain true s (λ k _ below. plain_byte _ (bytes.none k below).0 (bytes.none k below).1 (bytes.printable k below)) in
    ap (punctuate place) (text_lexed s left plain) ∙ string_placed place s (lex between left) may (item_ends left ends).1

pub number_begins : (n : ℕ) (left : List ℕ) → n < 2 ^ 64 → ends_item left ≡ true → Begins (decimal n ++ left) (Token.number (decimal n) ∷ []) left
number_begins n left small ends place may =
    ap (punctuate place) (lex-number (decimal n) left (IsNumber-decimal n small) (item_ends left ends).0)
    ∙ number_placed place (decimal n) (lex between left) may

-- ---- commas and brackets

pub comma_then : (text : List ℕ) → items_behind (44 ∷ text) ≡ items_after_comma text
unfolding lex punctuate
comma_then text = refl

pub comma_space_then : (text : List ℕ) → items_behind (44 ∷ 32 ∷ text) ≡ items_after_comma text
unfolding lex punctuate
comma_space_then text = refl

pub closed : (text : List ℕ) → items_behind (93 ∷ text) ≡ Token.end_array ∷ items_behind text
unfolding lex punctuate
closed text = refl

pub nothing_behind : items_behind [] ≡ []
unfolding lex punctuate
nothing_behind = refl

pub opened : (text : List ℕ) → tokens (91 ∷ text) ≡ Token.begin_array ∷ punctuate fresh (lex between text)
unfolding lex punctuate
opened text = refl

-- ---- parts

pub number_back : (n : ℕ) → n < 2 ^ 64 → ReadsBack (Part.Number n)
number_back n small = record { flat = omega arith; same = ap (option_map number) (number_of-decimal n small) }

-- a text and a number in brackets
pub pair_begins : (word : List ℕ) (n : ℕ) (inside behind second left : List ℕ)
    → Begins inside (Token.string word ∷ []) behind → items_behind behind ≡ items_after_comma second → Begins second (Token.number (decimal n) ∷ []) (93 ∷ left)
    → Begins (91 ∷ inside) (Token.begin_array ∷ Token.string word ∷ Token.number (decimal n) ∷ Token.end_array ∷ []) left
unfolding lex
pair_begins word n inside behind second left first comma next place may =
    array_placed place (lex between inside) may
    ∙ ap (λ ts. Token.begin_array ∷ ts) (first fresh refl
    ∙ ap (λ ts. Token.string word ∷ ts) (comma ∙ next after_comma refl
    ∙ ap (λ ts. Token.number (decimal n) ∷ ts) (closed left)))

-- ---- the whole line

-- the tokens of some parts
abbrev pub parts_tokens : List Part → List Token
parts_tokens [] = []
parts_tokens (part ∷ parts) = part_tokens part ++ parts_tokens parts

pub one_more : (parts : List Part) (part : Part) (ts : List Token) → parts_tokens parts ++ (part_tokens part ++ ts) ≡ parts_tokens (parts ++ part ∷ []) ++ ts
one_more [] part ts = ap (λ own. own ++ ts) (sym (append-nil (part_tokens part)))
one_more (first ∷ parts) part ts =
    append_assoc (part_tokens first) (parts_tokens parts) (part_tokens part ++ ts)
    ∙ ap (λ more. part_tokens first ++ more) (one_more parts part ts)
    ∙ sym (append_assoc (part_tokens first) (parts_tokens (parts ++ part ∷ [])) ts)

items_spelled : (parts : List Part) → parts_tokens parts ++ Token.end_array ∷ [] ≡ items_tokens (items_outline (parts_data parts))
items_spelled [] = refl
items_spelled (part ∷ parts) =
    append_assoc (part_tokens part) (parts_tokens parts) (Token.end_array ∷ [])
    ∙ ap (λ more. part_tokens part ++ more) (items_spelled parts)

-- true if all parts can be read back from their tokens
abbrev pub AllReadBack : List Part → Type 0
AllReadBack [] = Unit {0}
AllReadBack (part ∷ parts) = ReadsBack part × AllReadBack parts

pub one_more_back : (parts : List Part) (part : Part) → AllReadBack parts → ReadsBack part → AllReadBack (parts ++ part ∷ [])
one_more_back [] part all own = (own, tt)
one_more_back (first ∷ parts) part all own = (all.0, one_more_back parts part all.1 own)

items_back : (parts : List Part) → AllReadBack parts → of_items (items_outline (parts_data parts)) ≡ Some (parts_data parts)
items_back [] all = refl
items_back (part ∷ parts) all = rw (all.0.same, items_back parts all.1) refl

items_flat : (parts : List Part) → AllReadBack parts → items_depth (items_outline (parts_data parts)) ≤ 1
items_flat [] all = omega arith
items_flat (part ∷ parts) all = omega (arith, all.0.flat, items_flat parts all.1)

pub array_read : (text : List ℕ) (parts : List Part) → tokens text ≡ Token.begin_array ∷ (parts_tokens parts ++ Token.end_array ∷ []) → AllReadBack parts → read text ≡ Some (array (parts_data parts))
array_read text parts is all =
    tokens_read text (array (parts_data parts)) (is ∙ ap (λ ts. Token.begin_array ∷ ts) (items_spelled parts)) (omega (arith, items_flat parts all)) (rw (items_back parts all) refl)

-- ---- digits

pub digit_added : (n d : ℕ) → 0 < n → d < 10 → n * 10 + d < 2 ^ 64 → decimal (n * 10 + d) ≡ decimal n ++ (48 + d) ∷ []
digit_added n d some small fits =
    let m = n * 10 + d in
    let tens : m / 10 ≡ n = omega arith in
    let ones : m % 10 ≡ d = omega arith in
    decimal_step m (omega arith) fits ∙ ap₂ (λ a b. decimal a ++ (48 + b) ∷ []) tens ones

-- ---- the beginning of a text

-- a text that isn't empty consists of its first byte and the rest
pub split_front : (x : ℕ) (text : List ℕ) → 0 < length text → get_or text 0 0 ≡ x → text ≡ x ∷ take (length text - 1) (drop 1 text)
split_front x [] some is = absurd (omega arith)
split_front x (y ∷ ys) some is = ap₂ (λ a l. a ∷ l) is (sym (take_all (length (y ∷ ys) - 1) ys (omega arith)))

pub split_two : (x y : ℕ) (text : List ℕ) → 1 < length text → get_or text 0 0 ≡ x → get_or text 1 0 ≡ y → text ≡ x ∷ y ∷ take (length text - 2) (drop 2 text)
split_two x y [] some is then = absurd (omega arith)
split_two x y (a ∷ []) some is then = absurd (omega arith)
split_two x y (a ∷ b ∷ rest) some is then =
    ap₂ (λ c l. c ∷ l) is (ap₂ (λ c l. c ∷ l) then (sym (take_all (length (a ∷ b ∷ rest) - 2) rest (omega arith))))

pub first_digit : (n : ℕ) (text : List ℕ) → 0 < length text → n < 10 → get_or text 0 0 ≡ 48 + n → text ≡ decimal n ++ take (length text - 1) (drop 1 text)
first_digit n text some small is = split_front (48 + n) text some is ∙ ap (λ l. l ++ take (length text - 1) (drop 1 text)) (sym (decimal_digit n small))

pub pair_back : (word : Bor (List ℕ)) (n : ℕ) → n < 2 ^ 64 → ReadsBack (Part.Pair word n)
pair_back word n small = record { flat = lit≤ tt; same = rw (number_of-decimal n small) refl }

-- moves a part from the beginning of the rest to the end of the parts
pub part_taken : (all : List Token) (parts : List Part) (part : Part) (ts more : List Token) → all ≡ Token.begin_array ∷ (parts_tokens parts ++ ts) → ts ≡ part_tokens part ++ more
    → all ≡ Token.begin_array ∷ (parts_tokens (parts ++ part ∷ []) ++ more)
part_taken all parts part ts more is begins =
    is ∙ ap (λ l. Token.begin_array ∷ (parts_tokens parts ++ l)) begins ∙ ap (λ l. Token.begin_array ∷ l) (one_more parts part more)

-- the bytes before the first quote or backslash are literal if none is a control character
pub no_escape_before : (word inside : List ℕ) (len : ℕ) → Nowhere (Passes (is_byte2 34 92) inside) 0 len → length word ≡ len → word ≡ take len inside
    → ((k : ℕ) → k < length word → 32 ≤ get_or word k 0) → AreLiteral word
no_escape_before word inside len nowhere long is printable = record { none = none; printable = printable }
  where
    at : (k : ℕ) → k < len → get_or word k 0 ≡ get_or inside k 0
    at k below = ap (λ w. get_or w k 0) is ∙ get_or-take len inside k 0 below

    none : (k : ℕ) → k < length word → (get_or word k 0 ≡ 34 → ⊥) × (get_or word k 0 ≡ 92 → ⊥)
    none k below =
        let within : k < len = omega (arith, long) in (
          λ e. nowhere k (omega arith) within (ap (is_byte2 34 92) (sym (at k within) ∙ e)),
          λ e. nowhere k (omega arith) within (ap (is_byte2 34 92) (sym (at k within) ∙ e)),
        )
