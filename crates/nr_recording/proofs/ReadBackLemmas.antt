-- The JSON reader reads the text of a written line as the value that was written.
use Rattle.std.proofs.Common.{◌≡◌, ◌≤◌, ◌<◌, ◌^◌, ℕ, pos, negsuc, true, false, List, [], ◌∷◌, codes, Some, refl, sym, ap, ◌∙◌, append-nil, arith, lit≤, lit<}
use Rattle.std.specs.Prelude.{option_map, option_and_then}
use Rattle.json.specs.Lex.{tokens}
use Rattle.json.specs.Json as json
use Rattle.json.specs.Tree as tree
use Rattle.json.proofs.Printed.Decimals.{IsNumber-decimal, IsNumber-signed_decimal}
use Rattle.json.proofs.Printed.Tokens.{tokens-print}
use Rattle.json.proofs.Printed.Trees.{value-json_tokens, ArePrintable-json_tokens}
use Rattle.serde_json.specs.Data.{Data, number}
use Rattle.serde_json.specs.Read.{read, max_depth, of_json, of_items}
use Rattle.serde_json.specs.Written.{outline, items_outline, compact_text}
use Rattle.serde_json.proofs.Numbers.{number_of-decimal, number_of-negative}
use Rattle.serde_json.proofs.Texts.{print-outline}
use Rattle.serde_json.proofs.OnLiterals.{serde_json_on_literals}
use Rattle.nr_rev.specs.declared.limits.Limits.{Limits}
use Rattle.nr_recording.specs.Spelling.{Argument, numeral, tag, time, side, mode, bit, digits, answer}
use Rattle.nr_recording.specs.Auxiliary.Spelling.{argument_data, arguments_data, IsInType, AreInTypes, line_data}
use Rattle.nr_recording.specs.Auxiliary.Answer.{counted_data, answer_data, IsAnswerInType}
use Rattle.nr_recording.specs.Auxiliary.Version.{version_number}
use Rattle.nr_recording.specs.Writing.{header_data}
use Rattle.nr_recording.specs.declared.version.Version.{Version}
use Rattle.nr_recording.specs.declared.version.Version.TheVariants.{One, Two}
use Rattle.nr_rev.specs.declared.answer.Answer.{Answer}
use Rattle.nr_rev.specs.declared.answer.Answer.TheVariants as answers
use Rattle.nr_rev.specs.Limits.{AreInRange}

-- reading the tokens of a value returns that value
pub tokens_read : (text : List ℕ) (d : Data) → tokens text ≡ tree.json_tokens (outline d) → tree.depth (outline d) ≤ 127 → of_json (outline d) ≡ Some d → read text ≡ Some d
tokens_read text d is shallow same =
    ap (λ ts. option_and_then of_json (option_and_then (λ p. json.if_last p.0 p.1) (json.value max_depth ts))) (is ∙ sym (append-nil _))
    ∙ ap (λ o. option_and_then of_json (option_and_then (λ p. json.if_last p.0 p.1) o)) (value-json_tokens (outline d) 127 [] shallow)
    ∙ same

text_read : (d : Data) → tree.HasNumbers (outline d) → tree.depth (outline d) ≤ 127 → of_json (outline d) ≡ Some d → read (compact_text d) ≡ Some d
text_read d numbers shallow same =
    tokens_read (compact_text d) d (ap tokens (sym (print-outline d)) ∙ tokens-print _ (ArePrintable-json_tokens (outline d) numbers)) shallow same

-- ---- answers

counted_numbers : (text : List ℕ) (n : ℕ) → n < 2 ^ 32 → tree.HasNumbers (outline (counted_data text n))
counted_numbers text n h = (tt, (IsNumber-decimal n (omega arith), tt))

answer_numbers : (a : Answer) → IsAnswerInType a → tree.HasNumbers (outline (answer_data a))
answer_numbers (answers.Number n) h = counted_numbers (codes "number") n h
answer_numbers (answers.Code c) h = counted_numbers (codes "code") c h
answer_numbers (answers.Got k) h = counted_numbers (codes "got") k h
answer_numbers (answers.Put k) h = counted_numbers (codes "put") k h
answer_numbers answers.Done h = tt
answer_numbers answers.Yes h = tt
answer_numbers answers.No h = tt
answer_numbers answers.Wait h = tt
answer_numbers answers.Last h = tt
answer_numbers answers.NotLast h = tt
answer_numbers answers.Eof h = tt
answer_numbers answers.Again h = tt
answer_numbers answers.Stale h = tt
answer_numbers answers.Pipe h = tt

counted_same : (text : List ℕ) (n : ℕ) → n < 2 ^ 32 → of_json (outline (counted_data text n)) ≡ Some (counted_data text n)
counted_same text n h = rw (number_of-decimal n (omega arith)) refl

answer_same : (a : Answer) → IsAnswerInType a → of_json (outline (answer_data a)) ≡ Some (answer_data a)
answer_same (answers.Number n) h = counted_same (codes "number") n h
answer_same (answers.Code c) h = counted_same (codes "code") c h
answer_same (answers.Got k) h = counted_same (codes "got") k h
answer_same (answers.Put k) h = counted_same (codes "put") k h
answer_same answers.Done h = refl
answer_same answers.Yes h = refl
answer_same answers.No h = refl
answer_same answers.Wait h = refl
answer_same answers.Last h = refl
answer_same answers.NotLast h = refl
answer_same answers.Eof h = refl
answer_same answers.Again h = refl
answer_same answers.Stale h = refl
answer_same answers.Pipe h = refl

answer_flat : (a : Answer) → tree.depth (outline (answer_data a)) ≤ 1
answer_flat a = grind arith

-- ---- arguments

argument_numbers : (a : Argument) → IsInType a → tree.HasNumbers (outline (argument_data a))
argument_numbers (numeral n) h = IsNumber-decimal n (omega arith)
argument_numbers (tag n) h = IsNumber-decimal n h
argument_numbers (time (pos n)) h = IsNumber-decimal n (omega arith)
argument_numbers (time (negsuc n)) h = IsNumber-signed_decimal (negsuc n) h
argument_numbers (side s) h = tt
argument_numbers (mode m) h = tt
argument_numbers (bit false) h = IsNumber-decimal 0 (lit< tt)
argument_numbers (bit true) h = IsNumber-decimal 1 (lit< tt)
argument_numbers (digits bytes) h = tt
argument_numbers (answer a) h = answer_numbers a h

argument_same : (a : Argument) → IsInType a → of_json (outline (argument_data a)) ≡ Some (argument_data a)
argument_same (numeral n) h = ap (option_map number) (number_of-decimal n (omega arith))
argument_same (tag n) h = ap (option_map number) (number_of-decimal n h)
argument_same (time (pos n)) h = ap (option_map number) (number_of-decimal n (omega arith))
argument_same (time (negsuc n)) h = ap (option_map number) (number_of-negative n h)
argument_same (side s) h = refl
argument_same (mode m) h = refl
argument_same (bit false) h = ap (option_map number) (number_of-decimal 0 (lit< tt))
argument_same (bit true) h = ap (option_map number) (number_of-decimal 1 (lit< tt))
argument_same (digits bytes) h = refl
argument_same (answer a) h = answer_same a h

argument_flat : (a : Argument) → tree.depth (outline (argument_data a)) ≤ 1
argument_flat (numeral n) = lit≤ tt
argument_flat (tag n) = lit≤ tt
argument_flat (time (pos n)) = lit≤ tt
argument_flat (time (negsuc n)) = lit≤ tt
argument_flat (side s) = lit≤ tt
argument_flat (mode m) = lit≤ tt
argument_flat (bit b) = lit≤ tt
argument_flat (digits bytes) = lit≤ tt
argument_flat (answer a) = answer_flat a

arguments_numbers : (args : List Argument) → AreInTypes args → tree.ItemsHaveNumbers (items_outline (arguments_data args))
arguments_numbers [] h = tt
arguments_numbers (a ∷ rest) h = (argument_numbers a h.0, arguments_numbers rest h.1)

arguments_same : (args : List Argument) → AreInTypes args → of_items (items_outline (arguments_data args)) ≡ Some (arguments_data args)
arguments_same [] h = refl
arguments_same (a ∷ rest) h = rw (argument_same a h.0, arguments_same rest h.1) refl

arguments_flat : (args : List Argument) → tree.items_depth (items_outline (arguments_data args)) ≤ 1
arguments_flat [] = lit≤ tt
arguments_flat (a ∷ rest) = omega (arith, argument_flat a, arguments_flat rest)

-- ---- lines

pub line_read : (line : List ℕ × List Argument) → AreInTypes line.1 → read (compact_text (line_data line)) ≡ Some (line_data line)
line_read line h = text_read (line_data line) (tt, arguments_numbers line.1 h) (omega (arith, arguments_flat line.1)) (rw (arguments_same line.1 h) refl)

version_small : (version : Version) → version_number version < 2 ^ 64
version_small One = lit< tt
version_small Two = lit< tt

pub header_read : (version : Version) (l : Limits) → AreInRange l → read (compact_text (header_data version l)) ≡ Some (header_data version l)
unfolding serde_json_on_literals
header_read version l h =
    let goroutines = h.goroutines_most in
    let sockets = h.sockets_most in
    let descriptors = h.descriptors_most in
    let buffer = h.buffer_most in
    let b : l.buffer < 2 ^ 64 = omega arith in
    let d : l.descriptors < 2 ^ 64 = omega arith in
    let g : l.goroutines < 2 ^ 64 = omega arith in
    let s : l.sockets < 2 ^ 64 = omega arith in
    let v = version_small version in
    text_read (header_data version l) (IsNumber-decimal l.buffer b, (IsNumber-decimal l.descriptors d, (IsNumber-decimal l.goroutines g, (IsNumber-decimal (version_number version) v, (IsNumber-decimal l.sockets s, tt)))))
    (lit≤ tt)
    (rw (number_of-decimal l.buffer b, number_of-decimal l.descriptors d, number_of-decimal l.goroutines g, number_of-decimal (version_number version) v, number_of-decimal l.sockets s) refl)
