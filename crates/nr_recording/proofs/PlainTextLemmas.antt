-- The text of a written line is printable ASCII, so it contains no line feed, and it is short.
use Rattle.std.proofs.Common.{◌≡◌, ◌≤◌, ◌<◌, ◌+◌, ◌*◌, ◌/◌, ◌%◌, ℕ, zero, suc, pos, negsuc, Bool, true, false, not, eqb, ltb, leb, ◌&&◌, List, [], ◌∷◌, ◌++◌, length, get_or, codes, decimal, refl, ap, ◌∙◌, append_assoc, arith}
use Rattle.std.specs.List.{list_all}
use Rattle.std.specs.Fmt.{digits as digits_in, digits_onto, digit_glyph}
use Rattle.std.specs.Str.{is_utf8}
use Rattle.std.proofs.lemmas.Bool.{and_parts, and_from, ltb-true, leb-true, lt-ltb, le-leb, ne_eqb, eqb-false, not-true, cond_both}
use Rattle.std.proofs.lemmas.List.{length-append}
use Rattle.std.proofs.lemmas.List.Folds.{list_all-append}
use Rattle.std.proofs.lemmas.List.Elements.{All-from_recursion}
use Rattle.std.proofs.lemmas.Str.{is_utf8-from_IsUtf8}
use Rattle.hex.specs.Hex.{encode_with, encode_lower, lower_digits}
use Rattle.hex.proofs.HexLemmas.{length-encode_with}
use Rattle.json.specs.Print.{escape_byte, escape, quoted}
use Rattle.json.proofs.Printed.Strings.{escape_byte_plain}
use Rattle.json.proofs.Printed.Utf8.{are_ascii, IsUtf8-are_ascii}
use Rattle.serde_json.specs.Data.{Data, number, unsigned, Members, no_members, member}
use Rattle.serde_json.specs.Written.{comma_if, compact_text, items_text, members_text}
use Rattle.nr_rev.specs.declared.limits.Limits.{Limits}
use Rattle.nr_rev.specs.declared.sides.Side.TheVariants as sides
use Rattle.nr_rev.specs.declared.sides.Mode.TheVariants as modes
use Rattle.nr_recording.specs.Reading.{lines}
use Rattle.nr_recording.specs.declared.reading.TheConstants.{MOST_LINE_BYTES}
use Rattle.nr_recording.specs.Spelling.{Argument, numeral, tag, time, side, mode, bit, digits, answer}
use Rattle.nr_recording.specs.Auxiliary.Spelling.{argument_data, arguments_data, IsInType, AreInTypes, line_data}
use Rattle.nr_recording.specs.Auxiliary.Answer.{counted_data, answer_data}
use Rattle.nr_recording.specs.Auxiliary.Version.{version_number}
use Rattle.nr_recording.specs.Writing.{header_data, line_text}
use Rattle.nr_recording.specs.declared.version.Version.{Version}
use Rattle.nr_rev.specs.declared.answer.Answer.{Answer}
use Rattle.nr_rev.specs.declared.answer.Answer.TheVariants as answers

-- ---- bytes

-- true for an ASCII byte of at least 32
abbrev pub is_printable : ℕ → Bool
is_printable b = leb 32 b && ltb b 128

-- true if each byte is printable
abbrev pub are_printable : List ℕ → Bool
are_printable bs = list_all is_printable bs

-- true for a byte from 0 to z in ASCII, except the backslash
abbrev is_plain : ℕ → Bool
is_plain b = leb 48 b && ltb b 123 && not (eqb b 92)

abbrev pub are_plain : List ℕ → Bool
are_plain bs = list_all is_plain bs

both_printable : (xs ys : List ℕ) → are_printable xs ≡ true → are_printable ys ≡ true → are_printable (xs ++ ys) ≡ true
both_printable xs ys p q = list_all-append is_printable xs ys ∙ rw (p, q) refl

one_printable : (x : ℕ) (xs : List ℕ) → is_printable x ≡ true → are_printable xs ≡ true → are_printable (x ∷ xs) ≡ true
one_printable x xs p q = and_from (is_printable x) (are_printable xs) p q

is_between : (x : ℕ) → 32 ≤ x → x < 128 → is_printable x ≡ true
is_between x low high = and_from (leb 32 x) (ltb x 128) (le-leb 32 x low) (lt-ltb x 128 high)

-- ---- numbers

glyph_printable : (d : ℕ) → d < 10 → is_printable (digit_glyph false d) ≡ true
glyph_printable d h = rw (lt-ltb d 10 h) (is_between (48 + d) (omega arith) (omega arith))

digits_onto_printable : (k n : ℕ) (acc : List ℕ) → are_printable acc ≡ true → are_printable (digits_onto k 10 false n acc) ≡ true
digits_onto_printable zero n acc h = h
digits_onto_printable (suc k) n acc h =
    let more = one_printable (digit_glyph false (n % 10)) acc (glyph_printable (n % 10) (omega arith)) h in
    cond_both (eqb (n / 10) 0) (digit_glyph false (n % 10) ∷ acc) (digits_onto k 10 false (n / 10) (digit_glyph false (n % 10) ∷ acc)) (λ ds. are_printable ds ≡ true) (λ _. more)
    (λ _. digits_onto_printable k (n / 10) _ more)

decimal_printable : (n : ℕ) → are_printable (decimal n) ≡ true
unfolding digits_in
decimal_printable n = digits_onto_printable 64 n [] refl

digits_onto_short : (k n : ℕ) (acc : List ℕ) → length (digits_onto k 10 false n acc) ≤ k + length acc
digits_onto_short zero n acc = omega arith
digits_onto_short (suc k) n acc =
    cond_both (eqb (n / 10) 0) (digit_glyph false (n % 10) ∷ acc) (digits_onto k 10 false (n / 10) (digit_glyph false (n % 10) ∷ acc)) (λ ds. length ds ≤ suc k + length acc) (λ _. omega arith)
    (λ _. omega (arith, digits_onto_short k (n / 10) (digit_glyph false (n % 10) ∷ acc)))

decimal_short : (n : ℕ) → length (decimal n) ≤ 64
unfolding digits_in
decimal_short n = omega (arith, digits_onto_short 64 n [])

-- ---- strings

escaped_alone : (x : ℕ) → is_plain x ≡ true → escape_byte x ≡ x ∷ []
escaped_alone x h =
    let p = and_parts (leb 48 x && ltb x 123) (not (eqb x 92)) h in
    let low = leb-true 48 x (and_parts (leb 48 x) (ltb x 123) p.0).0 in
    escape_byte_plain x (λ e. omega arith) (eqb-false x 92 (not-true (eqb x 92) p.1)) (omega arith)

escape_plain : (s : List ℕ) → are_plain s ≡ true → escape s ≡ s
escape_plain [] h = refl
escape_plain (x ∷ xs) h =
    let p = and_parts (is_plain x) (are_plain xs) h in
    rw (escaped_alone x p.0, escape_plain xs p.1) refl

plain_printable : (s : List ℕ) → are_plain s ≡ true → are_printable s ≡ true
plain_printable [] h = refl
plain_printable (x ∷ xs) h =
    let p = and_parts (is_plain x) (are_plain xs) h in
    let q = and_parts (leb 48 x) (ltb x 123) (and_parts (leb 48 x && ltb x 123) (not (eqb x 92)) p.0).0 in
    let low = leb-true 48 x q.0 in
    let high = ltb-true x 123 q.1 in
    one_printable x xs (is_between x (omega arith) (omega arith)) (plain_printable xs p.1)

quoted_printable : (s : List ℕ) → are_plain s ≡ true → are_printable (quoted s) ≡ true
quoted_printable s h = rw (escape_plain s h) (one_printable 34 (s ++ 34 ∷ []) refl (both_printable s (34 ∷ []) (plain_printable s h) refl))

quoted_short : (s : List ℕ) → are_plain s ≡ true → length (quoted s) ≡ length s + 2
quoted_short s h = rw (escape_plain s h) (omega (arith, length-append s (34 ∷ [])))

digit_plain : (k : ℕ) → k < 16 → is_plain (get_or lower_digits k 0) ≡ true
digit_plain k h =
    All-from_recursion (λ x. is_plain x ≡ true) lower_digits (refl, (refl, (refl, (refl, (refl, (refl, (refl, (refl, (refl, (refl, (refl, (refl, (refl, (refl, (refl, (refl, tt)))))))))))))))) k 0 h

hex_plain : (bytes : List ℕ) → ((i : ℕ) → get_or bytes i 0 < 256) → are_plain (encode_lower bytes) ≡ true
unfolding encode_with
hex_plain [] h = refl
hex_plain (b ∷ bytes) h =
    let low : b < 256 = h 0 in
    let one = digit_plain (b / 16) (omega arith) in
    let two = digit_plain (b % 16) (omega arith) in
    rw (one, two) (hex_plain bytes (λ i. h (suc i)))

-- ---- answers

counted_printable : (text : List ℕ) (n : ℕ) → are_plain text ≡ true → are_printable (compact_text (counted_data text n)) ≡ true
counted_printable text n h = one_printable 91 (quoted text ++ 44 ∷ (decimal n ++ 93 ∷ [])) refl
    (both_printable (quoted text) (44 ∷ (decimal n ++ 93 ∷ [])) (quoted_printable text h)
    (one_printable 44 (decimal n ++ 93 ∷ []) refl (both_printable (decimal n) (93 ∷ []) (decimal_printable n) refl)))

answer_printable : (a : Answer) → are_printable (compact_text (answer_data a)) ≡ true
answer_printable (answers.Number n) = counted_printable (codes "number") n refl
answer_printable (answers.Code c) = counted_printable (codes "code") c refl
answer_printable (answers.Got k) = counted_printable (codes "got") k refl
answer_printable (answers.Put k) = counted_printable (codes "put") k refl
answer_printable answers.Done = quoted_printable (codes "done") refl
answer_printable answers.Yes = quoted_printable (codes "yes") refl
answer_printable answers.No = quoted_printable (codes "no") refl
answer_printable answers.Wait = quoted_printable (codes "wait") refl
answer_printable answers.Last = quoted_printable (codes "last") refl
answer_printable answers.NotLast = quoted_printable (codes "notlast") refl
answer_printable answers.Eof = quoted_printable (codes "eof") refl
answer_printable answers.Again = quoted_printable (codes "again") refl
answer_printable answers.Stale = quoted_printable (codes "stale") refl
answer_printable answers.Pipe = quoted_printable (codes "pipe") refl

counted_short : (text : List ℕ) (n : ℕ) → are_plain text ≡ true → length (compact_text (counted_data text n)) ≤ length text + 69
counted_short text n h = omega (
  arith,
  quoted_short text h,
  decimal_short n,
  length-append (quoted text) (44 ∷ (decimal n ++ 93 ∷ [])),
  length-append (decimal n) (93 ∷ []),
)

answer_short : (a : Answer) → length (compact_text (answer_data a)) ≤ 75
answer_short (answers.Number n) = omega (arith, counted_short (codes "number") n refl)
answer_short (answers.Code c) = omega (arith, counted_short (codes "code") c refl)
answer_short (answers.Got k) = omega (arith, counted_short (codes "got") k refl)
answer_short (answers.Put k) = omega (arith, counted_short (codes "put") k refl)
answer_short answers.Done = omega (arith, quoted_short (codes "done") refl)
answer_short answers.Yes = omega (arith, quoted_short (codes "yes") refl)
answer_short answers.No = omega (arith, quoted_short (codes "no") refl)
answer_short answers.Wait = omega (arith, quoted_short (codes "wait") refl)
answer_short answers.Last = omega (arith, quoted_short (codes "last") refl)
answer_short answers.NotLast = omega (arith, quoted_short (codes "notlast") refl)
answer_short answers.Eof = omega (arith, quoted_short (codes "eof") refl)
answer_short answers.Again = omega (arith, quoted_short (codes "again") refl)
answer_short answers.Stale = omega (arith, quoted_short (codes "stale") refl)
answer_short answers.Pipe = omega (arith, quoted_short (codes "pipe") refl)

-- ---- arguments

argument_printable : (a : Argument) → IsInType a → are_printable (compact_text (argument_data a)) ≡ true
argument_printable (numeral n) h = decimal_printable n
argument_printable (tag n) h = decimal_printable n
argument_printable (time (pos n)) h = decimal_printable n
argument_printable (time (negsuc n)) h = one_printable 45 (decimal (suc n)) refl (decimal_printable (suc n))
argument_printable (side sides.Read) h = quoted_printable (codes "r") refl
argument_printable (side sides.Write) h = quoted_printable (codes "w") refl
argument_printable (mode modes.Read) h = quoted_printable (codes "r") refl
argument_printable (mode modes.Write) h = quoted_printable (codes "w") refl
argument_printable (mode modes.Both) h = quoted_printable (codes "rw") refl
argument_printable (bit false) h = decimal_printable 0
argument_printable (bit true) h = decimal_printable 1
argument_printable (digits bytes) h = quoted_printable (encode_lower bytes) (hex_plain bytes h)
argument_printable (answer a) h = answer_printable a

-- the maximum number of bytes that an argument and its comma take
abbrev pub width : Argument → ℕ
width (digits bytes) = 2 * length bytes + 3
width _ = 76

abbrev pub widths : List Argument → ℕ
widths [] = 0
widths (a ∷ rest) = width a + widths rest

argument_short : (a : Argument) → IsInType a → length (compact_text (argument_data a)) + 1 ≤ width a
argument_short (numeral n) h = omega (arith, decimal_short n)
argument_short (tag n) h = omega (arith, decimal_short n)
argument_short (time (pos n)) h = omega (arith, decimal_short n)
argument_short (time (negsuc n)) h = omega (arith, decimal_short (suc n))
argument_short (side sides.Read) h = omega (arith, quoted_short (codes "r") refl)
argument_short (side sides.Write) h = omega (arith, quoted_short (codes "w") refl)
argument_short (mode modes.Read) h = omega (arith, quoted_short (codes "r") refl)
argument_short (mode modes.Write) h = omega (arith, quoted_short (codes "w") refl)
argument_short (mode modes.Both) h = omega (arith, quoted_short (codes "rw") refl)
argument_short (bit false) h = omega (arith, decimal_short 0)
argument_short (bit true) h = omega (arith, decimal_short 1)
argument_short (digits bytes) h = omega (arith, quoted_short (encode_lower bytes) (hex_plain bytes h), length-encode_with lower_digits bytes)
argument_short (answer a) h = omega (arith, answer_short a)

arguments_printable : (args : List Argument) → AreInTypes args → are_printable (items_text true (arguments_data args)) ≡ true
arguments_printable [] h = refl
arguments_printable (a ∷ rest) h = one_printable 44 (compact_text (argument_data a) ++ items_text true (arguments_data rest)) refl
    (both_printable (compact_text (argument_data a)) (items_text true (arguments_data rest)) (argument_printable a h.0) (arguments_printable rest h.1))

arguments_short : (args : List Argument) → AreInTypes args → length (items_text true (arguments_data args)) ≤ widths args + 1
arguments_short [] h = omega arith
arguments_short (a ∷ rest) h = omega (arith, argument_short a h.0, arguments_short rest h.1, length-append (compact_text (argument_data a)) (items_text true (arguments_data rest)))

-- ---- lines

pub line_printable : (line : List ℕ × List Argument) → are_plain line.0 ≡ true → AreInTypes line.1 → are_printable (compact_text (line_data line)) ≡ true
line_printable line name h = one_printable 91 (quoted line.0 ++ items_text true (arguments_data line.1)) refl
    (both_printable (quoted line.0) (items_text true (arguments_data line.1)) (quoted_printable line.0 name) (arguments_printable line.1 h))

pub line_short : (line : List ℕ × List Argument) → are_plain line.0 ≡ true → AreInTypes line.1 → length (compact_text (line_data line)) ≤ length line.0 + widths line.1 + 4
line_short line name h = omega (arith, quoted_short line.0 name, arguments_short line.1 h, length-append (quoted line.0) (items_text true (arguments_data line.1)))

member_printable : (later : Bool) (k : List ℕ) (n : ℕ) (ms : Members) → are_plain k ≡ true → are_printable (members_text true ms) ≡ true
    → are_printable (members_text later (member k (number (unsigned n)) ms)) ≡ true
member_printable later k n ms p q =
    let entry = both_printable (quoted k) (58 ∷ (decimal n ++ members_text true ms)) (quoted_printable k p)
    (one_printable 58 (decimal n ++ members_text true ms) refl (both_printable (decimal n) (members_text true ms) (decimal_printable n) q)) in
    both_printable (comma_if later) _ (comma_printable later) entry
  where
    comma_printable : (later : Bool) → are_printable (comma_if later) ≡ true
    comma_printable true = refl
    comma_printable false = refl

member_short : (later : Bool) (k : List ℕ) (n : ℕ) (ms : Members) → are_plain k ≡ true → length (members_text later (member k (number (unsigned n)) ms)) ≤ length k + 68 + length (members_text true ms)
member_short later k n ms p =
    let after : List ℕ = decimal n ++ members_text true ms in
    omega (
      arith,
      comma_short later,
      decimal_short n,
      quoted_short k p,
      length-append (comma_if later) (quoted k ++ 58 ∷ after),
      length-append (quoted k) (58 ∷ after),
      length-append (decimal n) (members_text true ms),
    )
  where
    comma_short : (later : Bool) → length (comma_if later) ≤ 1
    comma_short true = omega arith
    comma_short false = omega arith

abbrev with_number : List ℕ → ℕ → Members → Members
with_number k n ms = member k (number (unsigned n)) ms

-- the header's members from a key to the end
abbrev from_sock : Limits → Members
from_sock l = with_number (codes "sock") l.sockets no_members

abbrev from_version : Version → Limits → Members
from_version version l = with_number (codes "netrev") (version_number version) (from_sock l)

abbrev from_gor : Version → Limits → Members
from_gor version l = with_number (codes "gor") l.goroutines (from_version version l)

abbrev from_desc : Version → Limits → Members
from_desc version l = with_number (codes "desc") l.descriptors (from_gor version l)

pub header_printable : (version : Version) (l : Limits) → are_printable (compact_text (header_data version l)) ≡ true
header_printable version l =
    one_printable 123 (members_text false (with_number (codes "buf") l.buffer (from_desc version l))) refl
    (member_printable false (codes "buf") l.buffer (from_desc version l) refl
    (member_printable true (codes "desc") l.descriptors (from_gor version l) refl
    (member_printable true (codes "gor") l.goroutines (from_version version l) refl
    (member_printable true (codes "netrev") (version_number version) (from_sock l) refl
    (member_printable true (codes "sock") l.sockets no_members refl refl)))))

pub header_short : (version : Version) (l : Limits) → length (compact_text (header_data version l)) ≤ MOST_LINE_BYTES
header_short version l =
    let sock = member_short true (codes "sock") l.sockets no_members refl in
    let number = member_short true (codes "netrev") (version_number version) (from_sock l) refl in
    let gor = member_short true (codes "gor") l.goroutines (from_version version l) refl in
    let desc = member_short true (codes "desc") l.descriptors (from_gor version l) refl in
    let buf = member_short false (codes "buf") l.buffer (from_desc version l) refl in
    omega (arith, sock, number, gor, desc, buf)

-- ---- printable texts

ascii_printable : (bs : List ℕ) → are_printable bs ≡ true → are_ascii bs ≡ true
ascii_printable [] h = refl
ascii_printable (x ∷ xs) h =
    let p = and_parts (is_printable x) (are_printable xs) h in
    and_from (ltb x 128) (are_ascii xs) (and_parts (leb 32 x) (ltb x 128) p.0).1 (ascii_printable xs p.1)

pub utf8_printable : (bs : List ℕ) → are_printable bs ≡ true → is_utf8 bs ≡ true
utf8_printable bs h = is_utf8-from_IsUtf8 bs (IsUtf8-are_ascii bs (ascii_printable bs h))

split_line : (xs ys : List ℕ) → are_printable xs ≡ true → lines (xs ++ 10 ∷ ys) ≡ xs ∷ lines ys
split_line [] ys h = refl
split_line (x ∷ xs) ys h =
    let p = and_parts (is_printable x) (are_printable xs) h in
    let low = leb-true 32 x (and_parts (leb 32 x) (ltb x 128) p.0).0 in
    rw (ne_eqb x 10 (λ e. omega arith), split_line xs ys p.1) refl

-- if a text begins with a written line, that line is its first line
pub lines-line_text : (d : Data) (more : List ℕ) → are_printable (compact_text d) ≡ true → lines (line_text d ++ more) ≡ compact_text d ∷ lines more
unfolding line_text
lines-line_text d more h = ap lines (append_assoc (compact_text d) (10 ∷ []) more) ∙ split_line (compact_text d) more h
