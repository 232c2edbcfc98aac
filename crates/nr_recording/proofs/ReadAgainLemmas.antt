-- Reading the written form of a step or of limits returns the same step or limits.
use Rattle.std.proofs.Common.{◌≡◌, ◌≤◌, ◌<◌, ◌^◌, ℕ, ℤ, pos, negsuc, Bool, true, false, ◌&&◌, ltb, leb, List, [], ◌∷◌, ◌++◌, length, get_or, Option, Some, None, Ok, refl, arith}
use Rattle.std.proofs.lemmas.Bool.{and_parts, lt-ltb, le-ltb, le-leb, leb-true}
use Rattle.hex.specs.Hex.{encode_lower, lower_digits}
use Rattle.hex.proofs.HexLemmas.{length-encode_with, decode_of-encode_lower}
use Rattle.serde_json.specs.Data.{no_items}
use Rattle.nr_rev.specs.declared.answer.Answer.{Answer}
use Rattle.nr_rev.specs.declared.answer.Answer.TheVariants as answers
use Rattle.nr_rev.specs.declared.limits.Limits.{Limits}
use Rattle.nr_rev.specs.declared.sides.Side.{Side}
use Rattle.nr_rev.specs.declared.sides.Side.TheVariants as sides
use Rattle.nr_rev.specs.declared.sides.Mode.{Mode}
use Rattle.nr_rev.specs.declared.sides.Mode.TheVariants as modes
use Rattle.nr_rev.specs.declared.step.Step.{Step}
use Rattle.nr_rev.specs.Kind.{kind_of}
use Rattle.nr_rev.specs.Limits.{AreInRange}
use Rattle.nr_rev.specs.declared.limits.TheConstants.{MOST_GOROUTINES, MOST_SOCKETS, MOST_DESCRIPTORS}
use Rattle.nr_rev.proofs.NameLookupLemmas.{kind_again}
use Rattle.nr_recording.specs.declared.recording.TheConstants.{MOST_BYTES}
use Rattle.nr_recording.specs.declared.recording.RecordedStep.{RecordedStep}
use Rattle.nr_recording.specs.declared.version.Version.{Version}
use Rattle.nr_recording.specs.declared.version.Version.TheVariants.{One, Two}
use Rattle.nr_recording.specs.Answer.{answer_of}
use Rattle.nr_recording.specs.Auxiliary.Answer.{answer_data, IsAnswerInType}
use Rattle.nr_recording.specs.Numbers.{u32_of}
use Rattle.nr_recording.specs.Auxiliary.Recording.{fits, is_writable}
use Rattle.nr_recording.specs.Version.{has_kind, kind_in, most_buffer}
use Rattle.nr_recording.specs.Auxiliary.Version.{may_have}
use Rattle.nr_recording.specs.Arguments.{none, most_digits, side_of, mode_of, bit_of, hex_of, i64_of, from_zero}
use Rattle.nr_recording.specs.Header.{version_of, limit_of, limits_of, header_of}
use Rattle.nr_recording.specs.Steps.{step_in, answer_in, step_of}
use Rattle.nr_recording.specs.Auxiliary.Steps.{arguments_of, answer_arguments}
use Rattle.nr_recording.specs.Spelling.{Argument, numeral, time, side, mode, bit, digits}
use Rattle.nr_recording.specs.Auxiliary.Spelling.{argument_data, arguments_data, AreInTypes, IsMoment}
use Rattle.nr_recording.specs.Writing.{step_data, HasTypedArguments, header_data}

number_again : (n : ℕ) → n < 2 ^ 32 → u32_of (argument_data (numeral n)) ≡ Some n
number_again n h = rw (lt-ltb n (2 ^ 32) h) refl

side_again : (s : Side) → side_of (argument_data (side s)) ≡ Some s
side_again sides.Read = refl
side_again sides.Write = refl

mode_again : (m : Mode) → mode_of (argument_data (mode m)) ≡ Some m
mode_again modes.Read = refl
mode_again modes.Write = refl
mode_again modes.Both = refl

bit_again : (b : Bool) → bit_of (argument_data (bit b)) ≡ Some b
bit_again false = refl
bit_again true = refl

moment_again : (t : ℤ) → IsMoment t → i64_of (argument_data (time t)) ≡ Some t
moment_again (pos n) h = rw (lt-ltb n (2 ^ 63) h) refl
moment_again (negsuc n) h = refl

from_zero_again : (t : ℤ) → fits (Step.Tick t) ≡ true → from_zero t ≡ Some t
from_zero_again (pos n) h = rw (le-ltb n 0 (omega arith)) refl
from_zero_again (negsuc n) h = absurd cc

bytes_again : (bytes : List ℕ) → ((i : ℕ) → get_or bytes i 0 < 256) → leb (length bytes) MOST_BYTES ≡ true → hex_of (argument_data (digits bytes)) ≡ Some bytes
bytes_again bytes below few =
    let most = leb-true (length bytes) MOST_BYTES few in
    let short : ltb most_digits (length (encode_lower bytes)) ≡ false = le-ltb _ _ (omega (arith, length-encode_with lower_digits bytes)) in
    rw (short, decode_of-encode_lower bytes below) refl

answer_again : (a : Answer) → IsAnswerInType a → answer_of (answer_data a) ≡ Some a
answer_again (answers.Number n) h = rw (number_again n h) refl
answer_again (answers.Code c) h = rw (number_again c h) refl
answer_again (answers.Got k) h = rw (number_again k h) refl
answer_again (answers.Put k) h = rw (number_again k h) refl
answer_again answers.Done h = refl
answer_again answers.Yes h = refl
answer_again answers.No h = refl
answer_again answers.Wait h = refl
answer_again answers.Last h = refl
answer_again answers.NotLast h = refl
answer_again answers.Eof h = refl
answer_again answers.Again h = refl
answer_again answers.Stale h = refl
answer_again answers.Pipe h = refl

-- if a list begins with the arguments of a step, reading it returns that step and the rest of the
-- list
arguments_again : (s : Step) (more : List Argument) → AreInTypes (arguments_of s) → fits s ≡ true → step_in (kind_of s) (arguments_data (arguments_of s ++ more)) ≡ Ok (s, arguments_data more)
unfolding none
arguments_again (Step.Tick t) more h w = rw (moment_again t h.0, from_zero_again t w) refl
arguments_again (Step.Arrive s bytes) more h w = rw (number_again s h.0, bytes_again bytes h.1.0 w) refl
arguments_again (Step.SysWrite g s bytes) more (g_typed, (s_typed, (bytes_typed, rest))) w = rw (number_again g g_typed, number_again s s_typed, bytes_again bytes bytes_typed w) refl
arguments_again s more h w = grind (arith, number_again, side_again, mode_again, bit_again, moment_again)

-- reading a written answer returns that answer
answer_in_again : (version : Version) (a : Option Answer) → may_have version a ≡ true → AreInTypes (answer_arguments a) → answer_in version (arguments_data (answer_arguments a)) ≡ Ok (a, no_items)
answer_in_again One None may h = refl
answer_in_again One (Some a) may h = absurd cc
answer_in_again Two None may h = absurd cc
answer_in_again Two (Some a) may h = rw (answer_again a h.0) refl

AreInTypes-parts : (args more : List Argument) → AreInTypes (args ++ more) → AreInTypes args × AreInTypes more
AreInTypes-parts [] more h = (tt, h)
AreInTypes-parts (a ∷ args) more h = let rest = AreInTypes-parts args more h.1 in ((h.0, rest.0), rest.1)

pub step_again : (version : Version) (s : RecordedStep) → HasTypedArguments s → is_writable version s ≡ true → step_of version (step_data s) ≡ Ok s
unfolding step_of kind_in
step_again version s h w =
    let parts = and_parts (has_kind version (kind_of s.step) && fits s.step) (may_have version s.answer) w in
    let step = and_parts (has_kind version (kind_of s.step)) (fits s.step) parts.0 in
    let typed = AreInTypes-parts (arguments_of s.step) (answer_arguments s.answer) h in
    rw (
      kind_again (kind_of s.step),
      step.0,
      arguments_again s.step (answer_arguments s.answer) typed.0 step.1,
      answer_in_again version s.answer parts.1 typed.1,
    ) refl

limit_again : (most n : ℕ) → 0 < n → n ≤ most → limit_of most n ≡ Ok n
limit_again most n low high = rw (lt-ltb 0 n low, le-leb n most high) refl

pub header_again : (version : Version) (l : Limits) → AreInRange l → l.buffer ≤ most_buffer version → header_of version (header_data version l) ≡ Ok l
unfolding header_of limits_of
header_again version l h most = rw (
  limit_again MOST_GOROUTINES l.goroutines h.goroutines h.goroutines_most,
  limit_again MOST_SOCKETS l.sockets h.sockets h.sockets_most,
  limit_again MOST_DESCRIPTORS l.descriptors h.descriptors h.descriptors_most,
  limit_again (most_buffer version) l.buffer h.buffer most,
) refl

pub version_again : (version : Version) (l : Limits) → version_of (header_data version l) ≡ Ok version
version_again One l = refl
version_again Two l = refl
