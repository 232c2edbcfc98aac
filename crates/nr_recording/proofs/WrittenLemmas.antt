-- Reading the written text of a recording returns the same recording.
use Rattle.std.proofs.Common.{◌≡◌, ◌+◌, ◌≤◌, ◌++◌, ◌&&◌, ℕ, true, List, [], ◌∷◌, length, Option, None, map, suc, All, Some, Ok, refl, sym, subst, inr, arith, lit≤}
use Rattle.std.specs.List.{concat}
use Rattle.std.proofs.lemmas.Bool.{and_parts, leb-true}
use Rattle.serde_json.specs.Data.{Data}
use Rattle.serde_json.specs.Read.{read}
use Rattle.serde_json.specs.Written.{compact_text}
use Rattle.nr_rev.specs.Kind.{kind_name, kind_of}
use Rattle.nr_rev.specs.declared.answer.Answer.{Answer}
use Rattle.nr_rev.specs.declared.step.Step.{Step}
use Rattle.nr_recording.specs.declared.reading.TheConstants.{MOST_LINE_BYTES}
use Rattle.nr_recording.specs.declared.recording.TheConstants.{MOST_BYTES}
use Rattle.nr_recording.specs.declared.recording.RecordedStep.{RecordedStep}
use Rattle.nr_recording.specs.declared.version.Version.{Version}
use Rattle.nr_recording.specs.Recording.{Recorded}
use Rattle.nr_recording.specs.Auxiliary.Recording.{fits, is_writable, are_writable, IsRecording}
use Rattle.nr_recording.specs.Version.{has_kind}
use Rattle.nr_recording.specs.Auxiliary.Version.{may_have}
use Rattle.nr_recording.specs.Reading.{lines, value_of, reading}
use Rattle.nr_recording.specs.Text.{AreSteps, AreLinesOf, IsTextOf}
use Rattle.nr_recording.specs.Spelling.{Argument}
use Rattle.nr_recording.specs.Auxiliary.Steps.{arguments_of, answer_arguments, spelling_of}
use Rattle.nr_recording.specs.Writing.{step_data, HasTypedArguments, header_data, line_text, text}
use Rattle.nr_recording.proofs.ReadAgainLemmas.{step_again, version_again, header_again}
use Rattle.nr_recording.proofs.ReadBackLemmas.{line_read, header_read}
use Rattle.nr_recording.proofs.PlainTextLemmas.{are_printable, are_plain, widths, line_printable, line_short, header_printable, header_short, utf8_printable, lines-line_text}
use Rattle.nr_recording.proofs.TextLaws.{reading_again}

-- true if the name contains only plain bytes, and the arguments fit in a line
record IsNarrow (line : List ℕ × List Argument) : Type 0 where
  plain : are_plain line.0 ≡ true
  fits : length line.0 + widths line.1 + 4 ≤ MOST_LINE_BYTES

narrow_step : (s : Step) → fits s ≡ true → are_plain (kind_name (kind_of s)) ≡ true × (length (kind_name (kind_of s)) + widths (arguments_of s) + 80 ≤ MOST_LINE_BYTES)
narrow_step (Step.Arrive s bytes) w = (refl, omega (arith, leb-true (length bytes) MOST_BYTES w))
narrow_step (Step.SysWrite g s bytes) w = (refl, omega (arith, leb-true (length bytes) MOST_BYTES w))
narrow_step s w = (refl, lit≤ tt)

answer_narrow : (a : Option Answer) → widths (answer_arguments a) ≤ 76
answer_narrow None = lit≤ tt
answer_narrow (Some a) = lit≤ tt

widths-append : (args more : List Argument) → widths (args ++ more) ≡ widths args + widths more
widths-append [] more = omega arith
widths-append (a ∷ args) more = omega (arith, widths-append args more)

narrow : (version : Version) (s : RecordedStep) → is_writable version s ≡ true → IsNarrow (spelling_of s)
narrow version s w =
    let parts = and_parts (has_kind version (kind_of s.step) && fits s.step) (may_have version s.answer) w in
    let step = narrow_step s.step (and_parts (has_kind version (kind_of s.step)) (fits s.step) parts.0).1 in
    record {
      plain = step.0;
      fits = omega (arith, step.1, answer_narrow s.answer, widths-append (arguments_of s.step) (answer_arguments s.answer));
    }

-- a printable text that the JSON reader accepts has a value
value_read : (bytes : List ℕ) (d : Data) → are_printable bytes ≡ true → read bytes ≡ Some d → value_of bytes ≡ Ok d
unfolding value_of
value_read bytes d visible e = rw (utf8_printable bytes visible, e) refl

steps_text : (version : Version) (steps : List RecordedStep) → are_writable version steps ≡ true → All HasTypedArguments steps
    → AreSteps version (lines (concat (map (λ s. line_text (step_data s)) steps))) steps
steps_text version [] writable typed = (record { short = lit≤ tt; blank = refl }, tt)
steps_text version (s ∷ steps) writable typed =
    let w = and_parts (is_writable version s) (are_writable version steps) writable in
    let own : HasTypedArguments s = typed 0 s (omega arith) in
    let fits = narrow version s w.0 in
    let visible = line_printable (spelling_of s) fits.plain own in
    let long = line_short (spelling_of s) fits.plain own in
    let room = fits.fits in
    let read_again = value_read (compact_text (step_data s)) (step_data s) visible (line_read (spelling_of s) own) in
    let more = steps_text version steps w.1 (λ k d lt. typed (suc k) d (omega arith)) in
    subst (λ (ls : List (List ℕ)). AreSteps version ls (s ∷ steps)) (sym (lines-line_text (step_data s) (concat (map (λ x. line_text (step_data x)) steps)) visible))
    (inr ((step_data s, record { short = omega arith; visible = refl; value = read_again }, step_again version s own w.0), more))

pub text_is_text : (r : Recorded) → IsRecording r → All HasTypedArguments r.steps → IsTextOf (text r) r
text_is_text r is typed =
    let header = header_data r.version r.limits in
    let visible = header_printable r.version r.limits in
    let read_again = value_read (compact_text header) header visible (header_read r.version r.limits is.limits) in
    subst (λ (ls : List (List ℕ)). AreLinesOf ls r) (sym (lines-line_text header (concat (map (λ x. line_text (step_data x)) r.steps)) visible))
    (inr (
      (header, record { short = header_short r.version r.limits; visible = refl; value = read_again }, version_again r.version r.limits, header_again r.version r.limits is.limits is.buffer),
      steps_text r.version r.steps is.writable typed,
      is.few,
    ))

pub text_read_again : (r : Recorded) → IsRecording r → All HasTypedArguments r.steps → reading (text r) ≡ Ok r
text_read_again r is typed = reading_again (text r) r (text_is_text r is typed)
