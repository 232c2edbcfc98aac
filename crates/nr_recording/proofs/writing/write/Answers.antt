use Rattle.std.proofs.Common.{◌≡◌, ◌≤◌, ℕ, Option, Some, length, sym, ap, ◌∙◌, rules, arith}
use Rattle.std.specs.Prelude.{slice_get}
use Rattle.std.proofs.lemmas.List.{take_all}
use Rattle.std.proofs.lemmas.List.Elements.{All-more}
use Rattle.std.proofs.lemmas.Option.{get_or_from_slice_get, slice_get_within}
use Rattle.nr_rev.specs.declared.answer.Answer.{Answer}
use Rattle.nr_rev.specs.declared.step.Step.{Step}
use Rattle.nr_recording.specs.Recording.{Recorded, recorded_at, run_of}
use Rattle.nr_recording.specs.Auxiliary.Recording.{IsRecording}
use Rattle.nr_recording.specs.Writing.{HasTypedArguments}
use Rattle.nr_recording.specs.declared.recording.RecordedStep.{RecordedStep}
use Rattle.nr_recording.proofs.RecordedLemmas.{both_there}
use Rattle.nr_recording.proofs.WriteLoopLemmas.{IsStepAt, one_more_line, part_of_line}
use Rattle.nr_recording.proofs.TextLaws.{reading_again}
use Rattle.nr_recording.proofs.WrittenLemmas.{text_is_text}
use Rattle.nr_recording.proofs.writing.write.Goals as goal

-- reading a step and its answer at an index returns the row at that index
row_there : (r : Recorded) (n : ℕ) (step : Step) (answer : Option Answer) → Some step ≡ slice_get (run_of r).steps n → answer ≡ recorded_at r n
    → IsStepAt r n (record { step = step; answer = answer })
row_there r n step answer read answered =
    let row : RecordedStep = record { step = step; answer = answer } in
    let there = both_there r.steps n step (sym read) ∙ ap (λ (a : Option Answer). Some (record { step = step; answer = a })) (sym answered) in
    (slice_get_within r.steps n row there, sym (get_or_from_slice_get r.steps n row row there))

pub loop-n-preserved : goal.loop-n-preserved
loop-n-preserved g c =
    let r = c.args.recording.now in
    let n = c.loop-n.n in
    let row : RecordedStep = record { step = c.in-Some.step.now; answer = c.answer.result } in
    let there = row_there r n row.step row.answer c.in-Some.ensures.value c.answer.ensures in
    let line = rw c.in_ok-line_value.ensures.is at c.in_ok-write_line-2.ensures in
    record {
      so_far = one_more_line r row n _ _ _ there c.loop-n.invariant.so_far line.ok;
      calm = search rules;
      typed = All-more HasTypedArguments r.steps n row there.0 c.loop-n.invariant.typed (rw (← there.1) c.in_ok-line_value.ensures.typed);
    }

pub returns-in_err-write_line-2-clause-device : goal.returns-in_err-write_line-2-clause-device
returns-in_err-write_line-2-clause-device g c = λ failed.
    let there = row_there c.args.recording.now c.loop-n.n _ _ c.in-Some.ensures.value c.answer.ensures in
    let line = rw c.in_ok-line_value.ensures.is at c.in_err-write_line-2.ensures in
    part_of_line _ _ _ _ _ _ there c.loop-n.invariant.so_far (line.device (search rules))

pub returns-clause-again : goal.returns-clause-again
returns-clause-again g c =
    let r = c.args.recording.now in
    let len = c.len-n-end.ensures in
    let is : IsRecording r = record {
      limits = rw (← c.limits.ensures.value) c.limits.ensures.in_range;
      buffer = rw (← c.limits.ensures.value) c.limits.ensures.in_version;
      few = rw (← len.value) len.few;
      writable = rw (← c.version.ensures.value) c.version.ensures.writable;
    } in
    let last : length r.steps ≤ c.loop-n.n = omega (arith, len.value, c.loop-n-test.false) in
    text_is_text r is (rw (take_all c.loop-n.n r.steps last) at c.loop-n.invariant.typed)

pub returns-clause-read_again : goal.returns-clause-read_again
returns-clause-read_again g c = reading_again _ c.args.recording.now (returns-clause-again g c)
