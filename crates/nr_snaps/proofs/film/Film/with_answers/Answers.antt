use Rattle.std.proofs.Common.{◌≡◌, ◌+◌, [], ◌∷◌, ◌++◌, true, List, length, refl, sym, ap, subst, ◌∙◌, arith}
use Rattle.std.specs.List.{slice_get, list_all}
use Rattle.std.specs.Prelude.{Some}
use Rattle.std.proofs.lemmas.List.{length_push}
use Rattle.std.proofs.lemmas.List.Folds.{list_all-append}
use Rattle.nr_recording.specs.Recording.{run_of}
use Rattle.nr_recording.specs.Auxiliary.Recording.{has_line}
use Rattle.nr_recording.specs.declared.recording.RecordedStep.{RecordedStep}
use Rattle.nr_recording.specs.declared.version.Version.TheVariants.{Two}
use Rattle.nr_recording.proofs.RecordedLemmas.{one_more_answered}
use Rattle.nr_rev.specs.Run.{Recording}
use Rattle.nr_snaps.proofs.AnswerLemmas.{answered_steps-next}
use Rattle.nr_snaps.proofs.film.Film.with_answers.Goals as goal

pub loop-n-preserved : goal.loop-n-preserved
loop-n-preserved g c =
    let r = c.args.self.now.recording in
    let n = c.loop-n.n in
    let so_far = c.loop-n.invariant in
    let steps = c.loop-n.steps.items in
    let answers = c.loop-n.answers.items in
    let step = c.in-Some.step.now in
    let answer = c.advance-answer.result in
    let copied = c.in_ok-step_copy.ensures in
    let whole : run_of c.self.inside.recording ≡ r = ap (λ v. v.recording) c.self.view_is in
    let read : slice_get r.steps n ≡ Some step = subst (λ (x : Recording). slice_get x.steps n ≡ Some step) whole (sym c.in-Some.ensures.value) in
    let pushed : c.push_reserved.new.self.items ≡ steps ++ step ∷ [] = c.push_reserved.ensures.items ∙ ap (λ x. steps ++ x ∷ []) copied in
    let answered : c.push_reserved-in-loop-n.new.self.items ≡ answers ++ answer ∷ [] = c.push_reserved-in-loop-n.ensures.items in
    let line : has_line Two step ≡ true = rw c.in-Some.ensures.fits refl in
    record {
      frame = c.advance-answer.ensures.frame;
      room = omega (arith, so_far.room, c.push_reserved.ensures.capacity);
      answers_room = omega (arith, so_far.answers_room, c.push_reserved-in-loop-n.ensures.capacity);
      count = ap length pushed ∙ length_push steps step ∙ ap (λ n. n + 1) so_far.count;
      answers_count = ap length answered ∙ length_push answers answer ∙ ap (λ n. n + 1) so_far.answers_count;
      steps = rw (pushed, answered) (one_more_answered steps answers step answer (so_far.answers_count ∙ sym so_far.count))
          ∙ ap (λ (rows : List RecordedStep). rows ++ record { step = step; answer = Some answer } ∷ []) so_far.steps
          ∙ sym (answered_steps-next r n step answer read c.advance-answer.ensures.answer);
      lines = ap (list_all (has_line Two)) pushed ∙ list_all-append (has_line Two) steps (step ∷ []) ∙ rw (so_far.lines, line) refl;
    }
