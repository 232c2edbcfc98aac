use Rattle.std.proofs.Common.{◌≡◌, ◌+◌, ◌*◌, ◌/◌, ◌≤◌, length, Some, sym, ap, ◌∙◌, subst, arith}
use Rattle.std.specs.List.{slice_get}
use Rattle.std.proofs.lemmas.List.{length_push}
use Rattle.nr_rev.specs.Run.{world_at}
use Rattle.nr_rev.specs.Auxiliary.Run.{IsWorldAt}
use Rattle.nr_rev.proofs.RunLemmas.{IsGoodTo-whole}
use Rattle.nr_snaps.specs.Film.{IsFrame}
use Rattle.nr_snaps.specs.Replay.{Replays}
use Rattle.nr_recording.specs.Recording.{run_of}
use Rattle.nr_snaps.proofs.AnswerLemmas.{steps_of_run}
use Rattle.nr_snaps.proofs.CopiesLemmas.{each-push}
use Rattle.nr_snaps.proofs.FrameLemmas.{Replays-good}
use Rattle.nr_snaps.proofs.loading.replay.Goals as goal

-- one more copy
pub loop-i-preserved : goal.loop-i-preserved
loop-i-preserved g c =
    let wf = g.W.Reversible.is_well_formed in
    let world = g.W.Worlds.world in
    let steps = g.W.Reversible.steps in
    let items = c.loop-i.later.items in
    let copy = c.in_ok-snapshot.snapshot in
    let kept = g.W.Worlds.kept in
    let frame = c.in_ok-play.ensures.frame in
    let pushed = c.push_reserved.ensures.items in
    record {
      frame = frame;
      agree = c.in_ok-play.ensures.agree;
      room = omega (arith, c.loop-i.invariant.room, c.push_reserved.ensures.capacity);
      count = ap length pushed ∙ length_push items copy ∙ ap (λ n. n + 1) c.loop-i.invariant.count;
      each = λ i s read. each-push (λ j t. IsFrame wf world steps g.film ((j + 1) * c.args.every) (kept t)) items copy c.loop-i.invariant.each
          (subst (λ j. IsFrame wf world steps g.film ((j + 1) * c.args.every) (kept copy)) (sym c.loop-i.invariant.count)
          (subst (λ t. IsFrame wf world steps g.film ((c.loop-i.i + 1) * c.args.every) t) (sym c.in_ok-snapshot.ensures) frame))
          i s (subst (λ xs. slice_get xs i ≡ Some s) pushed read);
    }

pub returns-clause-copies : goal.returns-clause-copies
returns-clause-copies g c =
    let film : g.film ≡ record { recording = run_of c.args.recording.now; every = c.args.every; origin = c.args.start.now } = assumption in
    let every : g.film.every ≡ c.args.every = ap (λ f. f.every) film in
    let whole : length g.film.recording.steps / g.film.every ≡ length (run_of c.args.recording.now).steps / c.args.every = ap (λ f. length f.recording.steps / f.every) film in
    let reached : c.loop-i.i ≡ c.len.result / c.args.every = omega (arith, c.loop-i.auto.i-end, c.loop-i-test.false) in
    record {
      count = c.loop-i.invariant.count ∙ reached ∙ ap (λ n. n / c.args.every) (c.len.ensures.value ∙ sym (steps_of_run c.args.recording.now)) ∙ sym whole;
      each = λ i copy read. subst (λ e. IsFrame g.W.Reversible.is_well_formed g.W.Worlds.world g.W.Reversible.steps g.film ((i + 1) * e) (g.W.Worlds.kept copy)) (sym every) (c.loop-i.invariant.each i copy read);
    }

-- all steps were replayed
pub returns-clause-good : goal.returns-clause-good
returns-clause-good g c =
    let r = run_of c.args.recording.now in
    let film : g.film ≡ record { recording = r; every = c.args.every; origin = c.args.start.now } = assumption in
    let is : g.film.recording ≡ r = ap (λ f. f.recording) film in
    let origin = ap (λ f. f.origin) film in
    let n = c.len-2.result in
    let reached : length r.steps ≤ n = omega (arith, steps_of_run c.args.recording.now) in
    let is_at : IsWorldAt g.W.Reversible.is_well_formed g.W.Worlds.world r 0 c.args.start.now = assumption in
    let there = subst (λ s. g.W.Worlds.world s ≡ world_at r 0) (sym origin) is_at.there in
    let replays = subst (λ r. Replays g.W.Reversible.steps r g.film.origin n c.play-2.new.world) is c.in_ok-play-2.ensures.frame.replays in
    IsGoodTo-whole r n (Replays-good g.W.Reversible.is_well_formed g.W.Worlds.world g.W.Reversible.steps g.met.W.Worlds.steps_are r g.film.origin n c.play-2.new.world there replays).0 reached
