use Rattle.std.proofs.Common.{◌≡◌, ◌+◌, ◌-◌, sym, subst, arith}
use Rattle.nr_recording.specs.Recording.{run_of}
use Rattle.nr_rev.specs.Run.{IsRefusedAt}
use Rattle.nr_rev.specs.Auxiliary.Run.{IsWorldAt}
use Rattle.nr_rev.proofs.RunLemmas.{IsGoodTo-prefix}
use Rattle.nr_snaps.specs.Answers.{Agrees, AnswersAgreeTo, AnswersOtherwiseAt, Differs}
use Rattle.nr_snaps.specs.Replay.{LeadsOn}
use Rattle.nr_snaps.proofs.AnswerLemmas.{agree-next}
use Rattle.nr_snaps.proofs.FrameLemmas.{IsFrame-good, IsFrame-next}
use Rattle.nr_snaps.proofs.loading.play.Goals as goal

-- the earlier steps were replayed, so they apply, but this step doesn't
pub returns-in-Err-clause-fault : goal.returns-in-Err-clause-fault
returns-in-Err-clause-fault g c =
    let r = run_of c.args.recording.now in
    let n = c.loop-n.n in
    let place : n ≡ n + 1 - 1 = omega arith in
    let is : g.film.recording ≡ r = assumption in
    let origin : IsWorldAt g.W.Reversible.is_well_formed g.W.Worlds.world r 0 g.film.origin = assumption in
    let good = IsFrame-good g.W.Reversible.is_well_formed g.W.Worlds.world g.W.Reversible.steps g.met.W.Worlds.steps_are g.film r is origin n c.loop-n.world c.loop-n.invariant.frame in
    let refused = c.in-Err.ensures.refused in (
      omega arith,
      c.in-Err.ensures.no_memory,
      subst (λ k. IsRefusedAt r k c.in-Err.reason) place (record {
        before = IsGoodTo-prefix r n good;
        step = refused.0;
        next = refused.1;
        refused = refused.2;
      }),
      subst (λ k. AnswersAgreeTo c.args.recording.now k) place c.loop-n.invariant.agree,
    )

-- the earlier steps gave their recorded answers, but this step doesn't
pub returns-then-differs-clause-fault : goal.returns-then-differs-clause-fault
returns-then-differs-clause-fault g c =
    let r = run_of c.args.recording.now in
    let n = c.loop-n.n in
    let place : n ≡ n + 1 - 1 = omega arith in
    let is : g.film.recording ≡ r = assumption in
    let origin : IsWorldAt g.W.Reversible.is_well_formed g.W.Worlds.world r 0 g.film.origin = assumption in
    let good = IsFrame-good g.W.Reversible.is_well_formed g.W.Worlds.world g.W.Reversible.steps g.met.W.Worlds.steps_are g.film r is origin n c.loop-n.world c.loop-n.invariant.frame in (
      omega arith,
      subst (λ k. AnswersOtherwiseAt c.args.recording.now k) place (record {
        before = IsGoodTo-prefix r n good;
        agree = c.loop-n.invariant.agree;
        given = c.in-Ok.given;
        gives = c.in-Ok.ensures.answer;
        differs = subst (λ recorded. Differs recorded c.in-Ok.given) c.answer.ensures c.if-differs.ensures;
      }),
    )

pub loop-n-preserved : goal.loop-n-preserved
loop-n-preserved g c =
    let r = run_of c.args.recording.now in
    let is : g.film.recording ≡ r = assumption in
    let leads = subst (λ r. LeadsOn g.W.Reversible.steps r c.loop-n.n c.loop-n.world c.advance.new.world) (sym is) c.in-Ok.ensures.leads in
    let agrees = subst (λ recorded. Agrees recorded c.in-Ok.given) c.answer.ensures c.if-differs.ensures in
    record {
      frame = IsFrame-next g.W.Reversible.is_well_formed g.W.Worlds.world g.W.Reversible.steps g.met.W.Worlds.steps_are g.film c.loop-n.n c.loop-n.world c.advance.new.world
          c.loop-n.invariant.frame leads c.advance.ensures.well_formed;
      agree = agree-next c.args.recording.now c.loop-n.n c.in-Ok.given c.loop-n.invariant.agree c.in-Ok.ensures.answer agrees;
    }

pub returns-clause-agree : goal.returns-clause-agree
returns-clause-agree g c = λ k given below gives. c.loop-n.invariant.agree k given (omega (arith, below, c.loop-n-test.false)) gives
