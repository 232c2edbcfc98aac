use Rattle.std.proofs.Common.{◌∙◌, ap, rules}
use Rattle.nr_journal.specs.declared.view.PassState.{PassState}
use Rattle.nr_front.specs.FrontState.{FrontState}
use Rattle.nr_front.proofs.StepsLemmas.{is_refused, learns_run, learns_then, learns_word}
use Rattle.nr_front.proofs.front.Front.catch_up.Goals as goal

pub returns-then-not-see-clause-ok : goal.returns-then-not-see-clause-ok
returns-then-not-see-clause-ok g c = search rules

pub returns-in_err-run_pending-clause-err : goal.returns-in_err-run_pending-clause-err
returns-in_err-run_pending-clause-err g c =
    let refused = is_refused _ _ _ c.loop-self.invariant.1 c.in_err-run_pending.ensures.unchanged c.in_err-run_pending.ensures.memory c.run_pending.ensures.company in
    search rules

pub loop-self-preserved : goal.loop-self-preserved
loop-self-preserved g c =
    let so_far = c.loop-self.invariant in
    let run = c.in_ok-run_pending.ensures.without_pending in
    let saw = c.if-not-see.ensures in
    let learns = learns_run _ _ _ so_far.1 run in (
      saw.1.same.table ∙ ap (λ (d : FrontState). d.table) run ∙ so_far.0,
      learns_then _ _ _ learns (learns_word saw.0 _ _ learns.unowed_still saw.1),
      ap (λ (s : PassState). s.looks) saw.1.pass_state ∙ ap (λ (d : FrontState). d.pass_state.looks) run ∙ so_far.2,
    )
