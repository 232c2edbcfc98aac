use Rattle.std.proofs.Common.{◌∙◌, sym, subst}
use Rattle.nr_journal.specs.Pass.{CatchesUp, Entered}
use Rattle.nr_journal.specs.Rule.{journal_room}
use Rattle.nr_journal.proofs.journal.Journal.finish.Goals as goal

pub returns-clause-caught : goal.returns-clause-caught
returns-clause-caught c =
    subst (λ (p : Entered). CatchesUp (journal_room c.args.self.now) c.args.pass.now.pass_state p.pass_state) (sym (c.loop-at.invariant.0 ∙ c.compare.ensures.same)) c.catch_up.ensures.caught

pub returns-in_err-push-clause-caught : goal.returns-in_err-push-clause-caught
returns-in_err-push-clause-caught c =
    subst (λ (p : Entered). CatchesUp (journal_room c.args.self.now) c.args.pass.now.pass_state p.pass_state)
    (sym (c.reread.ensures.same ∙ c.loop-at.invariant.0 ∙ c.compare.ensures.same)) c.catch_up.ensures.caught
