use Rattle.std.proofs.Common.{ℕ, Result, map, subst, sym, rules}
use Rattle.std.specs.Prelude.{IfSome, vec_len}
use Rattle.std.specs.Global.{Vec}
use Rattle.nr_rev.specs.declared.memory.Memory.{Memory}
use Rattle.nr_journal.specs.Rule.{journal_room}
use Rattle.nr_serving.specs.Session.{IsHistory}
use Rattle.nr_serving.specs.Auxiliary.Session.{words_of}
use Rattle.nr_serving.proofs.HistoryLemmas.{history_of, no_history}
use Rattle.nr_serving.proofs.session.finish.Goals as goal
use Rattle.nr_serving.proofs.session.finish.Goals.{in-Some, in-None}

-- one pass collected the words of the other passes, or there was no pass
pub returns-clause-history : goal.returns-clause-history
returns-clause-history c =
    let room = journal_room c.args.journal.now in
    let done = c.args.done.items in
    elim c.match-take_done.branch [
      | in-Some w ↦ subst (λ (h : Result (Vec ℕ) Memory). IfSome (words_of h) (IsHistory room (map (λ d. d.pass.pass_state) done))) (sym w.history-is)
          (history_of room (vec_len c.args.done) w.collect-history.result c.take_done.new.done.items done w.in-Some.last w.in-Some.ensures.last w.collect-history.ensures.last w.collect-history.ensures.others
          w.collect-history.ensures.tags c.requires.tags c.requires.passes)
      | in-None w ↦ subst (λ (h : Result (Vec ℕ) Memory). IfSome (words_of h) (IsHistory room (map (λ d. d.pass.pass_state) done))) (sym w.history-is)
          (no_history room done w.new.result.items w.in-None.ensures.none (search rules))
    ]
