use Rattle.std.proofs.Common.{sym, ap, ◌∙◌, subst, arith}
use Rattle.std.specs.List.{All}
use Rattle.nr_journal.specs.Auxiliary.Rule.{HasTagBelow}
use Rattle.nr_journal.specs.Step.{Seat, ComparesFrom}
use Rattle.nr_journal.specs.Pass.{Entered, AreInLine}
use Rattle.nr_journal.proofs.MeetLemmas.{compares}
use Rattle.nr_journal.proofs.PassLemmas.{are_in_line}
use Rattle.nr_journal.proofs.journal.Journal.compare.Goals as goal

pub load-requires : goal.load-requires
load-requires c =
    (ap (λ (f : Entered). f.table) c.pass.view_is ∙ (c.requires ∙ sym c.self.view_is), omega (arith, c.self.invariant.1), compares _ _ _ _ _ c.pass.invariant.0)

pub returns-clause-line : goal.returns-clause-line
returns-clause-line c =
    let learned = subst (λ (m : Seat). ComparesFrom m.0 c.load.new.seat.me) c.pass.invariant.0 c.load.ensures.2 in
    subst (λ (f : Entered). AreInLine f.pass_state.seen f.pass_state.learned) c.pass.view_is (are_in_line _ _ learned.1.0 learned.1.1 learned.1.2)

pub returns-clause-tags : goal.returns-clause-tags
returns-clause-tags c =
    let learned = subst (λ (m : Seat). ComparesFrom m.0 c.load.new.seat.me) c.pass.invariant.0 c.load.ensures.2 in
    subst (λ (f : Entered). All (HasTagBelow f.pass_state.passes) f.pass_state.seen) c.pass.view_is learned.2
