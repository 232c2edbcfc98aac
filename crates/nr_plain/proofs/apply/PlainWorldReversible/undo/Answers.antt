use Rattle.std.proofs.Common.{subst, rules}
use Rattle.nr_rev.proofs.LeadsBackLemmas.{LeadsBack-last, LeadsBack-undone}
use Rattle.nr_rev.specs.Transaction.{LeadsBack}
use Rattle.nr_plain.specs.ReversibleLaws.{Undoes-unique}
use Rattle.nr_plain.specs.Edit.{Undoes}
use Rattle.nr_plain.proofs.apply.PlainWorldReversible.undo.Goals as goal

pub revert-requires : goal.revert-requires
revert-requires c =
    let old = c.requires.0 in
    let whole = subst (λ ds. LeadsBack Undoes ds c.loop-undo.self old) c.in-Some.ensures.items (c.loop-undo.invariant old c.requires.1) in
    (LeadsBack-last Undoes c.pop.new.self.items c.in-Some.undo c.loop-undo.self old whole).1.0

pub loop-undo-preserved : goal.loop-undo-preserved
loop-undo-preserved c old h =
    let so_far = c.loop-undo.invariant old h in
    let whole = subst (λ ds. LeadsBack Undoes ds c.loop-undo.self old) c.in-Some.ensures.items so_far in
    let can = (LeadsBack-last Undoes c.pop.new.self.items c.in-Some.undo c.loop-undo.self old whole).1.0 in
    LeadsBack-undone Undoes Undoes-unique c.loop-undo.undos.items c.pop.new.self.items c.in-Some.undo c.loop-undo.self c.revert.new.self old
    c.in-Some.ensures.items (can, c.revert.ensures) so_far

pub loop-undo-init : goal.loop-undo-init
loop-undo-init c = search rules
