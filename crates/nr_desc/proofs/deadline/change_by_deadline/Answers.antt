use Rattle.std.proofs.Common.{◌≡◌, Ok, Err, false, subst, sym, ◌∙◌}
use Rattle.std.proofs.lemmas.Int.{to_z-of_z}
use Rattle.nr_rev.specs.declared.descriptor.Descriptor.{Descriptor}
use Rattle.nr_rev.specs.Descriptor.{deadline_from, with_deadlines}
use Rattle.nr_rev.specs.Auxiliary.Descriptor.{both_follow}
use Rattle.nr_desc.specs.Auxiliary.Change.{change_view}
use Rattle.nr_laws.proofs.TimerFollowsLemmas.{refused_by_following, set_by_following}
use Rattle.nr_desc.proofs.deadline.change_by_deadline.Goals as goal

pub returns-in-Err-clause-viewed : goal.returns-in-Err-clause-viewed
returns-in-Err-clause-viewed c =
    let same : c.with_deadlines_from-desc.result ≡ with_deadlines c.args.mode (deadline_from c.args.clock c.args.time) c.args.old =
    simp (to_z-of_z, c.ranges.clock, c.ranges.time) at c.with_deadlines_from-desc.ensures in
    let not_closing : c.args.old.closing ≡ false = rw (← c.old.view_is) (sym c.closing.ensures ∙ c.if-closing.false) in
    refused_by_following c.args.clock c.args.mode c.args.time c.args.old c.in-Err.refusal not_closing
    (subst (λ (d : Descriptor). both_follow c.args.old d ≡ Err c.in-Err.refusal) same c.in-Err.ensures.viewed)

pub returns-in-Ok-clause-viewed : goal.returns-in-Ok-clause-viewed
returns-in-Ok-clause-viewed c =
    let same : c.with_deadlines_from-desc.result ≡ with_deadlines c.args.mode (deadline_from c.args.clock c.args.time) c.args.old =
    simp (to_z-of_z, c.ranges.clock, c.ranges.time) at c.with_deadlines_from-desc.ensures in
    let not_closing : c.args.old.closing ≡ false = rw (← c.old.view_is) (sym c.closing.ensures ∙ c.if-closing.false) in
    rw c.unblock_expired.ensures.viewed
    (set_by_following c.args.clock c.args.mode c.args.time c.args.old (change_view c.in-Ok.change) not_closing
    (subst (λ (d : Descriptor). both_follow c.args.old d ≡ Ok (change_view c.in-Ok.change)) same c.in-Ok.ensures.viewed))
