use Rattle.std.proofs.Common.{◌≡◌, Ok, Err, subst}
use Rattle.std.proofs.lemmas.Int.{to_z-of_z}
use Rattle.std.proofs.lemmas.Result.{err_from_is_err_and}
use Rattle.nr_rev.specs.declared.descriptor.Descriptor.{Descriptor}
use Rattle.nr_rev.specs.Descriptor.{deadline_from, with_deadlines}
use Rattle.nr_rev.specs.Auxiliary.Descriptor.{both_follow}
use Rattle.nr_plain.specs.Change.{change_view}
use Rattle.nr_laws.proofs.TimerFollowsLemmas.{refused_by_following, set_by_following}
use Rattle.nr_plain.proofs.change.change_by_deadline.Goals as goal

pub returns-in_err-change : goal.returns-in_err-change
returns-in_err-change c =
    let same : c.with_deadlines_from-descriptor.result ≡ with_deadlines c.args.mode (deadline_from c.args.clock c.args.time) c.args.old =
    simp (to_z-of_z, c.ranges.clock, c.ranges.time) at c.with_deadlines_from-descriptor.ensures in
    let p = err_from_is_err_and c.from_residual.result c.from_residual.ensures.1 in
    rw (p.1, p.2)
    (refused_by_following c.args.clock c.args.mode c.args.time c.args.old c.in_err-change.field-0.0 c.if-old.false
    (subst (λ (d : Descriptor). both_follow c.args.old d ≡ Err c.in_err-change.field-0.0) same c.in_err-change.ensures.viewed))

pub returns : goal.returns
returns c =
    let same : c.with_deadlines_from-descriptor.result ≡ with_deadlines c.args.mode (deadline_from c.args.clock c.args.time) c.args.old =
    simp (to_z-of_z, c.ranges.clock, c.ranges.time) at c.with_deadlines_from-descriptor.ensures in
    rw c.unblock_expired.ensures
    (set_by_following c.args.clock c.args.mode c.args.time c.args.old (change_view c.in_ok-change.change) c.if-old.false
    (subst (λ (d : Descriptor). both_follow c.args.old d ≡ Ok (change_view c.in_ok-change.change)) same c.in_ok-change.ensures.viewed))
