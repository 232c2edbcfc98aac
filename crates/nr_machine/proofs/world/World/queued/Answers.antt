use Rattle.std.proofs.Common.{◌≡◌, ◌<◌, [], List, ℕ, length, refl, sym, ◌∙◌, arith}
use Rattle.std.proofs.lemmas.Result.{err_from_is_err_and}
use Rattle.nr_gsema.specs.Auxiliary.Table.{queue_at}
use Rattle.nr_machine.proofs.QueueLemmas.{next_at, walk_ends, walk_goes, walk_more}
use Rattle.nr_machine.proofs.world.World.queued.Goals as goal

pub loop-next-init : goal.loop-next-init
loop-next-init c =
    let q : List ℕ = queue_at c.args.socket c.args.side c.self.inside.core.goroutines in
    let none : c.new-items.result.items ≡ [] = c.new-items.ensures.items in
    rw (none) (refl, c.front_of-next.ensures, omega arith)

pub loop-next-smaller : goal.loop-next-smaller
loop-next-smaller c =
    let q : List ℕ = queue_at c.args.socket c.args.side c.self.inside.core.goroutines in
    let goes = walk_goes q c.loop-next.items.items c.loop-next.next c.in-Some.goroutine c.loop-next.invariant c.in-Some.is in
    let r = c.in_ok-push.ensures in
    let len = r.len in
    omega (arith, goes, len)

pub loop-next-preserved : goal.loop-next-preserved
loop-next-preserved c =
    let q : List ℕ = queue_at c.args.socket c.args.side c.self.inside.core.goroutines in
    let walked = c.loop-next.invariant in
    let r = c.in_ok-push.ensures in
    walk_more q c.loop-next.items.items c.push.new.self.items c.loop-next.next c.next_of-next.result c.in-Some.goroutine walked c.in-Some.is r.items
    (c.next_of-next.ensures
    ∙ next_at c.self.inside.core.goroutines c.queues_hold_the_queued.ensures c.args.socket c.args.side (length c.loop-next.items.items) c.in-Some.goroutine (sym walked.1 ∙ c.in-Some.is))

pub returns-in_err-push-clause-some : goal.returns-in_err-push-clause-some
returns-in_err-push-clause-some c =
    let q : List ℕ = queue_at c.args.socket c.args.side c.self.inside.core.goroutines in
    let goes = walk_goes q c.loop-next.items.items c.loop-next.next c.in-Some.goroutine c.loop-next.invariant c.in-Some.is in
    let some : 0 < length q = omega (arith, goes) in
    let p = err_from_is_err_and c.from_residual.result c.from_residual.ensures.1 in
    rw (p.1, ← c.self.view_is) some

pub returns-clause-ok : goal.returns-clause-ok
returns-clause-ok c =
    let q : List ℕ = queue_at c.args.socket c.args.side c.self.inside.core.goroutines in
    rw (← c.self.view_is) (walk_ends q c.loop-next.items.items c.loop-next.next c.loop-next.invariant c.in_default.is)
