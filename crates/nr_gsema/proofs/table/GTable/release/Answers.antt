use Rattle.std.proofs.Common.{◌≡◌, ℕ, ◌+◌, ◌-◌, ◌^◌, ◌<◌, Some, sym, ap, ◌∙◌, arith}
use Rattle.std.specs.Prelude.{slice_get}
use Rattle.nr_rev.specs.declared.sides.Side.{Side}
use Rattle.nr_rev.specs.Sides.{of_side, with_side}
use Rattle.nr_rev.specs.Step.{alive, owing}
use Rattle.nr_gsema.specs.SemaphoreChange.{released_once}
use Rattle.nr_gsema.specs.Step.{side_owed, tries_again}
use Rattle.nr_gsema.specs.Auxiliary.Table.{count_at, on_semaphore, queue_at}
use Rattle.nr_gsema.proofs.OperationLemmas.{releases}
use Rattle.nr_gsema.proofs.table.GTable.release.Goals as goal

pub returns : goal.returns
returns c =
    let t = c.args.self.now in
    let s = c.in_ok-socket.socket in
    let debt = c.in_ok-socket.owed in
    let side_is : c.side_owed-side.result ≡ side_owed debt = c.side_owed-side.ensures in
    let count = c.in-Some.count in
    let front = c.release_semaphore-front.result in
    let counted : count_at s (side_owed debt) t ≡ Some count = ap (λ (k : Side). count_at s k t) (sym side_is) ∙ sym c.in-Some.ensures in
    let small : count + 1 < 2 ^ 32 = let n = c.if-count.false in omega arith in
    let first : front ≡ slice_get (queue_at s (side_owed debt) t) 0 = c.release_semaphore-front.ensures.front ∙ ap (λ (k : Side). slice_get (queue_at s k t) 0) side_is in
    let after = c.release_semaphore-front.ensures.after ∙ ap (λ (k : Side). tries_again s k front (on_semaphore s k released_once t)) side_is in
    let less : c.saturating_sub.result ≡ of_side c.side_owed-side.result debt - 1 = let a = c.saturating_sub.ensures in let b = c.of.ensures in omega arith in
    let new_is : c.owing.result ≡ owing s (with_side (side_owed debt) (of_side (side_owed debt) debt - 1) debt) =
    c.owing.ensures ∙ ap (owing s) (c.with-left.ensures ∙ ap (λ (n : ℕ). with_side c.side_owed-side.result n debt) less ∙ ap (λ (k : Side). with_side k (of_side k debt - 1) debt) side_is) in
    releases t c.release_semaphore-front.new.self c.set_status.new.self c.queues_hold_the_queued.ensures c.args.goroutine s debt c.in_ok-status.status c.owing.result count front
    (ap alive (sym c.status.ensures) ∙ sym c.in_ok-status.ensures) (sym c.in_ok-socket.ensures) counted small first after new_is c.set_status.ensures
