use Rattle.std.proofs.Common.{ℕ, ◌<◌, ◌^◌, sym, ap, ◌∙◌, arith}
use Rattle.std.proofs.lemmas.Option.{slice_get_within}
use Rattle.nr_rev.specs.Step.{alive}
use Rattle.nr_gsema.specs.SemaphoreChange.{with_count}
use Rattle.nr_gsema.specs.Auxiliary.Table.{on_semaphore}
use Rattle.nr_gsema.proofs.OperationLemmas.{count_found, queues_up, takes}
use Rattle.nr_gsema.proofs.table.GTable.acquire.Goals as goal

pub returns-in_default-checked_sub : goal.returns-in_default-checked_sub
returns-in_default-checked_sub c =
    let none = c.in_default-checked_sub.ensures in
    queues_up c.args.self.now c.join_back.new.self c.args.goroutine c.in_ok-socket.socket c.in_ok-socket.side c.in_ok-status.status c.in-Some.count
    (ap alive (sym c.status.ensures) ∙ sym c.in_ok-status.ensures) (sym c.in_ok-socket.ensures) (sym c.in-Some.ensures) (omega (arith, none)) c.join_back.ensures

pub set_count-requires : goal.set_count-requires
set_count-requires c =
    let b = count_found c.args.self.now c.in_ok-socket.socket c.in_ok-socket.side c.in-Some.count (sym c.in-Some.ensures) in
    slice_get_within c.args.self.now.semaphores c.in_ok-socket.socket b.0 b.1

pub returns : goal.returns
returns c =
    let small : c.in-Some.count < 2 ^ 32 = omega arith in
    let some = c.in-Some-checked_sub.ensures.0 in
    takes c.args.self.now c.set_count.new.self c.set_status.new.self c.args.goroutine c.in_ok-socket.socket c.in_ok-socket.side c.in_ok-status.status c.in-Some.count
    (ap alive (sym c.status.ensures) ∙ sym c.in_ok-status.ensures) (sym c.in_ok-socket.ensures) (sym c.in-Some.ensures) (omega arith) small
    (c.set_count.ensures ∙ ap (λ (n : ℕ). on_semaphore c.in_ok-socket.socket c.in_ok-socket.side (with_count n) c.args.self.now) c.in-Some-checked_sub.ensures.1) c.set_status.ensures
