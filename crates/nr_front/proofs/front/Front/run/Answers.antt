use Rattle.std.proofs.Common.{ap, rules}
use Rattle.nr_command.specs.Debugger.{Ran}
use Rattle.nr_front.proofs.FrontStateLemmas.{due_behind, replies_last, run_last, search_due}
use Rattle.nr_front.proofs.front.Front.run.Goals as goal

pub returns-in_err-reply-clause-memory : goal.returns-in_err-reply-clause-memory
returns-in_err-reply-clause-memory g c =
    let wanted = search_due _ _ _ _ c.self.view_is c.requires c.self.invariant.0 c.in_err-reply.ensures.memory in
    search rules

pub invariant_of-self-2 : goal.invariant_of-self-2
invariant_of-self-2 g c =
    let behind = due_behind _ _ _ _ c.self.view_is c.requires c.self.invariant.0 in
    (rw c.exec.ensures.recording (run_last _ _ _ _ _ behind (ap (λ (r : Ran). r.1) c.in_ok-reply.ensures.ok)), tt)

pub returns-clause-reply : goal.returns-clause-reply
returns-clause-reply g c = replies_last _ _ _ _ _ _ c.self.view_is c.requires c.self.invariant.0 c.in_ok-reply.ensures.ok
