-- The reply to a query at a position, and the meaning of an accepted recording.
use Rattle.std.proofs.Common.{◌≡◌, ℕ, true, Some, Ok, Err, refl, ap, ◌∙◌}
use Rattle.std.specs.Prelude.{List, slice_get, IsOk}
use Rattle.nr_rev.specs.Cell.{bytes_of, cell, queue_of}
use Rattle.nr_rev.specs.Run.{Recording, world_at}
use Rattle.nr_rev.specs.Step.{Outcome, outcome}
use Rattle.nr_rev.specs.World.{World}
use Rattle.nr_rev.specs.declared.step.Step.{Step}
use Rattle.nr_rev.proofs.RunLemmas.{IsWorldAt-next}
use Rattle.nr_command.specs.Debugger.{query_reply}
use Rattle.nr_command.specs.Looking.{is_at_world}
use Rattle.nr_command.specs.declared.command.Query.{Query}
use Rattle.nr_command.specs.declared.command.Query.TheVariants as queries
use Rattle.nr_command.specs.declared.debugger.Debugger.{Debugger}
use Rattle.nr_command.specs.declared.reply.Reply.TheVariants as replies
use Rattle.nr_programs.specs.Opening.{IsGoodText}
use Rattle.nr_programs.specs.Accepted.{LeadsOnAt}

-- the reply to a query about the world depends only on the position
pub shows_one : (r : Recording) (query : Query) (d e : Debugger) → is_at_world query ≡ true → d.position ≡ e.position → query_reply r d query ≡ query_reply r e query
shows_one r (queries.Print c) d e looks same = ap (λ n. replies.Printed c (cell (world_at r n) c)) same
shows_one r (queries.DumpBytes side s) d e looks same = ap (λ n. replies.Bytes side s (bytes_of (world_at r n) s side)) same
shows_one r (queries.DumpQueue side s) d e looks same = ap (λ n. replies.Queue side s (queue_of (world_at r n) s side)) same
shows_one r queries.Position d e looks same = absurd cc
shows_one r queries.Breakpoints d e looks same = absurd cc
shows_one r queries.Checkpoints d e looks same = absurd cc

-- a step that applies turns the world at its position into the world at the next position
leads_on : (r : Recording) (n : ℕ) (step : Step) (came : Outcome) → slice_get r.steps n ≡ Some step → outcome (world_at r n) step ≡ came → IsOk came → LeadsOnAt r n step
leads_on r n step (Ok (answer, next)) read is ok =
    let there = IsWorldAt-next (λ (w : World). Unit {0}) (λ (w : World). w) r n step answer (world_at r n) next (record { well_formed = tt; there = refl }) read is tt in
    (answer, is ∙ ap (λ (w : World). Ok (answer, w)) there.there)
leads_on r n step (Err reason) read is ok = absurd cc

pub is_a_run : (bytes : List ℕ) (r : Recording) (n : ℕ) (step : Step) → IsGoodText bytes r → slice_get r.steps n ≡ Some step → LeadsOnAt r n step
is_a_run bytes r n step good read = leads_on r n step (outcome (world_at r n) step) read refl (good.good n step read)
