-- The effects of `exec` follow from what happens when the front, after it has caught up, offers the
-- command to the journal.
use Rattle.std.proofs.Common.{◌≡◌, ℕ, refl, sym, ap, ◌∙◌, subst, inl, Ok, Err}
use Rattle.nr_journal.specs.Rule.{journal_room}
use Rattle.nr_command.specs.declared.command.Command.{Command}
use Rattle.nr_command.specs.declared.reply.Reply.{Reply}
use Rattle.nr_front.specs.FrontState.{FrontState}
use Rattle.nr_front.specs.Auxiliary.FrontState.{RepliesLast, SearchIsPending, own_pending, owed_command, last_place}
use Rattle.nr_front.specs.Front.{Answers, CatchesAll, Executes, PlacesCommand, without_pending}
use Rattle.nr_front.specs.Steps.{Placing}
use Rattle.nr_front.specs.declared.fault.FrontFault.{FrontFault}
use Rattle.nr_front.specs.declared.fault.FrontFault.TheVariants.{Memory, Placed, Full}
use Rattle.nr_front.proofs.StepsLemmas.{learns_then, places_then}

-- the command wasn't placed
pub exec_failed : (a b d : FrontState) (command : Command) (fault : FrontFault) → CatchesAll a b → Placing command b d (Err fault) → Executes command a d (Err fault)
exec_failed a b d command (Memory refused) x y = record { learns = learns_then a b d x.learns y.learns; wanted = y.wanted; company = y.company }
exec_failed a b d command (Placed place) x y = absurd y
exec_failed a b d command Full x y = record { learns = learns_then a b d x.learns y.learns; full = y.full ∙ ap journal_room x.learns.same.table; run = y.run }

-- the command was placed and run
pub exec_answers : (a b d e : FrontState) (command : Command) (reply : Reply) → CatchesAll a b → Placing command b d (Ok tt) → e ≡ without_pending d → RepliesLast d command reply
    → Executes command a e (Ok reply)
exec_answers a b d e command reply x y is replies =
    let p = places_then a b d command x.learns y.0 in
    subst (λ (t : FrontState). Answers command a t reply) (sym is) (record {
      places = record {
        between = p.between;
        same = record { table = p.same.table; recording = p.same.recording; workers = p.same.workers; walker_state = p.same.walker_state };
        placed = p.placed;
        others = p.others;
        none_between = p.none_between;
        learned_before = p.learned_before;
        tag = p.tag;
        learned = p.learned;
        passes = p.passes;
        looks = p.looks;
        unowed = p.unowed;
      };
      replies = record { debugger = replies.debugger; behind = replies.behind; answer = replies.answer };
      run = refl;
    })

-- the command was placed and ran out of memory, so its reply is owed
pub exec_late : (a b d e : FrontState) (command : Command) (place : ℕ) → CatchesAll a b → Placing command b d (Ok tt) → e ≡ d → SearchIsPending d → place ≡ last_place e
    → Executes command a e (Err (Placed place))
exec_late a b d e command place x y is wanted at =
    inl (record {
      places = subst (λ (t : FrontState). PlacesCommand command a t) (sym is) (places_then a b d command x.learns y.0);
      now_owed = ap owed_command is ∙ ap own_pending y.1;
      wanted = subst SearchIsPending (sym is) wanted;
      at = at;
    })
