-- If a relation between a front's states holds across each of the front's calls, it holds across
-- each line.
use Rattle.std.proofs.Common.{◌≡◌, ℕ, ap, inl, inr, List, [], ◌∷◌, Option, Some, None, Result, Ok, Err}
use Rattle.nr_command.specs.Command.{meaning_of}
use Rattle.nr_command.specs.declared.command.Command.{Command}
use Rattle.nr_command.specs.declared.command.Query.{Query}
use Rattle.nr_command.specs.declared.command.Line.{Line}
use Rattle.nr_command.specs.declared.command.Line.TheVariants.{Run, Look, Resume, Quit, Empty}
use Rattle.nr_command.specs.declared.command.LineFault.{LineFault}
use Rattle.nr_command.specs.declared.reply.Reply.{Reply}
use Rattle.nr_front.specs.FrontState.{FrontState}
use Rattle.nr_front.specs.Front.{Executes, Learns, Looks, PlacesCommand, Resumes}
use Rattle.nr_front.specs.declared.fault.FrontFault.{FrontFault}
use Rattle.nr_front.specs.declared.fault.FrontFault.TheVariants.{Memory, Placed, Full}
use Rattle.nr_lines.specs.Auxiliary.Engine.{Turns}
use Rattle.nr_lines.specs.Auxiliary.Turn.{MayReply}

-- true if a relation between two states of a front holds across each of the front's calls
pub record IsKept (R : FrontState → FrontState → Type 0) : Type 0 where
  -- no word was read
  pub stays : (d d' : FrontState) → d'.pass_state ≡ d.pass_state → R d d'
  -- words of other fronts were read
  pub learns : (d d' : FrontState) → Learns d d' → R d d'
  -- the front's own word was placed
  pub places : (command : Command) (d d' : FrontState) → PlacesCommand command d d' → R d d'
  -- a call was followed by another call
  pub joins : (a b c : FrontState) → R a b → R b c → R a c

module _ (R : FrontState → FrontState → Type 0) (kept : IsKept R) where
  same : (d d' : FrontState) → d' ≡ d → R d d'
  same d d' is = kept.stays d d' (ap (λ (t : FrontState). t.pass_state) is)

  -- words of other fronts were read, and then the walker moved
  learns_led : (d mid d' : FrontState) → Learns d mid → d'.pass_state ≡ mid.pass_state → R d d'
  learns_led d mid d' l is = kept.joins d mid d' (kept.learns d mid l) (kept.stays mid d' is)

  executes : (command : Command) (d d' : FrontState) (given : Result Reply FrontFault) → Executes command d d' given → R d d'
  executes command d d' (Ok reply) e = kept.places command d d' e.places
  executes command d d' (Err (Memory refused)) e = kept.learns d d' e.learns
  executes command d d' (Err (Placed place)) e = elim e as (λ _. R d d') [ inl left ↦ kept.places command d d' left.places | inr stays ↦ same d d' stays.unchanged ]
  executes command d d' (Err Full) e = kept.learns d d' e.learns

  looks : (query : Query) (d d' : FrontState) (given : Result Reply FrontFault) → Looks query d d' given → R d d'
  looks query d d' (Ok reply) e = learns_led d e.caught_up d' e.catches_all.learns (ap (λ (t : FrontState). t.pass_state) e.led)
  looks query d d' (Err (Memory refused)) e = elim e as (λ _. R d d') [
    | inl refused ↦ kept.learns d d' refused.learns
    | inr look ↦ learns_led d look.caught_up d' look.catches_all.learns (ap (λ (t : FrontState). t.pass_state) look.moved)
  ]
  looks query d d' (Err (Placed place)) e = same d d' e.unchanged
  looks query d d' (Err Full) e = absurd e

  resumes : (d d' : FrontState) (given : Result (Option Reply) FrontFault) → Resumes d d' given → R d d'
  resumes d d' (Ok None) e = same d d' e.unchanged
  resumes d d' (Ok (Some reply)) e = kept.stays d d' (ap (λ (t : FrontState). t.pass_state) e.now)
  resumes d d' (Err (Memory refused)) e = absurd e
  resumes d d' (Err (Placed place)) e = same d d' e.stays.unchanged
  resumes d d' (Err Full) e = absurd e

  pub turn_keeps : (asked : Result Line LineFault) (d : FrontState) (reply : Option Reply) (d' : FrontState) → MayReply asked d reply d' → R d d'
  turn_keeps (Ok (Run command)) d reply d' m = executes command d d' m.0 m.1
  turn_keeps (Ok (Look query)) d reply d' m = looks query d d' m.0 m.1
  turn_keeps (Ok Resume) d reply d' m = resumes d d' m.0 m.1
  turn_keeps (Ok Quit) d reply d' m = same d d' m.1
  turn_keeps (Ok Empty) d reply d' m = same d d' m.1
  turn_keeps (Err fault) d reply d' m = same d d' m.1

  pub turns_keep : (d : FrontState) (lines texts : List (List ℕ)) (d' : FrontState) → Turns d lines texts d' → R d d'
  turns_keep d [] [] d' t = same d d' t
  turns_keep d [] (text ∷ texts) d' t = absurd t
  turns_keep d (line ∷ lines) [] d' t = absurd t
  turns_keep d (line ∷ lines) (text ∷ texts) d' (mid, (reply, may, fault_reply), then_on) = kept.joins d mid d' (turn_keeps (meaning_of line) d reply mid may) (turns_keep mid lines texts d' then_on)
