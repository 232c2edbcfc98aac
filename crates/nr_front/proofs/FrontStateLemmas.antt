-- The debugger after more words are appended to the history.
use Rattle.std.proofs.Common.{◌≡◌, ◌≢◌, ℕ, List, [], ◌∷◌, ◌++◌, refl, sym, ap, subst, ◌∙◌, ◌/◌, ◌%◌, Option, Some, None}
use Rattle.std.specs.Prelude.{option_map}
use Rattle.nr_rev.specs.Run.{Recording}
use Rattle.nr_journal.specs.Rule.{tag_of}
use Rattle.nr_journal.specs.Auxiliary.Rule.{having_seen}
use Rattle.nr_journal.specs.declared.view.PassState.{PassState}
use Rattle.nr_command.specs.Debugger.{Ran, Searches, after_tagged, after_words, opening, run}
use Rattle.nr_command.specs.Word.{command_of, command_with}
use Rattle.nr_command.specs.declared.command.Command.{Command}
use Rattle.nr_command.specs.declared.debugger.Debugger.{Debugger}
use Rattle.nr_command.specs.declared.reply.Reply.{Reply}
use Rattle.nr_front.specs.FrontState.{FrontState, IsAt, IsBehind}
use Rattle.nr_front.specs.Auxiliary.FrontState.{HasCompany, RepliesLast, SearchIsPending, pending_command}
use Rattle.nr_front.specs.Steps.{pending_after}
use Rattle.nr_front.specs.declared.pending.Pending.{Pending}
use Rattle.nr_front.specs.declared.pending.Pending.TheVariants.{Nothing}

pub after_words-append : (r : Recording) (d : Debugger) (xs ys : List ℕ) → after_words r d (xs ++ ys) ≡ after_words r (after_words r d xs) ys
after_words-append r d [] ys = refl
after_words-append r d (x ∷ xs) ys = after_words-append r (after_tagged r d (command_of x)) xs ys

-- the debugger after another word
pub after_words-more : (r : Recording) (words : List ℕ) (word : ℕ) → after_words r opening (words ++ word ∷ []) ≡ after_tagged r (after_words r opening words) (command_of word)
after_words-more r words word = after_words-append r opening words (word ∷ [])

-- after the command of the last word was run, the debugger has run all words
pub run_last : (r : Recording) (words : List ℕ) (command : Command) (d d' : Debugger) → IsBehind r words command d → d' ≡ (run r command d).1 → d' ≡ after_words r opening words
run_last r words command d d' b ran =
    ran ∙ ap (λ (x : Debugger). (run r command x).1) b.behind
    ∙ sym (ap (λ (c : Option (ℕ × Command)). after_tagged r (after_words r opening b.before) c) b.meaning)
    ∙ sym (after_words-more r b.before b.word)
    ∙ sym (ap (λ (ws : List ℕ). after_words r opening ws) b.last)

-- a word has been read, and its command hasn't been run yet
pub is_at_more : (r : Recording) (words : List ℕ) (word : ℕ) (d : Debugger) → d ≡ after_words r opening words → IsAt r (words ++ word ∷ []) (pending_command (pending_after (command_of word))) d
is_at_more r words word d at =
    elim (command_with (word % 256) (word / 65536)) as (λ c. command_with (word % 256) (word / 65536) ≡ c
    → IsAt r (words ++ word ∷ []) (pending_command (pending_after (option_map (λ (command : Command). (tag_of word, command)) c))) d) [
      | None ↦ λ is. at ∙ sym (ap (λ (c : Option Command). after_tagged r (after_words r opening words) (option_map (λ (command : Command). (tag_of word, command)) c)) is)
          ∙ sym (after_words-more r words word)
      | Some command ↦ λ is. record { before = words; word = word; last = refl; meaning = ap (λ (c : Option Command). option_map (λ (command : Command). (tag_of word, command)) c) is; behind = at }
    ] refl

-- the pending command is the command of the last word read
pub due_behind : (view front_state : FrontState) (command : Command) (debugger : Debugger) → view ≡ front_state → pending_command front_state.pending ≡ Some command
    → IsAt view.recording view.pass_state.seen (pending_command view.pending) debugger → IsBehind view.recording view.pass_state.seen command debugger
due_behind view front_state command debugger is pending at =
    subst (λ (c : Option Command). IsAt view.recording view.pass_state.seen c debugger) (ap (λ (d : FrontState). pending_command d.pending) is ∙ pending) at

-- the pending command is a search
pub search_due : (view front_state : FrontState) (command : Command) (debugger : Debugger) → view ≡ front_state → pending_command front_state.pending ≡ Some command
    → IsAt view.recording view.pass_state.seen (pending_command view.pending) debugger → Searches view.recording command debugger → SearchIsPending front_state
search_due view front_state command debugger is pending at searches = record {
  command = command;
  debugger = debugger;
  pending = pending;
  behind = subst (λ (d : FrontState). IsBehind d.recording d.pass_state.seen command debugger) is (due_behind view front_state command debugger is pending at);
  searches = subst (λ (d : FrontState). Searches d.recording command debugger) is searches;
}

-- the pending command has its reply
pub replies_last : (view front_state : FrontState) (command : Command) (debugger debugger' : Debugger) (reply : Reply) → view ≡ front_state → pending_command front_state.pending ≡ Some command
    → IsAt view.recording view.pass_state.seen (pending_command view.pending) debugger → (reply, debugger') ≡ run view.recording command debugger → RepliesLast front_state command reply
replies_last view front_state command debugger debugger' reply is pending at ran = record {
  debugger = debugger;
  behind = subst (λ (d : FrontState). IsBehind d.recording d.pass_state.seen command debugger) is (due_behind view front_state command debugger is pending at);
  answer = ap (λ (r : Ran). r.0) ran ∙ ap (λ (d : FrontState). (run d.recording command debugger).0) is;
}

-- a word of another user was read, so the journal has more than one pass
pub seen_at : (r : Recording) (old new : PassState) (word : ℕ) (debugger : Debugger) (was pending : Pending) → was ≡ Nothing → IsAt r old.seen (pending_command was) debugger
    → new ≡ having_seen old word → old.passes ≢ 1 → pending ≡ pending_after (command_of word) → IsAt r new.seen (pending_command pending) debugger × HasCompany pending new.passes
seen_at r old new word debugger was pending without_pending at is others left =
    let was_at : IsAt r old.seen None debugger = subst (λ (d : Pending). IsAt r old.seen (pending_command d) debugger) without_pending at in (
      rw (is, left) (is_at_more r old.seen word debugger was_at),
      rw (is, left) (company (command_of word)),
    )
  where
    company : (x : Option (ℕ × Command)) → HasCompany (pending_after x) old.passes
    company None = tt
    company (Some tagged) = others
