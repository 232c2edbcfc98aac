-- The replies to a front's lines are the transcript.
use Rattle.std.proofs.Common.{◌≡◌, inl, inr, ℕ, ◌+◌, List, [], ◌∷◌, ◌++◌, length, Option, Some, None, Result, Ok, Err, refl, sym, ap, ◌∙◌, subst, append-nil, append_assoc, length-append}
use Rattle.std.proofs.lemmas.List.{same_from_push}
use Rattle.nr_rev.specs.Refusing.{refused_memory}
use Rattle.nr_rev.specs.Run.{Recording}
use Rattle.nr_command.specs.Debugger.{Searches, after_words, opening, query_reply, run}
use Rattle.nr_command.specs.Word.{word_of}
use Rattle.nr_command.specs.declared.command.Command.{Command}
use Rattle.nr_command.specs.declared.command.Line.{Line}
use Rattle.nr_command.specs.declared.command.Line.TheVariants.{Run, Look, Resume, Quit, Empty}
use Rattle.nr_command.specs.declared.command.LineFault.{LineFault}
use Rattle.nr_command.specs.declared.command.Query.{Query}
use Rattle.nr_command.specs.declared.debugger.Debugger.{Debugger}
use Rattle.nr_command.specs.declared.reply.Fault.TheVariants as faults
use Rattle.nr_command.specs.declared.reply.Reply.{Reply}
use Rattle.nr_command.specs.declared.reply.Reply.TheVariants.{NothingOwed, Bye, Fault}
use Rattle.nr_front.specs.FrontState.{FrontState, IsAt, IsBehind}
use Rattle.nr_front.specs.Auxiliary.FrontState.{RepliesLast, own_pending, owed_command, pending_command}
use Rattle.nr_front.specs.Front.{Executes, IsLeftOwed, IsStillOwed, Learns, Looks, PlacesCommand, RepliesToLook, Resumes, StaysOwed, with_walker_state, without_pending}
use Rattle.nr_front.specs.Replica.{WalkerState}
use Rattle.nr_front.specs.declared.fault.FrontFault.{FrontFault}
use Rattle.nr_front.specs.declared.fault.FrontFault.TheVariants.{Memory, Placed, Full}
use Rattle.nr_front.specs.declared.pending.Pending.{Pending}
use Rattle.nr_front.specs.declared.pending.Pending.TheVariants.{Nothing, Others, Own}
use Rattle.nr_front.proofs.FrontStateLemmas.{after_words-append, run_last}
use Rattle.nr_lines.specs.Auxiliary.Turn.{MayReply, reply_given, resumed}
use Rattle.nr_journal.specs.Rule.{IsOthers, journal_room}
use Rattle.nr_journal.specs.declared.view.PassState.{PassState}
use Rattle.std.proofs.lemmas.List.Elements.{All-nil}
use Rattle.nr_programs.specs.Shared.{MeetsOthers, own_word, words_with}
use Rattle.nr_programs.specs.Among.{MayMeet, Met, answer_among, behind_others, calm}
use Rattle.nr_programs.specs.Transcript.{Answered, JournalSize, SessionState, Supply, enough, no_memory, no_memory_to_search, no_room, owing}

-- the front's state agrees with s, a session state that the transcript computes
pub record IsInState (r : Recording) (s : SessionState) (d : FrontState) : Type 0 where
  pub recording : d.recording ≡ r
  pub placed : s.placed ≡ length d.pass_state.seen
  pub owed : s.owed ≡ owed_command d
  pub at : IsAt r d.pass_state.seen s.owed s.debugger

-- the size of a front's journal
abbrev pub size_of : FrontState → JournalSize
size_of d = record { room = journal_room d.table; passes = d.pass_state.passes }

pub same_size : (d d' : FrontState) → d'.table ≡ d.table → d'.pass_state.passes ≡ d.pass_state.passes → size_of d' ≡ size_of d
same_size d d' table passes = let room : journal_room d'.table ≡ journal_room d.table = ap journal_room table in cc

-- A line can get this reply under these conditions (`met`). If the journal has one pass, no words
-- of other fronts come before the line.
pub record MayGive (r : Recording) (owed : Option Command) (asked : Result Line LineFault) (s : SessionState) (d : FrontState) (reply : Option Reply) (d' : FrontState) : Type 0 where
  pub met : Met
  pub reply_is : (answer_among r owed asked met s).0 ≡ reply
  pub there : IsInState r (answer_among r owed asked met s).1 d'
  pub company : d'.pass_state.passes ≡ d.pass_state.passes
  pub no_others : d.pass_state.passes ≡ 1 → met.others ≡ []
  pub tag : d'.pass_state.tag ≡ d.pass_state.tag
  pub seen : d'.pass_state.seen ≡ d.pass_state.seen ++ words_with d.pass_state.tag owed asked met
  pub theirs : MeetsOthers d.pass_state.tag met
  pub table : d'.table ≡ d.table
  pub may : MayMeet r (size_of d) owed asked met s

-- the pending command is the front's own command whose reply is owed
due_command : (pending : Pending) (owed due : Command) → own_pending pending ≡ Some owed → pending_command pending ≡ Some due → due ≡ owed
due_command Nothing owed due a b = cc
due_command (Others command) owed due a b = cc
due_command (Own command) owed due a b = cc

-- two debuggers that have run all of these words except the last are equal
one_behind : (r : Recording) (words : List ℕ) (command : Command) (a b : Debugger) → IsBehind r words command a → IsBehind r words command b → a ≡ b
one_behind r words command a b one other =
    one.behind ∙ ap (after_words r opening) (same_from_push one.before other.before one.word other.word (sym one.last ∙ other.last)).0 ∙ sym other.behind

module _ (r : Recording) (s : SessionState) (d : FrontState) (here : IsInState r s d) where
  -- the front has seen words of other fronts, and none of its own
  seen_others : (words own : List ℕ) (d' : FrontState) → d'.pass_state.seen ≡ d.pass_state.seen ++ words → own ≡ [] → d'.pass_state.seen ≡ d.pass_state.seen ++ (words ++ own)
  seen_others words own d' seen none = seen ∙ ap (λ (l : List ℕ). d.pass_state.seen ++ l) (sym (ap (λ (l : List ℕ). words ++ l) none ∙ append-nil words))

  -- the front has seen no new word
  seen_none : (own : List ℕ) (d' : FrontState) → d'.pass_state ≡ d.pass_state → own ≡ [] → d'.pass_state.seen ≡ d.pass_state.seen ++ ([] ++ own)
  seen_none own d' same none = seen_others [] own d' (ap (λ (x : PassState). x.seen) same ∙ sym (append-nil d.pass_state.seen)) none

  none_theirs : (supply : Supply) → MeetsOthers d.pass_state.tag (record { others = []; supply = supply })
  none_theirs supply = All-nil (IsOthers d.pass_state.tag)

  -- no reply is owed
  none_owed : owed_command d ≡ None → s.owed ≡ None
  none_owed unowed = here.owed ∙ unowed

  at_words : owed_command d ≡ None → s.debugger ≡ after_words r opening d.pass_state.seen
  at_words unowed = subst (λ o. IsAt r d.pass_state.seen o s.debugger) (none_owed unowed) here.at

  -- the debugger after more words
  behind_more : (words : List ℕ) → owed_command d ≡ None → after_words r s.debugger words ≡ after_words r opening (d.pass_state.seen ++ words)
  behind_more words unowed =
      ap (λ (x : Debugger). after_words r x words) (at_words unowed) ∙ sym (after_words-append r opening d.pass_state.seen words)

  -- the front has seen words of other fronts
  learnt : (d' : FrontState) → (l : Learns d d') → IsInState r (behind_others r l.sees_others.0 s) d'
  learnt d' l =
      let words = l.sees_others.0 in
      let seen = l.sees_others.1 in
      record {
        recording = l.same.recording ∙ here.recording;
        placed = ap (λ n. n + length words) here.placed ∙ sym (length-append d.pass_state.seen words) ∙ ap length (sym seen);
        owed = none_owed l.unowed ∙ sym l.unowed_still;
        at = subst (λ o. IsAt r d'.pass_state.seen o (after_words r s.debugger words)) (sym (none_owed l.unowed))
            (behind_more words l.unowed ∙ ap (after_words r opening) (sym seen));
      }

  -- the words before the word that was placed
  before_placed : (command : Command) (d' : FrontState) (before : List ℕ) (word : ℕ) → (p : PlacesCommand command d d') → d'.pass_state.seen ≡ before ++ word ∷ [] → before ≡ d.pass_state.seen ++ p.between
  before_placed command d' before word p last =
      (same_from_push before (d.pass_state.seen ++ p.between) word (word_of d.pass_state.tag command) (sym last ∙ p.placed)).0

  -- the debugger with which the command runs
  placed_behind : (command : Command) (d' : FrontState) (debugger : Debugger) → (p : PlacesCommand command d d') → IsBehind r d'.pass_state.seen command debugger → after_words r s.debugger p.between ≡ debugger
  placed_behind command d' debugger p behind =
      behind_more p.between p.unowed ∙ ap (after_words r opening) (sym (before_placed command d' behind.before behind.word p behind.last)) ∙ sym behind.behind

  -- the number of words, including the placed one
  placed_count : (command : Command) (d' : FrontState) → (p : PlacesCommand command d d') → s.placed + length p.between + 1 ≡ length d'.pass_state.seen
  placed_count command d' p =
      let both = length-append d.pass_state.seen p.between in
      let all = length-append (d.pass_state.seen ++ p.between) (word_of d.pass_state.tag command ∷ []) in
      ap (λ n. n + length p.between + 1) here.placed ∙ ap (λ n. n + 1) (sym both) ∙ sym all ∙ ap length (sym p.placed)

  -- a command was placed and run
  command_run : (command : Command) (d' : FrontState) (reply : Reply) → (p : PlacesCommand command d d') → RepliesLast d' command reply → d'.pending ≡ Nothing
      → MayGive r None (Ok (Run command)) s d (Some reply) d'
  command_run command d' reply p replies ran =
      let is : d'.recording ≡ r = p.same.recording ∙ here.recording in
      let behind : IsBehind r d'.pass_state.seen command replies.debugger = subst (λ x. IsBehind x d'.pass_state.seen command replies.debugger) is replies.behind in
      let same = placed_behind command d' replies.debugger p behind in
      let given : reply ≡ (run r command replies.debugger).0 = replies.answer ∙ ap (λ x. (run x command replies.debugger).0) is in record {
        met = record { others = p.between; supply = enough };
        reply_is = ap (λ x. Some (run r command x).0) same ∙ ap Some (sym given);
        there = record {
          recording = is;
          placed = placed_count command d' p;
          owed = sym (ap own_pending ran);
          at = run_last r d'.pass_state.seen command replies.debugger _ behind (ap (λ x. (run r command x).1) same);
        };
        company = p.passes;
        no_others = p.none_between;
        tag = p.tag;
        seen = p.placed ∙ append_assoc d.pass_state.seen p.between (word_of d.pass_state.tag command ∷ []);
        theirs = p.others;
        table = p.same.table;
        may = tt;
      }

  -- a command was placed, and its reply is owed
  command_owed : (command : Command) (d' : FrontState) (place : ℕ) → IsLeftOwed command d d' place → MayGive r None (Ok (Run command)) s d (Some (reply_given (Err (Placed place)))) d'
  command_owed command d' place left =
      let p = left.places in
      let is : d'.recording ≡ r = p.same.recording ∙ here.recording in
      let due = due_command d'.pending command left.wanted.command left.now_owed left.wanted.pending in
      let behind : IsBehind r d'.pass_state.seen command left.wanted.debugger =
      subst (λ x. IsBehind x d'.pass_state.seen command left.wanted.debugger) is (subst (λ c. IsBehind d'.recording d'.pass_state.seen c left.wanted.debugger) due left.wanted.behind) in
      let same = placed_behind command d' left.wanted.debugger p behind in record {
        met = record { others = p.between; supply = no_memory_to_search };
        reply_is = ap (λ n. Some (Fault (faults.Placed n))) (placed_count command d' p ∙ sym left.at);
        there = record {
          recording = is;
          placed = placed_count command d' p;
          owed = sym left.now_owed;
          at = subst (λ x. IsBehind r d'.pass_state.seen command x) (sym same) behind;
        };
        company = p.passes;
        no_others = p.none_between;
        tag = p.tag;
        seen = p.placed ∙ append_assoc d.pass_state.seen p.between (word_of d.pass_state.tag command ∷ []);
        theirs = p.others;
        table = p.same.table;
        may = subst (Searches r command) (sym same) (subst (λ (x : Command). Searches r x left.wanted.debugger) due (subst (λ (x : Recording). Searches x left.wanted.command left.wanted.debugger) is left.wanted.searches));
      }

  -- the front saw words of other fronts, and then memory ran out or the journal was full
  refused : (asked : Result Line LineFault) (reply : Option Reply) (supply : Supply) (d' : FrontState) → (l : Learns d d') → own_word d.pass_state.tag None asked supply ≡ []
      → MayMeet r (size_of d) None asked (record { others = l.sees_others.0; supply = supply }) s
      → answer_among r None asked (record { others = l.sees_others.0; supply = supply }) s ≡ (reply, behind_others r l.sees_others.0 s) → MayGive r s.owed asked s d reply d'
  refused asked reply supply d' l none may is =
      subst (λ o. MayGive r o asked s d reply d') (sym (none_owed l.unowed)) (record {
        met = record { others = l.sees_others.0; supply = supply };
        reply_is = ap (λ (a : Answered). a.0) is;
        there = subst (λ (a : Answered). IsInState r a.1 d') (sym is) (learnt d' l);
        company = l.sees_others.5;
        no_others = l.sees_others.6;
        tag = l.sees_others.3;
        seen = seen_others l.sees_others.0 _ d' l.sees_others.1 none;
        theirs = l.sees_others.2;
        table = l.same.table;
        may = may;
      })

  -- a reply was owed, and nothing was done
  stays_owed : (asked : Result Line LineFault) (supply : Supply) (d' : FrontState) (place : ℕ) → (stays : StaysOwed d d' place)
      → MayMeet r (size_of d) (Some stays.command) asked (record { others = []; supply = supply }) s
      → answer_among r (Some stays.command) asked (record { others = []; supply = supply }) s ≡ owing s → MayGive r s.owed asked s d (Some (Fault (faults.Placed place))) d'
  stays_owed asked supply d' place stays may is =
      subst (λ o. MayGive r o asked s d (Some (Fault (faults.Placed place))) d') (sym (here.owed ∙ stays.still_owed)) (record {
        met = record { others = []; supply = supply };
        reply_is = ap (λ (a : Answered). a.0) is ∙ ap (λ n. Some (Fault (faults.Placed n))) (here.placed ∙ sym stays.at);
        there = subst (λ (a : Answered). IsInState r a.1 d') (sym is) (subst (IsInState r s) (sym stays.unchanged) here);
        company = ap (λ (x : FrontState). x.pass_state.passes) stays.unchanged;
        no_others = λ _. refl;
        tag = ap (λ (x : FrontState). x.pass_state.tag) stays.unchanged;
        seen = seen_none _ d' (ap (λ (x : FrontState). x.pass_state) stays.unchanged) refl;
        theirs = none_theirs supply;
        table = ap (λ (x : FrontState). x.table) stays.unchanged;
        may = may;
      })

  -- a command
  executed : (command : Command) (d' : FrontState) (given : Result Reply FrontFault) → Executes command d d' given → MayGive r s.owed (Ok (Run command)) s d (Some (reply_given given)) d'
  executed command d' (Ok reply) h =
      subst (λ o. MayGive r o (Ok (Run command)) s d (Some reply) d') (sym (none_owed h.places.unowed)) (command_run command d' reply h.places h.replies h.run)
  executed command d' (Err (Memory _)) h = refused (Ok (Run command)) (Some (Fault (faults.Memory refused_memory))) no_memory d' h.learns refl (λ only. h.company (h.learns.sees_others.5 ∙ only)) refl
  executed command d' (Err (Placed place)) (inl left) =
      subst (λ o. MayGive r o (Ok (Run command)) s d (Some (Fault (faults.Placed place))) d') (sym (none_owed left.places.unowed)) (command_owed command d' place left)
  executed command d' (Err (Placed place)) (inr stays) = stays_owed (Ok (Run command)) enough d' place stays refl refl
  executed command d' (Err Full) h = refused (Ok (Run command)) (Some (Fault faults.JournalFull)) no_room d' h.learns refl ((learnt d' h.learns).placed ∙ h.full) refl

  -- the state of the walker doesn't matter
  walked : (s' : SessionState) (walker_state : WalkerState) (mid d' : FrontState) → d' ≡ with_walker_state walker_state mid → IsInState r s' mid → IsInState r s' d'
  walked s' walker_state mid d' is there =
      subst (IsInState r s') (sym is) (record { recording = there.recording; placed = there.placed; owed = there.owed; at = there.at })

  -- a query was answered
  look_given : (query : Query) (d' : FrontState) (reply : Reply) → RepliesToLook query d d' reply → MayGive r None (Ok (Look query)) s d (Some reply) d'
  look_given query d' reply h =
      let l = h.catches_all.learns in
      let seen = h.caught_up.pass_state.seen in
      let is : h.caught_up.recording ≡ r = l.same.recording ∙ here.recording in
      let same : after_words r s.debugger l.sees_others.0 ≡ after_words r opening seen = behind_more l.sees_others.0 l.unowed ∙ ap (after_words r opening) (sym l.sees_others.1) in
      let given : reply ≡ query_reply r (after_words r opening seen) query = h.answer ∙ ap (λ x. query_reply x (after_words x opening seen) query) is in record {
        met = record { others = l.sees_others.0; supply = enough };
        reply_is = ap (λ x. Some (query_reply r x query)) same ∙ ap Some (sym given);
        there = walked (behind_others r l.sees_others.0 s) _ h.caught_up d' h.led (learnt h.caught_up l);
        company = ap (λ (x : FrontState). x.pass_state.passes) h.led ∙ l.sees_others.5;
        no_others = l.sees_others.6;
        tag = ap (λ (x : FrontState). x.pass_state.tag) h.led ∙ l.sees_others.3;
        seen = seen_others l.sees_others.0 _ d' (ap (λ (x : FrontState). x.pass_state.seen) h.led ∙ l.sees_others.1) refl;
        theirs = l.sees_others.2;
        table = ap (λ (x : FrontState). x.table) h.led ∙ l.same.table;
        may = tt;
      }

  -- a query
  looked_at : (query : Query) (d' : FrontState) (given : Result Reply FrontFault) → Looks query d d' given → MayGive r s.owed (Ok (Look query)) s d (Some (reply_given given)) d'
  looked_at query d' (Ok reply) h =
      subst (λ o. MayGive r o (Ok (Look query)) s d (Some reply) d') (sym (none_owed h.catches_all.learns.unowed)) (look_given query d' reply h)
  looked_at query d' (Err (Memory _)) (inl h) = refused (Ok (Look query)) (Some (Fault (faults.Memory refused_memory))) no_memory d' h.learns refl tt refl
  looked_at query d' (Err (Memory _)) (inr h) =
      let l = h.catches_all.learns in
      subst (λ o. MayGive r o (Ok (Look query)) s d (Some (Fault (faults.Memory refused_memory))) d') (sym (none_owed l.unowed)) (record {
        met = record { others = l.sees_others.0; supply = no_memory };
        reply_is = refl;
        there = walked (behind_others r l.sees_others.0 s) _ h.caught_up d' h.moved (learnt h.caught_up l);
        company = ap (λ (x : FrontState). x.pass_state.passes) h.moved ∙ l.sees_others.5;
        no_others = l.sees_others.6;
        tag = ap (λ (x : FrontState). x.pass_state.tag) h.moved ∙ l.sees_others.3;
        seen = seen_others l.sees_others.0 _ d' (ap (λ (x : FrontState). x.pass_state.seen) h.moved ∙ l.sees_others.1) refl;
        theirs = l.sees_others.2;
        table = ap (λ (x : FrontState). x.table) h.moved ∙ l.same.table;
        may = tt;
      })
  looked_at query d' (Err (Placed place)) stays = stays_owed (Ok (Look query)) enough d' place stays refl refl
  looked_at query d' (Err Full) h = absurd h

  -- `resume` returned the owed reply
  owed_run : (command : Command) (d' : FrontState) (reply : Reply) → s.owed ≡ Some command → RepliesLast d command reply → d' ≡ without_pending d → MayGive r (Some command) (Ok Resume) s d (Some reply) d'
  owed_run command d' reply owed replies now =
      let mine : IsBehind r d.pass_state.seen command s.debugger = subst (λ o. IsAt r d.pass_state.seen o s.debugger) owed here.at in
      let theirs : IsBehind r d.pass_state.seen command replies.debugger = subst (λ x. IsBehind x d.pass_state.seen command replies.debugger) here.recording replies.behind in
      let same = one_behind r d.pass_state.seen command s.debugger replies.debugger mine theirs in
      let given : reply ≡ (run r command replies.debugger).0 = replies.answer ∙ ap (λ x. (run x command replies.debugger).0) here.recording in record {
        met = calm;
        reply_is = ap (λ x. Some (run r command x).0) same ∙ ap Some (sym given);
        there = subst (IsInState r (record { debugger = (run r command s.debugger).1; placed = s.placed; owed = None })) (sym now) (record {
          recording = here.recording;
          placed = here.placed;
          owed = refl;
          at = run_last r d.pass_state.seen command s.debugger _ mine refl;
        });
        company = ap (λ (x : FrontState). x.pass_state.passes) now;
        no_others = λ _. refl;
        tag = ap (λ (x : FrontState). x.pass_state.tag) now;
        seen = seen_none _ d' (ap (λ (x : FrontState). x.pass_state) now) refl;
        theirs = none_theirs enough;
        table = ap (λ (x : FrontState). x.table) now;
        may = (refl, tt);
      }

  -- if the reply to a command is still owed, running the command involves a search (`Searches`)
  searches_still : (d' : FrontState) (place : ℕ) → (h : IsStillOwed d d' place) → Searches r h.stays.command s.debugger
  searches_still d' place h =
      let command = h.stays.command in
      let owed = here.owed ∙ h.stays.still_owed in
      let due = due_command d.pending command h.wanted.command h.stays.still_owed h.wanted.pending in
      let mine : IsBehind r d.pass_state.seen command s.debugger = subst (λ o. IsAt r d.pass_state.seen o s.debugger) owed here.at in
      let theirs : IsBehind r d.pass_state.seen command h.wanted.debugger =
      subst (λ x. IsBehind x d.pass_state.seen command h.wanted.debugger) here.recording (subst (λ c. IsBehind d.recording d.pass_state.seen c h.wanted.debugger) due h.wanted.behind) in
      subst (Searches r command) (one_behind r d.pass_state.seen command h.wanted.debugger s.debugger theirs mine)
      (subst (λ (x : Command). Searches r x h.wanted.debugger) due (subst (λ (x : Recording). Searches x h.wanted.command h.wanted.debugger) here.recording h.wanted.searches))

  -- `resume`
  resumes : (d' : FrontState) (given : Result (Option Reply) FrontFault) → Resumes d d' given → MayGive r s.owed (Ok Resume) s d (Some (resumed given)) d'
  resumes d' (Ok None) h =
      subst (λ o. MayGive r o (Ok Resume) s d (Some NothingOwed) d') (sym (none_owed h.unowed)) (record {
        met = calm;
        reply_is = refl;
        there = subst (IsInState r s) (sym h.unchanged) here;
        company = ap (λ (x : FrontState). x.pass_state.passes) h.unchanged;
        no_others = λ _. refl;
        tag = ap (λ (x : FrontState). x.pass_state.tag) h.unchanged;
        seen = seen_none _ d' (ap (λ (x : FrontState). x.pass_state) h.unchanged) refl;
        theirs = none_theirs enough;
        table = ap (λ (x : FrontState). x.table) h.unchanged;
        may = refl;
      })
  resumes d' (Ok (Some reply)) h =
      let owed = here.owed ∙ h.was_owed in
      subst (λ o. MayGive r o (Ok Resume) s d (Some reply) d') (sym owed) (owed_run h.command d' reply owed h.replies h.now)
  resumes d' (Err (Memory _)) h = absurd h
  resumes d' (Err (Placed place)) h = stays_owed (Ok Resume) no_memory d' place h.stays (refl, searches_still d' place h) refl
  resumes d' (Err Full) h = absurd h

  -- a line whose answer doesn't depend on whether a reply is owed
  quiet : (asked : Result Line LineFault) (reply given : Option Reply) (d' : FrontState) → ((o : Option Command) → answer_among r o asked calm s ≡ (reply, s))
      → ((o : Option Command) → own_word d.pass_state.tag o asked enough ≡ []) → ((o : Option Command) → MayMeet r (size_of d) o asked calm s) → given ≡ reply → d' ≡ d → MayGive r s.owed asked s d given d'
  quiet asked reply given d' each none may is same =
      let e = each s.owed in record {
        met = calm;
        reply_is = ap (λ (a : Answered). a.0) e ∙ sym is;
        there = subst (IsInState r (answer_among r s.owed asked calm s).1) (sym same) (subst (λ x. IsInState r x d) (sym (ap (λ (a : Answered). a.1) e)) here);
        company = ap (λ (x : FrontState). x.pass_state.passes) same;
        no_others = λ _. refl;
        tag = ap (λ (x : FrontState). x.pass_state.tag) same;
        seen = seen_none _ d' (ap (λ (x : FrontState). x.pass_state) same) (none s.owed);
        theirs = none_theirs enough;
        table = ap (λ (x : FrontState). x.table) same;
        may = may s.owed;
      }

  -- any line
  pub line_given : (asked : Result Line LineFault) (reply : Option Reply) (d' : FrontState) → MayReply asked d reply d' → MayGive r s.owed asked s d reply d'
  line_given (Ok (Run command)) reply d' h = subst (λ x. MayGive r s.owed (Ok (Run command)) s d x d') (sym h.2) (executed command d' h.0 h.1)
  line_given (Ok (Look query)) reply d' h = subst (λ x. MayGive r s.owed (Ok (Look query)) s d x d') (sym h.2) (looked_at query d' h.0 h.1)
  line_given (Ok Resume) reply d' h = subst (λ x. MayGive r s.owed (Ok Resume) s d x d') (sym h.2) (resumes d' h.0 h.1)
  line_given (Ok Quit) reply d' h = quiet (Ok Quit) (Some Bye) reply d' (λ o. elim o as (λ k. answer_among r k (Ok Quit) calm s ≡ (Some Bye, s)) [ None ↦ refl | Some c ↦ refl ])
      (λ o. elim o as (λ k. own_word d.pass_state.tag k (Ok Quit) enough ≡ []) [ None ↦ refl | Some c ↦ refl ])
      (λ o. elim o as (λ k. MayMeet r (size_of d) k (Ok Quit) calm s) [ None ↦ refl | Some c ↦ refl ]) h.0 h.1
  line_given (Ok Empty) reply d' h = quiet (Ok Empty) None reply d' (λ o. elim o as (λ k. answer_among r k (Ok Empty) calm s ≡ (None, s)) [ None ↦ refl | Some c ↦ refl ])
      (λ o. elim o as (λ k. own_word d.pass_state.tag k (Ok Empty) enough ≡ []) [ None ↦ refl | Some c ↦ refl ])
      (λ o. elim o as (λ k. MayMeet r (size_of d) k (Ok Empty) calm s) [ None ↦ refl | Some c ↦ refl ]) h.0 h.1
  line_given (Err fault) reply d' h = quiet (Err fault) (Some (Fault (faults.Line fault))) reply d' (λ o. elim o as (λ k. answer_among r k (Err fault) calm s ≡ (Some (Fault (faults.Line fault)), s)) [ None ↦ refl | Some c ↦ refl ])
      (λ o. elim o as (λ k. own_word d.pass_state.tag k (Err fault) enough ≡ []) [ None ↦ refl | Some c ↦ refl ])
      (λ o. elim o as (λ k. MayMeet r (size_of d) k (Err fault) calm s) [ None ↦ refl | Some c ↦ refl ]) h.0 h.1
