-- The written replies are the transcript, line by line.
use Rattle.std.proofs.Common.{Option, None, Some, ◌≡◌, ◌⊎◌, inl, inr, ℕ, Bool, true, false, cond, not, ◌||◌, List, [], ◌∷◌, ◌++◌, take, drop, length, Result, Ok, Err, refl, sym, ap, ◌∙◌, subst, append-nil, append_assoc, take-append-drop}
use Rattle.nr_text.specs.Moments.{Moment}
use Rattle.nr_text.specs.Streams.{Incoming, IsOver, Outgoing, Passes, Receives, Sends}
use Rattle.std.specs.List.{All, concat}
use Rattle.nr_text.proofs.StreamLemmas.{receives_none}
use Rattle.std.proofs.lemmas.List.Elements.{All-cons, All-head, All-nil, All-push, All-tail, All-weaker}
use Rattle.std.proofs.lemmas.List.Folds.{concat-append}
use Rattle.nr_rev.specs.Run.{Recording}
use Rattle.nr_journal.specs.Rule.{StartsWith, journal_room}
use Rattle.nr_command.specs.declared.command.Command.{Command}
use Rattle.nr_command.specs.declared.command.Line.{Line}
use Rattle.nr_command.specs.declared.command.Line.TheVariants.{Run, Look, Resume, Empty}
use Rattle.nr_command.specs.declared.command.Line.TheVariants as lines
use Rattle.nr_command.specs.declared.command.LineFault.{LineFault}
use Rattle.nr_command.specs.Command.{meaning_of}
use Rattle.nr_front.specs.FrontState.{FrontState}
use Rattle.nr_lines.specs.Engine.{has_quit, lines_of}
use Rattle.nr_lines.specs.Auxiliary.Engine.{Answered, AnswersLines, ArePrompt, IsPrompt, Quitted, Turns, WrittenInPart, is_read_failure, is_write_failure, whole_lines}
use Rattle.nr_lines.specs.Turn.{is_quit, text_or_none}
use Rattle.nr_lines.specs.Auxiliary.Turn.{Turn}
use Rattle.nr_lines.specs.declared.ending.End.{End}
use Rattle.nr_lines.specs.declared.ending.End.TheVariants.{Closed, Quit}
use Rattle.nr_lines.specs.declared.ending.LineEnd.{LineEnd}
use Rattle.nr_lines.specs.declared.ending.LineEnd.TheVariants.{Read, Write}
use Rattle.nr_lines.proofs.EngineLemmas.{prompt_more}
use Rattle.nr_lines.proofs.LineLemmas.{lines_at_end}
use Rattle.nr_recording.specs.declared.fault.ReadFault.TheVariants as read
use Rattle.nr_snaps.specs.declared.fault.LoadFault.TheVariants as load
use Rattle.nr_programs.specs.Opening.{IsFirstFault, IsGoodText, fault_line, opened}
use Rattle.nr_programs.specs.Run.{PrintsFault}
use Rattle.nr_programs.specs.Auxiliary.Run.{Walks, status_after}
use Rattle.nr_programs.specs.Shared.{EndsWithin, MeetsOthers, StartsList, words_seen, words_with}
use Rattle.nr_programs.specs.Among.{AllMayMeet, MayMeet, Met, answer_among, calm, next_met, replies_among, texts_among}
use Rattle.nr_programs.specs.Transcript.{AllMayHave, JournalSize, RunsTranscript, UnlessQuit, SessionState, Supply, Transcribes, WasPrompt, enough, journal_of_one, line_answer, replies, replies_over, start, status_of, texts, transcript_by}
use Rattle.nr_programs.specs.declared.opening.OpenFault.{OpenFault}
use Rattle.nr_programs.specs.declared.opening.OpenFault.TheVariants.{Load}
use Rattle.nr_programs.specs.declared.opening.OpenFault.TheVariants as openings
use Rattle.nr_programs.specs.declared.run.ExitStatus.{ExitStatus}
use Rattle.nr_programs.specs.declared.run.ExitStatus.TheVariants.{Done, Refused, StreamFailed}
use Rattle.nr_programs.proofs.AloneLemmas.{MeetsNoOther, all_may_alone, replies_alone, supplies_of}
use Rattle.nr_programs.proofs.FaultLemmas.{IsOwn, opened_faulty, opened_good}
use Rattle.nr_programs.proofs.TranscriptLemmas.{IsInState, line_given, same_size, size_of}

-- the whole text was written
pub all_of : (whole out : List ℕ) → out ≡ whole → StartsWith whole out
all_of whole out is = ([], sym is ∙ sym (append-nil out))

-- one line was answered with this text, and the front is in this state afterwards
record Goes (r : Recording) (s : SessionState) (d : FrontState) (line text : List ℕ) (d' : FrontState) : Type 0 where
  pub met : Met
  pub after : SessionState
  pub there : IsInState r after d'
  pub company : d'.pass_state.passes ≡ d.pass_state.passes
  pub no_others : d.pass_state.passes ≡ 1 → met.others ≡ []
  pub text_is : (lines : List (List ℕ)) (more : List Met) → texts_among r s (line ∷ lines) (met ∷ more) ≡ text ∷ cond (is_quit (meaning_of line)) [] (texts_among r after lines more)
  pub tag : d'.pass_state.tag ≡ d.pass_state.tag
  pub seen : d'.pass_state.seen ≡ d.pass_state.seen ++ words_with d.pass_state.tag s.owed (meaning_of line) met
  pub words_are : (tag : ℕ) (lines : List (List ℕ)) (more : List Met)
      → words_seen tag r s (line ∷ lines) (met ∷ more) ≡ words_with tag s.owed (meaning_of line) met ++ cond (is_quit (meaning_of line)) [] (words_seen tag r after lines more)
  pub theirs : MeetsOthers d.pass_state.tag met
  pub table : d'.table ≡ d.table
  pub may : MayMeet r (size_of d) s.owed (meaning_of line) met s
  pub may_be : (journal : JournalSize) (lines : List (List ℕ)) (more : List Met) → MayMeet r journal s.owed (meaning_of line) met s → UnlessQuit (is_quit (meaning_of line)) (AllMayMeet r journal after lines more)
      → AllMayMeet r journal s (line ∷ lines) (met ∷ more)

goes : (r : Recording) (s : SessionState) (d : FrontState) (line text : List ℕ) (d' : FrontState) → IsInState r s d → Turn d line text d' → Goes r s d line text d'
goes r s d line text d' here turn =
    let given = line_given r s d here (meaning_of line) turn.0 d' turn.1 in
    let a = answer_among r s.owed (meaning_of line) given.met s in
    record {
      met = given.met;
      after = a.1;
      there = given.there;
      company = given.company;
      no_others = given.no_others;
      text_is = λ lines more. ap (λ (t : List ℕ). t ∷ cond (is_quit (meaning_of line)) [] (texts_among r a.1 lines more)) (ap text_or_none given.reply_is ∙ sym turn.2);
      tag = given.tag;
      seen = given.seen;
      words_are = λ tag lines more. refl;
      theirs = given.theirs;
      table = given.table;
      may = given.may;
      may_be = λ journal lines more one later. (one, later);
    }

neither : (a b : Bool) → (a || b) ≡ false → (a ≡ false) × (b ≡ false)
neither true b e = cc
neither false b e = (refl, e)

-- these lines were answered, and none of them is `quit`
record GoOn (r : Recording) (s : SessionState) (d : FrontState) (lines given : List (List ℕ)) (d' : FrontState) : Type 0 where
  pub met : List Met
  pub after : SessionState
  pub there : IsInState r after d'
  pub company : d'.pass_state.passes ≡ d.pass_state.passes
  pub no_others : d.pass_state.passes ≡ 1 → All MeetsNoOther met
  pub texts_are : (later : List (List ℕ)) (more : List Met) → texts_among r s (lines ++ later) (met ++ more) ≡ given ++ texts_among r after later more
  pub tag : d'.pass_state.tag ≡ d.pass_state.tag
  pub words : List ℕ
  pub seen : d'.pass_state.seen ≡ d.pass_state.seen ++ words
  pub words_are : (later : List (List ℕ)) (more : List Met)
      → words_seen d.pass_state.tag r s (lines ++ later) (met ++ more) ≡ words ++ words_seen d.pass_state.tag r after later more
  pub theirs : All (MeetsOthers d.pass_state.tag) met
  pub table : d'.table ≡ d.table
  pub may_be : (later : List (List ℕ)) (more : List Met) → AllMayMeet r (size_of d) after later more → AllMayMeet r (size_of d) s (lines ++ later) (met ++ more)

unless_not : (quits : Bool) {later : Type 0} → quits ≡ false → later → UnlessQuit quits later
unless_not true is later = cc
unless_not false is later = later

unless_quit : (quits : Bool) (later : Type 0) → quits ≡ true → UnlessQuit quits later
unless_quit true later is = tt
unless_quit false later is = cc

go_on : (r : Recording) (s : SessionState) (d : FrontState) (lines given : List (List ℕ)) (d' : FrontState) → IsInState r s d → has_quit lines ≡ false → Turns d lines given d' → GoOn r s d lines given d'
go_on r s d [] [] d' here none is = record {
  met = [];
  after = s;
  there = subst (IsInState r s) (sym is) here;
  company = ap (λ (x : FrontState). x.pass_state.passes) is;
  no_others = λ _. All-nil MeetsNoOther;
  texts_are = λ later more. refl;
  tag = ap (λ (x : FrontState). x.pass_state.tag) is;
  words = [];
  seen = ap (λ (x : FrontState). x.pass_state.seen) is ∙ sym (append-nil d.pass_state.seen);
  words_are = λ later more. refl;
  theirs = All-nil (MeetsOthers d.pass_state.tag);
  table = ap (λ (x : FrontState). x.table) is;
  may_be = λ later more may. may;
}
go_on r s d [] (text ∷ given) d' here none h = absurd h
go_on r s d (line ∷ lines) [] d' here none h = absurd h
go_on r s d (line ∷ lines) (text ∷ given) d' here none h =
    let no = neither (is_quit (meaning_of line)) (has_quit lines) none in
    let one = goes r s d line text h.0 here h.1 in
    let rest = go_on r one.after h.0 lines given d' one.there no.1 h.2 in
    let here_words = words_with d.pass_state.tag s.owed (meaning_of line) one.met in
    record {
      met = one.met ∷ rest.met;
      after = rest.after;
      there = rest.there;
      company = rest.company ∙ one.company;
      no_others = λ alone. All-cons MeetsNoOther one.met rest.met (one.no_others alone) (rest.no_others (one.company ∙ alone));
      texts_are = λ later more. one.text_is (lines ++ later) (rest.met ++ more) ∙ ap (λ q. text ∷ cond q [] (texts_among r one.after (lines ++ later) (rest.met ++ more))) no.0
          ∙ ap (λ (l : List (List ℕ)). text ∷ l) (rest.texts_are later more);
      tag = rest.tag ∙ one.tag;
      words = here_words ++ rest.words;
      seen = rest.seen ∙ ap (λ (l : List ℕ). l ++ rest.words) one.seen ∙ append_assoc d.pass_state.seen here_words rest.words;
      words_are = λ later more. one.words_are d.pass_state.tag (lines ++ later) (rest.met ++ more)
          ∙ ap (λ q. here_words ++ cond q [] (words_seen d.pass_state.tag r one.after (lines ++ later) (rest.met ++ more))) no.0
          ∙ ap (λ (l : List ℕ). here_words ++ l) (subst (λ (t : ℕ). words_seen t r one.after (lines ++ later) (rest.met ++ more) ≡ rest.words ++ words_seen t r rest.after later more) one.tag (rest.words_are later more))
          ∙ sym (append_assoc here_words rest.words (words_seen d.pass_state.tag r rest.after later more));
      theirs = All-cons (MeetsOthers d.pass_state.tag) one.met rest.met one.theirs (subst (λ (t : ℕ). All (MeetsOthers t) rest.met) one.tag rest.theirs);
      table = rest.table ∙ one.table;
      may_be = λ later more may.
          let size : size_of h.0 ≡ size_of d = same_size d h.0 one.table one.company in
          one.may_be (size_of d) (lines ++ later) (rest.met ++ more) one.may
          (unless_not (is_quit (meaning_of line)) no.0
          (subst (λ (k : JournalSize). AllMayMeet r k one.after (lines ++ later) (rest.met ++ more)) size
          (rest.may_be later more (subst (λ (k : JournalSize). AllMayMeet r k rest.after later more) (sym size) may))));
    }

-- some lines and the next line were answered
record EndsBy (d : FrontState) (lines : List (List ℕ)) (line : List ℕ) (given : List (List ℕ)) (d' : FrontState) : Type 0 where
  pub front : List (List ℕ)
  pub text : List ℕ
  pub mid : FrontState
  pub given_is : given ≡ front ++ text ∷ []
  pub turns : Turns d lines front mid
  pub turn : Turn mid line text d'

ends_by : (d : FrontState) (lines : List (List ℕ)) (line : List ℕ) (given : List (List ℕ)) (d' : FrontState) → Turns d (lines ++ line ∷ []) given d' → EndsBy d lines line given d'
ends_by d [] line [] d' h = absurd h
ends_by d [] line (text ∷ []) d' h = record { front = []; text = text; mid = d; given_is = refl; turns = refl; turn = subst (λ m. Turn d line text m) (sym h.2) h.1 }
ends_by d [] line (text ∷ t ∷ ts) d' h = absurd h.2
ends_by d (l ∷ lines) line [] d' h = absurd h
ends_by d (l ∷ lines) line (text ∷ given) d' h =
    let x = ends_by h.0 lines line given d' h.2 in
    record { front = text ∷ x.front; text = x.text; mid = x.mid; given_is = ap (λ (l : List (List ℕ)). text ∷ l) x.given_is; turns = (h.0, h.1, x.turns); turn = x.turn }

-- the lines found in a text before its end is known are its first lines once the end is known, too
more_lines : (ended : Bool) (text : List ℕ) → (more : List (List ℕ)) × (lines_of true text ≡ lines_of ended text ++ more)
more_lines true text = ([], sym (append-nil (lines_of true text)))
more_lines false text = (_, lines_at_end text)

lines_behind : (ended : Bool) (text : List ℕ) (front : List (List ℕ)) (line : List ℕ) (back : List (List ℕ)) → lines_of ended text ≡ front ++ line ∷ back
    → (later : List (List ℕ)) × (lines_of true text ≡ front ++ line ∷ later)
lines_behind ended text front line back split =
    let more = more_lines ended text in
    (back ++ more.0, more.1 ∙ ap (λ (l : List (List ℕ)). l ++ more.0) split ∙ append_assoc front (line ∷ back) more.0)

-- the front answered lines with the text that was written, and at each read the replies to all
-- whole lines received so far had been sent
pub record Replied (r : Recording) (s : SessionState) (d d' : FrontState) (from : Incoming) (old : Outgoing) (moments : List Moment) (lines : List (List ℕ)) (out : List ℕ) (says : List (List ℕ) → List Met → Type 0) : Type 0 where
  pub met : List Met
  pub ran : List (List ℕ)
  pub prompt : ArePrompt from old moments ran (texts_among r s ran met)
  pub first : StartsList lines ran
  pub nothing_else : StartsWith (concat (texts_among r s ran met)) out
  pub seen : d'.pass_state.seen ≡ d.pass_state.seen ++ words_seen d.pass_state.tag r s ran met
  pub tag : d'.pass_state.tag ≡ d.pass_state.tag
  pub theirs : All (MeetsOthers d.pass_state.tag) met
  pub may : AllMayMeet r (size_of d) s lines met
  pub table : d'.table ≡ d.table
  pub company : d'.pass_state.passes ≡ d.pass_state.passes
  pub no_others : d.pass_state.passes ≡ 1 → All MeetsNoOther met
  pub after : SessionState
  pub there : IsInState r after d'
  pub says_it : says ran met

-- the words that a front sees while it runs the first lines and the next line
seen_with : (r : Recording) (s : SessionState) (d : FrontState) (front : List (List ℕ)) (line : List ℕ) (given : List (List ℕ)) (text : List ℕ) (mid d' : FrontState) (on : GoOn r s d front given mid)
    → (last : Goes r on.after mid line text d') → d'.pass_state.seen ≡ d.pass_state.seen ++ words_seen d.pass_state.tag r s (front ++ line ∷ []) (on.met ++ last.met ∷ [])
seen_with r s d front line given text mid d' on last =
    let own = words_with mid.pass_state.tag on.after.owed (meaning_of line) last.met in
    let alone : words_seen mid.pass_state.tag r on.after (line ∷ []) (last.met ∷ []) ≡ own =
    last.words_are mid.pass_state.tag [] [] ∙ ap (λ (l : List ℕ). own ++ l) (none_behind (is_quit (meaning_of line))) ∙ append-nil own in
    let same : words_seen d.pass_state.tag r on.after (line ∷ []) (last.met ∷ []) ≡ own = subst (λ (t : ℕ). words_seen t r on.after (line ∷ []) (last.met ∷ []) ≡ own) on.tag alone in
    last.seen ∙ ap (λ (l : List ℕ). l ++ own) on.seen ∙ append_assoc d.pass_state.seen on.words own
    ∙ ap (λ (l : List ℕ). d.pass_state.seen ++ l) (sym (on.words_are (line ∷ []) (last.met ∷ []) ∙ ap (λ (l : List ℕ). on.words ++ l) same))
  where
    none_behind : (quits : Bool) → cond quits [] (words_seen mid.pass_state.tag r last.after [] []) ≡ []
    none_behind true = refl
    none_behind false = refl

-- the texts of some lines and of the next line
texts_with : (r : Recording) (s : SessionState) (d : FrontState) (front : List (List ℕ)) (line : List ℕ) (given : List (List ℕ)) (text : List ℕ) (mid d' : FrontState) (on : GoOn r s d front given mid)
    → (last : Goes r on.after mid line text d') → texts_among r s (front ++ line ∷ []) (on.met ++ last.met ∷ []) ≡ given ++ text ∷ []
texts_with r s d front line given text mid d' on last =
    on.texts_are (line ∷ []) (last.met ∷ []) ∙ ap (λ (l : List (List ℕ)). given ++ l) (last.text_is [] [] ∙ ap (λ (l : List (List ℕ)). text ∷ l) (none_behind (is_quit (meaning_of line))))
  where
    none_behind : (quits : Bool) → cond quits [] (texts_among r last.after [] []) ≡ []
    none_behind true = refl
    none_behind false = refl

-- these conditions can arise for any line: no words of other fronts come before the line, and
-- memory and journal room suffice
calm_one : (r : Recording) (journal : JournalSize) (s : SessionState) (owed : Option Command) (asked : Result Line LineFault) → MayMeet r journal owed asked calm s
calm_one r journal s None (Ok (Run command)) = tt
calm_one r journal s None (Ok (Look query)) = tt
calm_one r journal s None (Ok Resume) = refl
calm_one r journal s None (Ok lines.Quit) = refl
calm_one r journal s None (Ok Empty) = refl
calm_one r journal s None (Err fault) = refl
calm_one r journal s (Some owed) (Ok (Run command)) = refl
calm_one r journal s (Some owed) (Ok (Look query)) = refl
calm_one r journal s (Some owed) (Ok Resume) = (refl, tt)
calm_one r journal s (Some owed) (Ok lines.Quit) = refl
calm_one r journal s (Some owed) (Ok Empty) = refl
calm_one r journal s (Some owed) (Err fault) = refl

unless_calm : (quits : Bool) {later : Type 0} → later → UnlessQuit quits later
unless_calm true later = tt
unless_calm false later = later

calm_may : (r : Recording) (journal : JournalSize) (s : SessionState) (lines : List (List ℕ)) → AllMayMeet r journal s lines []
calm_may r journal s [] = tt
calm_may r journal s (line ∷ lines) =
    (calm_one r journal s s.owed (meaning_of line), unless_calm (is_quit (meaning_of line)) (calm_may r journal (answer_among r s.owed (meaning_of line) calm s).1 lines))

-- if the conditions of the first lines can arise, and then those of the next line can arise, the
-- conditions of all these lines can arise
may_with : (r : Recording) (s : SessionState) (d : FrontState) (front : List (List ℕ)) (line : List ℕ) (given : List (List ℕ)) (text : List ℕ) (mid d' : FrontState) (on : GoOn r s d front given mid)
    → (last : Goes r on.after mid line text d') (later all : List (List ℕ)) → all ≡ front ++ line ∷ later
    → UnlessQuit (is_quit (meaning_of line)) (AllMayMeet r (size_of mid) last.after later []) → AllMayMeet r (size_of d) s all (on.met ++ last.met ∷ [])
may_with r s d front line given text mid d' on last later all is then =
    subst (λ (l : List (List ℕ)). AllMayMeet r (size_of d) s l (on.met ++ last.met ∷ [])) (sym is)
    (on.may_be (line ∷ later) (last.met ∷ [])
    (subst (λ (k : JournalSize). AllMayMeet r k on.after (line ∷ later) (last.met ∷ [])) (same_size d mid on.table on.company) (last.may_be (size_of mid) later [] last.may then)))

module _ (r : Recording) (s : SessionState) (d d' : FrontState) (here : IsInState r s d) (from : Incoming) (old : Outgoing) (moments : List Moment) (read out : List ℕ) where
  -- all lines were answered
  pub all_answered : (ended : Bool) → Answered (ArePrompt from old moments) d (lines_of ended read) out d'
      → Replied r s d d' from old moments (lines_of ended read) out (λ ran met. out ≡ replies_among r s ended read met)
  all_answered ended h =
      let lines = lines_of ended read in
      let on = go_on r s d lines h.texts d' here h.no_quit h.turns in
      let whole : texts_among r s lines (on.met ++ []) ≡ h.texts =
      ap (λ (l : List (List ℕ)). texts_among r s l (on.met ++ [])) (sym (append-nil lines)) ∙ on.texts_are [] [] ∙ append-nil h.texts in
      record {
        met = on.met ++ [];
        ran = lines;
        prompt = subst (ArePrompt from old moments lines) (sym whole) h.prompt;
        first = ([], sym (append-nil lines));
        nothing_else = all_of (concat (texts_among r s lines (on.met ++ []))) out (h.written ∙ ap concat (sym whole));
        seen = on.seen ∙ ap (λ (l : List ℕ). d.pass_state.seen ++ l)
            (sym (ap (λ (l : List (List ℕ)). words_seen d.pass_state.tag r s l (on.met ++ [])) (sym (append-nil lines)) ∙ on.words_are [] [] ∙ append-nil on.words));
        tag = on.tag;
        table = on.table;
        theirs = subst (All (MeetsOthers d.pass_state.tag)) (sym (append-nil on.met)) on.theirs;
        may = subst (λ (l : List (List ℕ)). AllMayMeet r (size_of d) s l (on.met ++ [])) (append-nil lines) (on.may_be [] [] tt);
        company = on.company;
        no_others = λ alone. subst (All MeetsNoOther) (sym (append-nil on.met)) (on.no_others alone);
        after = on.after;
        there = on.there;
        says_it = h.written ∙ ap concat (sym whole);
      }

  -- one of the lines is `quit`
  pub up_to_quit : (ended : Bool) → Quitted (ArePrompt from old moments) d (lines_of ended read) out d'
      → Replied r s d d' from old moments (lines_of true read) out (λ ran met. out ≡ replies_among r s true read met)
  up_to_quit ended h =
      let by = ends_by d h.front h.line h.texts d' h.turns in
      let on = go_on r s d h.front by.front by.mid here h.no_quit by.turns in
      let last = goes r on.after by.mid h.line by.text d' on.there by.turn in
      let later = lines_behind ended read h.front h.line h.back h.split in
      let met = on.met ++ last.met ∷ [] in
      let whole : texts_among r s (lines_of true read) met ≡ h.texts =
      ap (λ (l : List (List ℕ)). texts_among r s l met) later.1 ∙ on.texts_are (h.line ∷ later.0) (last.met ∷ [])
      ∙ ap (λ (l : List (List ℕ)). by.front ++ l) (last.text_is later.0 [] ∙ ap (λ q. by.text ∷ cond q [] (texts_among r last.after later.0 [])) h.quit)
      ∙ sym by.given_is in
      record {
        met = met;
        ran = h.front ++ h.line ∷ [];
        prompt = subst (ArePrompt from old moments (h.front ++ h.line ∷ [])) (by.given_is ∙ sym (texts_with r s d h.front h.line by.front by.text by.mid d' on last)) h.prompt;
        first = (later.0, later.1 ∙ sym (append_assoc h.front (h.line ∷ []) later.0));
        nothing_else = all_of (concat (texts_among r s (h.front ++ h.line ∷ []) met)) out (h.written ∙ ap concat (by.given_is ∙ sym (texts_with r s d h.front h.line by.front by.text by.mid d' on last)));
        seen = seen_with r s d h.front h.line by.front by.text by.mid d' on last;
        tag = last.tag ∙ on.tag;
        table = last.table ∙ on.table;
        theirs = All-push (MeetsOthers d.pass_state.tag) on.met last.met on.theirs (subst (λ (t : ℕ). MeetsOthers t last.met) on.tag last.theirs);
        may = may_with r s d h.front h.line by.front by.text by.mid d' on last later.0 (lines_of true read) later.1 (unless_quit (is_quit (meaning_of h.line)) _ h.quit);
        company = last.company ∙ on.company;
        no_others = λ alone. All-push MeetsNoOther on.met last.met (on.no_others alone) (last.no_others (on.company ∙ alone));
        after = last.after;
        there = last.there;
        says_it = h.written ∙ ap concat (sym whole);
      }

  -- a write failed within the text of a line
  pub up_to_failure : (ended : Bool) (whole part : ℕ) → WrittenInPart (ArePrompt from old moments) d (lines_of ended read) whole part out d'
      → Replied r s d d' from old moments (lines_of true read) out (λ ran met. StartsWith (replies_among r s true read met) out × EndsWithin (texts_among r s ran met) out)
  up_to_failure ended whole part h =
      let on = go_on r s d h.front h.texts h.mid here h.no_quit h.turns in
      let last = goes r on.after h.mid h.line h.text d' on.there h.turn in
      let later = lines_behind ended read h.front h.line h.back h.split in
      let met = on.met ++ last.met ∷ [] in
      let beyond = cond (is_quit (meaning_of h.line)) [] (texts_among r last.after later.0 []) in
      let all : texts_among r s (lines_of true read) met ≡ h.texts ++ h.text ∷ beyond =
      ap (λ (l : List (List ℕ)). texts_among r s l met) later.1 ∙ on.texts_are (h.line ∷ later.0) (last.met ∷ []) ∙ ap (λ (l : List (List ℕ)). h.texts ++ l) (last.text_is later.0 []) in
      let rest = drop h.n h.text ++ concat beyond in
      let cut : h.text ++ concat beyond ≡ take h.n h.text ++ rest =
      ap (λ (t : List ℕ). t ++ concat beyond) (sym (take-append-drop h.n h.text)) ∙ append_assoc (take h.n h.text) (drop h.n h.text) (concat beyond) in
      record {
        met = met;
        ran = h.front ++ h.line ∷ [];
        prompt = subst (ArePrompt from old moments (h.front ++ h.line ∷ [])) (sym (texts_with r s d h.front h.line h.texts h.text h.mid d' on last))
            (prompt_more from old moments h.front h.texts (h.line ∷ []) (h.text ∷ []) h.prompt);
        first = (later.0, later.1 ∙ sym (append_assoc h.front (h.line ∷ []) later.0));
        nothing_else = (
          drop h.n h.text,
          ap concat (texts_with r s d h.front h.line h.texts h.text h.mid d' on last) ∙ concat-append h.texts (h.text ∷ [])
              ∙ ap (λ (t : List ℕ). concat h.texts ++ t) (append-nil h.text ∙ sym (take-append-drop h.n h.text)) ∙ sym (append_assoc (concat h.texts) (take h.n h.text) (drop h.n h.text))
              ∙ ap (λ (t : List ℕ). t ++ drop h.n h.text) (sym h.written),
        );
        seen = seen_with r s d h.front h.line h.texts h.text h.mid d' on last;
        tag = last.tag ∙ on.tag;
        table = last.table ∙ on.table;
        theirs = All-push (MeetsOthers d.pass_state.tag) on.met last.met on.theirs (subst (λ (t : ℕ). MeetsOthers t last.met) on.tag last.theirs);
        may = may_with r s d h.front h.line h.texts h.text h.mid d' on last later.0 (lines_of true read) later.1 (unless_calm (is_quit (meaning_of h.line)) (calm_may r (size_of h.mid) last.after later.0));
        company = last.company ∙ on.company;
        no_others = λ alone. All-push MeetsNoOther on.met last.met (on.no_others alone) (last.no_others (on.company ∙ alone));
        after = last.after;
        there = last.there;
        says_it = (
          (
            rest,
            ap concat all ∙ concat-append h.texts (h.text ∷ beyond) ∙ ap (λ (t : List ℕ). concat h.texts ++ t) cut ∙ sym (append_assoc (concat h.texts) (take h.n h.text) rest)
                ∙ ap (λ (t : List ℕ). t ++ rest) (sym h.written),
          ),
          record {
            whole = h.texts;
            last = h.text;
            n = h.n;
            split = texts_with r s d h.front h.line h.texts h.text h.mid d' on last;
            within = h.within;
            sent_is = h.written;
          },
        );
      }

-- ---- the times of the reads

nothing_before : (a b : List (List ℕ)) → [] ≡ a ++ b → a ≡ []
nothing_before [] b e = refl
nothing_before (x ∷ a) b e = absurd cc

-- the first texts are the texts of the first lines
first_texts : (r : Recording) (s : SessionState) (lines behind : List (List ℕ)) (met : List Met) (a b : List (List ℕ)) → texts_among r s (lines ++ behind) met ≡ a ++ b → length a ≡ length lines
    → a ≡ texts_among r s lines met
first_texts r s [] behind met [] b e n = refl
first_texts r s [] behind met (x ∷ a) b e n = absurd cc
first_texts r s (line ∷ lines) behind met [] b e n = absurd cc
first_texts r s (line ∷ lines) behind met (x ∷ a) b e n =
    let given = answer_among r s.owed (meaning_of line) (next_met met) s in
    let later = drop 1 met in
    let counted : length a ≡ length lines = cc in
    let first : x ≡ text_or_none given.0 = cc in
    let rest : cond (is_quit (meaning_of line)) [] (texts_among r given.1 (lines ++ behind) later) ≡ a ++ b = cc in
    ap (λ (t : List ℕ). t ∷ a) first
    ∙ ap (λ (l : List (List ℕ)). text_or_none given.0 ∷ l)
    (elim (is_quit (meaning_of line)) as (λ q. cond q [] (texts_among r given.1 (lines ++ behind) later) ≡ a ++ b → a ≡ cond q [] (texts_among r given.1 lines later))
    [ true ↦ nothing_before a b | false ↦ λ h. first_texts r given.1 lines behind later a b h counted ] rest)

-- a read was prompt: before it, exactly the replies to the whole lines received so far had been
-- sent
pub prompt_replies : (r : Recording) (s : SessionState) (ran : List (List ℕ)) (met : List Met) (from : Incoming) (old : Outgoing) (m : Moment) → (p : IsPrompt from old ran (texts_among r s ran met) m)
    → m.sent ≡ old.sent ++ replies_among r s false p.read met
prompt_replies r s ran met from old m p =
    p.sent
    ∙ ap (λ (l : List (List ℕ)). old.sent ++ concat l)
    (first_texts r s (whole_lines p.read) p.lines_behind met p.answers p.texts_behind (ap (λ (l : List (List ℕ)). texts_among r s l met) (sym p.of_lines) ∙ p.of_texts) p.one_each)

-- the statuses differ
not_done : ¬ (Done ≡ StreamFailed)
not_done e = cc

refused_is_not_done : ¬ (Refused ≡ Done)
refused_is_not_done e = cc

pub true_is_false : ¬ (true ≡ false)
true_is_false e = cc

-- one of the lines is `quit`
pub quit_among : (front : List (List ℕ)) (line : List ℕ) (back : List (List ℕ)) → is_quit (meaning_of line) ≡ true → has_quit (front ++ line ∷ back) ≡ true
quit_among [] line back quit = ap (λ q. q || has_quit back) quit
quit_among (x ∷ front) line back quit =
    elim (is_quit (meaning_of x)) as (λ t. (t || has_quit (front ++ line ∷ back)) ≡ true) [ true ↦ refl | false ↦ quit_among front line back quit ]

-- the bytes that a session with one front read and wrote, for each way in which the session can end
module _ (recording : List ℕ) (r : Recording) (opening : opened recording ≡ Ok r) (from left : Incoming) (old new : Outgoing) (d d' : FrontState) (here : IsInState r start d) (alone : d.pass_state.passes ≡ 1) (room : journal_room d.table ≡ 65536) where
  over : (ended : Bool) (commands : List ℕ) (supplies : List Supply) → transcript_by recording ended commands supplies ≡ replies r start ended commands supplies
  over ended commands supplies = ap (λ o. replies_over o ended commands supplies) opening

  never_refused : (commands : List ℕ) (fault : OpenFault) → opened recording ≡ Err fault → commands ≡ []
  never_refused commands fault e = let both = sym opening ∙ e in absurd cc

  may_have : (failed : Bool) (commands : List ℕ) (supplies : List Supply) → left.failed ≡ failed → AllMayHave r (size_of d) start (lines_of (not failed) commands) supplies → (x : Recording) → opened recording ≡ Ok x
      → AllMayHave x journal_of_one start (lines_of (not left.failed) commands) supplies
  may_have failed commands supplies is may x e =
      let same : r ≡ x = let both = sym opening ∙ e in cc in
      subst (λ (y : Recording). AllMayHave y journal_of_one start (lines_of (not left.failed) commands) supplies) same
      (subst (λ (f : Bool). AllMayHave r journal_of_one start (lines_of (not f) commands) supplies) (sym is)
      (subst (λ (k : JournalSize). AllMayHave r k start (lines_of (not failed) commands) supplies) of_one may))
    where
      of_one : size_of d ≡ journal_of_one
      of_one = cc

  -- at each read, the replies to all whole lines received so far had been sent (`WasPrompt`)
  prompt_said : (moments : List Moment) (ran : List (List ℕ)) (met : List Met) → All MeetsNoOther met → ArePrompt from old moments ran (texts_among r start ran met)
      → All (WasPrompt recording from old (supplies_of met)) moments
  prompt_said moments ran met none all =
      All-weaker (IsPrompt from old ran (texts_among r start ran met)) (WasPrompt recording from old (supplies_of met)) (λ m p. record {
        commands = p.read;
        received = p.received;
        sent = prompt_replies r start ran met from old m p ∙ ap (λ (l : List ℕ). old.sent ++ l) (replies_alone r start false p.read met none ∙ sym (over false p.read (supplies_of met)));
        unended = p.unended;
      }) moments all

  -- no write failed
  whole_transcript : (status : ExitStatus) (commands written : List ℕ) (met : List Met) (failed : Bool) (moments : List Moment) → Passes from left moments → All MeetsNoOther met
      → All (WasPrompt recording from old (supplies_of met)) moments → AllMayMeet r (size_of d) start (lines_of (not failed) commands) met → Receives from left commands → Sends old new written → left.failed ≡ failed
      → new.failed ≡ false → written ≡ replies_among r start (not failed) commands met → status ≡ status_of (Ok r) failed false → (status ≡ Done → IsOver left ⊎ (has_quit (lines_of false commands) ≡ true))
      → Transcribes recording from left old new status
  whole_transcript status commands written met failed moments passes none prompt may reads writes is unfailed all ends complete =
      let supplies = supplies_of met in
      let whole : written ≡ transcript_by recording (not left.failed) commands supplies =
      all ∙ replies_alone r start (not failed) commands met none ∙ ap (λ f. replies r start (not f) commands supplies) (sym is) ∙ sym (over (not left.failed) commands supplies) in
      record {
        commands = commands;
        written = written;
        supplies = supplies;
        moments = moments;
        reads = reads;
        writes = writes;
        passes = passes;
        prompt = prompt;
        may = may_have failed commands supplies is (all_may_alone r (size_of d) start (lines_of (not failed) commands) met none may);
        begins = all_of (transcript_by recording (not left.failed) commands supplies) written whole;
        whole = λ _. whole;
        complete = complete;
        unread = never_refused commands;
        ends = ends ∙ ap (λ f. status_of (Ok r) f false) (sym is) ∙ ap (status_of (Ok r) left.failed) (sym unfailed) ∙ ap (λ o. status_of o left.failed new.failed) (sym opening);
      }

  transcribes : (ending : Result End LineEnd) → AnswersLines from left old new d d' ending → left.failed ≡ is_read_failure ending → new.failed ≡ is_write_failure ending
      → Transcribes recording from left old new (status_after ending)
  transcribes (Ok Closed) h read write =
      let lines : Answered (ArePrompt from old h.moments) d (lines_of true h.read) h.out d' = subst (λ e. Answered (ArePrompt from old h.moments) d (lines_of e h.read) h.out d') h.ends.0 h.ends.1 in
      let all = all_answered r start d d' here from old h.moments h.read h.out true lines in
      whole_transcript Done h.read h.out all.met false h.moments h.passes (all.no_others alone) (prompt_said h.moments all.ran all.met (all.no_others alone) all.prompt) all.may h.reads h.writes read write all.says_it refl (λ _. inl (h.at_end h.ends.0))
  transcribes (Ok Quit) h read write =
      let all = up_to_quit r start d d' here from old h.moments h.read h.out h.ended h.ends in
      whole_transcript Done h.read h.out all.met false h.moments h.passes (all.no_others alone) (prompt_said h.moments all.ran all.met (all.no_others alone) all.prompt) all.may h.reads h.writes read write all.says_it refl (λ _. ends_well h.ended refl)
    where
      ends_well : (ended : Bool) → h.ended ≡ ended → IsOver left ⊎ (has_quit (lines_of false h.read) ≡ true)
      ends_well true is = inl (h.at_end is)
      ends_well false is = inr (ap (λ e. has_quit (lines_of e h.read)) (sym is) ∙ ap has_quit h.ends.split ∙ quit_among h.ends.front h.ends.line h.ends.back h.ends.quit)
  transcribes (Err Read) h read write =
      let lines : Answered (ArePrompt from old h.moments) d (lines_of false h.read) h.out d' = subst (λ e. Answered (ArePrompt from old h.moments) d (lines_of e h.read) h.out d') h.ends.0 h.ends.1 in
      let all = all_answered r start d d' here from old h.moments h.read h.out false lines in
      whole_transcript StreamFailed h.read h.out all.met true h.moments h.passes (all.no_others alone) (prompt_said h.moments all.ran all.met (all.no_others alone) all.prompt) all.may h.reads h.writes read write all.says_it refl (λ e. absurd (not_done (sym e)))
  transcribes (Err (Write whole part)) h read write =
      let part_of = up_to_failure r start d d' here from old h.moments h.read h.out h.ended whole part h.ends in
      let none = part_of.no_others alone in
      let supplies = supplies_of part_of.met in
      let all : transcript_by recording (not left.failed) h.read supplies ≡ replies_among r start true h.read part_of.met =
      over (not left.failed) h.read supplies ∙ ap (λ f. replies r start (not f) h.read supplies) read ∙ sym (replies_alone r start true h.read part_of.met none) in
      record {
        commands = h.read;
        written = h.out;
        supplies = supplies;
        moments = h.moments;
        reads = h.reads;
        writes = h.writes;
        passes = h.passes;
        prompt = prompt_said h.moments part_of.ran part_of.met none part_of.prompt;
        may = may_have false h.read supplies read (all_may_alone r (size_of d) start (lines_of true h.read) part_of.met none part_of.may);
        begins = subst (λ t. StartsWith t h.out) (sym all) part_of.says_it.0;
        whole = λ unfailed. absurd (true_is_false (sym write ∙ unfailed));
        complete = λ e. absurd (not_done (sym e));
        unread = never_refused h.read;
        ends = sym (ap (λ o. status_of o left.failed new.failed) opening ∙ ap (λ f. status_of (Ok r) f new.failed) read ∙ ap (status_of (Ok r) false) write);
      }

-- a session with one front writes its transcript
pub walks_transcribe : (bytes : List ℕ) (r : Recording) (from left : Incoming) (old new : Outgoing) (status : ExitStatus) → IsGoodText bytes r → Walks from left old new r status
    → Transcribes bytes from left old new status
walks_transcribe bytes r from left old new status is w =
    subst (λ (x : ExitStatus). Transcribes bytes from left old new x) (sym w.ends)
    (transcribes bytes r (opened_good bytes r is) from left old new _ w.last (record { recording = refl; placed = refl; owed = refl; at = refl }) refl w.room_is w.ending w.serves w.read_failed w.write_failed)

-- the transcript of a recording with a fault is the fault's line
pub fault_transcribes : (bytes : List ℕ) (fault : OpenFault) (from left : Incoming) (old new : Outgoing) (status : ExitStatus) → IsOwn fault → IsFirstFault bytes fault → old.failed ≡ false
    → PrintsFault (fault_line fault) from left old new status → Transcribes bytes from left old new status
fault_transcribes bytes fault from left old new status own is unfailed prints =
    let opening = opened_faulty bytes fault own is in
    let never_good : (r : Recording) → ¬ (opened bytes ≡ Ok r) = λ r good. (let both = sym opening ∙ good in cc) in
    let over : transcript_by bytes (not left.failed) [] [] ≡ fault_line fault = ap (λ o. replies_over o (not left.failed) [] []) opening in
    let unread : Receives from left [] = subst (λ (x : Incoming). Receives from x []) (sym prints.unread) (receives_none from) in
    let passes : Passes from left [] = subst (λ (x : Incoming). Passes from x []) (sym prints.unread) (sym (append-nil from.moments)) in
    let ends : status_of (opened bytes) left.failed new.failed ≡ status_of (Err fault) left.failed new.failed = ap (λ o. status_of o left.failed new.failed) opening in
    elim prints.printed as (λ _. Transcribes bytes from left old new status) [
      | inl all ↦ record {
        commands = [];
        written = fault_line fault;
        supplies = [];
        moments = [];
        reads = unread;
        writes = all.1.0;
        passes = passes;
        prompt = All-nil (WasPrompt bytes from old []);
        may = λ r good. absurd (never_good r good);
        begins = all_of (transcript_by bytes (not left.failed) [] []) (fault_line fault) (sym over);
        whole = λ _. sym over;
        complete = λ e. absurd (refused_is_not_done (sym all.0 ∙ e));
        unread = λ f e. refl;
        ends = all.0 ∙ sym (ends ∙ ap (status_of (Err fault) left.failed) (all.1.1 ∙ unfailed));
      }
      | inr part ↦ (
          let cut = part.1.1 in
          record {
            commands = [];
            written = take cut.n (fault_line fault);
            supplies = [];
            moments = [];
            reads = unread;
            writes = cut.out;
            passes = passes;
            prompt = All-nil (WasPrompt bytes from old []);
            may = λ r good. absurd (never_good r good);
            begins = (drop cut.n (fault_line fault), over ∙ sym (take-append-drop cut.n (fault_line fault)));
            whole = λ still. absurd (true_is_false (sym cut.failed ∙ still));
            complete = λ e. absurd (not_done (sym e ∙ part.0));
            unread = λ f e. refl;
            ends = part.0 ∙ sym (ends ∙ ap (status_of (Err fault) left.failed) cut.failed);
          })
    ]

-- the transcript is the fault's line, or memory ran out
pub refused_transcribes : (bytes : List ℕ) (fault : OpenFault) (from left : Incoming) (old new : Outgoing) (status : ExitStatus) → IsFirstFault bytes fault → old.failed ≡ false
    → PrintsFault (fault_line fault) from left old new status → RunsTranscript bytes from left old new status
refused_transcribes bytes (openings.Read (read.Memory refused)) from left old new status is unfailed prints = inr prints
refused_transcribes bytes (openings.Read (read.Line n f)) from left old new status is unfailed prints = inl (fault_transcribes bytes (openings.Read (read.Line n f)) from left old new status tt is unfailed prints)
refused_transcribes bytes (Load (load.Memory refused)) from left old new status is unfailed prints = inr prints
refused_transcribes bytes (Load (load.Refused step reason)) from left old new status is unfailed prints = inl (fault_transcribes bytes (Load (load.Refused step reason)) from left old new status tt is unfailed prints)
refused_transcribes bytes (Load (load.OtherAnswer step)) from left old new status is unfailed prints = inl (fault_transcribes bytes (Load (load.OtherAnswer step)) from left old new status tt is unfailed prints)

-- ---- lines with enough memory and room

texts_enough : (r : Recording) (s : SessionState) (lines : List (List ℕ)) (supplies : List Supply) → All (λ supply. supply ≡ enough) supplies → texts r s lines supplies ≡ texts r s lines []
texts_enough r s [] supplies all = refl
texts_enough r s (line ∷ lines) [] all = refl
texts_enough r s (line ∷ lines) (supply ∷ supplies) all =
    let a = line_answer r s.owed (meaning_of line) enough s in
    ap (λ x. texts r s (line ∷ lines) (x ∷ supplies)) (All-head (λ supply. supply ≡ enough) supply supplies all)
    ∙ ap (λ (l : List (List ℕ)). text_or_none a.0 ∷ cond (is_quit (meaning_of line)) [] l) (texts_enough r a.1 lines supplies (All-tail (λ supply. supply ≡ enough) supply supplies all))

replies_enough : (opening : Result Recording OpenFault) (ended : Bool) (commands : List ℕ) (supplies : List Supply) → All (λ supply. supply ≡ enough) supplies
    → replies_over opening ended commands supplies ≡ replies_over opening ended commands []
replies_enough (Ok r) ended commands supplies all = ap concat (texts_enough r start (lines_of ended commands) supplies all)
replies_enough (Err fault) ended commands supplies all = refl

pub transcript_enough : (recording : List ℕ) (ended : Bool) (commands : List ℕ) (supplies : List Supply) → All (λ supply. supply ≡ enough) supplies
    → transcript_by recording ended commands supplies ≡ transcript_by recording ended commands []
transcript_enough recording ended commands supplies all = replies_enough (opened recording) ended commands supplies all
