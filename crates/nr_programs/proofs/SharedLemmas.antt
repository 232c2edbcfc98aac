-- The callers of a shared session get their replies from the transcript.
use Rattle.std.proofs.Common.{◌≡◌, ◌≤◌, ◌⊎◌, inl, inr, ℕ, Bool, true, false, not, List, [], ◌∷◌, ◌++◌, length, map, Option, Some, Result, Ok, Err, refl, sym, ap, ◌∙◌, subst, arith, append-nil, append_assoc, length-append}
use Rattle.std.specs.List.{All, concat}
use Rattle.std.specs.Prelude.{is_err}
use Rattle.std.proofs.lemmas.List.Elements.{All-cons, All-head, All-nil, All-tail, All-weaker}
use Rattle.nr_text.specs.Moments.{Moment}
use Rattle.nr_text.specs.Streams.{IsOver}
use Rattle.nr_text.specs.Auxiliary.Streams.{unread, unwritten}
use Rattle.atomic_table.specs.Seated.{TableId}
use Rattle.nr_rev.specs.Run.{Recording}
use Rattle.nr_journal.specs.Rule.{Covers, StartsWith, journal_room}
use Rattle.nr_front.specs.FrontState.{FrontState}
use Rattle.nr_lines.specs.Engine.{has_quit, lines_of}
use Rattle.nr_lines.specs.Auxiliary.Engine.{Answered, ArePrompt, Ends, Grows, IsPrompt, Quitted, is_read_failure, is_write_failure}
use Rattle.nr_lines.specs.declared.ending.End.{End}
use Rattle.nr_lines.specs.declared.ending.End.TheVariants.{Closed, Quit}
use Rattle.nr_lines.specs.declared.ending.LineEnd.{LineEnd}
use Rattle.nr_lines.specs.declared.ending.LineEnd.TheVariants.{Read, Write}
use Rattle.nr_lines.proofs.GrowLemmas.{turns_grow}
use Rattle.nr_lines.proofs.TurnLemmas.{turns_more}
use Rattle.nr_serving.specs.Fronts.{Course}
use Rattle.nr_serving.specs.Auxiliary.Fronts.{ServesCaller, ServesCallers}
use Rattle.nr_serving.specs.Conversations.{Conversation, Passed}
use Rattle.nr_serving.specs.Session.{BeginsFresh, IsShared, last_pass_state}
use Rattle.nr_serving.specs.Auxiliary.Session.{HasItsOwnWords}
use Rattle.nr_serving.proofs.TagLemmas.{serving_keeps_tag}
use Rattle.nr_programs.specs.Shared.{AreAnswered, EndsWithin, HeardOut, IsAnswered, HasRun, StartsList, words_seen}
use Rattle.nr_programs.specs.Auxiliary.Shared.{tag_at_end}
use Rattle.nr_programs.specs.Among.{AllMayMeet, Met, replies_among, texts_among}
use Rattle.nr_programs.specs.Transcript.{JournalSize, SessionState, start}
use Rattle.nr_programs.proofs.RepliesLemmas.{Replied, all_answered, all_of, prompt_replies, quit_among, true_is_false, up_to_failure, up_to_quit}
use Rattle.nr_programs.proofs.TranscriptLemmas.{IsInState, same_size, size_of}

starts_trans : (a b c : List ℕ) → StartsWith b a → StartsWith c b → StartsWith c a
starts_trans a b c one other = (one.0 ++ other.0, other.1 ∙ ap (λ (l : List ℕ). l ++ other.0) one.1 ∙ append_assoc a one.0 other.0)

starts_long : (a b : List ℕ) → StartsWith b a → length a ≤ length b
starts_long a b one = omega (arith, ap length one.1, length-append a one.0)

-- ---- one caller

-- serving a caller only appends to the words that the front has seen
caller_grows : (c : Conversation) (d d' : FrontState) → ServesCaller c d d' → Grows d d'
caller_grows c d d' h = lines_grow _ c.ending h.serves.ended d _ _ d' h.serves.ends
  where
    lines_grow : (Prompt : List (List ℕ) → List (List ℕ) → Type 0) (ending : Result End LineEnd) (ended : Bool) (d : FrontState) (lines : List (List ℕ)) (out : List ℕ) (d' : FrontState)
        → Ends Prompt ending ended d lines out d' → Grows d d'
    lines_grow Prompt (Ok Closed) ended d lines out d' e = turns_grow d _ _ d' e.1.turns
    lines_grow Prompt (Ok Quit) ended d lines out d' e = turns_grow d _ _ d' e.turns
    lines_grow Prompt (Err Read) ended d lines out d' e = turns_grow d _ _ d' e.1.turns
    lines_grow Prompt (Err (Write whole part)) ended d lines out d' e =
        turns_grow d _ _ d' (turns_more d e.front e.texts e.mid e.line e.text d' e.turns e.turn)

-- the caller was answered, and the front is in this state afterwards
record Goes (r : Recording) (c : Conversation) (s : SessionState) (d d' : FrontState) : Type 0 where
  pub answered : IsAnswered r (size_of d) d.pass_state.tag c s
  pub after : SessionState
  pub there : IsInState r after d'
  pub seen : d'.pass_state.seen ≡ d.pass_state.seen ++ words_seen d.pass_state.tag r s answered.ran answered.met
  pub tag : d'.pass_state.tag ≡ d.pass_state.tag
  pub table : d'.table ≡ d.table
  pub company : d'.pass_state.passes ≡ d.pass_state.passes

-- one caller; these bytes were received from it, and these were sent to it
module _ (r : Recording) (c : Conversation) (s : SessionState) (d d' : FrontState) (known held : Option (List ℕ)) (moments : List Moment) (read out : List ℕ) (received : c.input.received ≡ read) (sent : c.output.sent ≡ out)
    (passes : c.input.moments ≡ moments) where
  replies_are : (failed : Bool) (met : List Met) → c.input.failed ≡ failed → replies_among r s (not failed) read met ≡ replies_among r s (not c.input.failed) c.input.received met
  replies_are failed met is = ap (λ (bytes : List ℕ). replies_among r s (not failed) bytes met) (sym received) ∙ ap (λ (f : Bool). replies_among r s (not f) c.input.received met) (sym is)

  lines : (failed : Bool) → c.input.failed ≡ failed → lines_of (not failed) read ≡ lines_of (not c.input.failed) c.input.received
  lines failed is = ap (λ (bytes : List ℕ). lines_of (not failed) bytes) (sym received) ∙ ap (λ (f : Bool). lines_of (not f) c.input.received) (sym is)

  -- the reads were prompt
  heard_out : (ran : List (List ℕ)) (met : List Met) → ArePrompt (unread known) (unwritten held) moments ran (texts_among r s ran met) → All (HeardOut r s met) c.input.moments
  heard_out ran met all =
      subst (All (HeardOut r s met)) (sym passes)
      (All-weaker (IsPrompt (unread known) (unwritten held) ran (texts_among r s ran met)) (HeardOut r s met)
      (λ m p. (prompt_replies r s ran met (unread known) (unwritten held) m p ∙ ap (λ (bytes : List ℕ). replies_among r s false bytes met) (sym p.received), p.unended refl)) moments all)

  -- if no read and no write failed, the caller's input ended or a line is `quit`
  abbrev Complete : Type 0
  Complete = is_err c.ending ≡ false → IsOver c.input ⊎ (has_quit (lines_of false c.input.received) ≡ true)

  -- the caller was answered if the bytes sent are a prefix of the replies, and, unless a write failed,
  -- all of the replies
  goes_with : (failed : Bool) (says : List (List ℕ) → List Met → Type 0) → c.input.failed ≡ failed
      → ((ran : List (List ℕ)) (met : List Met) → says ran met → StartsWith (replies_among r s (not failed) read met) out)
      → ((ran : List (List ℕ)) (met : List Met) → says ran met → c.output.failed ≡ false → out ≡ replies_among r s (not failed) read met)
      → ((ran : List (List ℕ)) (met : List Met) → says ran met → c.output.failed ≡ true → EndsWithin (texts_among r s ran met) out) → Complete → Replied r s d d' (unread known) (unwritten held) moments (lines_of (not failed) read) out says
      → Goes r c s d d'
  goes_with failed says is begins whole stops complete all = record {
    answered = record {
      met = all.met;
      may = subst (λ (l : List (List ℕ)). AllMayMeet r (size_of d) s l all.met) (lines failed is) all.may;
      begins = subst (λ (t : List ℕ). StartsWith t c.output.sent) (replies_are failed all.met is)
          (subst (StartsWith (replies_among r s (not failed) read all.met)) (sym sent) (begins all.ran all.met all.says_it));
      whole = λ calm. sent ∙ whole all.ran all.met all.says_it calm ∙ replies_are failed all.met is;
      prompt = heard_out all.ran all.met all.prompt;
      complete = complete;
      ran = all.ran;
      first = subst (λ (l : List (List ℕ)). StartsList l all.ran) (lines failed is) all.first;
      nothing_else = subst (StartsWith (concat (texts_among r s all.ran all.met))) (sym sent) all.nothing_else;
      stops = λ cut. subst (EndsWithin (texts_among r s all.ran all.met)) (sym sent) (stops all.ran all.met all.says_it cut);
      others = all.theirs;
    };
    after = all.after;
    there = all.there;
    seen = all.seen;
    tag = all.tag;
    table = all.table;
    company = all.company;
  }

  -- no write failed
  whole_of : (failed : Bool) → c.input.failed ≡ failed → c.output.failed ≡ false → Complete
      → Replied r s d d' (unread known) (unwritten held) moments (lines_of (not failed) read) out (λ ran met. out ≡ replies_among r s (not failed) read met) → Goes r c s d d'
  whole_of failed is unfailed complete all =
      goes_with failed (λ ran met. out ≡ replies_among r s (not failed) read met) is (λ ran met says. all_of (replies_among r s (not failed) read met) out says) (λ ran met says calm. says)
      (λ ran met says cut. absurd (true_is_false (sym cut ∙ unfailed))) complete all

  -- a write failed
  abbrev CutWithin : List (List ℕ) → List Met → Type 0
  CutWithin ran met = StartsWith (replies_among r s true read met) out × EndsWithin (texts_among r s ran met) out

  cut_of : c.input.failed ≡ false → c.output.failed ≡ true → Complete → Replied r s d d' (unread known) (unwritten held) moments (lines_of true read) out CutWithin → Goes r c s d d'
  cut_of is failed complete part =
      goes_with false CutWithin is (λ ran met says. says.0) (λ ran met says calm. absurd (true_is_false (sym failed ∙ calm))) (λ ran met says cut. says.1) complete part

  -- if the conversation ended with an error, `Complete` holds, because it requires nothing in this
  -- case
  never_complete : (stopped : LineEnd) → c.ending ≡ Err stopped → Complete
  never_complete stopped is good = absurd (true_is_false (sym (ap is_err is) ∙ good))

  -- one of the lines is `quit`, or the input is at its end
  complete_quit : (ended : Bool) → (ended ≡ true → IsOver c.input) → Quitted (ArePrompt (unread known) (unwritten held) moments) d (lines_of ended read) out d' → Complete
  complete_quit true at_end e good = inl (at_end refl)
  complete_quit false at_end e good = inr (ap (λ (bytes : List ℕ). has_quit (lines_of false bytes)) received ∙ ap has_quit e.split ∙ quit_among e.front e.line e.back e.quit)

  -- the caller was answered, for each result of serving it
  goes_by : (ending : Result End LineEnd) (ended : Bool) → c.ending ≡ ending → (ended ≡ true → IsOver c.input) → IsInState r s d → c.input.failed ≡ is_read_failure ending
      → c.output.failed ≡ is_write_failure ending → Ends (ArePrompt (unread known) (unwritten held) moments) ending ended d (lines_of ended read) out d' → Goes r c s d d'
  goes_by (Ok Closed) ended is at_end here reading writing e =
      whole_of false reading writing (λ good. inl (at_end e.0))
      (all_answered r s d d' here (unread known) (unwritten held) moments read out true (subst (λ t. Answered (ArePrompt (unread known) (unwritten held) moments) d (lines_of t read) out d') e.0 e.1))
  goes_by (Ok Quit) ended is at_end here reading writing e = whole_of false reading writing (complete_quit ended at_end e) (up_to_quit r s d d' here (unread known) (unwritten held) moments read out ended e)
  goes_by (Err Read) ended is at_end here reading writing e =
      whole_of true reading writing (never_complete Read is)
      (all_answered r s d d' here (unread known) (unwritten held) moments read out false (subst (λ t. Answered (ArePrompt (unread known) (unwritten held) moments) d (lines_of t read) out d') e.0 e.1))
  goes_by (Err (Write whole part)) ended is at_end here reading writing e =
      cut_of reading writing (never_complete (Write whole part) is) (up_to_failure r s d d' here (unread known) (unwritten held) moments read out ended whole part e)

caller_goes : (r : Recording) (c : Conversation) (s : SessionState) (d d' : FrontState) → IsInState r s d → ServesCaller c d d' → Goes r c s d d'
caller_goes r c s d d' here h =
    let a = h.serves in
    goes_by r c s d d' h.remaining h.contents a.moments a.read a.out a.reads.received a.writes.sent a.passes c.ending a.ended refl a.at_end here h.read_failed h.write_failed a.ends

-- ---- callers, one after the other

callers_grow : (callers : List Conversation) (d d' : FrontState) → ServesCallers callers d d' → StartsWith d'.pass_state.seen d.pass_state.seen
callers_grow [] d d' is = subst (λ (x : FrontState). StartsWith x.pass_state.seen d.pass_state.seen) (sym is) ([], sym (append-nil d.pass_state.seen))
callers_grow (c ∷ callers) d d' h =
    starts_trans d.pass_state.seen h.0.pass_state.seen d'.pass_state.seen (caller_grows c d h.0 h.1).words (callers_grow callers h.0 d' h.2)

callers_answered : (r : Recording) (history : List ℕ) (callers : List Conversation) (s : SessionState) (d d' : FrontState) → IsInState r s d → ServesCallers callers d d' → Covers history d'.pass_state.tag d'.pass_state.seen
    → AreAnswered r (size_of d) d.pass_state.tag history s d.pass_state.seen callers
callers_answered r history [] s d d' here h own = subst (λ (x : FrontState). Covers history x.pass_state.tag x.pass_state.seen) h own
callers_answered r history (c ∷ callers) s d d' here h own =
    let mid = h.0 in
    let one = caller_goes r c s d mid here h.1 in
    let has_run : HasRun r history mid.pass_state.seen one.after = record {
      prefix = starts_trans mid.pass_state.seen d'.pass_state.seen history (callers_grow callers mid d' h.2) (own.0, own.1);
      placed = one.there.placed;
      at = one.there.at;
    } in
    let later : AreAnswered r (size_of d) d.pass_state.tag history one.after mid.pass_state.seen callers =
    subst (λ (k : JournalSize). AreAnswered r k d.pass_state.tag history one.after mid.pass_state.seen callers) (same_size d mid one.table one.company)
    (subst (λ (t : ℕ). AreAnswered r (size_of mid) t history one.after mid.pass_state.seen callers) one.tag (callers_answered r history callers one.after mid d' one.there h.2 own)) in (
      one.answered,
      one.after,
      subst (λ (l : List ℕ). HasRun r history l one.after) one.seen has_run,
      subst (λ (l : List ℕ). AreAnswered r (size_of d) d.pass_state.tag history one.after l callers) one.seen later,
    )

-- ---- all fronts

module _ (table : TableId) (r : Recording) (fronts depth workers : ℕ) (history : List ℕ) where
  -- the size of the journal
  abbrev size : JournalSize
  size = record { room = journal_room table; passes = fronts }

  abbrev IsCourseAnswered : Course → Type 0
  IsCourseAnswered course = AreAnswered r size (tag_at_end course) history start [] course.callers

  front_answered : (course : Course) → BeginsFresh table r fronts depth workers course → HasItsOwnWords history (last_pass_state course) → IsCourseAnswered course
  front_answered course begins own =
      let here : IsInState r start begins.start = subst (IsInState r start) (sym begins.fresh.2) (record { recording = refl; placed = refl; owed = refl; at = refl }) in
      let none : begins.start.pass_state.seen ≡ [] = ap (λ (x : FrontState). x.pass_state.seen) begins.fresh.2 in
      let size_is : size_of begins.start ≡ size = ap size_of begins.fresh.2 in
      subst (λ (k : JournalSize). AreAnswered r k (tag_at_end course) history start [] course.callers) size_is
      (subst (λ (t : ℕ). AreAnswered r (size_of begins.start) t history start [] course.callers) (sym (serving_keeps_tag course.callers begins.start course.last begins.serving).0)
      (subst (λ (l : List ℕ). AreAnswered r (size_of begins.start) begins.start.pass_state.tag history start l course.callers) none
      (callers_answered r history course.callers start begins.start course.last here begins.serving own)))

  all_answered_so : (courses : List Course) → All (BeginsFresh table r fronts depth workers) courses → All (HasItsOwnWords history) (map last_pass_state courses) → All IsCourseAnswered courses
  all_answered_so [] served own = All-nil IsCourseAnswered
  all_answered_so (course ∷ courses) served own =
      All-cons IsCourseAnswered course courses
      (front_answered course (All-head (BeginsFresh table r fronts depth workers) course courses served) (All-head (HasItsOwnWords history) (last_pass_state course) (map last_pass_state courses) own))
      (all_answered_so courses (All-tail (BeginsFresh table r fronts depth workers) course courses served) (All-tail (HasItsOwnWords history) (last_pass_state course) (map last_pass_state courses) own))

pub shared_answered : (r : Recording) (room fronts depth workers : ℕ) (passed : List Passed) (history : List ℕ) (failed : Bool) → (shared : IsShared r room fronts depth workers passed (Some history) failed)
    → All (λ course. AreAnswered r (record { room = room; passes = fronts }) (tag_at_end course) history start [] course.callers) shared.courses
shared_answered r room fronts depth workers passed history failed shared =
    subst (λ (k : ℕ). All (λ course. AreAnswered r (record { room = k; passes = fronts }) (tag_at_end course) history start [] course.callers) shared.courses) shared.room_is
    (all_answered_so shared.table r fronts depth workers history shared.courses shared.served shared.one_history.own)
