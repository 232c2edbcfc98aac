-- The invariant of the line loop, and its results.
use Rattle.std.proofs.Common.{◌≡◌, ℕ, ◌<◌, min, Bool, true, false, cond, Ok, Err, List, [], ◌∷◌, ◌++◌, arith, length, take, refl, sym, ap, ◌∙◌, subst, nat_eq, append_assoc, append-nil}
use Rattle.std.specs.Prelude.{Result}
use Rattle.std.proofs.lemmas.List.{length-take}
use Rattle.std.proofs.lemmas.Bool.{lt-ltb, le-ltb, eqb-false, false≢true}
use Rattle.std.specs.List.{All, concat}
use Rattle.std.proofs.lemmas.List.Elements.{All-append, All-nil, All-weaker}
use Rattle.std.proofs.lemmas.List.Folds.{concat-append}
use Rattle.nr_text.specs.Moments.{Moment}
use Rattle.nr_text.specs.Streams.{Incoming, IsOver, Outgoing, Passes, Receives, Sends, saturating_count}
use Rattle.nr_text.specs.Auxiliary.Streams.{IsNow, ReadsAt}
use Rattle.nr_command.specs.Command.{meaning_of}
use Rattle.nr_front.specs.FrontState.{FrontState}
use Rattle.nr_text.proofs.StreamLemmas.{receives_none, receives_then, sends_none, sends_then}
use Rattle.nr_lines.specs.declared.ending.End.{End}
use Rattle.nr_lines.specs.declared.ending.End.TheVariants.{Closed, Quit}
use Rattle.nr_lines.specs.declared.ending.LineEnd.{LineEnd}
use Rattle.nr_lines.specs.declared.ending.LineEnd.TheVariants.{Read, Write}
use Rattle.nr_lines.specs.declared.ending.StreamFailure.{StreamFailure}
use Rattle.nr_lines.specs.declared.ending.StreamFailure.TheVariants as failures
use Rattle.nr_lines.specs.Batch.{AnswersBytes, Batch, Cut, RunsLines}
use Rattle.nr_lines.specs.Engine.{lines_of, has_quit}
use Rattle.nr_lines.specs.Auxiliary.Engine.{Turns, Answered, AnswersLines, AnswersTogether, ArePrompt, IsPrompt, is_read_failure, is_write_failure, some_count, whole_lines, without_counts}
use Rattle.nr_lines.specs.Turn.{is_quit}
use Rattle.nr_lines.specs.LoopInvariant.{AnswersBy, LoopInvariant, unfinished_line}
use Rattle.nr_lines.proofs.LineLemmas.{lines_at_end}
use Rattle.nr_lines.proofs.TurnLemmas.{has_quit-append, one_text_each, some_count-append, turns_append}

-- a prompt read remains prompt after more lines are answered
pub prompt_more : (from : Incoming) (old : Outgoing) (moments : List Moment) (lines texts later more : List (List ℕ)) → ArePrompt from old moments lines texts
    → ArePrompt from old moments (lines ++ later) (texts ++ more)
prompt_more from old moments lines texts later more all =
    All-weaker (IsPrompt from old lines texts) (IsPrompt from old (lines ++ later) (texts ++ more)) (λ m p. record {
      read = p.read;
      answers = p.answers;
      lines_behind = p.lines_behind ++ later;
      texts_behind = p.texts_behind ++ more;
      received = p.received;
      sent = p.sent;
      one_each = p.one_each;
      of_lines = ap (λ (l : List (List ℕ)). l ++ later) p.of_lines ∙ append_assoc (whole_lines p.read) p.lines_behind later;
      of_texts = ap (λ (l : List (List ℕ)). l ++ more) p.of_texts ∙ append_assoc p.answers p.texts_behind more;
      unended = p.unended;
    }) moments all

-- true if the end wasn't found between the first state and the second
abbrev pub StaysOpen : Incoming → Incoming → Type 0
StaysOpen r r' = r.ended ≡ false → r'.ended ≡ false

-- a read made now is prompt, since all whole lines are answered
prompt_now : (r r' : Incoming) (w w' : Outgoing) (p p' : FrontState) (read line : List ℕ) (whole : ℕ) (st : LoopInvariant r r' w w' p p' read read line whole) → StaysOpen r r' → (m : Moment)
    → IsNow r' w' m → IsPrompt r w (whole_lines read) st.texts m
prompt_now r r' w w' p p' read line whole st unended m now = record {
  read = read;
  answers = st.texts;
  lines_behind = [];
  texts_behind = [];
  received = now.0 ∙ st.reads.received;
  sent = now.1 ∙ st.writes.sent;
  one_each = one_text_each p (whole_lines read) st.texts p' st.turns;
  of_lines = sym (append-nil (whole_lines read));
  of_texts = sym (append-nil st.texts);
  unended = λ none. now.2 (unended none);
}

-- the earlier reads, followed by the reads made now
passes_more : (r r' r'' : Incoming) (before now : List Moment) → Passes r r' before → Passes r' r'' now → Passes r r'' (before ++ now)
passes_more r r' r'' before now first then = then ∙ ap (λ (l : List Moment). l ++ now) first ∙ append_assoc r.moments before now

prompt_still : (r r' : Incoming) (w w' : Outgoing) (p p' : FrontState) (read line : List ℕ) (whole : ℕ) (st : LoopInvariant r r' w w' p p' read read line whole) → StaysOpen r r'
    → (now : List Moment) → All (IsNow r' w') now → ArePrompt r w (st.moments ++ now) (whole_lines read) st.texts
prompt_still r r' w w' p p' read line whole st unended now all =
    All-append (IsPrompt r w (whole_lines read) st.texts) st.moments now st.prompt
    (All-weaker (IsNow r' w') (IsPrompt r w (whole_lines read) st.texts) (prompt_now r r' w w' p p' read line whole st unended) now all)

-- the written bytes after more texts were written
written_more : (old w w' : Outgoing) (texts more : List (List ℕ)) (out : List ℕ) → Sends old w (concat texts) → Sends w w' out → concat more ≡ out ++ [] → Sends old w' (concat (texts ++ more))
written_more old w w' texts more out so_far later all =
    subst (Sends old w') (ap (λ (l : List ℕ). concat texts ++ l) (sym (append-nil out) ∙ sym all) ∙ sym (concat-append texts more)) (sends_then old w w' (concat texts) out so_far later)

-- the lines that end in one read were answered, and none of them is `quit`
pub goes_on : (from left : Incoming) (old w w' : Outgoing) (d p p' : FrontState) (came read line line' : List ℕ) (lines : List (List ℕ)) (whole whole' : ℕ)
    → LoopInvariant from left old w d p came read line whole → whole_lines came ≡ whole_lines read ++ lines → Batch p p' w w' [] lines whole whole' → has_quit lines ≡ false
    → line' ≡ take 257 (unfinished_line came) → LoopInvariant from left old w' d p' came came line' whole'
goes_on from left old w w' d p p' came read line line' lines whole whole' st lines_are b goes kept = record {
  texts = st.texts ++ b.texts;
  moments = st.moments;
  reads = st.reads;
  writes = written_more old w w' st.texts b.texts b.out st.writes b.sends b.split;
  passes = st.passes;
  prompt = subst (λ (ls : List (List ℕ)). ArePrompt from old st.moments ls (st.texts ++ b.texts)) (sym lines_are) (prompt_more from old st.moments (whole_lines read) st.texts lines b.texts st.prompt);
  turns = subst (λ (ls : List (List ℕ)). Turns d ls (st.texts ++ b.texts) p') (sym lines_are) (turns_append d (whole_lines read) st.texts p lines b.texts p' st.turns b.turns);
  no_quit = ap has_quit lines_are ∙ has_quit-append (whole_lines read) lines st.no_quit ∙ goes;
  kept = kept;
  count = b.count (some_count st.texts) st.count ∙ ap saturating_count (sym (some_count-append st.texts b.texts));
}

-- one of these lines is `quit`
pub quits : (from left : Incoming) (old w w' : Outgoing) (d p p' : FrontState) (came read kept : List ℕ) (front : List (List ℕ)) (line : List ℕ) (back : List (List ℕ)) (whole whole' : ℕ) (ended : Bool)
    → LoopInvariant from left old w d p came read kept whole → lines_of ended came ≡ whole_lines read ++ (front ++ line ∷ back) → (ended ≡ true → IsOver left)
    → Batch p p' w w' [] (front ++ line ∷ []) whole whole' → has_quit front ≡ false → is_quit (meaning_of line) ≡ true → AnswersLines from left old w' d p' (Ok Quit)
quits from left old w w' d p p' came read kept front line back whole whole' ended st lines at_end b goes stops =
    let before : List (List ℕ) = whole_lines read in
    let same : before ++ (front ++ line ∷ []) ≡ (before ++ front) ++ line ∷ [] = sym (append_assoc before front (line ∷ [])) in
    record {
      read = came;
      out = concat (st.texts ++ b.texts);
      ended = ended;
      moments = st.moments;
      reads = st.reads;
      writes = written_more old w w' st.texts b.texts b.out st.writes b.sends b.split;
      passes = st.passes;
      at_end = at_end;
      ends = record {
        front = before ++ front;
        line = line;
        back = back;
        texts = st.texts ++ b.texts;
        prompt = subst (λ (ls : List (List ℕ)). ArePrompt from old st.moments ls (st.texts ++ b.texts)) same (prompt_more from old st.moments before st.texts (front ++ line ∷ []) b.texts st.prompt);
        split = lines ∙ sym (append_assoc before front (line ∷ back));
        no_quit = has_quit-append before front st.no_quit ∙ goes;
        quit = stops;
        turns = subst (λ (ls : List (List ℕ)). Turns d ls (st.texts ++ b.texts) p') same (turns_append d before st.texts p (front ++ line ∷ []) b.texts p' st.turns b.turns);
        written = refl;
      };
    }

-- a write failed within a line's text; the lines up to this line were answered
abbrev cut_lines : (from left : Incoming) (old w w' : Outgoing) (d p p' : FrontState) (came read kept : List ℕ) (lines : List (List ℕ)) (whole : ℕ) (ended at_once : Bool) (e : LineEnd)
    → (st : LoopInvariant from left old w d p came read kept whole) → lines_of ended came ≡ whole_lines read ++ lines → (ended ≡ true → IsOver left) → (c : Cut at_once p p' w w' lines whole e)
    → AnswersLines from left old w' d c.after (Err (Write (saturating_count (some_count (st.texts ++ c.texts))) (saturating_count c.n)))
cut_lines from left old w w' d p p' came read kept lines whole ended at_once e st lines_are at_end c =
    let before : List (List ℕ) = whole_lines read in
    let bytes : List ℕ = take c.n c.text in
    let out : concat st.texts ++ (concat c.texts ++ bytes) ≡ concat (st.texts ++ c.texts) ++ bytes =
    sym (append_assoc (concat st.texts) (concat c.texts) bytes) ∙ ap (λ (l : List ℕ). l ++ bytes) (sym (concat-append st.texts c.texts)) in
    record {
      read = came;
      out = concat (st.texts ++ c.texts) ++ bytes;
      ended = ended;
      moments = st.moments;
      reads = st.reads;
      writes = subst (Sends old w') out (sends_then old w w' (concat st.texts) (concat c.texts ++ bytes) st.writes c.sends);
      passes = st.passes;
      at_end = at_end;
      ends = record {
        front = before ++ c.front;
        line = c.line;
        back = c.behind ++ c.more;
        texts = st.texts ++ c.texts;
        prompt = prompt_more from old st.moments before st.texts c.front c.texts st.prompt;
        text = c.text;
        mid = c.mid;
        n = c.n;
        split = lines_are ∙ ap (λ (l : List (List ℕ)). before ++ l) c.split ∙ sym (append_assoc before c.front (c.line ∷ (c.behind ++ c.more)));
        no_quit = has_quit-append before c.front st.no_quit ∙ c.no_quit;
        turns = turns_append d before st.texts p c.front c.texts c.mid st.turns c.turns;
        turn = c.turn;
        count = refl;
        part_is = refl;
        within = c.within;
        written = refl;
      };
    }

reports_write : (e : LineEnd) (counted part : ℕ) → e ≡ Write counted part → without_counts (Err e) ≡ Err failures.Write
reports_write e counted part is = ap (λ (x : LineEnd). without_counts (Err x)) is

-- a write failed
pub cut : (from left : Incoming) (old w w' : Outgoing) (d p p' : FrontState) (came read kept : List ℕ) (lines : List (List ℕ)) (whole : ℕ) (ended at_once : Bool) (e : LineEnd)
    → LoopInvariant from left old w d p came read kept whole → lines_of ended came ≡ whole_lines read ++ lines → (ended ≡ true → IsOver left) → Cut at_once p p' w w' lines whole e
    → AnswersBy at_once from left old w' d p' (Err e)
cut from left old w w' d p p' came read kept lines whole ended at_once e st lines_are at_end c =
    let before : List (List ℕ) = whole_lines read in
    let answers = cut_lines from left old w w' d p p' came read kept lines whole ended at_once e st lines_are at_end c in
    record {
      ending = Err (Write (saturating_count (some_count (st.texts ++ c.texts))) (saturating_count c.n));
      last = c.after;
      behind = c.behind;
      texts = c.texts_behind;
      answers = answers;
      reported = reports_write e c.is_write.0 c.is_write.1 c.is_write.2;
      rest = c.rest;
      came = (
        before ++ (c.front ++ c.line ∷ []),
        c.more,
        lines_are ∙ ap (λ (l : List (List ℕ)). before ++ l) (c.split ∙ sym (append_assoc c.front (c.line ∷ []) (c.behind ++ c.more)))
            ∙ sym (append_assoc before (c.front ++ c.line ∷ []) (c.behind ++ c.more)),
      );
      nothing_behind = λ (no : true ≡ false). absurd (false≢true (sym no));
      exact = λ once.
          let counts = (c.exact once).1 (some_count st.texts) st.count ∙ ap (λ (k : ℕ). Write (saturating_count k) (saturating_count c.n)) (sym (some_count-append st.texts c.texts)) in
          subst (λ (x : LineEnd). AnswersLines from left old w' d p' (Err x)) (sym counts)
          (subst (λ (x : FrontState). AnswersLines from left old w' d x (Err (Write (saturating_count (some_count (st.texts ++ c.texts))) (saturating_count c.n)))) (sym (c.exact once).0) answers);
    }

-- whether a read or a write failed, according to the result without the counts
reads_of : Result End StreamFailure → Bool
reads_of (Err failures.Read) = true
reads_of _ = false

writes_of : Result End StreamFailure → Bool
writes_of (Err failures.Write) = true
writes_of _ = false

reads_same : (ending : Result End LineEnd) → is_read_failure ending ≡ reads_of (without_counts ending)
unfolding reads_of
reads_same (Ok end) = refl
reads_same (Err Read) = refl
reads_same (Err (Write whole part)) = refl

writes_same : (ending : Result End LineEnd) → is_write_failure ending ≡ writes_of (without_counts ending)
unfolding writes_of
writes_same (Ok end) = refl
writes_same (Err Read) = refl
writes_same (Err (Write whole part)) = refl

-- the replies were written together, so the counts aren't reported
pub together : (at_once : Bool) (from left : Incoming) (old new : Outgoing) (d d' : FrontState) (result : Result End LineEnd) (uncounted : Result End StreamFailure) → AnswersBy at_once from left old new d d' result
    → left.failed ≡ is_read_failure result → new.failed ≡ is_write_failure result → without_counts result ≡ uncounted → AnswersTogether from left old new d d' uncounted
together at_once from left old new d d' result uncounted a reading writing is = record {
  ending = a.ending;
  last = a.last;
  behind = a.behind;
  texts = a.texts;
  answers = a.answers;
  reported = sym is ∙ a.reported;
  rest = a.rest;
  came = a.came;
  nothing_behind = a.nothing_behind;
  reader = reading ∙ reads_same result ∙ ap reads_of a.reported ∙ sym (reads_same a.ending);
  writer = writing ∙ writes_same result ∙ ap writes_of a.reported ∙ sym (writes_same a.ending);
}

-- no write failed
pub uncut : (at_once : Bool) (from left : Incoming) (old new : Outgoing) (d d' : FrontState) (result : Result End LineEnd) → AnswersLines from left old new d d' result → AnswersBy at_once from left old new d d' result
uncut at_once from left old new d d' result answers = record {
  ending = result;
  last = d';
  behind = [];
  texts = [];
  answers = answers;
  reported = refl;
  rest = refl;
  came = (lines_of answers.ended answers.read, [], sym (append-nil (lines_of answers.ended answers.read)));
  nothing_behind = λ _. refl;
  exact = λ _. answers;
}

-- at the end of the text, what follows the last line feed is a line
last_line : (read line : List ℕ) → line ≡ take 257 (unfinished_line read) → 0 < length line → lines_of true read ≡ whole_lines read ++ unfinished_line read ∷ []
last_line read line kept some =
    let len : length line ≡ min 257 (length (unfinished_line read)) = ap length kept ∙ length-take 257 (unfinished_line read) in
    lines_at_end read ∙ ap (λ t. whole_lines read ++ cond t (unfinished_line read ∷ []) []) (lt-ltb 0 (length (unfinished_line read)) (omega (arith, len, some)))

no_line : (read line : List ℕ) → line ≡ take 257 (unfinished_line read) → length line ≡ 0 → lines_of true read ≡ whole_lines read
no_line read line kept none =
    let len : length line ≡ min 257 (length (unfinished_line read)) = ap length kept ∙ length-take 257 (unfinished_line read) in
    lines_at_end read ∙ ap (λ t. whole_lines read ++ cond t (unfinished_line read ∷ []) []) (le-ltb 0 (length (unfinished_line read)) (omega (arith, len, none))) ∙ append-nil (whole_lines read)

-- the reader is at its end, and no line is left
pub closed : (r r' : Incoming) (w w' : Outgoing) (p p' : FrontState) (read line : List ℕ) (whole : ℕ) → LoopInvariant r r' w w' p p' read read line whole → IsOver r' → length line ≡ 0
    → AnswersLines r r' w w' p p' (Ok Closed)
closed r r' w w' p p' read line whole st at_end none = record {
  read = read;
  out = concat st.texts;
  ended = true;
  moments = st.moments;
  reads = st.reads;
  writes = st.writes;
  passes = st.passes;
  at_end = λ _. at_end;
  ends = (
    refl,
    subst (λ ls. Answered (ArePrompt r w st.moments) p ls (concat st.texts) p') (sym (no_line read line st.kept none))
        (record { texts = st.texts; prompt = st.prompt; turns = st.turns; no_quit = st.no_quit; written = refl }),
  );
}

-- a read failed, or the loop gave up
pub stopped : (r r' r'' : Incoming) (w w' : Outgoing) (p p' : FrontState) (read line : List ℕ) (whole : ℕ) → LoopInvariant r r' w w' p p' read read line whole → StaysOpen r r' → Receives r' r'' []
    → (moments : List Moment) → ReadsAt r' r'' w' moments → AnswersLines r r'' w w' p p' (Err Read)
stopped r r' r'' w w' p p' read line whole st unended none moments now = record {
  read = read;
  out = concat st.texts;
  ended = false;
  moments = st.moments ++ moments;
  reads = subst (Receives r r'') (append-nil read) (receives_then r r' r'' read [] st.reads none);
  writes = st.writes;
  passes = passes_more r r' r'' st.moments moments st.passes now.0;
  at_end = λ (h : false ≡ true). cc;
  ends = (refl, record { texts = st.texts; prompt = prompt_still r r' w w' p p' read line whole st unended moments now.1; turns = st.turns; no_quit = st.no_quit; written = refl });
}

-- no more reads were made
pub none_now : (r r' : Incoming) (w : Outgoing) → Passes r r' [] → ReadsAt r r' w []
none_now r r' w passes = (passes, All-nil (IsNow r w))

-- the reader is at its end, and the last line isn't `quit`
pub closed_after : (from left : Incoming) (old w w' : Outgoing) (d p p' : FrontState) (read line : List ℕ) (whole whole' : ℕ) → LoopInvariant from left old w d p read read line whole → IsOver left → 0 < length line
    → Batch p p' w w' [] (unfinished_line read ∷ []) whole whole' → has_quit (unfinished_line read ∷ []) ≡ false → AnswersLines from left old w' d p' (Ok Closed)
closed_after from left old w w' d p p' read line whole whole' st at_end some b goes =
    let before : List (List ℕ) = whole_lines read in
    let last : List (List ℕ) = unfinished_line read ∷ [] in
    record {
      read = read;
      out = concat (st.texts ++ b.texts);
      ended = true;
      moments = st.moments;
      reads = st.reads;
      writes = written_more old w w' st.texts b.texts b.out st.writes b.sends b.split;
      passes = st.passes;
      at_end = λ _. at_end;
      ends = (
        refl,
        subst (λ ls. Answered (ArePrompt from old st.moments) d ls (concat (st.texts ++ b.texts)) p') (sym (last_line read line st.kept some)) (record {
          texts = st.texts ++ b.texts;
          prompt = prompt_more from old st.moments before st.texts last b.texts st.prompt;
          turns = turns_append d before st.texts p last b.texts p' st.turns b.turns;
          no_quit = has_quit-append before last st.no_quit ∙ goes;
          written = refl;
        }),
      );
    }

-- the last line may be `quit`
pub last_closes : (at_once quits : Bool) (from left : Incoming) (old w w' : Outgoing) (d p p' : FrontState) (read line : List ℕ) (whole whole' : ℕ) → LoopInvariant from left old w d p read read line whole → IsOver left
    → 0 < length line → RunsLines at_once p p' w w' [] (unfinished_line read ∷ []) whole whole' (Ok quits) → quits ≡ false → AnswersBy at_once from left old w' d p' (Ok Closed)
last_closes at_once false from left old w w' d p p' read line whole whole' st at_end some runs goes =
    uncut at_once from left old w' d p' (Ok Closed) (closed_after from left old w w' d p p' read line whole whole' st at_end some runs.0 runs.1)
last_closes at_once true from left old w w' d p p' read line whole whole' st at_end some runs goes = absurd (false≢true (sym goes))

pub last_quits : (at_once quits : Bool) (from left : Incoming) (old w w' : Outgoing) (d p p' : FrontState) (read line : List ℕ) (whole whole' : ℕ) → LoopInvariant from left old w d p read read line whole → IsOver left
    → 0 < length line → RunsLines at_once p p' w w' [] (unfinished_line read ∷ []) whole whole' (Ok quits) → quits ≡ true → AnswersBy at_once from left old w' d p' (Ok Quit)
last_quits at_once true from left old w w' d p p' read line whole whole' st at_end some (front, quit, back, split, b, goes, stops) is =
    uncut at_once from left old w' d p' (Ok Quit)
    (quits from left old w w' d p p' read read line front quit back whole whole' true st (last_line read line st.kept some ∙ ap (λ (l : List (List ℕ)). whole_lines read ++ l) split) (λ _. at_end) b goes stops)
last_quits at_once false from left old w w' d p p' read line whole whole' st at_end some runs is = absurd (false≢true is)

-- a write of the last line's text failed
pub last_cut : (at_once : Bool) (from left : Incoming) (old w w' : Outgoing) (d p p' : FrontState) (read line : List ℕ) (whole : ℕ) (e : LineEnd) → LoopInvariant from left old w d p read read line whole → IsOver left
    → 0 < length line → Cut at_once p p' w w' (unfinished_line read ∷ []) whole e → AnswersBy at_once from left old w' d p' (Err e)
last_cut at_once from left old w w' d p p' read line whole e st at_end some c =
    cut from left old w w' d p p' read read line (unfinished_line read ∷ []) whole true at_once e st (last_line read line st.kept some) (λ _. at_end) c

-- some bytes came, and the lines that end in them were answered, up to a `quit`
pub bytes_go_on : (at_once quits : Bool) (from left : Incoming) (old w w' : Outgoing) (d p p' : FrontState) (read bytes line line' : List ℕ) (whole whole' : ℕ) → LoopInvariant from left old w d p (read ++ bytes) read line whole
    → AnswersBytes at_once read bytes p p' w w' [] line' whole whole' (Ok quits) → quits ≡ false → LoopInvariant from left old w' d p' (read ++ bytes) (read ++ bytes) line' whole'
bytes_go_on at_once false from left old w w' d p p' read bytes line line' whole whole' st a goes =
    goes_on from left old w w' d p p' (read ++ bytes) read line line' a.lines whole whole' st a.lines_are a.runs.0 a.runs.1 (a.kept refl)
bytes_go_on at_once true from left old w w' d p p' read bytes line line' whole whole' st a goes = absurd (false≢true (sym goes))

pub bytes_quit : (at_once quits : Bool) (from left : Incoming) (old w w' : Outgoing) (d p p' : FrontState) (read bytes line line' : List ℕ) (whole whole' : ℕ) → LoopInvariant from left old w d p (read ++ bytes) read line whole
    → AnswersBytes at_once read bytes p p' w w' [] line' whole whole' (Ok quits) → quits ≡ true → AnswersBy at_once from left old w' d p' (Ok Quit)
bytes_quit at_once true from left old w w' d p p' read bytes line line' whole whole' st a is =
    let (front, quit, back, split, b, goes, stops) = a.runs in
    uncut at_once from left old w' d p' (Ok Quit)
    (quits from left old w w' d p p' (read ++ bytes) read line front quit back whole whole' false st (a.lines_are ∙ ap (λ (l : List (List ℕ)). whole_lines read ++ l) split) (λ (h : false ≡ true). cc) b goes stops)
bytes_quit at_once false from left old w w' d p p' read bytes line line' whole whole' st a is = absurd (false≢true is)

-- a write failed after some bytes came
pub bytes_cut : (at_once : Bool) (from left : Incoming) (old w w' : Outgoing) (d p p' : FrontState) (read bytes line line' : List ℕ) (whole whole' : ℕ) (e : LineEnd) → LoopInvariant from left old w d p (read ++ bytes) read line whole
    → AnswersBytes at_once read bytes p p' w w' [] line' whole whole' (Err e) → AnswersBy at_once from left old w' d p' (Err e)
bytes_cut at_once from left old w w' d p p' read bytes line line' whole whole' e st a =
    cut from left old w w' d p p' (read ++ bytes) read line a.lines whole false at_once e st a.lines_are (λ (h : false ≡ true). cc) a.runs

-- before the first read
pub invariant_at_first : (r : Incoming) (w : Outgoing) (p : FrontState) (line : List ℕ) → line ≡ [] → LoopInvariant r r w w p p [] [] line 0
invariant_at_first r w p line e = record {
  texts = [];
  moments = [];
  reads = receives_none r;
  writes = sends_none w;
  passes = sym (append-nil r.moments);
  prompt = All-nil (IsPrompt r w [] []);
  turns = refl;
  no_quit = refl;
  kept = e;
  count = refl;
}

-- after a read that returned some bytes
pub came_more : (r r' r'' : Incoming) (w w' : Outgoing) (p p' : FrontState) (read line bytes : List ℕ) (whole : ℕ) → LoopInvariant r r' w w' p p' read read line whole → StaysOpen r r' → Receives r' r'' bytes
    → (moments : List Moment) → ReadsAt r' r'' w' moments → LoopInvariant r r'' w w' p p' (read ++ bytes) read line whole
came_more r r' r'' w w' p p' read line bytes whole st unended more moments now = record {
  texts = st.texts;
  moments = st.moments ++ moments;
  reads = receives_then r r' r'' read bytes st.reads more;
  writes = st.writes;
  passes = passes_more r r' r'' st.moments moments st.passes now.0;
  prompt = prompt_still r r' w w' p p' read line whole st unended moments now.1;
  turns = st.turns;
  no_quit = st.no_quit;
  kept = st.kept;
  count = st.count;
}

-- the kept line may be replaced by an equal one
pub relined : (r r' : Incoming) (w w' : Outgoing) (p p' : FrontState) (came read line slice : List ℕ) (whole : ℕ) → LoopInvariant r r' w w' p p' came read line whole → slice ≡ line
    → LoopInvariant r r' w w' p p' came read slice whole
relined r r' w w' p p' came read line slice whole st e = subst (λ l. LoopInvariant r r' w w' p p' came read l whole) (sym e) st

-- after a read that returned no bytes
pub last_invariant : (r r' r'' : Incoming) (w w' : Outgoing) (p p' : FrontState) (read line slice buf : List ℕ) (whole n : ℕ) → LoopInvariant r r' w w' p p' read read line whole → StaysOpen r r'
    → Receives r' r'' (take n buf) → (moments : List Moment) → ReadsAt r' r'' w' moments → n ≡ 0 → slice ≡ line → LoopInvariant r r'' w w' p p' read read slice whole
last_invariant r r' r'' w w' p p' read line slice buf whole n st unended more moments now none e =
    relined r r'' w w' p p' read read line slice whole
    (subst (λ came. LoopInvariant r r'' w w' p p' came read line whole) (append-nil read)
    (came_more r r' r'' w w' p p' read line [] whole st unended (subst (λ m. Receives r' r'' (take m buf)) none more) moments now)) e

-- the last line isn't empty
pub some_left : (items slice : List ℕ) (r : Bool) → r ≡ nat_eq (length items) 0 → r ≡ false → slice ≡ items → 0 < length slice
some_left items slice r tested false_r same =
    let differs = eqb-false (length items) 0 (sym tested ∙ false_r) in
    let len : length slice ≡ length items = ap length same in
    omega (arith, differs, len)
