-- The bytes of one read, processed one by one.
use Rattle.std.proofs.Common.{◌≡◌, ℕ, suc, ◌+◌, ◌<◌, ◌≤◌, Bool, ◌||◌, true, false, Ok, Err, List, [], ◌∷◌, ◌++◌, length, take, drop, refl, sym, ap, ◌∙◌, subst, nat_eq, append_assoc, append-nil, get_or, take-append-drop, take_all, drop-cons}
use Rattle.std.proofs.lemmas.Bool.{false≢true}
use Rattle.std.proofs.lemmas.List.{take_more}
use Rattle.nr_text.specs.Streams.{Outgoing, WritesAll}
use Rattle.nr_command.specs.Command.{meaning_of}
use Rattle.nr_front.specs.FrontState.{FrontState}
use Rattle.nr_lines.specs.Batch.{AnswersBytes, Batch, Cut, FailsToPutOut, RunsLines, StopsPrinting, Turned}
use Rattle.nr_lines.specs.Engine.{has_quit}
use Rattle.nr_lines.specs.LoopInvariant.{unfinished_line}
use Rattle.nr_lines.specs.Outbox.{held_bytes, is_at_once}
use Rattle.nr_lines.specs.Turn.{is_quit}
use Rattle.nr_lines.specs.Auxiliary.Engine.{whole_lines}
use Rattle.nr_lines.specs.declared.ending.LineEnd.{LineEnd}
use Rattle.nr_lines.specs.declared.outbox.Outbox.{Outbox}
use Rattle.nr_lines.specs.declared.outbox.Outbox.TheVariants.{AtOnce, Held}
use Rattle.nr_lines.proofs.BatchLemmas.{all_out, cut_held, cut_printing, lines_more, no_lines, none_before, none_before_last}
use Rattle.nr_lines.proofs.LineLemmas.{kept_more, meaning_of-take, unfinished_line-byte, unfinished_line-feed, whole_lines-byte, whole_lines-feed}
use Rattle.nr_lines.proofs.TurnLemmas.{has_quit-append, turn_asks}

-- After the bytes of earlier reads, these bytes were processed. The lines that end in them were
-- answered, and none of them is `quit`.
pub record GoneOver (before read : List ℕ) (d d' : FrontState) (old new : Outgoing) (held line : List ℕ) (whole whole' : ℕ) : Type 0 where
  pub lines : List (List ℕ)
  pub lines_are : whole_lines read ≡ whole_lines before ++ lines
  pub batch : Batch d d' old new held lines whole whole'
  pub no_quit : has_quit lines ≡ false
  pub kept : line ≡ take 257 (unfinished_line read)

-- if each reply is written immediately, no bytes are held
pub none_held : (outbox : Outbox) → is_at_once outbox ≡ true → held_bytes outbox ≡ []
none_held AtOnce once = refl
none_held (Held page) once = absurd (false≢true once)

-- before the first byte is processed
pub none_over : (before : List ℕ) (d : FrontState) (w : Outgoing) (held line : List ℕ) (whole : ℕ) → held ≡ [] → line ≡ take 257 (unfinished_line before) → GoneOver before (before ++ []) d d w w held line whole whole
none_over before d w held line whole none kept =
    let same : before ++ [] ≡ before = append-nil before in
    record {
      lines = [];
      lines_are = ap whole_lines same ∙ sym (append-nil (whole_lines before));
      batch = subst (λ (h : List ℕ). Batch d d w w h [] whole whole) (sym none) (no_lines d w whole);
      no_quit = refl;
      kept = kept ∙ ap (λ (l : List ℕ). take 257 (unfinished_line l)) (sym same);
    }

-- after a byte that isn't a line feed
pub byte_more : (before read : List ℕ) (d d' : FrontState) (old w : Outgoing) (held line line' : List ℕ) (whole whole' b : ℕ) → GoneOver before read d d' old w held line whole whole' → nat_eq b 10 ≡ false
    → line' ≡ take 257 (line ++ b ∷ []) → GoneOver before (read ++ b ∷ []) d d' old w held line' whole whole'
byte_more before read d d' old w held line line' whole whole' b g goes e = record {
  lines = g.lines;
  lines_are = whole_lines-byte read b goes ∙ g.lines_are;
  batch = g.batch;
  no_quit = g.no_quit;
  kept = e ∙ ap (λ l. take 257 (l ++ b ∷ [])) g.kept ∙ kept_more (unfinished_line read) b ∙ ap (take 257) (sym (unfinished_line-byte read b goes));
}

-- the kept bytes of a line have the meaning of the whole line
asks : (line rest : List ℕ) → line ≡ take 257 rest → meaning_of line ≡ meaning_of rest
asks line rest kept = ap meaning_of kept ∙ meaning_of-take rest

-- the whole lines of a text that consists of the bytes read so far, a line feed and more bytes
lines_with : (before read : List ℕ) (lines : List (List ℕ)) (b : ℕ) (bs : List ℕ) → nat_eq b 10 ≡ true → whole_lines read ≡ whole_lines before ++ lines
    → whole_lines (read ++ b ∷ bs) ≡ whole_lines before ++ (lines ++ unfinished_line read ∷ whole_lines bs)
lines_with before read lines b bs feed lines_are =
    whole_lines-feed read b bs feed ∙ ap (λ (l : List (List ℕ)). l ++ unfinished_line read ∷ whole_lines bs) lines_are ∙ append_assoc (whole_lines before) lines (unfinished_line read ∷ whole_lines bs)

-- after the kept line was answered
batch_more : (d p p' : FrontState) (old w w' : Outgoing) (box box' : Outbox) (lines : List (List ℕ)) (line rest : List ℕ) (whole mid whole' : ℕ) → Batch d p old w (held_bytes box) lines whole mid
    → line ≡ take 257 rest → Turned p line p' w box w' box' mid whole' → Batch d p' old w' (held_bytes box') (lines ++ rest ∷ []) whole whole'
batch_more d p p' old w w' box box' lines line rest whole mid whole' b kept t =
    lines_more d p p' old w w' (held_bytes box) (held_bytes box') lines rest t.text whole mid whole' b (turn_asks line rest t.text p p' (asks line rest kept) t.turn) t.goes t.count

-- after a line feed that ends a line other than `quit`
pub line_more : (before read : List ℕ) (d p p' : FrontState) (old w w' : Outgoing) (box box' : Outbox) (line line' : List ℕ) (whole mid whole' b : ℕ)
    → GoneOver before read d p old w (held_bytes box) line whole mid → nat_eq b 10 ≡ true → is_quit (meaning_of line) ≡ false → Turned p line p' w box w' box' mid whole' → line' ≡ []
    → GoneOver before (read ++ b ∷ []) d p' old w' (held_bytes box') line' whole whole'
line_more before read d p p' old w w' box box' line line' whole mid whole' b g feed goes turned cleared =
    let rest : List ℕ = unfinished_line read in
    let one : has_quit (rest ∷ []) ≡ false = ap (λ (a : Bool). a || false) (ap is_quit (sym (asks line rest g.kept)) ∙ goes) in
    record {
      lines = g.lines ++ rest ∷ [];
      lines_are = lines_with before read g.lines b [] feed g.lines_are;
      batch = batch_more d p p' old w w' box box' g.lines line rest whole mid whole' g.batch g.kept turned;
      no_quit = has_quit-append g.lines (rest ∷ []) g.no_quit ∙ one;
      kept = cleared ∙ ap (take 257) (sym (unfinished_line-feed read b feed));
    }

-- the kept line may be replaced by an equal one
pub relined_over : (before read : List ℕ) (d d' : FrontState) (old w : Outgoing) (held line slice : List ℕ) (whole whole' : ℕ) → GoneOver before read d d' old w held line whole whole' → slice ≡ line
    → GoneOver before read d d' old w held slice whole whole'
relined_over before read d d' old w held line slice whole whole' g same = subst (λ (l : List ℕ). GoneOver before read d d' old w held l whole whole') (sym same) g

-- after all bytes were processed
pub all_over : (at_once : Bool) (before bytes : List ℕ) (i : ℕ) (d d' : FrontState) (old w : Outgoing) (held line : List ℕ) (whole whole' : ℕ)
    → GoneOver before (before ++ take i bytes) d d' old w held line whole whole' → length bytes ≤ i → AnswersBytes at_once before bytes d d' old w held line whole whole' (Ok false)
all_over at_once before bytes i d d' old w held line whole whole' g all =
    let same : before ++ take i bytes ≡ before ++ bytes = ap (λ (l : List ℕ). before ++ l) (take_all i bytes all) in
    record {
      lines = g.lines;
      lines_are = ap whole_lines (sym same) ∙ g.lines_are;
      runs = (g.batch, g.no_quit);
      kept = λ _. g.kept ∙ ap (λ (l : List ℕ). take 257 (unfinished_line l)) same;
    }

-- a line is `quit`
pub line_quits : (at_once : Bool) (before bytes read bs : List ℕ) (d p p' : FrontState) (old w w' : Outgoing) (box box' : Outbox) (line line' : List ℕ) (whole mid whole' b : ℕ)
    → GoneOver before read d p old w (held_bytes box) line whole mid → before ++ bytes ≡ read ++ b ∷ bs → nat_eq b 10 ≡ true → is_quit (meaning_of line) ≡ true → Turned p line p' w box w' box' mid whole'
    → AnswersBytes at_once before bytes d p' old w' (held_bytes box') line' whole whole' (Ok true)
line_quits at_once before bytes read bs d p p' old w w' box box' line line' whole mid whole' b g there feed stops turned =
    let rest : List ℕ = unfinished_line read in
    record {
      lines = g.lines ++ rest ∷ whole_lines bs;
      lines_are = ap whole_lines there ∙ lines_with before read g.lines b bs feed g.lines_are;
      runs = (
        g.lines,
        rest,
        whole_lines bs,
        refl,
        batch_more d p p' old w w' box box' g.lines line rest whole mid whole' g.batch g.kept turned,
        g.no_quit,
        ap is_quit (sym (asks line rest g.kept)) ∙ stops,
      );
      kept = λ (e : Ok true ≡ Ok false). cc;
    }

-- a write failed while the text of a line was printed
pub line_cut : (before bytes read bs : List ℕ) (d p p' : FrontState) (old w w' : Outgoing) (box : Outbox) (held line line' : List ℕ) (whole mid whole' b : ℕ) (at_once : Bool) (e : LineEnd)
    → GoneOver before read d p old w (held_bytes box) line whole mid → is_at_once box ≡ at_once → before ++ bytes ≡ read ++ b ∷ bs → nat_eq b 10 ≡ true → StopsPrinting p line p' w box w' mid e
    → AnswersBytes at_once before bytes d p' old w' held line' whole whole' (Err e)
line_cut before bytes read bs d p p' old w w' box held line line' whole mid whole' b at_once e g same there feed s =
    let rest : List ℕ = unfinished_line read in
    let lines : List (List ℕ) = g.lines ++ rest ∷ whole_lines bs in
    record {
      lines = lines;
      lines_are = ap whole_lines there ∙ lines_with before read g.lines b bs feed g.lines_are;
      runs =
          cut_printing d p p' old w w' (held_bytes box) g.lines (whole_lines bs) lines rest s.text whole mid s.part e at_once
          (λ once. none_held box (same ∙ once)) g.batch g.no_quit (turn_asks line rest s.text p p' (asks line rest g.kept) s.turn) s.cut s.ending refl;
      kept = λ (is : Err e ≡ Ok false). cc;
    }

-- after the held bytes of these lines were written
pub runs_out : (at_once : Bool) (d d' : FrontState) (old w w' : Outgoing) (held : List ℕ) (lines : List (List ℕ)) (whole whole' : ℕ) (quits : Bool)
    → RunsLines at_once d d' old w held lines whole whole' (Ok quits) → WritesAll w w' held → RunsLines at_once d d' old w' [] lines whole whole' (Ok quits)
runs_out at_once d d' old w w' held lines whole whole' false runs goes = (all_out d d' old w w' held lines whole whole' runs.0 goes, runs.1)
runs_out at_once d d' old w w' held lines whole whole' true (front, line, back, split, b, none, quit) goes =
    (front, line, back, split, all_out d d' old w w' held (front ++ line ∷ []) whole whole' b goes, none, quit)

-- a write of the held bytes failed
pub runs_cut : (at_once : Bool) (d d' : FrontState) (old w w' : Outgoing) (held : List ℕ) (lines : List (List ℕ)) (whole whole' : ℕ) (quits : Bool) (e : LineEnd) → (at_once ≡ true → held ≡ [])
    → RunsLines at_once d d' old w held lines whole whole' (Ok quits) → FailsToPutOut w w' held whole' e → Cut at_once d d' old w' lines whole e
runs_cut at_once d d' old w w' held lines whole whole' false e none runs fails =
    cut_held d d' old w w' held lines [] lines whole whole' whole' e at_once none runs.0 (none_before lines runs.1) fails (sym (append-nil lines))
runs_cut at_once d d' old w w' held lines whole whole' true e none (front, line, back, split, b, goes, quit) fails =
    cut_held d d' old w w' held (front ++ line ∷ []) back lines whole whole' whole' e at_once none b (none_before_last front line goes) fails (split ∙ sym (append_assoc front (line ∷ []) back))

-- once the lines completed by one read have run, the held bytes are written, or writing them fails
pub bytes_out : (at_once : Bool) (before bytes : List ℕ) (d d' : FrontState) (old w w' : Outgoing) (held line : List ℕ) (whole whole' : ℕ) (quits : Bool)
    → AnswersBytes at_once before bytes d d' old w held line whole whole' (Ok quits) → WritesAll w w' held → AnswersBytes at_once before bytes d d' old w' [] line whole whole' (Ok quits)
bytes_out at_once before bytes d d' old w w' held line whole whole' quits a goes =
    record { lines = a.lines; lines_are = a.lines_are; runs = runs_out at_once d d' old w w' held a.lines whole whole' quits a.runs goes; kept = a.kept }

pub bytes_cut : (at_once : Bool) (before bytes : List ℕ) (d d' : FrontState) (old w w' : Outgoing) (held line : List ℕ) (whole whole' : ℕ) (quits : Bool) (e : LineEnd) → (at_once ≡ true → held ≡ [])
    → AnswersBytes at_once before bytes d d' old w held line whole whole' (Ok quits) → FailsToPutOut w w' held whole' e → AnswersBytes at_once before bytes d d' old w' [] line whole whole' (Err e)
bytes_cut at_once before bytes d d' old w w' held line whole whole' quits e none a fails =
    record { lines = a.lines; lines_are = a.lines_are; runs = runs_cut at_once d d' old w w' held a.lines whole whole' quits e none a.runs fails; kept = λ (is : Err e ≡ Ok false). cc }

-- a write failed before, so the held bytes don't matter
pub bytes_failed : (at_once : Bool) (before bytes : List ℕ) (d d' : FrontState) (old w : Outgoing) (held line : List ℕ) (whole whole' : ℕ) (e : LineEnd)
    → AnswersBytes at_once before bytes d d' old w held line whole whole' (Err e) → AnswersBytes at_once before bytes d d' old w [] line whole whole' (Err e)
bytes_failed at_once before bytes d d' old w held line whole whole' e a = record { lines = a.lines; lines_are = a.lines_are; runs = a.runs; kept = a.kept }

one_by : (at_once quits : Bool) (p p' : FrontState) (w w' : Outgoing) (held rest : List ℕ) (whole whole' : ℕ) → Batch p p' w w' held (rest ∷ []) whole whole' → is_quit (meaning_of rest) ≡ quits
    → RunsLines at_once p p' w w' held (rest ∷ []) whole whole' (Ok quits)
one_by at_once true p p' w w' held rest whole whole' b quit = ([], rest, [], refl, b, refl, quit)
one_by at_once false p p' w w' held rest whole whole' b quit = (b, ap (λ (a : Bool). a || false) quit)

-- one line was answered
pub one_runs : (at_once quits : Bool) (p p' : FrontState) (w w' : Outgoing) (box box' : Outbox) (line rest : List ℕ) (whole whole' : ℕ) → held_bytes box ≡ [] → line ≡ take 257 rest
    → quits ≡ is_quit (meaning_of line) → Turned p line p' w box w' box' whole whole' → RunsLines at_once p p' w w' (held_bytes box') (rest ∷ []) whole whole' (Ok quits)
one_runs at_once quits p p' w w' box box' line rest whole whole' none kept is turned =
    let first = subst (λ (h : List ℕ). Batch p p w w h [] whole whole) (sym none) (no_lines p w whole) in
    let b : Batch p p' w w' (held_bytes box') (rest ∷ []) whole whole' = batch_more p p p' w w w' box box' [] line rest whole whole whole' first kept turned in
    let quit : is_quit (meaning_of rest) ≡ quits = ap is_quit (sym (asks line rest kept)) ∙ sym is in
    one_by at_once quits p p' w w' (held_bytes box') rest whole whole' b quit

-- a write failed while the text of one line was printed
pub one_cut : (p p' : FrontState) (w w' : Outgoing) (box : Outbox) (line rest : List ℕ) (whole : ℕ) (e : LineEnd) → held_bytes box ≡ [] → line ≡ take 257 rest
    → StopsPrinting p line p' w box w' whole e → Cut (is_at_once box) p p' w w' (rest ∷ []) whole e
one_cut p p' w w' box line rest whole e none kept s =
    let first = subst (λ (h : List ℕ). Batch p p w w h [] whole whole) (sym none) (no_lines p w whole) in
    cut_printing p p p' w w w' (held_bytes box) [] [] (rest ∷ []) rest s.text whole whole s.part e (is_at_once box)
    (none_held box) first refl (turn_asks line rest s.text p p' (asks line rest kept) s.turn) s.cut s.ending refl

-- the bytes that came, split at byte i
pub came_at : (before bytes : List ℕ) (i : ℕ) → i < length bytes → before ++ bytes ≡ (before ++ take i bytes) ++ get_or bytes i 0 ∷ drop (suc i) bytes
came_at before bytes i h =
    ap (λ bs. before ++ bs) (sym (take-append-drop i bytes) ∙ ap (λ bs. take i bytes ++ bs) (drop-cons bytes i 0 h)) ∙ sym (append_assoc before (take i bytes) (get_or bytes i 0 ∷ drop (suc i) bytes))

-- the bytes before byte i, with byte i appended
pub read_at : (before bytes : List ℕ) (i : ℕ) → i < length bytes → (before ++ take i bytes) ++ get_or bytes i 0 ∷ [] ≡ before ++ take (i + 1) bytes
read_at before bytes i h = append_assoc before (take i bytes) (get_or bytes i 0 ∷ []) ∙ ap (λ bs. before ++ bs) (sym (take_more bytes i 0 h))
