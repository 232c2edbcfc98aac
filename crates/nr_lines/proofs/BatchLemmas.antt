-- The lines that end in one read: their texts, and the place at which a write failed.
use Rattle.std.proofs.Common.{◌≡◌, ℕ, ◌+◌, ◌<◌, ◌≤◌, Bool, ◌||◌, true, false, List, [], ◌∷◌, ◌++◌, arith, length, take, drop, refl, sym, ap, ◌∙◌, subst, nat_lt, append_assoc, append-nil, length-append, length-drop, take-append-drop}
use Rattle.std.proofs.lemmas.List.{take-append-le, take_at, drop_at, drop-append-le}
use Rattle.std.proofs.lemmas.Bool.{ltb-false, ltb-true, false≢true}
use Rattle.std.specs.List.{concat}
use Rattle.nr_text.specs.Streams.{Outgoing, Sends, WritesAll, saturating_count}
use Rattle.nr_text.proofs.StreamLemmas.{sends_none, sends_then}
use Rattle.nr_command.specs.Command.{meaning_of}
use Rattle.nr_front.specs.FrontState.{FrontState}
use Rattle.nr_lines.specs.Engine.{has_quit}
use Rattle.nr_lines.specs.Turn.{is_quit}
use Rattle.nr_lines.specs.Auxiliary.Engine.{Turns, some_count}
use Rattle.nr_lines.specs.Auxiliary.Turn.{Turn, count_with}
use Rattle.nr_lines.specs.Batch.{Batch, Cut, FailsToPutOut}
use Rattle.nr_lines.specs.Page.{CutBehind, GoesBehind}
use Rattle.nr_lines.specs.declared.ending.LineEnd.{LineEnd}
use Rattle.nr_lines.specs.declared.ending.LineEnd.TheVariants.{Write}
use Rattle.nr_lines.proofs.TurnLemmas.{concat_more, counted_text, some_count-append, turns_more}

-- before the first line
pub no_lines : (d : FrontState) (w : Outgoing) (whole : ℕ) → Batch d d w w [] [] whole whole
no_lines d w whole = record {
  texts = [];
  out = [];
  turns = refl;
  split = refl;
  sends = sends_none w;
  count = λ n is. omega (arith, is);
}

-- after another line was answered
pub lines_more : (d p p' : FrontState) (old w w' : Outgoing) (held still : List ℕ) (lines : List (List ℕ)) (line text : List ℕ) (whole mid whole' : ℕ) → Batch d p old w held lines whole mid → Turn p line text p'
    → GoesBehind w held text w' still → whole' ≡ count_with mid text → Batch d p' old w' still (lines ++ line ∷ []) whole whole'
lines_more d p p' old w w' held still lines line text whole mid whole' b turn goes counted = record {
  texts = b.texts ++ text ∷ [];
  out = b.out ++ goes.out;
  turns = turns_more d lines b.texts p line text p' b.turns turn;
  split =
      concat_more b.texts text ∙ ap (λ (l : List ℕ). l ++ text) b.split ∙ append_assoc b.out held text ∙ ap (λ (l : List ℕ). b.out ++ l) goes.split ∙ sym (append_assoc b.out goes.out still);
  sends = sends_then old w w' b.out goes.out b.sends goes.sends;
  count = λ n is.
      counted ∙ counted_text mid (n + some_count b.texts) text (b.count n is)
      ∙ ap saturating_count (let more = some_count-append b.texts (text ∷ []) in omega (arith, more));
}

-- after the held bytes were written
pub all_out : (d d' : FrontState) (old w w' : Outgoing) (held : List ℕ) (lines : List (List ℕ)) (whole whole' : ℕ) → Batch d d' old w held lines whole whole' → WritesAll w w' held → Batch d d' old w' [] lines whole whole'
all_out d d' old w w' held lines whole whole' b goes = record {
  texts = b.texts;
  out = b.out ++ held;
  turns = b.turns;
  split = b.split ∙ sym (append-nil (b.out ++ held));
  sends = sends_then old w w' b.out held b.sends goes.0;
  count = b.count;
}

-- true if no line before the last one is `quit`
abbrev pub NoneBefore : List (List ℕ) → Type 0
NoneBefore [] = Unit {0}
NoneBefore (line ∷ []) = Unit {0}
NoneBefore (line ∷ next ∷ more) = (is_quit (meaning_of line) ≡ false) × NoneBefore (next ∷ more)

or_false : (a b : Bool) → (a || b) ≡ false → (a ≡ false) × (b ≡ false)
or_false true b e = absurd (false≢true (sym e))
or_false false b e = (refl, e)

pub none_before_last : (front : List (List ℕ)) (line : List ℕ) → has_quit front ≡ false → NoneBefore (front ++ line ∷ [])
none_before_last [] line e = tt
none_before_last (x ∷ []) line e = ((or_false (is_quit (meaning_of x)) false e).0, tt)
none_before_last (x ∷ y ∷ more) line e = let both = or_false (is_quit (meaning_of x)) (has_quit (y ∷ more)) e in (both.0, none_before_last (y ∷ more) line both.1)

pub none_before : (lines : List (List ℕ)) → has_quit lines ≡ false → NoneBefore lines
none_before [] e = tt
none_before (x ∷ []) e = tt
none_before (x ∷ y ∷ more) e = let both = or_false (is_quit (meaning_of x)) (has_quit (y ∷ more)) e in (both.0, none_before (y ∷ more) both.1)

-- the written bytes end within this line's text, after the complete texts of the lines before it
pub record Found (d d' : FrontState) (lines : List (List ℕ)) (out : List ℕ) : Type 0 where
  pub front : List (List ℕ)
  pub line : List ℕ
  pub behind : List (List ℕ)
  pub texts : List (List ℕ)
  pub text : List ℕ
  pub texts_behind : List (List ℕ)
  pub mid : FrontState
  pub after : FrontState
  pub n : ℕ
  pub split : lines ≡ front ++ line ∷ behind
  pub turns : Turns d front texts mid
  pub turn : Turn mid line text after
  pub rest : Turns after behind texts_behind d'
  pub no_quit : has_quit front ≡ false
  pub within : n < length text
  pub written : out ≡ concat texts ++ take n text

-- the written bytes end within the first text
found_here : (d mid d' : FrontState) (line : List ℕ) (lines : List (List ℕ)) (text : List ℕ) (texts : List (List ℕ)) (out lost : List ℕ) → Turn d line text mid → Turns mid lines texts d'
    → text ++ concat texts ≡ out ++ lost → length out < length text → Found d d' (line ∷ lines) out
found_here d mid d' line lines text texts out lost turn turns e within = record {
  front = [];
  line = line;
  behind = lines;
  texts = [];
  text = text;
  texts_behind = texts;
  mid = d;
  after = mid;
  n = length out;
  split = refl;
  turns = refl;
  turn = turn;
  rest = turns;
  no_quit = refl;
  within = within;
  written = sym (take_at out lost (length out) refl) ∙ ap (take (length out)) (sym e) ∙ take-append-le (length out) text (concat texts) (omega (arith, within));
}

-- the written bytes end after the first text
found_there : (d mid d' : FrontState) (line : List ℕ) (lines : List (List ℕ)) (text out : List ℕ) → Turn d line text mid → is_quit (meaning_of line) ≡ false → take (length text) out ≡ text
    → Found mid d' lines (drop (length text) out) → Found d d' (line ∷ lines) out
found_there d mid d' line lines text out turn goes first f = record {
  front = line ∷ f.front;
  line = f.line;
  behind = f.behind;
  texts = text ∷ f.texts;
  text = f.text;
  texts_behind = f.texts_behind;
  mid = f.mid;
  after = f.after;
  n = f.n;
  split = ap (λ (l : List (List ℕ)). line ∷ l) f.split;
  turns = (mid, turn, f.turns);
  turn = f.turn;
  rest = f.rest;
  no_quit = ap (λ (q : Bool). q || has_quit f.front) goes ∙ f.no_quit;
  within = f.within;
  written =
      sym (take-append-drop (length text) out) ∙ ap (λ (l : List ℕ). l ++ drop (length text) out) first ∙ ap (λ (l : List ℕ). text ++ l) f.written
      ∙ sym (append_assoc text (concat f.texts) (take f.n f.text));
}

none_lost : (out lost : List ℕ) → [] ≡ out ++ lost → 0 < length lost → ⊥
none_lost out lost e some = let len : 0 ≡ length (out ++ lost) = ap length e in omega (arith, len, length-append out lost, some)

-- the written bytes end within the first text or after it
split_at : (F : Type 0) (text rest out lost : List ℕ) → text ++ rest ≡ out ++ lost → (length out < length text → F) → (take (length text) out ≡ text → rest ≡ drop (length text) out ++ lost → F) → F
split_at F text rest out lost e inside behind =
    elim (nat_lt (length out) (length text)) as (λ t. nat_lt (length out) (length text) ≡ t → F) [
      | true ↦ λ less. inside (ltb-true _ _ less)
      | false ↦ λ more.
          let all : length text ≤ length out = let h = ltb-false _ _ more in omega (arith, h) in
          behind
          (sym (take-append-le (length text) out lost all) ∙ ap (take (length text)) (sym e) ∙ take_at text rest (length text) refl)
          (sym (drop_at text rest (length text) refl) ∙ ap (drop (length text)) e ∙ drop-append-le (length text) out lost all)
    ] refl

pub found : (d d' : FrontState) (lines texts : List (List ℕ)) (out lost : List ℕ) → Turns d lines texts d' → concat texts ≡ out ++ lost → 0 < length lost → NoneBefore lines → Found d d' lines out
found d d' [] [] out lost turns e some none = absurd (none_lost out lost e some)
found d d' [] (text ∷ texts) out lost turns e some none = absurd turns
found d d' (line ∷ lines) [] out lost turns e some none = absurd turns
found d d' (line ∷ []) (text ∷ []) out lost (mid, turn, turns) e some none =
    split_at (Found d d' (line ∷ []) out) text [] out lost e
    (λ inside. found_here d mid d' line [] text [] out lost turn turns e inside)
    (λ first later. absurd (none_lost (drop (length text) out) lost later some))
found d d' (line ∷ []) (text ∷ next ∷ texts) out lost (mid, turn, turns) e some none = absurd turns
found d d' (line ∷ next ∷ more) (text ∷ texts) out lost (mid, turn, turns) e some (goes, none) =
    split_at (Found d d' (line ∷ next ∷ more) out) text (concat texts) out lost e
    (λ inside. found_here d mid d' line (next ∷ more) text texts out lost turn turns e inside)
    (λ first later. found_there d mid d' line (next ∷ more) text out turn goes first (found mid d' (next ∷ more) texts (drop (length text) out) lost turns later some none))

-- the place at which the written bytes end is the place at which a write failed
cut_found : (d d' : FrontState) (old w : Outgoing) (ran more lines : List (List ℕ)) (out : List ℕ) (whole counted part : ℕ) (e : LineEnd) → Found d d' ran out → lines ≡ ran ++ more → Sends old w out
    → e ≡ Write counted part → Cut false d d' old w lines whole e
cut_found d d' old w ran more lines out whole counted part e f lines_are sends ending = record {
  front = f.front;
  line = f.line;
  behind = f.behind;
  more = more;
  texts = f.texts;
  text = f.text;
  texts_behind = f.texts_behind;
  mid = f.mid;
  after = f.after;
  n = f.n;
  split = lines_are ∙ ap (λ (l : List (List ℕ)). l ++ more) f.split ∙ append_assoc f.front (f.line ∷ f.behind) more;
  turns = f.turns;
  turn = f.turn;
  rest = f.rest;
  no_quit = f.no_quit;
  within = f.within;
  sends = subst (Sends old w) f.written sends;
  is_write = (counted, part, ending);
  exact = λ (once : false ≡ true). cc;
}

-- a write of the held bytes of these lines failed
pub cut_held : (d d' : FrontState) (old w w' : Outgoing) (held : List ℕ) (ran more lines : List (List ℕ)) (whole mid whole' : ℕ) (e : LineEnd) (at_once : Bool) → (at_once ≡ true → held ≡ [])
    → Batch d d' old w held ran whole mid → NoneBefore ran → FailsToPutOut w w' held whole' e → lines ≡ ran ++ more → Cut at_once d d' old w' lines whole e
cut_held d d' old w w' held ran more lines whole mid whole' e true none b quiet fails lines_are =
    absurd (let zero : length held ≡ 0 = ap length (none refl) in let inside = fails.cut.within in omega (arith, zero, inside))
cut_held d d' old w w' held ran more lines whole mid whole' e false none b quiet fails lines_are =
    let n = fails.cut.n in
    let inside = fails.cut.within in
    let lost : 0 < length (drop n held) = omega (arith, inside, length-drop n held) in
    let all : concat b.texts ≡ (b.out ++ take n held) ++ drop n held =
    b.split ∙ ap (λ (l : List ℕ). b.out ++ l) (sym (take-append-drop n held)) ∙ sym (append_assoc b.out (take n held) (drop n held)) in
    cut_found d d' old w' ran more lines (b.out ++ take n held) whole whole' fails.part e (found d d' ran b.texts (b.out ++ take n held) (drop n held) b.turns all lost quiet) lines_are
    (sends_then old w w' b.out (take n held) b.sends fails.cut.out) fails.ending

-- each reply is written immediately, and a write of this line's text failed
cut_at_once : (d p p' : FrontState) (old w w' : Outgoing) (ran more lines : List (List ℕ)) (line text : List ℕ) (whole mid part : ℕ) (e : LineEnd) → Batch d p old w [] ran whole mid → has_quit ran ≡ false
    → Turn p line text p' → CutBehind w [] text w' part → e ≡ Write mid part → lines ≡ ran ++ line ∷ more → Cut true d p' old w' lines whole e
cut_at_once d p p' old w w' ran more lines line text whole mid part e b goes turn cut ending lines_are = record {
  front = ran;
  line = line;
  behind = [];
  more = more;
  texts = b.texts;
  text = text;
  texts_behind = [];
  mid = p;
  after = p';
  n = cut.n;
  split = lines_are;
  turns = b.turns;
  turn = turn;
  rest = refl;
  no_quit = goes;
  within = cut.within;
  sends =
      subst (λ (l : List ℕ). Sends old w' (l ++ take cut.n text)) (sym (b.split ∙ append-nil b.out)) (sends_then old w w' b.out (take cut.n text) b.sends cut.sends);
  is_write = (mid, part, ending);
  exact = λ once. (refl, λ k is. ending ∙ ap (λ (c : ℕ). Write c part) (b.count k is) ∙ ap (λ (c : ℕ). Write (saturating_count (k + some_count b.texts)) c) (cut.count_is refl));
}

-- a write failed while the text of this line was printed
pub cut_printing : (d p p' : FrontState) (old w w' : Outgoing) (held : List ℕ) (ran more lines : List (List ℕ)) (line text : List ℕ) (whole mid part : ℕ) (e : LineEnd) (at_once : Bool)
    → (at_once ≡ true → held ≡ []) → Batch d p old w held ran whole mid → has_quit ran ≡ false → Turn p line text p' → CutBehind w held text w' part → e ≡ Write mid part
    → lines ≡ ran ++ line ∷ more → Cut at_once d p' old w' lines whole e
cut_printing d p p' old w w' held ran more lines line text whole mid part e true none b goes turn cut ending lines_are =
    let empty = none refl in
    cut_at_once d p p' old w w' ran more lines line text whole mid part e (subst (λ (h : List ℕ). Batch d p old w h ran whole mid) empty b) goes turn (subst (λ (h : List ℕ). CutBehind w h text w' part) empty cut) ending lines_are
cut_printing d p p' old w w' held ran more lines line text whole mid part e false none b goes turn cut ending lines_are =
    let n = cut.n in
    let bytes = held ++ text in
    let inside = cut.within in
    let lost : 0 < length (drop n bytes) = omega (arith, inside, length-drop n bytes) in
    let all : concat (b.texts ++ text ∷ []) ≡ (b.out ++ take n bytes) ++ drop n bytes =
    concat_more b.texts text ∙ ap (λ (l : List ℕ). l ++ text) b.split ∙ append_assoc b.out held text ∙ ap (λ (l : List ℕ). b.out ++ l) (sym (take-append-drop n bytes))
    ∙ sym (append_assoc b.out (take n bytes) (drop n bytes)) in
    cut_found d p' old w' (ran ++ line ∷ []) more lines (b.out ++ take n bytes) whole mid part e
    (found d p' (ran ++ line ∷ []) (b.texts ++ text ∷ []) (b.out ++ take n bytes) (drop n bytes) (turns_more d ran b.texts p line text p' b.turns turn) all lost (none_before_last ran line goes))
    (lines_are ∙ sym (append_assoc ran (line ∷ []) more)) (sends_then old w w' b.out (take n bytes) b.sends cut.sends) ending
