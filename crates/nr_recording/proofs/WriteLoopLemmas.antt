-- Writing lines in a loop.
use Rattle.std.proofs.Common.{◌≡◌, ℕ, suc, ◌+◌, ◌<◌, List, ◌++◌, length, get_or, take, drop, refl, sym, ap, subst, ◌∙◌, add-one, append-nil, take-append-drop, drop-cons, length-append, arith}
use Rattle.std.specs.List.{concat}
use Rattle.std.proofs.Math.Seq.{take-append-add}
use Rattle.std.proofs.lemmas.List.{take_more, get_or-map, length-map, take-append-le}
use Rattle.std.proofs.lemmas.List.Folds.{concat-append}
use Rattle.nr_recording.specs.Recording.{Recorded}
use Rattle.nr_recording.specs.declared.recording.RecordedStep.{RecordedStep}
use Rattle.nr_recording.specs.Writing.{step_data, line_text, line_texts, text, SendsPart}
use Rattle.nr_text.specs.Streams.{Outgoing, Sends}
use Rattle.nr_text.proofs.StreamLemmas.{sends_then}

one_more_text : (all : List (List ℕ)) (line : List ℕ) (i : ℕ) (a b c : Outgoing) → i < length all → line ≡ get_or all i line → Sends a b (concat (take i all)) → Sends b c line
    → Sends a c (concat (take (i + 1) all))
one_more_text all line i a b c lt is before one =
    let e : concat (take (i + 1) all) ≡ concat (take i all) ++ line =
    rw (take_more all i line lt, concat-append, ← is) (ap (λ (x : List ℕ). concat (take i all) ++ x) (append-nil line)) in
    rw e (sends_then a b c (concat (take i all)) line before one)

-- true if e is step i with its answer
abbrev pub IsStepAt : Recorded → ℕ → RecordedStep → Type 0
IsStepAt w i e = (i < length w.steps) × (e ≡ get_or w.steps i e)

-- the line of step i is line i + 1, because the header comes first
line_there : (w : Recorded) (e : RecordedStep) (i : ℕ) → IsStepAt w i e → line_text (step_data e) ≡ get_or (line_texts w) (i + 1) (line_text (step_data e))
line_there w e i at =
    let f : RecordedStep → List ℕ = λ x. line_text (step_data x) in
    ap f at.1 ∙ sym (get_or-map f w.steps i e (f e) at.0) ∙ rw (add-one) refl

pub one_more_line : (w : Recorded) (e : RecordedStep) (i : ℕ) (a b c : Outgoing) → IsStepAt w i e
    → Sends a b (concat (take (i + 1) (line_texts w))) → Sends b c (line_text (step_data e)) → Sends a c (concat (take (i + 1 + 1) (line_texts w)))
one_more_line w e i a b c at before one =
    let f : RecordedStep → List ℕ = λ x. line_text (step_data x) in
    let within = at.0 in
    one_more_text (line_texts w) (f e) (i + 1) a b c (simp length-map (omega arith)) (line_there w e i at) before one

-- a text consists of the lines before line i, line i and the lines after it
concat_at : (all : List (List ℕ)) (line : List ℕ) (i : ℕ) → i < length all → line ≡ get_or all i line
    → concat all ≡ concat (take i all) ++ (line ++ concat (drop (suc i) all))
concat_at all line i lt is =
    ap concat (sym (take-append-drop i all)) ∙ concat-append (take i all) (drop i all) ∙ rw (drop-cons all i line lt, ← is) refl

part_of_text : (all : List (List ℕ)) (line : List ℕ) (i : ℕ) (a b c : Outgoing) → i < length all → line ≡ get_or all i line → Sends a b (concat (take i all)) → SendsPart b c line
    → SendsPart a c (concat all)
part_of_text all line i a b c lt is before part =
    let front = concat (take i all) in
    let rest = concat (drop (suc i) all) in
    let n = part.0 in
    let short = part.1 in
    let whole = concat_at all line i lt is in
    let lens : length (concat all) ≡ length front + (length line + length rest) = ap length whole ∙ length-append front (line ++ rest) ∙ ap (λ (k : ℕ). length front + k) (length-append line rest) in
    let front_of_line : take (length front + n) (concat all) ≡ front ++ take n line =
    ap (take (length front + n)) whole ∙ take-append-add front (line ++ rest) n ∙ ap (λ (t : List ℕ). front ++ t) (take-append-le n line rest (omega (arith, short))) in
    (length front + n, omega (arith, lens, short), subst (Sends a c) (sym front_of_line) (sends_then a b c front (take n line) before part.2))

-- if only part of a step's line was written, only part of the text was
pub part_of_line : (w : Recorded) (e : RecordedStep) (i : ℕ) (a b c : Outgoing) → IsStepAt w i e
    → Sends a b (concat (take (i + 1) (line_texts w))) → SendsPart b c (line_text (step_data e)) → SendsPart a c (text w)
part_of_line w e i a b c at before part =
    let f : RecordedStep → List ℕ = λ x. line_text (step_data x) in
    let within = at.0 in
    part_of_text (line_texts w) (f e) (i + 1) a b c (simp length-map (omega arith)) (line_there w e i at) before part
