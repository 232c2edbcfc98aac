-- `read` accepts exactly the texts in the grammar.
use Rattle.std.proofs.Common.{◌≡◌, ◌≤◌, ◌+◌, ◌⊎◌, ℕ, suc, false, cond, ltb, eqb, List, [], ◌∷◌, ◌++◌, length, Some, None, Result, Ok, Err, refl, sym, subst, ◌∙◌, inl, inr, append_assoc, append-nil, arith}
use Rattle.std.proofs.lemmas.Bool.{ltb-false, le-ltb}
use Rattle.std.proofs.lemmas.List.{length-append}
use Rattle.std.specs.Prelude.{IfOk}
use Rattle.serde_json.specs.Data.{Data}
use Rattle.nr_recording.specs.declared.fault.Fault.{Fault}
use Rattle.nr_recording.specs.declared.fault.Fault.TheVariants as fault
use Rattle.nr_recording.specs.declared.fault.ReadFault.{ReadFault}
use Rattle.nr_recording.specs.declared.reading.TheConstants.{MOST_LINE_BYTES}
use Rattle.nr_recording.specs.declared.recording.TheConstants.{MOST_STEPS}
use Rattle.nr_recording.specs.declared.reading.Header.{Header}
use Rattle.nr_recording.specs.declared.version.Version.{Version}
use Rattle.nr_recording.specs.Recording.{Recorded}
use Rattle.nr_recording.specs.declared.recording.RecordedStep.{RecordedStep}
use Rattle.nr_recording.specs.Faults.{◌>>=◌}
use Rattle.nr_recording.proofs.BoundPartLemmas.{bind_ok, guard_ok, choice, same_ok}
use Rattle.nr_recording.specs.Header.{version_of, header_of}
use Rattle.nr_recording.specs.Steps.{step_of}
use Rattle.nr_recording.specs.Reading.{Seen, nothing, lines, is_blank, value_of, with_value, with_line, at_line, with_lines, recording_at_end, reading}
use Rattle.nr_recording.specs.Auxiliary.Reading.{IsUnlessMemory}
use Rattle.nr_recording.specs.Text.{IsSkipped, IsValueLine, AreSteps, AreLinesOf, IsTextOf}

at_line_ok : {A : Type 0} (n : ℕ) (r : Result A Fault) (x : A) → at_line n r ≡ Ok x → r ≡ Ok x
at_line_ok n (Ok y) x e = cc
at_line_ok n (Err f) x e = absurd cc

-- true if next is the state after a line without a fault
abbrev Passes : Seen → List ℕ → Seen → Type 0
Passes seen line next = (IsSkipped line × (seen ≡ next)) ⊎ ((d : Data) × IsValueLine line d × (with_value seen seen.header d ≡ Ok next))

with_line_ok : (seen : Seen) (line : List ℕ) (next : Seen) → with_line seen line ≡ Ok next → Passes seen line next
unfolding with_line
with_line_ok seen line next e =
    let g = guard_ok (ltb MOST_LINE_BYTES (length line)) fault.Limit (cond (is_blank line) (Ok seen) (value_of line >>= λ d. with_value seen seen.header d)) next e in
    let short : length line ≤ MOST_LINE_BYTES = ltb-false _ _ g.0 in
    elim (choice (is_blank line) (Ok seen) (value_of line >>= λ d. with_value seen seen.header d) (Ok next) g.1) [
      | inl p ↦ inl (record { short = short; blank = p.0 }, same_ok {E = Fault} seen next p.1)
      | inr p ↦ (let b = bind_ok (value_of line) (λ d. with_value seen seen.header d) next p.1 in inr (b.0, record { short = short; visible = p.0; value = b.1 }, b.2))
    ]

value_then : (line : List ℕ) (d : Data) (seen next : Seen) → IsValueLine line d → with_value seen seen.header d ≡ Ok next → with_line seen line ≡ Ok next
unfolding with_line
value_then line d seen next is e =
    let long : ltb MOST_LINE_BYTES (length line) ≡ false = le-ltb _ _ is.short in
    rw (long, is.visible, is.value) e

skipped_then : (line : List ℕ) (seen : Seen) → IsSkipped line → with_line seen line ≡ Ok seen
unfolding with_line
skipped_then line seen is =
    let long : ltb MOST_LINE_BYTES (length line) ≡ false = le-ltb _ _ is.short in
    rw (long, is.blank) refl

first_then : (n : ℕ) (seen next : Seen) (line : List ℕ) (rest : List (List ℕ)) → with_line seen line ≡ Ok next → with_lines n seen (line ∷ rest) ≡ with_lines (suc n) next rest
unfolding with_lines
first_then n seen next line rest e = rw e refl

first_ok : (n : ℕ) (seen last : Seen) (line : List ℕ) (rest : List (List ℕ)) → with_lines n seen (line ∷ rest) ≡ Ok last
    → (next : Seen) × (with_line seen line ≡ Ok next) × (with_lines (suc n) next rest ≡ Ok last)
unfolding with_lines
first_ok n seen last line rest e =
    let b = bind_ok (at_line n (with_line seen line)) (λ next. with_lines (suc n) next rest) last e in
    (b.0, at_line_ok n (with_line seen line) b.0 b.1, b.2)

-- ---- a text that `read` accepts is in the grammar

abbrev after_header : Header → List RecordedStep → Seen
after_header header steps = record { header = Some header; steps = steps }

with_step_ok : (header : Header) (steps : List RecordedStep) (d : Data) (next : Seen) → with_value (after_header header steps) (Some header) d ≡ Ok next
    → (eqb (length steps) MOST_STEPS ≡ false) × ((e : RecordedStep) × (step_of header.version d ≡ Ok e) × (after_header header (steps ++ e ∷ []) ≡ next))
with_step_ok header steps d next h =
    let g = guard_ok (eqb (length steps) MOST_STEPS) fault.TooManySteps (step_of header.version d >>= λ e. Ok (after_header header (steps ++ e ∷ []))) next h in
    let b = bind_ok (step_of header.version d) (λ e. Ok (after_header header (steps ++ e ∷ []))) next g.1 in
    (g.0, (b.0, b.1, same_ok {E = Fault} (after_header header (steps ++ b.0 ∷ [])) next b.2))

skip_more : (version : Version) (line : List ℕ) (rest : List (List ℕ)) (es : List RecordedStep) → IsSkipped line → AreSteps version rest es → AreSteps version (line ∷ rest) es
skip_more version line rest [] s more = (s, more)
skip_more version line rest (e ∷ es) s more = inl (s, more)

-- true if last is the state after the steps read so far and those in the remaining lines
record Continues (header : Header) (steps : List RecordedStep) (rest : List (List ℕ)) (last : Seen) : Type 0 where
  es : List RecordedStep
  are : AreSteps header.version rest es
  ends : last ≡ after_header header (steps ++ es)
  fits : length (steps ++ es) ≤ MOST_STEPS

steps_found : (rest : List (List ℕ)) (n : ℕ) (header : Header) (steps : List RecordedStep) (last : Seen) → length steps ≤ MOST_STEPS → with_lines n (after_header header steps) rest ≡ Ok last
    → Continues header steps rest last
unfolding with_lines
steps_found [] n header steps last le h = record { es = []; are = tt; ends = rw (append-nil steps) (sym (same_ok {E = ReadFault} (after_header header steps) last h)); fits = rw (append-nil steps) le }
steps_found (line ∷ rest) n header steps last le h =
    let f = first_ok n (after_header header steps) last line rest h in
    elim (with_line_ok (after_header header steps) line f.0 f.1) [
      | inl s ↦ (
          let more = steps_found rest (suc n) header steps last le (subst (λ (x : Seen). with_lines (suc n) x rest ≡ Ok last) (sym s.1) f.2) in
          record { es = more.es; are = skip_more header.version line rest more.es s.0 more.are; ends = more.ends; fits = more.fits })
      | inr v ↦ (
          let one = with_step_ok header steps v.0 f.0 v.2 in
          let e = one.1.0 in
          let few : length (steps ++ e ∷ []) ≤ MOST_STEPS = grind (arith, length-append steps (e ∷ []), one.0) in
          let more = steps_found rest (suc n) header (steps ++ e ∷ []) last few (subst (λ (x : Seen). with_lines (suc n) x rest ≡ Ok last) (sym one.1.2) f.2) in
          record {
            es = e ∷ more.es;
            are = inr ((v.0, v.1, one.1.1), more.are);
            ends = rw (← append_assoc steps (e ∷ []) more.es) more.ends;
            fits = rw (← append_assoc steps (e ∷ []) more.es) more.fits;
          })
    ]

lines_found : (rest : List (List ℕ)) (n m : ℕ) (last : Seen) (w : Recorded) → with_lines n nothing rest ≡ Ok last → recording_at_end m last ≡ Ok w → AreLinesOf rest w
unfolding with_lines
lines_found [] n m last w h done_is =
    absurd (let e : nothing ≡ last = same_ok {E = ReadFault} nothing last h in let f : recording_at_end m nothing ≡ Ok w = subst (λ (x : Seen). recording_at_end m x ≡ Ok w) (sym e) done_is in cc)
lines_found (line ∷ rest) n m last w h done_is =
    let f = first_ok n nothing last line rest h in
    elim (with_line_ok nothing line f.0 f.1) [
      | inl s ↦ inl (s.0, lines_found rest (suc n) m last w (subst (λ (x : Seen). with_lines (suc n) x rest ≡ Ok last) (sym s.1) f.2) done_is)
      | inr v ↦ (
          let version = bind_ok (version_of v.0) _ f.0 v.2 in
          let limits = bind_ok (header_of version.0 v.0) (λ limits. Ok (after_header (record { version = version.0; limits = limits }) [])) f.0 version.2 in
          let header : Header = record { version = version.0; limits = limits.0 } in
          let next = same_ok {E = Fault} (after_header header []) f.0 limits.2 in
          let more = steps_found rest (suc n) header [] last (omega arith) (subst (λ (x : Seen). with_lines (suc n) x rest ≡ Ok last) (sym next) f.2) in
          let made : Recorded = record { version = version.0; limits = limits.0; steps = more.es } in
          let is : made ≡ w = same_ok {E = ReadFault} made w (subst (λ (x : Seen). recording_at_end m x ≡ Ok w) {y = after_header header more.es} more.ends done_is) in
          subst (λ (x : Recorded). AreLinesOf (line ∷ rest) x) {x = made} is (inr ((v.0, v.1, version.1, limits.1), more.are, more.fits)))
    ]

pub reading_found : (bytes : List ℕ) (w : Recorded) → reading bytes ≡ Ok w → IsTextOf bytes w
unfolding reading
reading_found bytes w h =
    let b = bind_ok (with_lines 1 nothing (lines bytes)) (recording_at_end (length (lines bytes))) w h in
    lines_found (lines bytes) 1 (length (lines bytes)) b.0 w b.1 b.2

-- ---- `read` accepts a text in the grammar

steps_again : (rest : List (List ℕ)) (es : List RecordedStep) (n : ℕ) (header : Header) (steps : List RecordedStep) → AreSteps header.version rest es → length steps + length es ≤ MOST_STEPS
    → with_lines n (after_header header steps) rest ≡ Ok (after_header header (steps ++ es))
unfolding with_lines
steps_again [] [] n header steps are le = rw (append-nil steps) refl
steps_again [] (e ∷ es) n header steps are le = absurd are
steps_again (line ∷ rest) [] n header steps are le = first_then n _ _ line rest (skipped_then line (after_header header steps) are.0) ∙ steps_again rest [] (suc n) header steps are.1 le
steps_again (line ∷ rest) (e ∷ es) n header steps are le =
    elim are [
      | inl s ↦ first_then n _ _ line rest (skipped_then line (after_header header steps) s.0) ∙ steps_again rest (e ∷ es) (suc n) header steps s.1 le
      | inr v ↦ (
          let few : eqb (length steps) MOST_STEPS ≡ false = grind arith in
          let one : with_value (after_header header steps) (Some header) v.0.0 ≡ Ok (after_header header (steps ++ e ∷ [])) = rw (few, v.0.2) refl in
          let room : length (steps ++ e ∷ []) + length es ≤ MOST_STEPS = omega (arith, length-append steps (e ∷ [])) in
          first_then n _ _ line rest (value_then line v.0.0 (after_header header steps) _ v.0.1 one) ∙ steps_again rest es (suc n) header (steps ++ e ∷ []) v.1 room
          ∙ rw (append_assoc steps (e ∷ []) es) refl)
    ]

lines_again : (rest : List (List ℕ)) (n : ℕ) (w : Recorded) → AreLinesOf rest w
    → with_lines n nothing rest ≡ Ok (after_header (record { version = w.version; limits = w.limits }) w.steps)
lines_again [] n w are = absurd are
lines_again (line ∷ rest) n w are =
    let header : Header = record { version = w.version; limits = w.limits } in
    elim are [
      | inl s ↦ first_then n _ _ line rest (skipped_then line nothing s.0) ∙ lines_again rest (suc n) w s.1
      | inr v ↦ (
          let one : with_value nothing None v.0.0 ≡ Ok (after_header header []) = rw (v.0.2, v.0.3) refl in
          first_then n _ _ line rest (value_then line v.0.0 nothing _ v.0.1 one) ∙ steps_again rest w.steps (suc n) header [] v.1 (omega (arith, v.2)))
    ]

pub reading_again : (bytes : List ℕ) (w : Recorded) → IsTextOf bytes w → reading bytes ≡ Ok w
unfolding reading
reading_again bytes w are = rw (lines_again (lines bytes) 1 w are) refl

pub answer_found : (bytes : List ℕ) (r : Result Recorded ReadFault) → IsUnlessMemory r (reading bytes) → IfOk r (λ x. IsTextOf bytes x)
answer_found bytes (Ok x) h = reading_found bytes x h
answer_found bytes (Err e) h = tt
