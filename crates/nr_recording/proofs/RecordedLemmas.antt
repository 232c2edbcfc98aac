-- Steps and their answers, as two lists and as one list of rows.
use Rattle.std.proofs.Common.{◌≡◌, ◌≤◌, ℕ, zero, suc, true, false, eqb, ltb, List, [], ◌∷◌, ◌++◌, length, map, Bor, Option, Some, None, Ok, refl, sym, ap, subst, arith}
use Rattle.std.specs.Prelude.{option_and_then, option_to_list, slice_get, IfSome}
use Rattle.std.specs.Option.{option_copied}
use Rattle.std.specs.Slice.{IsItemAt}
use Rattle.std.proofs.lemmas.Bool.{and_parts, eqb-true, le-ltb}
use Rattle.std.proofs.lemmas.Option.{same_Some, slice_get_past, slice_get_read}
use Rattle.std.proofs.lemmas.List.{length-append}
use Rattle.nr_rev.specs.Kind.{kind_of}
use Rattle.nr_rev.specs.Auxiliary.Limits.{are_in_range}
use Rattle.nr_rev.specs.declared.answer.Answer.{Answer}
use Rattle.nr_rev.specs.declared.limits.Limits.{Limits}
use Rattle.nr_rev.specs.declared.step.Step.{Step}
use Rattle.nr_recording.specs.Recording.{recorded}
use Rattle.nr_recording.specs.Auxiliary.Recording.{fits, has_line, have_lines, make_lines, is_writable, are_writable, recording_of}
use Rattle.nr_recording.specs.Version.{has_kind, most_buffer}
use Rattle.nr_recording.specs.Auxiliary.Version.{answer_count, may_have}
use Rattle.nr_recording.specs.declared.recording.RecordedStep.{RecordedStep}
use Rattle.nr_recording.specs.declared.recording.TheConstants.{MOST_STEPS}
use Rattle.nr_recording.specs.declared.version.Version.{Version}
use Rattle.nr_recording.specs.declared.version.Version.TheVariants.{One, Two}

-- ---- the abstract values

-- an item borrowed from a list is the item at its index
pub lent_there : {X : Type 0} (xs : List X) (i : ℕ) (lent : Option (Bor X)) → IsItemAt xs i lent → option_copied lent ≡ slice_get xs i
lent_there xs i None found = sym (slice_get_past xs i found.3)
lent_there xs i (Some x) found = sym (slice_get_read xs (length xs) i x.now refl found.3.0 found.1)

pub count_is : (steps : List Step) (answers : List Answer) → length (recorded steps answers) ≡ length steps
count_is [] answers = refl
count_is (s ∷ steps) [] = ap suc (count_is steps [])
count_is (s ∷ steps) (a ∷ answers) = ap suc (count_is steps answers)

pub steps_are : (steps : List Step) (answers : List Answer) → map (λ (r : RecordedStep). r.step) (recorded steps answers) ≡ steps
steps_are [] answers = refl
steps_are (s ∷ steps) [] = ap (λ more. s ∷ more) (steps_are steps [])
steps_are (s ∷ steps) (a ∷ answers) = ap (λ more. s ∷ more) (steps_are steps answers)

-- the answer in row n is answer n
pub answer_there : (steps : List Step) (answers : List Answer) (n : ℕ) → length answers ≤ length steps
    → option_and_then (λ (r : RecordedStep). r.answer) (slice_get (recorded steps answers) n) ≡ slice_get answers n
answer_there [] [] n few = refl
answer_there [] (a ∷ answers) n few = absurd (omega (arith, few))
answer_there (s ∷ steps) [] zero few = refl
answer_there (s ∷ steps) [] (suc n) few = answer_there steps [] n (omega arith)
answer_there (s ∷ steps) (a ∷ answers) zero few = refl
answer_there (s ∷ steps) (a ∷ answers) (suc n) few = answer_there steps answers n (omega (arith, few))

-- a row consists of the run's step and its recorded answer
pub both_there : (rows : List RecordedStep) (n : ℕ) (s : Step) → slice_get (map (λ (r : RecordedStep). r.step) rows) n ≡ Some s
    → slice_get rows n ≡ Some (record { step = s; answer = option_and_then (λ (r : RecordedStep). r.answer) (slice_get rows n) })
both_there [] n s read = absurd cc
both_there (r ∷ rows) zero s read =
    let same : r.step ≡ s = same_Some r.step s read in
    ap (λ (x : Step). Some (record { step = x; answer = r.answer })) same
both_there (r ∷ rows) (suc n) s read = both_there rows n s read

-- ---- lines

fits_line : (version : Version) (r : RecordedStep) → is_writable version r ≡ true → fits r.step ≡ true
fits_line version r h =
    let line = and_parts (has_line version r.step) (may_have version r.answer) h in
    (and_parts (has_kind version (kind_of r.step)) (fits r.step) line.0).1

fits_at : (s : Step) (steps : List Step) (n : ℕ) → fits s ≡ true → ((k : ℕ) → IfSome (slice_get steps k) (λ x. fits x ≡ true)) → IfSome (slice_get (s ∷ steps) n) (λ x. fits x ≡ true)
fits_at s steps zero first behind = first
fits_at s steps (suc n) first behind = behind n

-- each step of a writable recording fits in its line
pub step_fits : (version : Version) (steps : List Step) (answers : List Answer) (n : ℕ) → are_writable version (recorded steps answers) ≡ true
    → IfSome (slice_get steps n) (λ s. fits s ≡ true)
step_fits version [] answers n h = tt
step_fits version (s ∷ steps) [] n h =
    let both = and_parts (is_writable version (record { step = s; answer = None })) (are_writable version (recorded steps [])) h in
    fits_at s steps n (fits_line version (record { step = s; answer = None }) both.0) (λ k. step_fits version steps [] k both.1)
step_fits version (s ∷ steps) (a ∷ answers) n h =
    let both = and_parts (is_writable version (record { step = s; answer = Some a })) (are_writable version (recorded steps answers)) h in
    fits_at s steps n (fits_line version (record { step = s; answer = Some a }) both.0) (λ k. step_fits version steps answers k both.1)

false_is_not_true : ¬ (false ≡ true)
false_is_not_true e = cc

lines_written : (version : Version) (steps : List Step) (answers : List Answer) → have_lines version steps ≡ true → length answers ≡ answer_count version (length steps)
    → are_writable version (recorded steps answers) ≡ true
lines_written version [] answers lines count = refl
lines_written One (s ∷ steps) [] lines count =
    let both = and_parts (has_line One s) (have_lines One steps) lines in
    rw (both.0, lines_written One steps [] both.1 refl) refl
lines_written One (s ∷ steps) (a ∷ answers) lines count = absurd cc
lines_written Two (s ∷ steps) [] lines count = absurd cc
lines_written Two (s ∷ steps) (a ∷ answers) lines count =
    let both = and_parts (has_line Two s) (have_lines Two steps) lines in
    rw (both.0, lines_written Two steps answers both.1 (omega (arith, count))) refl

-- if a step fits in its line, so does a borrowed reference to it
pub lent_fits : (lent : Option (Bor Step)) (o : Option Step) → option_copied lent ≡ o → IfSome o (λ s. fits s ≡ true) → IfSome lent (λ s. fits s.now ≡ true)
lent_fits None o is fit = tt
lent_fits (Some x) o is fit = subst (λ (q : Option Step). IfSome q (λ s. fits s ≡ true)) (sym is) fit

-- steps that have lines and as many answers as the version requires are writable
pub are_written : (version : Version) (steps : List Step) (answers : List Answer) → make_lines version steps answers ≡ true
    → (are_writable version (recorded steps answers) ≡ true) × (length answers ≡ answer_count version (length steps))
are_written version steps answers made =
    let both = and_parts (have_lines version steps) (eqb (length answers) (answer_count version (length steps))) made in
    let count = eqb-true _ _ both.1 in
    (lines_written version steps answers both.0 count, count)

-- writable steps have as many answers as the version requires
pub count_wanted : (version : Version) (steps : List Step) (answers : List Answer) → are_writable version (recorded steps answers) ≡ true → length answers ≤ length steps
    → length answers ≡ answer_count version (length steps)
count_wanted One [] [] h few = refl
count_wanted Two [] [] h few = refl
count_wanted version [] (a ∷ answers) h few = absurd (omega (arith, few))
count_wanted One (s ∷ steps) [] h few = refl
count_wanted One (s ∷ steps) (a ∷ answers) h few =
    let first = and_parts (is_writable One (record { step = s; answer = Some a })) (are_writable One (recorded steps answers)) h in
    absurd (false_is_not_true (and_parts (has_line One s) false first.0).1)
count_wanted Two (s ∷ steps) [] h few =
    let first = and_parts (is_writable Two (record { step = s; answer = None })) (are_writable Two (recorded steps [])) h in
    absurd (false_is_not_true (and_parts (has_line Two s) false first.0).1)
count_wanted Two (s ∷ steps) (a ∷ answers) h few =
    let both = and_parts (is_writable Two (record { step = s; answer = Some a })) (are_writable Two (recorded steps answers)) h in
    ap suc (count_wanted Two steps answers both.1 (omega (arith, few)))

-- a recording has no more answers than steps
pub few_answers : (version : Version) (steps : List Step) (answers : List Answer) → length answers ≡ answer_count version (length steps) → length answers ≤ length steps
few_answers One steps answers count = omega (arith, count)
few_answers Two steps answers count = omega (arith, count)

-- ---- adding a step

one_more_step : (steps : List Step) (s : Step) → recorded (steps ++ s ∷ []) [] ≡ recorded steps [] ++ record { step = s; answer = None } ∷ []
one_more_step [] s = refl
one_more_step (first ∷ steps) s = ap (λ more. record { step = first; answer = None } ∷ more) (one_more_step steps s)

pub one_more_answered : (steps : List Step) (answers : List Answer) (s : Step) (a : Answer) → length answers ≡ length steps
    → recorded (steps ++ s ∷ []) (answers ++ a ∷ []) ≡ recorded steps answers ++ record { step = s; answer = Some a } ∷ []
one_more_answered [] [] s a same = refl
one_more_answered [] (other ∷ answers) s a same = absurd cc
one_more_answered (first ∷ steps) [] s a same = absurd cc
one_more_answered (first ∷ steps) (other ∷ answers) s a same =
    ap (λ more. record { step = first; answer = Some other } ∷ more) (one_more_answered steps answers s a (omega (arith, same)))

-- adding a step and its answer to the two lists adds a row
pub one_more : (version : Version) (steps : List Step) (answers : List Answer) (s : Step) (answer : Option Answer) → length answers ≡ answer_count version (length steps)
    → may_have version answer ≡ true → recorded (steps ++ s ∷ []) (answers ++ option_to_list answer) ≡ recorded steps answers ++ record { step = s; answer = answer } ∷ []
one_more One steps [] s None count may = one_more_step steps s
one_more One steps (a ∷ answers) s None count may = absurd cc
one_more One steps answers s (Some a) count may = absurd cc
one_more Two steps answers s None count may = absurd cc
one_more Two steps answers s (Some a) count may = one_more_answered steps answers s a count

pub one_more_few : (version : Version) (steps : List Step) (answers : List Answer) (s : Step) (answer : Option Answer) → length answers ≡ answer_count version (length steps)
    → may_have version answer ≡ true → length (answers ++ option_to_list answer) ≤ length (steps ++ s ∷ [])
one_more_few One steps [] s None count may = omega arith
one_more_few One steps (a ∷ answers) s None count may = absurd cc
one_more_few One steps answers s (Some a) count may = absurd cc
one_more_few Two steps answers s None count may = absurd cc
one_more_few Two steps answers s (Some a) count may = omega (arith, count, length-append answers (a ∷ []), length-append steps (s ∷ []))

-- ---- making a recording

pub recording_made : (version : Version) (l : Limits) (steps : List Step) (answers : List Answer) → are_in_range l ≡ true → l.buffer ≤ most_buffer version → length steps ≤ MOST_STEPS
    → make_lines version steps answers ≡ true → recording_of version l steps answers ≡ Ok (record { version = version; limits = l; steps = recorded steps answers })
recording_made version l steps answers limits most few lines =
    let low : ltb (most_buffer version) l.buffer ≡ false = le-ltb _ _ most in
    let short : ltb MOST_STEPS (length steps) ≡ false = le-ltb _ _ few in
    rw (limits, low, short, lines) refl
