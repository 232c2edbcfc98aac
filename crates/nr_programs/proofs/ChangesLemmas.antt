-- The progress of `changes`: the lines that were written, the waiting lines, and the lines of the
-- remaining steps.
use Rattle.std.proofs.Common.{◌≡◌, ℕ, ◌+◌, ◌≤◌, Bool, true, false, ◌||◌, List, [], ◌∷◌, ◌++◌, length, drop, Option, Some, None, Ok, Err, inl, inr, refl, sym, ap, subst, ◌∙◌, arith}
use Rattle.std.specs.Prelude.{flat_map, slice_get}
use Rattle.std.proofs.lemmas.Grind.{flat_map-append}
use Rattle.std.proofs.lemmas.List.{append_assoc, drop_all, drop_more, length-append, take-append-le}
use Rattle.std.proofs.lemmas.Option.{get_or_from_slice_get, slice_get_within}
use Rattle.nr_rev.specs.Run.{next_of}
use Rattle.nr_rev.specs.Step.{outcome}
use Rattle.nr_rev.specs.World.{World, empty_world}
use Rattle.nr_rev.specs.declared.answer.Answer.{Answer}
use Rattle.nr_rev.specs.declared.refusal.Refusal.{Refusal}
use Rattle.nr_rev.specs.declared.step.Step.{Step}
use Rattle.nr_changes.specs.Changes.{changes_between}
use Rattle.nr_changes.specs.declared.changing.CellWithValue.{CellWithValue}
use Rattle.nr_recording.specs.Auxiliary.Reading.{IsFaultOf}
use Rattle.nr_recording.specs.Faults.{read_fault_line}
use Rattle.nr_recording.specs.Reading.{reading}
use Rattle.nr_recording.specs.Recording.{Recorded, recorded_at, run_of}
use Rattle.nr_recording.specs.declared.fault.ReadFault.{ReadFault}
use Rattle.nr_recording.specs.declared.fault.ReadFault.TheVariants as read
use Rattle.nr_recording.specs.declared.recording.RecordedStep.{RecordedStep}
use Rattle.nr_snaps.proofs.AnswerLemmas.{steps_of_run}
use Rattle.nr_snaps.specs.Answers.{Agrees, Differs}
use Rattle.nr_snaps.specs.Fault.{load_fault_line}
use Rattle.nr_snaps.specs.declared.fault.LoadFault.{LoadFault}
use Rattle.nr_snaps.specs.declared.fault.LoadFault.TheVariants as load
use Rattle.nr_text.proofs.StreamLemmas.{sends_none, sends_then}
use Rattle.nr_text.proofs.TextLemmas.{text_of_parts_is}
use Rattle.nr_text.specs.Auxiliary.Text.{text_of_parts}
use Rattle.nr_text.specs.Streams.{Outgoing, Sends, WritesAll, WritesPrefix}
use Rattle.nr_programs.proofs.FaultLemmas.{no_fault, other_answer, step_there}
use Rattle.nr_programs.proofs.UpgradeLemmas.{behind}
use Rattle.nr_programs.specs.Auxiliary.Changes.{HasFault, StepsOn, as_lines, change_text}
use Rattle.nr_programs.specs.Changes.{Changes, WritesChanges, change_line, change_lines, last_line, lines_of_changes, status_of_opened, unless_fault}
use Rattle.nr_programs.specs.Opening.{fault_or, first_fault, opened_as, run_or, step_fault}
use Rattle.nr_programs.specs.Run.{EndsPrinting, accepted_line}
use Rattle.nr_programs.specs.declared.changes.ChangeLine.{ChangeLine}
use Rattle.nr_programs.specs.declared.run.ExitStatus.{ExitStatus}
use Rattle.nr_programs.specs.declared.run.ExitStatus.TheVariants.{Done, Refused, StreamFailed}

-- the texts of lines
abbrev pub texts_of : List ChangeLine → List ℕ
texts_of lines = text_of_parts change_text lines

texts-append : (xs ys : List ChangeLine) → texts_of (xs ++ ys) ≡ texts_of xs ++ texts_of ys
texts-append xs ys =
    text_of_parts_is change_text (xs ++ ys)
    ∙ flat_map-append change_text xs ys
    ∙ ap (λ t. t ++ flat_map change_text ys) (sym (text_of_parts_is change_text xs))
    ∙ ap (λ t. texts_of xs ++ t) (sym (text_of_parts_is change_text ys))

flat_lines : (n : ℕ) (changes : List CellWithValue) → flat_map change_text (as_lines n changes) ≡ lines_of_changes n changes
flat_lines n [] = refl
flat_lines n (change ∷ changes) = ap (λ t. change_line n change ++ t) (flat_lines n changes)

texts_of_changes : (n : ℕ) (changes : List CellWithValue) → texts_of (as_lines n changes) ≡ lines_of_changes n changes
texts_of_changes n changes = text_of_parts_is change_text (as_lines n changes) ∙ flat_lines n changes

-- the texts of lines, followed by the texts for a step's changes
texts_behind : (n : ℕ) (lines after : List ChangeLine) (changes : List CellWithValue) → after ≡ lines ++ as_lines n changes → texts_of after ≡ texts_of lines ++ lines_of_changes n changes
texts_behind n lines after changes is = ap texts_of is ∙ texts-append lines (as_lines n changes) ∙ ap (λ t. texts_of lines ++ t) (texts_of_changes n changes)

-- moving the first of the remaining lines to the waiting lines leaves the whole text unchanged
moved_on : (sent lines after more later rest all : List ℕ) → after ≡ lines ++ more → rest ≡ more ++ later → sent ++ (lines ++ rest) ≡ all → sent ++ (after ++ later) ≡ all
moved_on sent lines after more later rest all waits cut is =
    ap (λ t. sent ++ (t ++ later)) waits ∙ ap (λ t. sent ++ t) (append_assoc lines more later) ∙ ap (λ t. sent ++ (lines ++ t)) (sym cut) ∙ is

-- if no later write failed, the stream has failed if and only if it had failed before
pub calm_still : (a b : Bool) → b ≡ a → b ≡ (a || false)
calm_still true b e = e
calm_still false b e = e

-- if a prefix of a text was written, it is also a prefix of the text followed by more bytes
pub cut_short : (text more : List ℕ) (wanted : ExitStatus) (old new : Outgoing) (count : ℕ) → WritesPrefix old new text count → EndsPrinting (text ++ more) wanted old new StreamFailed
cut_short text more wanted old new count part =
    let longer : WritesPrefix old new (text ++ more) count = record {
      n = part.n;
      within = omega (arith, part.within, length-append text more);
      count_is = part.count_is;
      out = subst (Sends old new) (sym (take-append-le part.n text more (omega (arith, part.within)))) part.out;
      failed = part.failed;
    } in
    inr (refl, (count, longer))

-- reading the text failed, and the fault was printed
pub refused_to_read : (bytes : List ℕ) (fault : ReadFault) (old new : Outgoing) (status : ExitStatus) → IsFaultOf fault (reading bytes) → EndsPrinting (read_fault_line fault) Refused old new status
    → Changes bytes old new status
refused_to_read bytes (read.Memory refused) old new status is printed = inr printed
refused_to_read bytes (read.Line n fault) old new status is printed = subst (λ o. WritesChanges o old new status) (sym is) (inl printed)

module _ (r : Recorded) where
  -- the lines for all steps of the recording
  abbrev all_lines : List ℕ
  all_lines = change_lines 1 (empty_world r.limits) r.steps

  -- the lines for the steps from position n on
  abbrev lines_from : ℕ → World → List ℕ
  lines_from n w = change_lines (n + 1) w (drop n r.steps)

  -- the world is the one at position n, and these lines wait to be written
  pub record Progress (n : ℕ) (w : World) (lines : List ChangeLine) (old new : Outgoing) : Type 0 where
    pub sent : List ℕ
    pub out : Sends old new sent
    pub calm : new.failed ≡ old.failed
    pub rest : sent ++ (texts_of lines ++ lines_from n w) ≡ all_lines
    pub fault : first_fault (n + 1) w (drop n r.steps) ≡ first_fault 1 (empty_world r.limits) r.steps

  -- before the first step
  pub begins : (w : World) (out : Outgoing) → w ≡ empty_world r.limits → Progress 0 w [] out out
  begins w out is =
      record {
        sent = [];
        out = sends_none out;
        calm = refl;
        rest = ap (λ x. change_lines 1 x r.steps) is;
        fault = ap (λ x. first_fault 1 x r.steps) is;
      }

  -- the steps from position n on are the step at n, followed by the steps from n + 1 on
  steps_there : (n : ℕ) (s : RecordedStep) → slice_get r.steps n ≡ Some s → drop n r.steps ≡ s ∷ drop (n + 1) r.steps
  steps_there n s read = drop_more r.steps n s (slice_get_within r.steps n s read) ∙ ap (λ x. x ∷ drop (n + 1) r.steps) (get_or_from_slice_get r.steps n s s read)

  -- the lines for the steps after position n, given the fault of the first of these steps, if it
  -- has one
  lines_by : (n : ℕ) (w : World) (s : RecordedStep) (fault : Option LoadFault) → slice_get r.steps n ≡ Some s → step_fault (n + 1) s.answer (outcome w s.step) ≡ fault
      → lines_from n w
      ≡ unless_fault fault (lines_of_changes (n + 1) (changes_between w (next_of w (outcome w s.step))) ++ change_lines (n + 1 + 1) (next_of w (outcome w s.step)) (drop (n + 1) r.steps))
  lines_by n w s fault read is =
      let next = next_of w (outcome w s.step) in
      ap (change_lines (n + 1) w) (steps_there n s read)
      ∙ ap (λ f. unless_fault f (lines_of_changes (n + 1) (changes_between w next) ++ change_lines (n + 1 + 1) next (drop (n + 1) r.steps))) is

  fault_by : (n : ℕ) (w : World) (s : RecordedStep) (fault : Option LoadFault) → slice_get r.steps n ≡ Some s → step_fault (n + 1) s.answer (outcome w s.step) ≡ fault
      → first_fault (n + 1) w (drop n r.steps) ≡ fault_or fault (first_fault (n + 1 + 1) (next_of w (outcome w s.step)) (drop (n + 1) r.steps))
  fault_by n w s fault read is =
      ap (first_fault (n + 1) w) (steps_there n s read)
      ∙ ap (λ f. fault_or f (first_fault (n + 1 + 1) (next_of w (outcome w s.step)) (drop (n + 1) r.steps))) is

  -- if the step after position n has no fault, the lines for all steps after position n are the
  -- lines for this step, followed by the lines for the later steps
  lines_on : (n : ℕ) (w next : World) (s : RecordedStep) → slice_get r.steps n ≡ Some s → step_fault (n + 1) s.answer (outcome w s.step) ≡ None → next ≡ next_of w (outcome w s.step)
      → lines_from n w ≡ lines_of_changes (n + 1) (changes_between w next) ++ lines_from (n + 1) next
  lines_on n w next s read none leads =
      subst (λ x. lines_from n w ≡ lines_of_changes (n + 1) (changes_between w x) ++ lines_from (n + 1) x) (sym leads) (lines_by n w s None read none)

  fault_on : (n : ℕ) (w next : World) (s : RecordedStep) → slice_get r.steps n ≡ Some s → step_fault (n + 1) s.answer (outcome w s.step) ≡ None → next ≡ next_of w (outcome w s.step)
      → first_fault (n + 1) w (drop n r.steps) ≡ first_fault (n + 1 + 1) next (drop (n + 1) r.steps)
  fault_on n w next s read none leads =
      subst (λ x. first_fault (n + 1) w (drop n r.steps) ≡ first_fault (n + 1 + 1) x (drop (n + 1) r.steps)) (sym leads) (fault_by n w s None read none)

  -- a step was applied, and its lines now wait too
  pub stepped : (n : ℕ) (w next : World) (lines after : List ChangeLine) (old new : Outgoing) → Progress n w lines old new → StepsOn r n w lines next after → Progress (n + 1) next after old new
  stepped n w next lines after old new before step =
      record {
        sent = before.sent;
        out = before.out;
        calm = before.calm;
        rest =
            moved_on before.sent (texts_of lines) (texts_of after) (lines_of_changes (n + 1) (changes_between w next)) (lines_from (n + 1) next) (lines_from n w) all_lines
            (texts_behind (n + 1) lines after (changes_between w next) step.listed) (lines_on n w next step.recorded step.read step.faultless step.leads) before.rest;
        fault = sym (fault_on n w next step.recorded step.read step.faultless step.leads) ∙ before.fault;
      }

  -- the waiting lines were written
  pub flushed : (n : ℕ) (w : World) (lines : List ChangeLine) (old mid new : Outgoing) → Progress n w lines old mid → WritesAll mid new (texts_of lines) → Progress n w [] old new
  flushed n w lines old mid new before out =
      record {
        sent = before.sent ++ texts_of lines;
        out = sends_then old mid new before.sent (texts_of lines) before.out out.0;
        calm = out.1 ∙ before.calm;
        rest = append_assoc before.sent (texts_of lines) (lines_from n w) ∙ before.rest;
        fault = before.fault;
      }

  -- the remaining lines follow those that were written
  whole : (n : ℕ) (w : World) (lines : List ChangeLine) (old new : Outgoing) (last : List ℕ) → (before : Progress n w lines old new) → before.sent ++ (texts_of lines ++ (lines_from n w ++ last)) ≡ all_lines ++ last
  whole n w lines old new last before =
      ap (λ t. before.sent ++ t) (sym (append_assoc (texts_of lines) (lines_from n w) last))
      ∙ sym (append_assoc before.sent (texts_of lines ++ lines_from n w) last)
      ∙ ap (λ t. t ++ last) before.rest

  -- a write of the waiting lines failed
  pub broken : (n : ℕ) (w : World) (lines : List ChangeLine) (old mid new : Outgoing) (count : ℕ) → Progress n w lines old mid → WritesPrefix mid new (texts_of lines) count → WritesChanges (Ok r) old new StreamFailed
  broken n w lines old mid new count before part =
      let last = last_line (opened_as (Ok r)) in
      let more = lines_from n w ++ last in
      let wanted = status_of_opened (opened_as (Ok r)) in
      let ends = cut_short (texts_of lines) more wanted mid new count part in
      inl (subst (λ t. EndsPrinting t wanted old new StreamFailed) (whole n w lines old mid last before)
      (behind before.sent (texts_of lines ++ more) wanted StreamFailed old mid new before.out (calm_still old.failed mid.failed before.calm) ends))

  -- the waiting lines and the last line were printed, and no lines remain
  ends_with : (n : ℕ) (w : World) (lines : List ChangeLine) (old mid new : Outgoing) (status : ExitStatus) → Progress n w lines old mid → lines_from n w ≡ []
      → EndsPrinting (texts_of lines ++ last_line (opened_as (Ok r))) (status_of_opened (opened_as (Ok r))) mid new status → WritesChanges (Ok r) old new status
  ends_with n w lines old mid new status before none printed =
      let last = last_line (opened_as (Ok r)) in
      let wanted = status_of_opened (opened_as (Ok r)) in
      let all : before.sent ++ (texts_of lines ++ last) ≡ all_lines ++ last =
      ap (λ t. before.sent ++ (texts_of lines ++ (t ++ last))) (sym none) ∙ whole n w lines old mid last before in
      inl (subst (λ t. EndsPrinting t wanted old new status) all
      (behind before.sent (texts_of lines ++ last) wanted status old mid new before.out (calm_still old.failed mid.failed before.calm) printed))

  -- a step has a fault, which was printed
  pub faulted : (n : ℕ) (w : World) (fault : LoadFault) (lines after : List ChangeLine) (old mid new : Outgoing) (status : ExitStatus) → Progress n w lines old mid
      → HasFault r n w lines after fault → EndsPrinting (texts_of after ++ load_fault_line fault) Refused mid new status → WritesChanges (Ok r) old new status
  faulted n w fault lines after old mid new status before step printed =
      let none : lines_from n w ≡ [] = lines_by n w step.recorded (Some fault) step.read step.faulty in
      let found : first_fault 1 (empty_world r.limits) r.steps ≡ Some fault = sym before.fault ∙ fault_by n w step.recorded (Some fault) step.read step.faulty in
      ends_with n w lines old mid new status before none
      (subst (λ o. EndsPrinting (texts_of lines ++ last_line o) (status_of_opened o) mid new status) (sym (ap (λ f. run_or f r) found))
      (subst (λ t. EndsPrinting (t ++ load_fault_line fault) Refused mid new status) (ap texts_of step.kept) printed))

  -- all steps were applied, and the last line was printed
  pub ended : (n : ℕ) (w : World) (lines : List ChangeLine) (old mid new : Outgoing) (status : ExitStatus) → length r.steps ≤ n → Progress n w lines old mid
      → EndsPrinting (texts_of lines ++ accepted_line (length r.steps)) Done mid new status → WritesChanges (Ok r) old new status
  ended n w lines old mid new status all before printed =
      let nothing : drop n r.steps ≡ [] = drop_all n r.steps all in
      let none : lines_from n w ≡ [] = ap (change_lines (n + 1) w) nothing in
      let found : first_fault 1 (empty_world r.limits) r.steps ≡ None = sym before.fault ∙ ap (first_fault (n + 1) w) nothing in
      let accepted = ap (λ f. run_or f r) found in
      let many = ap accepted_line (steps_of_run r) in
      ends_with n w lines old mid new status before none
      (subst (λ o. EndsPrinting (texts_of lines ++ last_line o) (status_of_opened o) mid new status) (sym accepted)
      (subst (λ t. EndsPrinting (texts_of lines ++ t) Done mid new status) (sym many) printed))

  -- ---- the effect of a step

  -- the step was refused
  pub is_refused : (n : ℕ) (w : World) (step : Step) (reason : Refusal) (lines : List ChangeLine) → slice_get (run_of r).steps n ≡ Some step → outcome w step ≡ Err reason
      → HasFault r n w lines lines (load.Refused (n + 1) reason)
  is_refused n w step reason lines read is =
      let s = step_there r n step read in
      record {
        recorded = s.0;
        read = s.1;
        faulty = ap (λ x. step_fault (n + 1) s.0.answer (outcome w x)) s.2 ∙ ap (step_fault (n + 1) s.0.answer) is;
        kept = refl;
      }

  -- the step's answer differs from the recorded one
  pub is_otherwise : (n : ℕ) (w next : World) (step : Step) (given : Answer) (lines : List ChangeLine) → slice_get (run_of r).steps n ≡ Some step → outcome w step ≡ Ok (given, next)
      → Differs (recorded_at r n) given → HasFault r n w lines lines (load.OtherAnswer (n + 1))
  is_otherwise n w next step given lines read is differs =
      let s = step_there r n step read in
      record {
        recorded = s.0;
        read = s.1;
        faulty =
            ap (λ x. step_fault (n + 1) s.0.answer (outcome w x)) s.2
            ∙ ap (step_fault (n + 1) s.0.answer) is
            ∙ other_answer (n + 1) s.0.answer given next (subst (λ o. Differs o given) s.3 differs);
        kept = refl;
      }

  -- the step gave its recorded answer
  pub is_made : (n : ℕ) (w next : World) (step : Step) (given : Answer) (lines after : List ChangeLine) → slice_get (run_of r).steps n ≡ Some step → outcome w step ≡ Ok (given, next)
      → Agrees (recorded_at r n) given → after ≡ lines ++ as_lines (n + 1) (changes_between w next) → StepsOn r n w lines next after
  is_made n w next step given lines after read is agrees listed =
      let s = step_there r n step read in
      record {
        recorded = s.0;
        read = s.1;
        faultless =
            ap (λ x. step_fault (n + 1) s.0.answer (outcome w x)) s.2
            ∙ ap (step_fault (n + 1) s.0.answer) is
            ∙ no_fault (n + 1) s.0.answer given next (subst (λ o. Agrees o given) s.3 agrees);
        leads = sym (ap (λ x. next_of w (outcome w x)) s.2 ∙ ap (next_of w) is);
        listed = listed;
      }
