-- The progress of `suspects`: the world and the notes are correct for a position, and no fault was
-- skipped.
use Rattle.std.proofs.Common.{◌≡◌, ℕ, ◌+◌, ◌≤◌, List, ◌++◌, length, drop, Some, None, Ok, Err, inl, inr, refl, sym, ap, subst, ◌∙◌}
use Rattle.std.specs.Prelude.{slice_get}
use Rattle.std.proofs.lemmas.List.{drop_all, length-map}
use Rattle.nr_rev.proofs.RunLemmas.{IsWorldAt-next}
use Rattle.nr_rev.specs.Run.{next_of, world_at}
use Rattle.nr_rev.specs.Step.{Outcome, outcome}
use Rattle.nr_rev.specs.World.{World}
use Rattle.nr_rev.specs.declared.answer.Answer.{Answer}
use Rattle.nr_rev.specs.declared.refusal.Refusal.{Refusal}
use Rattle.nr_rev.specs.declared.step.Step.{Step}
use Rattle.nr_recording.specs.Auxiliary.Reading.{IsFaultOf}
use Rattle.nr_recording.specs.Faults.{read_fault_line}
use Rattle.nr_recording.specs.Reading.{reading}
use Rattle.nr_recording.specs.Recording.{Recorded, recorded_at, run_of}
use Rattle.nr_recording.specs.declared.fault.ReadFault.{ReadFault}
use Rattle.nr_recording.specs.declared.fault.ReadFault.TheVariants as read
use Rattle.nr_snaps.specs.Answers.{Agrees, Differs}
use Rattle.nr_snaps.specs.Fault.{load_fault_line}
use Rattle.nr_snaps.specs.declared.fault.LoadFault.{LoadFault}
use Rattle.nr_snaps.specs.declared.fault.LoadFault.TheVariants as load
use Rattle.nr_suspects.proofs.NotebookLemmas.{notes_next, notice_here}
use Rattle.nr_suspects.specs.Accounts.{IsNoted, kept_of}
use Rattle.nr_suspects.specs.DeadlineFindings.{findings_at}
use Rattle.nr_suspects.specs.Holdings.{AreHeld}
use Rattle.nr_suspects.specs.Notices.{notice}
use Rattle.nr_suspects.specs.Peers.{ArePeersNoted}
use Rattle.nr_suspects.specs.Suspects.{AreNotes, Notes, found_lines}
use Rattle.nr_suspects.specs.declared.notice.Notice.{Notice}
use Rattle.nr_suspects.specs.declared.suspects.Suspects.{Suspects}
use Rattle.nr_text.specs.Streams.{Outgoing}
use Rattle.nr_programs.proofs.FaultLemmas.{fault_at, other_answer, step_on, step_there}
use Rattle.nr_programs.specs.Auxiliary.Suspects.{AreSuspectsOf, IsFaultFrom, IsStepMade, fault_from}
use Rattle.nr_programs.specs.Opening.{fault_or, first_fault, opened_as, run_or, step_fault}
use Rattle.nr_programs.specs.Run.{EndsPrinting, accepted_line}
use Rattle.nr_programs.specs.Suspects.{ShowsSuspects, WritesSuspects}
use Rattle.nr_programs.specs.declared.run.ExitStatus.{ExitStatus}
use Rattle.nr_programs.specs.declared.run.ExitStatus.TheVariants.{Done, Refused}

module _ (r : Recorded) where
  -- a step was refused
  pub is_refused : (n : ℕ) (w : World) (step : Step) (reason : Refusal) → w ≡ world_at (run_of r) n → slice_get (run_of r).steps n ≡ Some step → outcome w step ≡ Err reason
      → IsFaultFrom r n (load.Refused (n + 1) reason)
  is_refused n w step reason there read is =
      let s = step_there r n step read in
      let came : outcome (world_at (run_of r) n) s.0.step ≡ Err reason = ap (outcome (world_at (run_of r) n)) s.2 ∙ ap (λ x. outcome x step) (sym there) ∙ is in
      fault_at r n s.0 s.1
      ∙ ap (λ (o : Outcome). fault_or (step_fault (n + 1) s.0.answer o) (first_fault (n + 1 + 1) (next_of (world_at (run_of r) n) o) (drop (n + 1) r.steps))) came

  -- the step's answer differs from the recorded one
  pub is_otherwise : (n : ℕ) (w next : World) (step : Step) (given : Answer) → w ≡ world_at (run_of r) n → slice_get (run_of r).steps n ≡ Some step → outcome w step ≡ Ok (given, next)
      → Differs (recorded_at r n) given → IsFaultFrom r n (load.OtherAnswer (n + 1))
  is_otherwise n w next step given there read is differs =
      let s = step_there r n step read in
      let came : outcome (world_at (run_of r) n) s.0.step ≡ Ok (given, next) = ap (outcome (world_at (run_of r) n)) s.2 ∙ ap (λ x. outcome x step) (sym there) ∙ is in
      let later = first_fault (n + 1 + 1) next (drop (n + 1) r.steps) in
      fault_at r n s.0 s.1
      ∙ ap (λ (o : Outcome). fault_or (step_fault (n + 1) s.0.answer o) (first_fault (n + 1 + 1) (next_of (world_at (run_of r) n) o) (drop (n + 1) r.steps))) came
      ∙ ap (λ f. fault_or f later) (other_answer (n + 1) s.0.answer given next (subst (λ o. Differs o given) s.3 differs))

  -- the step was applied, and the notes were updated
  pub is_made : (n : ℕ) (w next : World) (step : Step) (given : Answer) (noticed : Notice) (old new : Notes) → w ≡ world_at (run_of r) n → slice_get (run_of r).steps n ≡ Some step
      → outcome w step ≡ Ok (given, next) → Agrees (recorded_at r n) given → noticed ≡ notice w step given next → AreNotes (run_of r) n old → IsNoted (n + 1) noticed old.accounts new.accounts
      → ArePeersNoted noticed old.peers new.peers
      → AreHeld (n + 1) noticed old.rows new.rows → new.deadlines ≡ old.deadlines ++ findings_at (n + 1) noticed (kept_of old.accounts) → IsStepMade r n next new
  is_made n w next step given noticed old new there read is agrees noticed_is notes accounts peers rows deadlines =
      let came : outcome (world_at (run_of r) n) step ≡ Ok (given, next) = ap (λ x. outcome x step) (sym there) ∙ is in
      record {
        there = (IsWorldAt-next (λ (x : World). Unit {0}) (λ x. x) (run_of r) n step given (world_at (run_of r) n) next (record { well_formed = tt; there = refl }) read came tt).there;
        notes = notes_next (run_of r) n noticed old new notes
            (noticed_is ∙ ap (λ x. notice x step given next) there ∙ sym (notice_here (run_of r) n step given next read came)) accounts peers rows deadlines;
        faultless = step_on r n step given next read came agrees;
      }

  -- all steps were applied
  pub opens : (n : ℕ) → length r.steps ≤ n → fault_from r 0 ≡ fault_from r n → opened_as (Ok r) ≡ Ok (run_of r)
  opens n last on =
      let none : fault_from r n ≡ None = ap (first_fault (n + 1) (world_at (run_of r) n)) (drop_all n r.steps last) in
      ap (λ f. run_or f r) (on ∙ none)

  -- if no fault was skipped, the first fault from a later position on is the first fault of the
  -- recording
  pub first_of : (n : ℕ) (fault : LoadFault) → fault_from r 0 ≡ fault_from r n → IsFaultFrom r n fault → IsFaultFrom r 0 fault
  first_of n (load.Memory refused) on is = tt
  first_of n (load.Refused step reason) on is = on ∙ is
  first_of n (load.OtherAnswer step) on is = on ∙ is

-- ---- the output

-- reading the text failed, and the fault was printed
pub refused_to_read : (bytes : List ℕ) (fault : ReadFault) (old new : Outgoing) (status : ExitStatus) → IsFaultOf fault (reading bytes) → EndsPrinting (read_fault_line fault) Refused old new status
    → ShowsSuspects bytes old new status
refused_to_read bytes (read.Memory refused) old new status is printed = inr printed
refused_to_read bytes (read.Line n fault) old new status is printed = subst (λ o. WritesSuspects (opened_as o) old new status) (sym is) (inl printed)

-- a step has a fault, which was printed
pub refused_to_load : (bytes : List ℕ) (r : Recorded) (fault : LoadFault) (old new : Outgoing) (status : ExitStatus) → reading bytes ≡ Ok r → IsFaultFrom r 0 fault
    → EndsPrinting (load_fault_line fault) Refused old new status → ShowsSuspects bytes old new status
refused_to_load bytes r (load.Memory refused) old new status is first printed = inr printed
refused_to_load bytes r (load.Refused step reason) old new status is first printed =
    subst (λ o. WritesSuspects o old new status) (sym (ap opened_as is ∙ ap (λ f. run_or f r) first)) (inl printed)
refused_to_load bytes r (load.OtherAnswer step) old new status is first printed =
    subst (λ o. WritesSuspects o old new status) (sym (ap opened_as is ∙ ap (λ f. run_or f r) first)) (inl printed)

-- the suspects were printed
pub were_printed : (bytes : List ℕ) (r : Recorded) (found : Suspects) (old new : Outgoing) (status : ExitStatus) → reading bytes ≡ Ok r → AreSuspectsOf r found
    → EndsPrinting (found_lines found ++ accepted_line (length r.steps)) Done old new status → ShowsSuspects bytes old new status
were_printed bytes r found old new status is are printed =
    let same : length (run_of r).steps ≡ length r.steps = length-map r.steps (λ recorded. recorded.step) in
    subst (λ o. WritesSuspects o old new status) (sym (ap opened_as is ∙ are.opens))
    (inl (subst (λ text. EndsPrinting (text ++ accepted_line (length (run_of r).steps)) Done old new status) are.lines
    (subst (λ n. EndsPrinting (found_lines found ++ accepted_line n) Done old new status) (sym same) printed)))
