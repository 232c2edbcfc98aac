-- A recording whose steps all apply and give their recorded answers has no fault.
use Rattle.std.proofs.Common.{◌≡◌, ℕ, List, refl, sym, ap, subst, ◌∙◌}
use Rattle.nr_recording.proofs.TextLaws.{reading_again}
use Rattle.nr_recording.specs.Faults.{memory_line}
use Rattle.nr_recording.specs.Recording.{Recorded, run_of}
use Rattle.nr_recording.specs.Text.{IsTextOf}
use Rattle.nr_recording.specs.declared.fault.ReadFault.TheVariants as read
use Rattle.nr_rev.specs.Run.{Recording, IsGood}
use Rattle.nr_snaps.proofs.RefusedLemmas.{fault_is_bad}
use Rattle.nr_snaps.specs.Answers.{AnswersAgree}
use Rattle.nr_snaps.specs.Fault.{IsStepFault}
use Rattle.nr_snaps.specs.declared.fault.LoadFault.{LoadFault}
use Rattle.nr_snaps.specs.declared.fault.LoadFault.TheVariants as load
use Rattle.nr_text.specs.Streams.{Outgoing}
use Rattle.nr_programs.specs.Opening.{IsFirstFault, IsGoodText, fault_line}
use Rattle.nr_programs.specs.Run.{EndsPrinting}
use Rattle.nr_programs.specs.declared.opening.OpenFault.{OpenFault}
use Rattle.nr_programs.specs.declared.opening.OpenFault.TheVariants.{Read, Load}
use Rattle.nr_programs.specs.declared.run.ExitStatus.{ExitStatus}
use Rattle.nr_programs.specs.declared.run.ExitStatus.TheVariants.{Refused}

-- `IsGoodText` holds for bytes whose recording was replayed without a fault
pub good_text : (bytes : List ℕ) (recorded : Recorded) (run : Recording) → IsTextOf bytes recorded → run_of recorded ≡ run → IsGood (run_of recorded)
    → AnswersAgree recorded → IsGoodText bytes run
good_text bytes recorded run text same good answers = record {
  recorded = recorded;
  text = text;
  run = same;
  good = subst IsGood same good;
  answers = answers;
}

-- the same bytes can't be the text of two different recordings
same_recorded : (bytes : List ℕ) (r s : Recorded) → IsTextOf bytes r → IsTextOf bytes s → r ≡ s
same_recorded bytes r s one other =
    let first = reading_again bytes r one in
    let second = reading_again bytes s other in
    cc

-- if `IsGoodText` holds for the same bytes and two runs, the runs are equal
pub one_recording : (bytes : List ℕ) (r s : Recording) → IsGoodText bytes r → IsGoodText bytes s → r ≡ s
one_recording bytes r s one other =
    sym one.run ∙ ap run_of (same_recorded bytes one.recorded other.recorded one.text other.text) ∙ other.run

-- if `IsGoodText` holds for bytes, no step of their recording has a fault
no_step_fault : (bytes : List ℕ) (r : Recording) (s : Recorded) (fault : LoadFault) → IsGoodText bytes r → IsTextOf bytes s → ¬ IsStepFault s fault
no_step_fault bytes r s fault is text faulty =
    let same = same_recorded bytes is.recorded s is.text text in
    let good : IsGood (run_of s) = subst (λ (x : Recorded). IsGood (run_of x)) same (subst IsGood (sym is.run) is.good) in
    fault_is_bad s fault faulty (good, subst AnswersAgree same is.answers)

-- if `IsGoodText` holds for bytes, the only fault that can be reported is lack of memory
only_memory : (bytes : List ℕ) (fault : OpenFault) (r : Recording) → IsFirstFault bytes fault → IsGoodText bytes r → fault_line fault ≡ memory_line
only_memory bytes (Read (read.Memory refused)) r first is = refl
only_memory bytes (Read (read.Line n fault)) r first is =
    let again = reading_again bytes is.recorded is.text in
    cc
only_memory bytes (Load (load.Memory refused)) r first is = refl
only_memory bytes (Load (load.Refused n reason)) r first is = absurd (no_step_fault bytes r first.0 (load.Refused n reason) is first.1 first.2)
only_memory bytes (Load (load.OtherAnswer n)) r first is = absurd (no_step_fault bytes r first.0 (load.OtherAnswer n) is first.1 first.2)

-- if `IsGoodText` holds for bytes, the only fault that can be printed is lack of memory
pub prints_memory : (bytes : List ℕ) (fault : OpenFault) (r : Recording) (old new : Outgoing) (status : ExitStatus)
    → IsFirstFault bytes fault → IsGoodText bytes r → EndsPrinting (fault_line fault) Refused old new status → EndsPrinting memory_line Refused old new status
prints_memory bytes fault r old new status first is prints =
    subst (λ printed. EndsPrinting printed Refused old new status) (only_memory bytes fault r first is) prints
