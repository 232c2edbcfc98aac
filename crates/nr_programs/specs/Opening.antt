-- Whether netrev accepts the bytes of a file as a recording, and if not, why.
use Rattle.std.specs.Prelude.{◌≡◌, ℕ, ◌+◌, Bool, List, [], ◌∷◌, Option, Some, None, Result, Ok, Err, if◌then◌else◌}
use Rattle.nr_rev.specs.Run.{Recording, IsGood, next_of}
use Rattle.nr_rev.specs.Step.{Outcome, outcome}
use Rattle.nr_rev.specs.World.{World, empty_world}
use Rattle.nr_rev.specs.contracts.answer.AnswerPartialEq.TheImpl as answer_eq
use Rattle.nr_rev.specs.declared.answer.Answer.{Answer}
use Rattle.nr_recording.specs.Faults.{read_fault_line}
use Rattle.nr_recording.specs.Reading.{reading}
use Rattle.nr_recording.specs.Text.{IsTextOf}
use Rattle.nr_recording.specs.declared.fault.ReadFault.{ReadFault}
use Rattle.nr_recording.specs.declared.fault.ReadFault.TheVariants as read
use Rattle.nr_recording.specs.declared.recording.RecordedStep.{RecordedStep}
use Rattle.nr_recording.specs.Recording.{Recorded, run_of}
use Rattle.nr_snaps.specs.Answers.{AnswersAgree}
use Rattle.nr_snaps.specs.Fault.{IsStepFault, load_fault_line}
use Rattle.nr_snaps.specs.declared.fault.LoadFault.{LoadFault}
use Rattle.nr_snaps.specs.declared.fault.LoadFault.TheVariants as load
use Rattle.nr_programs.specs.declared.opening.OpenFault.{OpenFault}
use Rattle.nr_programs.specs.declared.opening.OpenFault.TheVariants.{Read, Load}

-- True if the bytes are the text of a recording of this run. All steps of the recording apply and
-- give their recorded answers.
pub record IsGoodText (bytes : List ℕ) (r : Recording) : Type 0 where
  pub recorded : Recorded
  pub text : IsTextOf bytes recorded
  pub run : run_of recorded ≡ r
  pub good : IsGood r
  pub answers : AnswersAgree recorded

-- this is the first fault of the bytes, or memory ran out
abbrev pub IsFirstFault : List ℕ → OpenFault → Type 0
IsFirstFault bytes (Read (read.Memory refused)) = Unit {0}
IsFirstFault bytes (Read (read.Line n fault)) = reading bytes ≡ Err (read.Line n fault)
IsFirstFault bytes (Load (load.Memory refused)) = Unit {0}
IsFirstFault bytes (Load fault) = (r : Recorded) × IsTextOf bytes r × IsStepFault r fault

-- ---- computed

-- true if two answers are equal
abbrev pub same_answer : Answer → Answer → Bool
same_answer = (answer_eq.ghosts).eq

-- The fault of the step with this number, if it has a fault: it doesn't apply, or its answer
-- differs from the recorded one.
abbrev pub step_fault : ℕ → Option Answer → Outcome → Option LoadFault
step_fault n recorded (Err reason) = Some (load.Refused n reason)
step_fault n None (Ok (answer, next)) = None
step_fault n (Some recorded) (Ok (answer, next)) =
    if same_answer recorded answer then None else Some (load.OtherAnswer n)

-- the first fault, or the second if there is no first
abbrev pub fault_or : Option LoadFault → Option LoadFault → Option LoadFault
fault_or None later = later
fault_or (Some fault) later = Some fault

-- the first fault of these steps, starting from a world; the first step has this number
abbrev pub first_fault : ℕ → World → List RecordedStep → Option LoadFault
first_fault n w [] = None
first_fault n w (recorded ∷ steps) =
    let came = outcome w recorded.step in
    fault_or (step_fault n recorded.answer came) (first_fault (n + 1) (next_of w came) steps)

-- the run of a recording, unless a step has a fault
abbrev pub run_or : Option LoadFault → Recorded → Result Recording OpenFault
run_or None r = Ok (run_of r)
run_or (Some fault) r = Err (Load fault)

-- the run that was read, or the first fault
abbrev pub opened_as : Result Recorded ReadFault → Result Recording OpenFault
opened_as (Ok r) = run_or (first_fault 1 (empty_world r.limits) r.steps) r
opened_as (Err fault) = Err (Read fault)

-- The run that the bytes record, or the first fault of the bytes.
abbrev pub opened : List ℕ → Result Recording OpenFault
opened bytes = opened_as (reading bytes)

-- the line of a fault
abbrev pub fault_line : OpenFault → List ℕ
fault_line (Read fault) = read_fault_line fault
fault_line (Load fault) = load_fault_line fault
