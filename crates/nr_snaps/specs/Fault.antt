-- The reasons why a recording can't be loaded.
use Rattle.std.specs.Prelude.{◌≢◌, ℕ, ◌-◌, ◌<◌, List, ◌++◌, codes, decimal}
use Rattle.nr_recording.specs.Faults.{memory_text}
use Rattle.nr_recording.specs.Recording.{Recorded, run_of}
use Rattle.nr_rev.specs.Refusing.{out_of_memory, refusal_number}
use Rattle.nr_rev.specs.Run.{IsRefusedAt}
use Rattle.nr_snaps.specs.Answers.{AnswersAgreeTo, AnswersOtherwiseAt}
use Rattle.nr_snaps.specs.declared.fault.LoadFault.{LoadFault}
use Rattle.nr_snaps.specs.declared.fault.LoadFault.TheVariants as fault

-- True if the fault is that of the step with this number, counted from 1. The earlier steps apply
-- and give their recorded answers. This step is refused for the given reason, but not for lack of
-- memory, or it gives an answer other than the recorded one.
abbrev pub IsStepFault : Recorded → LoadFault → Type 0
IsStepFault r (fault.Memory refused) = ⊥
IsStepFault r (fault.Refused step reason) = (0 < step) × (reason ≢ out_of_memory)
    × IsRefusedAt (run_of r) (step - 1) reason × AnswersAgreeTo r (step - 1)
IsStepFault r (fault.OtherAnswer step) = (0 < step) × AnswersOtherwiseAt r (step - 1)

-- the text of a fault
abbrev pub load_fault_text : LoadFault → List ℕ
load_fault_text (fault.Refused step reason) =
    codes "step " ++ decimal step ++ codes ": fault 107 reason " ++ decimal (refusal_number reason)
load_fault_text (fault.OtherAnswer step) =
    codes "step " ++ decimal step ++ codes ": fault 109 answer"
load_fault_text (fault.Memory refused) = memory_text

-- the line that is printed for a fault
abbrev pub load_fault_line : LoadFault → List ℕ
load_fault_line f = load_fault_text f ++ codes "\n"
