-- Helper definitions for `Fault`. The laws in THEOREM.md don't use them.
use Rattle.nr_recording.specs.Recording.{Recorded}
use Rattle.nr_snaps.specs.declared.fault.LoadFault.{LoadFault}
use Rattle.nr_snaps.specs.declared.fault.LoadFault.TheVariants as fault
use Rattle.nr_snaps.specs.Fault.{IsStepFault}

-- true if the fault is a step's fault or reports that memory ran out
abbrev pub IsLoadFault : Recorded → LoadFault → Type 0
IsLoadFault r (fault.Memory refused) = Unit {0}
IsLoadFault r f = IsStepFault r f
