-- Steps of a packed world: their outcomes and their undos.
use Rattle.std.specs.Prelude.{Option}
use Rattle.nr_rev.specs.declared.refusal.Refusal.{Refusal}
use Rattle.nr_rev.specs.declared.step.Step.{Step}
use Rattle.nr_rev.specs.Step.{outcome}
use Rattle.nr_rev.specs.Worlds.{LosesBytes, refusal_of}
use Rattle.nr_machine.specs.World.{WorldParts, meant}

-- the reason why a step does not apply
abbrev pub parts_reason : WorldParts → Step → Option Refusal
parts_reason m step = refusal_of (outcome (meant m) step)

-- true if a step allocates memory because bytes leave a buffer
abbrev pub TakesMemory : WorldParts → Step → Type 0
TakesMemory m step = LosesBytes (meant m) step
