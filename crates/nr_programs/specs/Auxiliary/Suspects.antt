-- Helper definitions for `Suspects`. The laws in THEOREM.md don't use them.
use Rattle.std.specs.Prelude.{◌≡◌, ℕ, ◌+◌, drop, Option, Some, Ok}
use Rattle.nr_rev.specs.Run.{world_at}
use Rattle.nr_rev.specs.World.{World}
use Rattle.nr_recording.specs.Recording.{Recorded, run_of}
use Rattle.nr_snaps.specs.declared.fault.LoadFault.{LoadFault}
use Rattle.nr_snaps.specs.declared.fault.LoadFault.TheVariants as load
use Rattle.nr_suspects.specs.Suspects.{AreNotes, Notes, found_lines, suspect_lines}
use Rattle.nr_suspects.specs.declared.suspects.Suspects.{Suspects}
use Rattle.nr_programs.specs.Opening.{first_fault, opened_as}

-- the first fault of the steps from position n on
abbrev pub fault_from : Recorded → ℕ → Option LoadFault
fault_from r n = first_fault (n + 1) (world_at (run_of r) n) (drop n r.steps)

-- this is the first fault from position n on, or memory ran out
abbrev pub IsFaultFrom : Recorded → ℕ → LoadFault → Type 0
IsFaultFrom r n (load.Memory refused) = Unit {0}
IsFaultFrom r n fault = fault_from r n ≡ Some fault

-- The step after position n was applied: the world and the notes are correct for the next position,
-- and no fault was skipped.
pub record IsStepMade (r : Recorded) (n : ℕ) (w : World) (kept : Notes) : Type 0 where
  pub there : w ≡ world_at (run_of r) (n + 1)
  pub notes : AreNotes (run_of r) (n + 1) kept
  pub faultless : fault_from r n ≡ fault_from r (n + 1)

-- The recording has no fault, and these are its suspects.
pub record AreSuspectsOf (r : Recorded) (found : Suspects) : Type 0 where
  pub opens : opened_as (Ok r) ≡ Ok (run_of r)
  pub lines : found_lines found ≡ suspect_lines (run_of r)
