use Rattle.std.proofs.Common.{◌≡◌}
use Rattle.nr_recording.specs.Recording.{run_of}
use Rattle.nr_rev.specs.Run.{world_at}
use Rattle.nr_suspects.specs.Suspects.{AreNotes}
use Rattle.nr_programs.specs.Auxiliary.Suspects.{fault_from}
use Rattle.nr_programs.proofs.suspects.find_suspects.Given as goal

-- the world and the notes are correct for the position, and no fault was skipped
abbrev pub invariant-loop-n : goal.invariant-loop-n
invariant-loop-n g l =
    record {
      world : g.W.Reversible.is_well_formed l.world;
      there : g.W.Worlds.world l.world ≡ world_at (run_of l.recording) l.n;
      notes : AreNotes (run_of l.recording) l.n l.notebook;
      faultless : fault_from l.recording 0 ≡ fault_from l.recording l.n;
    }
