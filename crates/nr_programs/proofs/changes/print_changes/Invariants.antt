use Rattle.std.proofs.Common.{◌+◌, ◌≤◌, length}
use Rattle.nr_programs.proofs.ChangesLemmas.{Progress}
use Rattle.nr_programs.proofs.changes.print_changes.Given as goal

-- The loop has applied the first n steps, and the world is the one at position n. The lines for the
-- changes of these steps have been written, or wait to be written.
abbrev pub invariant-loop-n : goal.invariant-loop-n
invariant-loop-n g l =
    record {
      world : g.W.Reversible.is_well_formed l.world;
      room : length l.lines.items + 22 ≤ 256;
      progress : Progress l.recording l.n (g.W.Worlds.world l.world) l.lines.items l.fn.output l.output;
    }
