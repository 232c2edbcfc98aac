use Rattle.std.proofs.Common.{◌≡◌, ℕ, ◌+◌, ◌*◌, ◌≤◌, length, Some}
use Rattle.std.specs.List.{slice_get}
use Rattle.std.specs.Vec.{vec_capacity}
use Rattle.nr_snaps.specs.Answers.{AnswersAgreeTo}
use Rattle.nr_snaps.specs.Film.{IsFrame}
use Rattle.nr_snaps.proofs.loading.replay.Given as goal

-- the film that is being replayed
abbrev pub ghost-play : goal.ghost-play
ghost-play g a = g.film

-- the world is the frame at the last copy's position, and each copy stores the frame at its own
-- position
abbrev pub invariant-loop-i : goal.invariant-loop-i
invariant-loop-i g l =
    record {
      frame : IsFrame g.W.Reversible.is_well_formed g.W.Worlds.world g.W.Reversible.steps g.film (l.i * l.every) l.world;
      agree : AnswersAgreeTo l.recording (l.i * l.every);
      room : l.count ≤ vec_capacity l.later;
      count : length l.later.items ≡ l.i;
      each : (i : ℕ) (copy : _) → slice_get l.later.items i ≡ Some copy → IsFrame g.W.Reversible.is_well_formed g.W.Worlds.world g.W.Reversible.steps g.film ((i + 1) * l.every) (g.W.Worlds.kept copy);
    }
