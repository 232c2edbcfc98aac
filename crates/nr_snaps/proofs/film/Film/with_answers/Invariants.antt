use Rattle.std.proofs.Common.{◌≡◌, ◌≤◌, length, take, true}
use Rattle.std.specs.Vec.{vec_capacity}
use Rattle.nr_recording.specs.Recording.{recorded}
use Rattle.nr_recording.specs.Auxiliary.Recording.{have_lines}
use Rattle.nr_recording.specs.declared.version.Version.TheVariants.{Two}
use Rattle.nr_rev.specs.World.{empty_world}
use Rattle.nr_snaps.specs.Auxiliary.Answers.{answered_steps}
use Rattle.nr_snaps.specs.Film.{IsFrame}
use Rattle.nr_snaps.proofs.film.Film.with_answers.Given as goal

-- the world is the frame at the position, and the steps applied so far are stored with the answers
-- that they give
abbrev pub invariant-loop-n : goal.invariant-loop-n
invariant-loop-n g l = record {
  frame : IsFrame g.W.Reversible.is_well_formed g.W.Worlds.world g.W.Reversible.steps l.self l.n l.world;
  room : length l.self.recording.steps ≤ vec_capacity l.steps;
  answers_room : length l.self.recording.steps ≤ vec_capacity l.answers;
  count : length l.steps.items ≡ l.n;
  answers_count : length l.answers.items ≡ l.n;
  steps : recorded l.steps.items l.answers.items ≡ answered_steps (empty_world l.self.recording.limits) (take l.n l.self.recording.steps);
  lines : have_lines Two l.steps.items ≡ true;
}
