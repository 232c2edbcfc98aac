-- A film: a recording whose steps all apply, with stored copies of the replay's states.
use Rattle.std.specs.Prelude.{◌≡◌, ℕ, ◌+◌, ◌*◌, ◌/◌, ◌≤◌, List, length, slice_get, Some}
use Rattle.nr_rev.specs.Run.{IsGood, Recording}
use Rattle.nr_rev.specs.Auxiliary.Run.{IsWorldAt}
use Rattle.nr_rev.specs.World.{World}
use Rattle.nr_rev.specs.declared.answer.Answer.{Answer}
use Rattle.nr_rev.specs.declared.step.Step.{Step}
use Rattle.nr_snaps.specs.Replay.{Replays}
use Rattle.nr_snaps.specs.declared.film.TheConstants.{LEAST_EVERY, MOST_EVERY}

-- the abstract value of a film: the recording, the number of steps between two copies, and the
-- first state of the replay
pub record Reel (State : Type 0) : Type 0 where
  pub recording : Recording
  pub every : ℕ
  pub origin : State

module _ {State : Type 0} (is_well_formed : State → Type 0) (world : State → World)
    (steps : State → Step → Answer → State → Type 0) where
  -- true if the state is exactly that of the replay at position n, is well formed, and represents
  -- the position's world
  pub record IsFrame (film : Reel State) (n : ℕ) (state : State) : Type 0 where
    pub is_at : IsWorldAt is_well_formed world film.recording n state
    pub replays : Replays steps film.recording film.origin n state

  -- true if there is one copy at each multiple of `every` after position 0, up to the end, and each
  -- copy stores the replay's state at its position
  pub record HasCopies {Snapshot : Type 0} (kept : Snapshot → State) (film : Reel State)
      (later : List Snapshot) : Type 0 where
    pub count : length later ≡ length film.recording.steps / film.every
    pub each : (i : ℕ) (copy : Snapshot) → slice_get later i ≡ Some copy
        → IsFrame film ((i + 1) * film.every) (kept copy)

  -- the invariant of films
  pub record IsFilm {Snapshot : Type 0} (kept : Snapshot → State) (film : Reel State)
      (later : List Snapshot) : Type 0 where
    pub least : LEAST_EVERY ≤ film.every
    pub most : film.every ≤ MOST_EVERY
    pub good : IsGood film.recording
    pub origin : IsWorldAt is_well_formed world film.recording 0 film.origin
    pub copies : HasCopies kept film later
