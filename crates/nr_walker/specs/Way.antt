-- The deltas that a walker keeps.
use Rattle.std.specs.Prelude.{◌≡◌, ℕ, ◌+◌, ◌%◌, ◌<◌, ◌≤◌, List, length, slice_get, Some, vec_capacity}
use Rattle.std.specs.Global.{Vec}
use Rattle.nr_rev.specs.World.{World}
use Rattle.nr_rev.specs.declared.answer.Answer.{Answer}
use Rattle.nr_rev.specs.declared.step.Step.{Step}
use Rattle.nr_snaps.specs.Film.{IsFrame, Reel}
use Rattle.nr_walker.specs.declared.walker.TheConstants.{LEAST_DEPTH, MOST_DEPTH}

module _ {State Delta : Type 0} (is_well_formed : State → Type 0) (world : State → World)
    (steps : State → Step → Answer → State → Type 0) (back : Delta → State → State → Type 0)
    (film : Reel State) where
  -- true if undoing the delta turns the film's state at position k + 1 into its state at position k
  pub record LeadsBackTo (k : ℕ) (delta : Delta) : Type 0 where
    pub new : State
    pub old : State
    pub after : IsFrame is_well_formed world steps film (k + 1) new
    pub before : IsFrame is_well_formed world steps film k old
    pub undone : back delta new old

  -- true if the place of the step after position k contains a delta that undoes that step
  pub record IsKept (depth : ℕ) (places : List Delta) (k : ℕ) : Type 0 where
    pub delta : Delta
    pub there : slice_get places (k % (depth + 1)) ≡ Some delta
    pub leads_back : LeadsBackTo k delta

  -- True if the film has this state at the position, and the deltas of the last steps are in their
  -- places. `next` is the place of the next step.
  pub record IsWay (position : ℕ) (state : State) (places : Vec Delta) (next kept depth : ℕ) :
      Type 0 where
    pub within : position ≤ length film.recording.steps
    pub frame : IsFrame is_well_formed world steps film position state
    pub least : LEAST_DEPTH ≤ depth
    pub most : depth ≤ MOST_DEPTH
    pub behind : kept ≤ position
    pub few : kept ≤ depth
    pub next_is : next ≡ position % (depth + 1)
    pub room : depth + 1 ≤ vec_capacity places
    pub deltas : (k : ℕ) → k < position → position ≤ k + kept → IsKept depth places.items k
