-- Helper definitions for `Replica`. The laws in THEOREM.md don't use them.
use Rattle.std.specs.Prelude.{◌≡◌, ◌⊎◌, ℕ, true, if◌then◌else◌}
use Rattle.nr_rev.specs.Run.{Recording}
use Rattle.nr_walker.specs.Walk.{IsRefusedBy, Walk, route, walk_by}
use Rattle.nr_command.specs.Auxiliary.Debugger.{Copies}
use Rattle.nr_command.specs.Looking.{is_at_world}
use Rattle.nr_command.specs.declared.command.Query.{Query}
use Rattle.nr_command.specs.declared.debugger.Debugger.{Debugger}
use Rattle.nr_front.specs.Replica.{WalkerState}

-- the abstract value of a replica: its recording, the number of workers, its debugger, and its
-- walker
pub record ReplicaState : Type 0 where
  pub recording : Recording
  pub workers : ℕ
  pub debugger : Debugger
  pub walker_state : WalkerState

-- the state of this walker
abbrev pub walker_state_of : {State : Type 0} → Walk State → WalkerState
walker_state_of w =
    record { position = w.position; kept = w.kept; depth = w.depth; every = w.film.every }

-- a walker with this state over the recording; the states in its film don't matter
abbrev pub walk_of : Recording → WalkerState → Walk (Unit {0})
walk_of r f =
    record {
      film = record { recording = r; every = f.every; origin = tt };
      position = f.position;
      kept = f.kept;
      depth = f.depth;
    }

-- the state of a walker that hasn't moved
abbrev pub at_start : ℕ → ℕ → WalkerState
at_start every depth = record { position = 0; kept = 0; depth = depth; every = every }

-- the state of a walker after it went to position n
abbrev pub led_to : ℕ → Recording → WalkerState → WalkerState
led_to n r f = walker_state_of (walk_by (route (walk_of r f) n) (walk_of r f) n)

-- the walker's state after a query; a query about the world moves the walker to the debugger's
-- position
abbrev pub after_look : Query → ReplicaState → WalkerState
after_look query m =
    if is_at_world query then led_to m.debugger.position m.recording m.walker_state
    else m.walker_state

-- True if the walker ran out of memory on the way to position n, while it restored a copy or before
-- a step at which bytes leave a buffer. Going back over deltas allocates no memory.
abbrev pub IsRefusedOnTheWay : ℕ → Recording → WalkerState → WalkerState → Type 0
IsRefusedOnTheWay n r old new =
    IsRefusedBy (route (walk_of r old) n) (walk_of r old) n (walk_of r new)

-- True if a query about the world may have run out of memory. Either the walker ran out of memory
-- before it reached the debugger's position, or the walker reached that position and the query
-- copies what it prints.
pub record LookIsRefused (query : Query) (m : ReplicaState) (new : WalkerState) : Type 0 where
  pub at_world : is_at_world query ≡ true
  pub why :
      IsRefusedOnTheWay m.debugger.position m.recording m.walker_state new
      ⊎ ((new ≡ led_to m.debugger.position m.recording m.walker_state)
      × Copies m.recording m.debugger query)
