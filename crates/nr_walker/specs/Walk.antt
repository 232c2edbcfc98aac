-- How a walker goes from one position to another, and what that costs.
use Rattle.std.specs.Prelude.{◌≡◌, ◌⊎◌, ℕ, ◌+◌, ◌-◌, ◌*◌, ◌/◌, ◌<◌, ◌≤◌, ◌&&◌, nat_lt, nat_le, min, if◌then◌else◌}
use Rattle.nr_rev.specs.Auxiliary.Run.{LosesBytesAt}
use Rattle.nr_snaps.specs.Film.{Reel}
use Rattle.nr_walker.specs.declared.moved.Moved.{Moved}
use Rattle.nr_walker.specs.declared.route.Route.{Route}
use Rattle.nr_walker.specs.declared.route.Route.TheVariants.{Back, Forward, FromCopy}

-- the abstract value of a walker: its film, its position, the number of deltas that it keeps, and
-- its depth, the maximum number of deltas that it can keep
pub record Walk (State : Type 0) : Type 0 where
  pub film : Reel State
  pub position : ℕ
  pub kept : ℕ
  pub depth : ℕ

module _ {State : Type 0} where
  -- the position of the copy at or below n
  abbrev pub copy_below : Walk State → ℕ → ℕ
  copy_below w n = n / w.film.every * w.film.every

  -- The route to position n: back if all deltas on the way are kept, forward if n is ahead by fewer
  -- steps than lie between two copies, and otherwise from the copy at or below n.
  abbrev pub route : Walk State → ℕ → Route
  route w n =
      if nat_le n w.position && nat_le (w.position - n) w.kept then Back
      else (if nat_le w.position n && nat_lt (n - w.position) w.film.every then Forward
      else FromCopy)

  -- the walker after it went back to position n, with fewer deltas
  abbrev pub backwards : Walk State → ℕ → Walk State
  backwards w n = record w { position = n; kept = w.kept - (w.position - n) }

  -- the walker after it went forward to position n, with one more delta for each step, up to the
  -- depth
  abbrev pub forwards : Walk State → ℕ → Walk State
  forwards w n = record w { position = n; kept = min (w.kept + (n - w.position)) w.depth }

  -- the walker at the copy at or below n, with no deltas
  abbrev pub at_copy : Walk State → ℕ → Walk State
  at_copy w n = record w { position = copy_below w n; kept = 0 }

  -- the walker after the walk
  abbrev pub walk_by : Route → Walk State → ℕ → Walk State
  walk_by Back w n = backwards w n
  walk_by Forward w n = forwards w n
  walk_by FromCopy w n = forwards (at_copy w n) n

  -- the cost of the walk
  abbrev pub moved_by : Route → Walk State → ℕ → Moved
  moved_by Back w n = record { applies = 0; undos = w.position - n; copies = 0 }
  moved_by Forward w n = record { applies = n - w.position; undos = 0; copies = 0 }
  moved_by FromCopy w n = record { applies = n - copy_below w n; undos = 0; copies = 1 }

  -- true if the walker stopped on the way to n, before a step at which bytes leave a buffer
  pub record StopsShort (from : Walk State) (n : ℕ) (stopped : Walk State) : Type 0 where
    pub on : from.position ≤ stopped.position
    pub short : stopped.position < n
    pub loses : LosesBytesAt from.film.recording stopped.position
    pub there : stopped ≡ forwards from stopped.position

  -- True if a walk to n that runs out of memory can leave the walker like this. Going back
  -- allocates no memory. A walk forward stops before n. A walk from a copy also stops before n, or
  -- doesn't move the walker at all.
  abbrev pub IsRefusedBy : Route → Walk State → ℕ → Walk State → Type 0
  IsRefusedBy Back old n new = ⊥
  IsRefusedBy Forward old n new = StopsShort old n new
  IsRefusedBy FromCopy old n new = (new ≡ old) ⊎ StopsShort (at_copy old n) n new
