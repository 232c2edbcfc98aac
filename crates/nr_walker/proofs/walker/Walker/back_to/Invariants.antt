use Rattle.std.proofs.Common.{◌≡◌, ◌≤◌}
use Rattle.nr_walker.specs.Walk.{backwards}
use Rattle.nr_walker.proofs.walker.Walker.back_to.Given as goal

-- the walker has gone back, but not past n
abbrev pub invariant-loop-self : goal.invariant-loop-self
invariant-loop-self g l =
    record {
      above : l.n ≤ l.self.position;
      below : l.self.position ≤ l.fn.self.position;
      way : l.self ≡ backwards l.fn.self l.self.position;
    }

abbrev pub decreases-loop-self : goal.decreases-loop-self
decreases-loop-self g l = l.self.position
