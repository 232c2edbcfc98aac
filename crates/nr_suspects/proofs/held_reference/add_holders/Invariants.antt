-- The references held by the goroutines visited so far are listed.
use Rattle.std.proofs.Common.{◌≡◌, ◌++◌}
use Rattle.nr_suspects.specs.HeldReferences.{held_of_goroutines}
use Rattle.nr_suspects.specs.Holdings.{holding_of}
use Rattle.nr_suspects.proofs.held_reference.add_holders.Given as goal

abbrev pub invariant-loop-goroutine : goal.invariant-loop-goroutine
invariant-loop-goroutine g l = l.found.items ≡ l.fn.found.items ++ held_of_goroutines l.position (g.W.Worlds.world l.world) l.socket (holding_of l.ledger l.socket) l.goroutine
