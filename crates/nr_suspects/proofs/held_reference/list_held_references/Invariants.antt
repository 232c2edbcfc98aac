-- The held references to the sockets visited so far are listed.
use Rattle.std.proofs.Common.{◌≡◌, ◌++◌}
use Rattle.nr_suspects.specs.HeldReferences.{held_of_sockets}
use Rattle.nr_suspects.specs.Holdings.{holding_of}
use Rattle.nr_suspects.proofs.held_reference.list_held_references.Given as goal

abbrev pub invariant-loop-socket : goal.invariant-loop-socket
invariant-loop-socket g l = l.found.items ≡ l.fn.found.items ++ held_of_sockets l.position (g.W.Worlds.world l.world) (holding_of l.ledger) l.goroutines l.socket
