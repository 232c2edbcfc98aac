-- The ledger has as many rows as the loop's index says.
use Rattle.std.proofs.Common.{◌≡◌, replicate}
use Rattle.std.specs.Prelude.{map}
use Rattle.nr_suspects.specs.Holdings.{none_held}
use Rattle.nr_suspects.proofs.ledger.Ledger.new.Given as goal

abbrev pub invariant-loop-socket : goal.invariant-loop-socket
invariant-loop-socket l = map (λ row. row.items) l.rows.items ≡ replicate l._socket (replicate l.goroutines none_held)
