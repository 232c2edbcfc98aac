use Rattle.std.proofs.Common.{◌≡◌, ◌-◌, ◌≤◌, length, take}
use Rattle.std.specs.Prelude.{slice_get}
use Rattle.nr_gsema.specs.Auxiliary.Table.{queue_at}
use Rattle.nr_machine.proofs.world.World.queued.Given as goal

abbrev pub invariant-loop-next : goal.invariant-loop-next
invariant-loop-next l =
    (l.items.items ≡ take (length l.items.items) (queue_at l.socket l.fn.side l.self-inside.core.goroutines))
    × (l.next ≡ slice_get (queue_at l.socket l.fn.side l.self-inside.core.goroutines) (length l.items.items))
    × (length l.items.items ≤ length (queue_at l.socket l.fn.side l.self-inside.core.goroutines))

abbrev pub decreases-loop-next : goal.decreases-loop-next
decreases-loop-next l = length (queue_at l.socket l.fn.side l.self-inside.core.goroutines) - length l.items.items
