use Rattle.std.proofs.Common.{◌+◌, slice_set, ap, length, arith, length-set}
use Rattle.std.proofs.lemmas.Grind.{common_steps}
use Rattle.nr_timers.proofs.IndexLemmas.{index_swapped}
use Rattle.nr_timers.proofs.heap.Heap.swap.Goals as goal

pub invariant_of-self : goal.invariant_of-self
invariant_of-self c =
    let size = ap (λ v. length v.entries) c.self.view_is in
    let one = length-set c.self.inside.index.items c.key-key_a.result (c.args.b + 1) in
    let two = length-set (slice_set c.self.inside.index.items c.key-key_a.result (c.args.b + 1)) c.key-key_b.result (c.args.a + 1) in (
      index_swapped c.self.inside.places.items c.swap.new.self.items c.self.inside.index.items c.args.a c.args.b c.key-key_a.result c.key-key_b.result c.self.invariant.0 (omega arith) (omega arith)
          c.swap.ensures.items (grind (arith, common_steps)) (grind (arith, common_steps)),
      omega (arith, c.self.invariant.1, c.swap.ensures.capacity),
      omega (arith, c.self.invariant.2),
    )
