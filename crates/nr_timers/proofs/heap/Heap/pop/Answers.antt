use Rattle.std.proofs.Common.{◌-◌, ap, length, arith, length-set}
use Rattle.std.proofs.lemmas.Grind.{common_steps}
use Rattle.nr_timers.proofs.IndexLemmas.{index_popped}
use Rattle.nr_timers.proofs.heap.Heap.pop.Goals as goal

pub invariant_of-self : goal.invariant_of-self
invariant_of-self c =
    let size = ap (λ v. length v.entries) c.self.view_is in
    let one = length-set c.self.inside.index.items c.key-key_last.result 0 in (
      index_popped c.self.inside.places.items c.truncate.new.self.items c.self.inside.index.items c.key-key_last.result (c.len-last.result - 1) c.self.invariant.0 (omega arith)
          (grind (arith, common_steps)) c.truncate.ensures.items (grind (arith, common_steps)),
      omega (arith, c.self.invariant.1, c.truncate.ensures.capacity),
      omega (arith, c.self.invariant.2),
    )
