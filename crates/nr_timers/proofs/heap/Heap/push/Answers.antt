use Rattle.std.proofs.Common.{◌+◌, sym, ap, ◌<◌, length, subst, arith, rules, length-set}
use Rattle.nr_timers.specs.Places.{Places}
use Rattle.nr_timers.specs.Index.{key, Absent}
use Rattle.nr_timers.proofs.IndexLemmas.{has_room, index_pushed}
use Rattle.nr_timers.proofs.heap.Heap.push.Goals as goal

pub overflow_add-len : goal.overflow_add-len
overflow_add-len c =
    let room = has_room c.self.inside.places.items c.self.inside.index.items c.self.invariant.0 c.args.entry
    (subst (λ (v : Places). key c.args.entry < v.limit) (sym c.self.view_is) c.requires.key)
    (subst (λ (v : Places). Absent (key c.args.entry) v.entries) (sym c.self.view_is) c.requires.absent) in
    let small = c.self.invariant.2 in
    record { fits = omega arith }

pub push_reserved-requires : goal.push_reserved-requires
push_reserved-requires c =
    let room = has_room c.self.inside.places.items c.self.inside.index.items c.self.invariant.0 c.args.entry
    (subst (λ (v : Places). key c.args.entry < v.limit) (sym c.self.view_is) c.requires.key)
    (subst (λ (v : Places). Absent (key c.args.entry) v.entries) (sym c.self.view_is) c.requires.absent) in
    omega (arith, c.self.invariant.1)

pub invariant_of-self : goal.invariant_of-self
invariant_of-self c =
    let one = length-set c.self.inside.index.items c.key-key_last.result (c.len-len.result + 1) in (
      index_pushed c.self.inside.places.items c.push_reserved.new.self.items c.self.inside.index.items c.args.entry c.key-key_last.result c.len-len.result c.self.invariant.0
          (subst (λ (v : Places). key c.args.entry < v.limit) (sym c.self.view_is) c.requires.key)
          (subst (λ (v : Places). Absent (key c.args.entry) v.entries) (sym c.self.view_is) c.requires.absent)
          c.push_reserved.ensures.items c.key-key_last.ensures (search rules),
      omega (arith, c.self.invariant.1, c.push_reserved.ensures.capacity),
      omega (arith, c.self.invariant.2),
    )

pub returns-clause-room : goal.returns-clause-room
returns-clause-room c =
    let same = ap (λ (v : Places). length v.entries) c.self.view_is in
    let same_limit = ap (λ (v : Places). v.limit) c.self.view_is in
    let room = has_room c.self.inside.places.items c.self.inside.index.items c.self.invariant.0 c.args.entry
    (subst (λ (v : Places). key c.args.entry < v.limit) (sym c.self.view_is) c.requires.key)
    (subst (λ (v : Places). Absent (key c.args.entry) v.entries) (sym c.self.view_is) c.requires.absent) in
    omega arith
