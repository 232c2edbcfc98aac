use Rattle.std.proofs.Common.{refl}
use Rattle.nr_timers.proofs.SiftLemmas.{lift_more, path_end, size_of_up}
use Rattle.nr_timers.proofs.heap.Heap.+lift.Goals as goal

pub returns-else-place-above-clause-entries : goal.returns-else-place-above-clause-entries
returns-else-place-above-clause-entries t c = (0, path_end c.args.place c.args.above c.requires.path c.if-place-above.false, refl)

pub returns-then-place-above-clause-entries : goal.returns-then-place-above-clause-entries
returns-then-place-above-clause-entries t c =
    lift_more c.args.self.now.entries c.swap.new.self.entries c.lift.new.self.entries c.args.place c.args.above c.if-place-above.true c.swap.ensures.entries c.lift.ensures.entries

pub returns-then-place-above-clause-size : goal.returns-then-place-above-clause-size
returns-then-place-above-clause-size t c =
    size_of_up _ _ c.args.place c.args.above (lift_more c.args.self.now.entries c.swap.new.self.entries c.lift.new.self.entries c.args.place c.args.above c.if-place-above.true c.swap.ensures.entries
    c.lift.ensures.entries)
