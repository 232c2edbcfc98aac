use Rattle.nr_timers.proofs.BackLemmas.{fits_back, absent_back}
use Rattle.nr_timers.proofs.heap.Heap.unremove.Goals as goal

pub push-requires-clause-key : goal.push-requires-clause-key
push-requires-clause-key c =
    rw c.take_back.ensures.limit
    (fits_back c.args.self.now.entries c.take_back.new.self.entries c.requires.0 c.args.place c.args.last c.args.self.now.limit c.args.entry c.requires.1 c.requires.2 c.take_back.ensures.back)

pub push-requires-clause-absent : goal.push-requires-clause-absent
push-requires-clause-absent c =
    absent_back c.args.self.now.entries c.take_back.new.self.entries c.requires.0 c.args.place c.args.last c.args.self.now.limit c.args.entry c.requires.1 c.requires.2 c.take_back.ensures.back
