use Rattle.std.proofs.Common.{length, ap, arith}
use Rattle.nr_timers.proofs.ChangeLemmas.{TakenBack-up, sifted_up, around_up, same_mid, still_within, sifted_down, around_down, back_of_down, size_of_down}
use Rattle.nr_timers.proofs.SiftLemmas.{size_of_up}
use Rattle.nr_timers.proofs.heap.Heap.sift.Goals as goal

pub returns-then-up-place-clause-sifted : goal.returns-then-up-place-clause-sifted
returns-then-up-place-clause-sifted c =
    sifted_up c.args.self.now.entries c.raise-up.new.self.entries c.args.place c.raise-up.result c.requires c.raise-up.ensures.raised c.raise-up.ensures.moved c.if-up-place.true

pub returns-then-up-place-clause-back : goal.returns-then-up-place-clause-back
returns-then-up-place-clause-back c =
    TakenBack-up c.args.self.now.entries c.raise-up.new.self.entries c.args.place c.raise-up.result c.requires c.raise-up.ensures.moved

pub returns-then-up-place-clause-size : goal.returns-then-up-place-clause-size
returns-then-up-place-clause-size c =
    size_of_up c.args.self.now.entries c.raise-up.new.self.entries c.args.place c.raise-up.result c.raise-up.ensures.moved

pub returns-then-up-place-clause-ordered : goal.returns-then-up-place-clause-ordered
returns-then-up-place-clause-ordered c h =
    c.raise-up.ensures.ordered (around_up c.args.self.now.entries c.raise-up.new.self.entries c.args.place c.raise-up.result c.requires c.raise-up.ensures.raised c.raise-up.ensures.moved
    c.if-up-place.true h)

pub sink-requires : goal.sink-requires
sink-requires c =
    still_within c.args.self.now.entries c.raise-up.new.self.entries c.args.place c.raise-up.result c.requires c.raise-up.ensures.raised c.raise-up.ensures.moved c.if-up-place.false

pub returns-clause-sifted : goal.returns-clause-sifted
returns-clause-sifted c =
    sifted_down c.args.self.now.entries c.raise-up.new.self.entries c.args.place c.raise-up.result c.requires c.raise-up.ensures.raised c.raise-up.ensures.moved c.if-up-place.false
    c.sink.new.self.entries c.sink.result c.sink.ensures.sunk

pub returns-clause-back : goal.returns-clause-back
returns-clause-back c =
    back_of_down c.args.self.now.entries c.raise-up.new.self.entries c.args.place c.raise-up.result c.requires c.raise-up.ensures.raised c.raise-up.ensures.moved c.if-up-place.false
    c.sink.new.self.entries c.sink.result c.sink.ensures.within c.sink.ensures.moved

pub returns-clause-size : goal.returns-clause-size
returns-clause-size c =
    size_of_down c.args.self.now.entries c.raise-up.new.self.entries c.args.place c.raise-up.result c.requires c.raise-up.ensures.raised c.raise-up.ensures.moved c.if-up-place.false
    c.sink.new.self.entries c.sink.result c.sink.ensures.moved

pub returns-clause-within : goal.returns-clause-within
returns-clause-within c =
    let there = c.sink.ensures.within in
    let size =
    ap length (same_mid c.args.self.now.entries c.raise-up.new.self.entries c.args.place c.raise-up.result c.requires c.raise-up.ensures.raised c.raise-up.ensures.moved c.if-up-place.false) in
    omega arith

pub returns-clause-ordered : goal.returns-clause-ordered
returns-clause-ordered c h =
    c.sink.ensures.ordered (around_down c.args.self.now.entries c.raise-up.new.self.entries c.args.place c.raise-up.result c.requires c.raise-up.ensures.raised c.raise-up.ensures.moved
    c.if-up-place.false h)
