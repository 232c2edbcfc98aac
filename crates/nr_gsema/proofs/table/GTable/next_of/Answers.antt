use Rattle.std.proofs.Common.{◌<◌, length, refl, arith}
use Rattle.std.proofs.lemmas.Option.{slice_get_read}
use Rattle.nr_gsema.proofs.ReadLemmas.{next_read}
use Rattle.nr_gsema.proofs.table.GTable.next_of.Goals as goal

pub returns : goal.returns
returns c =
    let nodes = c.self.inside.nodes.items in
    let g = c.args.goroutine in
    let node = c.index.result.now in
    let within : g < length nodes = let a = c.len.ensures in let b = c.if-goroutine-len.false in let d = c.self.inside.nodes.ok.0 in omega arith in
    next_read (record { queues = c.self.invariant.queues; view = c.self.view_is }) g node (slice_get_read nodes (length nodes) g node refl within c.index.ensures)
