use Rattle.std.proofs.Common.{◌<◌, length, refl, ap, ◌∙◌, arith}
use Rattle.std.proofs.lemmas.Option.{slice_get_read}
use Rattle.nr_gsema.specs.declared.node.SemaphoreHead.{SemaphoreHead}
use Rattle.nr_gsema.proofs.ReadLemmas.{front_read}
use Rattle.nr_gsema.proofs.table.GTable.front_of.Goals as goal

pub returns : goal.returns
returns c =
    let semaphores = c.self.inside.semaphores.items in
    let s = c.args.socket in
    let x = c.index.result.now in
    let within : s < length semaphores = let a = c.len.ensures in let b = c.if-socket-len.false in let d = c.self.inside.semaphores.ok.0 in omega arith in
    ap (λ (y : SemaphoreHead). y.front) c.of.ensures
    ∙ front_read (record { queues = c.self.invariant.queues; view = c.self.view_is }) s c.args.side x (slice_get_read semaphores (length semaphores) s x refl within c.index.ensures)
