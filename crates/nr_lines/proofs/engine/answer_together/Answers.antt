use Rattle.std.proofs.Common.{Err, ap, refl}
use Rattle.nr_lines.specs.Auxiliary.Engine.{without_counts}
use Rattle.nr_lines.specs.declared.ending.LineEnd.{LineEnd}
use Rattle.nr_lines.proofs.EngineLemmas.{together}
use Rattle.nr_lines.proofs.engine.answer_together.Goals as goal

pub returns-in-Ok-clause-serves : goal.returns-in-Ok-clause-serves
returns-in-Ok-clause-serves g c = together _ _ _ _ _ _ _ _ _ c.in-Ok.ensures.serves c.in-Ok.ensures.reader c.in-Ok.ensures.writer refl

pub returns-in-Err-Read-clause-serves : goal.returns-in-Err-Read-clause-serves
returns-in-Err-Read-clause-serves g c =
    let read = c.in-Err-Read.ensures in
    together _ _ _ _ _ _ _ _ _ read.serves read.reader read.writer (ap (λ (e : LineEnd). without_counts (Err e)) c.in-Err-Read.field-0-is)

pub returns-in-Err-Write-clause-serves : goal.returns-in-Err-Write-clause-serves
returns-in-Err-Write-clause-serves g c =
    let write = c.in-Err-Write.ensures in
    together _ _ _ _ _ _ _ _ _ write.serves write.reader write.writer (ap (λ (e : LineEnd). without_counts (Err e)) c.in-Err-Write.field-0-is)
