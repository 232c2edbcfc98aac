use Rattle.std.proofs.Common.{Result, subst}
use Rattle.nr_text.specs.Auxiliary.Streams.{Prints}
use Rattle.nr_text.specs.declared.sink.Part.{Part}
use Rattle.nr_programs.proofs.ChangesLemmas.{calm_still, cut_short}
use Rattle.nr_programs.proofs.UpgradeLemmas.{behind}
use Rattle.nr_programs.proofs.run.print_both.Goals as goal

-- the first text was written, and the last one after it
pub returns-in-Ok : goal.returns-in-Ok
returns-in-Ok g c =
    let old = c.args.output.now in
    let mid = c.print.new.self in
    let first = g.A.Text.text c.args.first.now in
    let went = subst (λ (x : Result Unit Part). Prints old mid first x) c.in-Ok.is c.print.ensures in
    behind first (g.B.Text.text c.args.last.now) c.args.wanted c.print-in-Ok.result old mid c.print-in-Ok.new.output went.0 (calm_still old.failed mid.failed went.1) c.print-in-Ok.ensures

-- a part of the first text was written
pub returns-in-Err : goal.returns-in-Err
returns-in-Err g c =
    let old = c.args.output.now in
    let new = c.print.new.self in
    let first = g.A.Text.text c.args.first.now in
    let cut = subst (λ (x : Result Unit Part). Prints old new first x) c.in-Err.is c.print.ensures in
    cut_short first (g.B.Text.text c.args.last.now) c.args.wanted old new c.in-Err.field-0.0 cut
