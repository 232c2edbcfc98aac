use Rattle.std.specs.Prelude.{◌++◌, codes, decimal}
use Rattle.nr_command.specs.Reply.{text_of}
use Rattle.nr_command.specs.declared.reply.Reply.TheVariants.{Printed}
use Rattle.nr_text.proofs.BufferedLemmas.{writes_cut, writes_then}
use Rattle.nr_programs.proofs.changes.ChangeLineText.send.Goals as goal

-- writing the number failed
pub returns-in_err-send_all : goal.returns-in_err-send_all
returns-in_err-send_all g c =
    let line = c.args.self.now in
    writes_cut c.args.w.now c.send_all.new.w (decimal line.step ++ codes " ") (text_of (Printed line.change.cell line.change.value)) c.in_err-send_all.field-0.0 c.from_residual.result
    c.from_residual.ensures.0 c.in_err-send_all.ensures

-- the cell follows the number
pub returns : goal.returns
returns g c =
    let line = c.args.self.now in
    writes_then c.args.w.now c.send_all.new.w c.send_printed.new.w (decimal line.step ++ codes " ") (text_of (Printed line.change.cell line.change.value)) c.send_printed.result
    c.in_ok-send_all.ensures c.send_printed.ensures
