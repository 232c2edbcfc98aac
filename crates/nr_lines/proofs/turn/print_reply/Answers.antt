use Rattle.std.proofs.Common.{Some, rules}
use Rattle.nr_command.specs.declared.reply.Fault.TheVariants as faults
use Rattle.nr_command.specs.declared.reply.Reply.TheVariants.{Bye, Fault}
use Rattle.nr_lines.specs.Auxiliary.Turn.{MayReply, reply_given, resumed}
use Rattle.nr_lines.proofs.turn.print_reply.Goals as goal

pub returns-in-Run-clause-printed : goal.returns-in-Run-clause-printed
returns-in-Run-clause-printed g c =
    let ran : MayReply c.args.asked c.args.front.now (Some (reply_given c.exec.result)) c.exec.new.self = search rules in
    (reply_given c.exec.result, ran, c.print_given.ensures)

pub returns-in-Look-clause-printed : goal.returns-in-Look-clause-printed
returns-in-Look-clause-printed g c =
    let looked : MayReply c.args.asked c.args.front.now (Some (reply_given c.look.result)) c.look.new.self = search rules in
    (reply_given c.look.result, looked, c.print_given-in-Look.ensures)

pub returns-in-Resume-clause-printed : goal.returns-in-Resume-clause-printed
returns-in-Resume-clause-printed g c =
    let asked_once_more : MayReply c.args.asked c.args.front.now (Some (resumed c.resume.result)) c.resume.new.self = search rules in
    (resumed c.resume.result, asked_once_more, c.print_resumed.ensures)

pub returns-in-Quit-clause-printed : goal.returns-in-Quit-clause-printed
returns-in-Quit-clause-printed g c =
    let quits : MayReply c.args.asked c.args.front.now (Some Bye) c.args.front.now = search rules in
    (Bye, quits, c.print_bye.ensures)

pub returns-in-Err-clause-printed : goal.returns-in-Err-clause-printed
returns-in-Err-clause-printed g c =
    let refused : MayReply c.args.asked c.args.front.now (Some (Fault (faults.Line c.in-Err.fault))) c.args.front.now = search rules in
    (Fault (faults.Line c.in-Err.fault), refused, c.print_fault.ensures)
