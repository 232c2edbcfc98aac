use Rattle.nr_command.proofs.CountLemmas.{from_one_made}
use Rattle.nr_command.proofs.count.from_one.Goals as goal

pub returns : goal.returns
returns c = from_one_made c.args.number c.new.result c.new.ensures
