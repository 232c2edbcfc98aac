use Rattle.std.proofs.Common.{rules}
use Rattle.nr_lines.specs.Page.{known_bytes}
use Rattle.nr_lines.proofs.PageLemmas.{part_taken_back}
use Rattle.nr_lines.proofs.page.Page.hold.Goals as goal

pub returns-clause-leaves : goal.returns-clause-leaves
returns-clause-leaves g c = λ _. part_taken_back c.self.inside.sink c.print.new.self (g.T.Text.text c.args.text.now) c.args.self.now (known_bytes c.print.new.self.contents) c.take_back.new.self c.in-Err.part.0
    (search rules) (search rules) c.in-Err.ensures c.take_back.ensures
