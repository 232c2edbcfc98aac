use Rattle.std.proofs.Common.{map, arith, sym}
use Rattle.std.proofs.lemmas.List.{length-map}
use Rattle.nr_command.proofs.CommandLemmas.{cell_of-more}
use Rattle.nr_command.proofs.parsing.cell.Goals as goal

pub returns-in_default-2 : goal.returns-in_default-2
returns-in_default-2 c =
    sym (cell_of-more (map (λ word. word.now) c.args.words.now) (omega (arith, c.in_default.len_at_least, length-map c.args.words.now (λ word. word.now))))
