use Rattle.nr_programs.proofs.PlacedLemmas.{own_words}
use Rattle.nr_programs.proofs.laws.each_placed_command_is_there_once.Goals as goal

pub returns : goal.returns
returns c = λ tag r s lines met fits all. own_words tag fits r s lines met all
