use Rattle.nr_command.proofs.WordLemmas.{read_again, word_read}
use Rattle.nr_command.proofs.laws.commands_are_read_from_their_words.Goals as goal

pub returns-clause-read : goal.returns-clause-read
returns-clause-read c = read_again

pub returns-clause-word : goal.returns-clause-word
returns-clause-word c = word_read
