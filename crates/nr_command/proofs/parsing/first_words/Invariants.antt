-- the collected words are those that the iterator has yielded
use Rattle.std.proofs.Common.{◌≡◌}
use Rattle.nr_command.proofs.parsing.first_words.Given as goal

abbrev pub invariant-loop-word : goal.invariant-loop-word
invariant-loop-word l = l.first.items ≡ l.yielded
