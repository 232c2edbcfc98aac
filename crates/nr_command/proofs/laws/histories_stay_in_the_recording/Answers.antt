use Rattle.nr_command.proofs.WithinLemmas.{history-within}
use Rattle.nr_command.proofs.laws.histories_stay_in_the_recording.Goals as goal

pub returns : goal.returns
returns c = history-within
