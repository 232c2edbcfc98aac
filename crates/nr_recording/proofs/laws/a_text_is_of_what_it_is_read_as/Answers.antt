use Rattle.nr_recording.proofs.TextLaws.{reading_again}
use Rattle.nr_recording.proofs.laws.a_text_is_of_what_it_is_read_as.Goals as goal

pub returns-clause-only : goal.returns-clause-only
returns-clause-only c = reading_again
