use Rattle.std.proofs.Common.{subst}
use Rattle.nr_recording.specs.Auxiliary.Reading.{IsUnlessMemory}
use Rattle.nr_recording.proofs.TextLaws.{reading_again, answer_found}
use Rattle.nr_recording.proofs.reading.read.Goals as goal

pub returns-clause-found : goal.returns-clause-found
returns-clause-found c = answer_found c.args.bytes.now c.read_lines.result c.read_lines.ensures.exact

pub returns-clause-only : goal.returns-clause-only
returns-clause-only c = λ w is. subst (λ r. IsUnlessMemory c.read_lines.result r) (reading_again c.args.bytes.now w is) c.read_lines.ensures.exact
