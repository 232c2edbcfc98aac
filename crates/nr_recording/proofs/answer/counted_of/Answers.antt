use Rattle.std.proofs.Common.{arith}
use Rattle.nr_recording.proofs.AnswerLemmas.{not_two}
use Rattle.nr_recording.proofs.answer.counted_of.Goals as goal

pub returns-in_default : goal.returns-in_default
returns-in_default c = not_two c.args.parts.now (λ two. omega (arith, two, c.in_default.len_below))

pub returns-in_default-2 : goal.returns-in_default-2
returns-in_default-2 c = not_two c.args.parts.now (λ two. omega (arith, two, c.in_default.len_at_least))
