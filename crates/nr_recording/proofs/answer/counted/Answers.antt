use Rattle.std.proofs.Common.{codes, refl, arith}
use Rattle.nr_recording.proofs.AnswerLemmas.{spelled}
use Rattle.nr_recording.proofs.answer.counted.Goals as goal

pub returns-in-number : goal.returns-in-number
returns-in-number c =
    rw (spelled c.args.word.now (codes "number")
    (grind arith, grind arith, (grind arith, grind arith, (grind arith, grind arith, (grind arith, grind arith, (grind arith, grind arith, (grind arith, grind arith, grind arith))))))) refl
