use Rattle.std.proofs.Common.{codes, refl, arith}
use Rattle.nr_recording.proofs.AnswerLemmas.{spelled}
use Rattle.nr_recording.proofs.answer.worded.Goals as goal

pub returns-in-notlast : goal.returns-in-notlast
returns-in-notlast c =
    rw (spelled c.args.word.now (codes "notlast")
    (grind arith, grind arith, (grind arith, grind arith, (grind arith, grind arith, (grind arith, grind arith, (grind arith, grind arith, (grind arith, grind arith, (grind arith, grind arith, grind arith)))))))) refl
