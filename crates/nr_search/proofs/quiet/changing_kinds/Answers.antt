use Rattle.std.proofs.Common.{◌∙◌, length-set, arith}
use Rattle.nr_search.proofs.QuietLemmas.{changing-all, changing-more}
use Rattle.nr_search.proofs.quiet.changing_kinds.Goals as goal

pub loop-number-preserved : goal.loop-number-preserved
loop-number-preserved c =
    record {
      sized = length-set c.loop-number.changing c.loop-number.number c.is_changing.result ∙ c.loop-number.invariant.sized;
      known =
          changing-more c.args.marks.now c.loop-number.number c.loop-number.changing c.is_changing.result (omega (arith, c.loop-number.invariant.sized, c.loop-number-test.true))
          c.is_changing.ensures c.loop-number.invariant.known;
    }

pub returns : goal.returns
returns c = changing-all c.args.marks.now c.loop-number.number c.loop-number.changing (omega (arith, c.loop-number-test.false)) c.loop-number.invariant.known
