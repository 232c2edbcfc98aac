use Rattle.std.proofs.Common.{◌∙◌, sym}
use Rattle.nr_search.proofs.QuietLemmas.{none_stopped, unchanged_at}
use Rattle.nr_search.proofs.quiet.is_quiet.Goals as goal

pub returns : goal.returns
returns c = λ _.
    record {
      step = c.in-Some.step;
      is = c.in-Some.is;
      unchanged = unchanged_at c.args.marks.now c.args.outlook.now.changing c.in-Some.step.kind c.number.result c.requires.changing c.number.ensures.value c.if-outlook-number.false;
      unstopped = none_stopped c.args.next c.args.marks.now (sym c.requires.any_break ∙ c.if-outlook.false);
    }
