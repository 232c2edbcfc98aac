use Rattle.std.proofs.Common.{sym, ap, ◌∙◌}
use Rattle.nr_search.specs.Quiet.{any_changed}
use Rattle.nr_search.proofs.QuietLemmas.{numbered-same, numbered-some}
use Rattle.nr_search.proofs.quiet.is_changing.Goals as goal

pub returns-in-Some : goal.returns-in-Some
returns-in-Some c = λ kind is. c.any_changed.ensures ∙ ap (λ k. any_changed k c.args.marks.now) (numbered-same c.args.number kind _ is (sym c.numbered.ensures ∙ c.in-Some.is))

pub returns-in-None : goal.returns-in-None
returns-in-None c = λ kind is. absurd (numbered-some c.args.number kind is (sym c.numbered.ensures ∙ c.in-None.is))
