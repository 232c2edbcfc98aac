use Rattle.std.proofs.Common.{rules, ◌∙◌, sym, ap}
use Rattle.std.proofs.lemmas.Iterator.{YieldsList-from_slice, YieldsList-from_map}
use Rattle.std.proofs.lemmas.Iterator.Adapters.{option_map_id}
use Rattle.std.proofs.lemmas.Iterator.Search.{find_from_yields_List}
use Rattle.std.specs.Slice.Iter.{iter_rest}
use Rattle.std.specs.Prelude.{◌==◌}
use Rattle.nr_rev.specs.Kind.{kind_number}
use Rattle.nr_rev.proofs.kind.Kind.numbered.Goals as goal

pub returns : goal.returns
returns c =
    sym (option_map_id c.find.result) ∙ find_from_yields_List (λ kind. kind_number kind == c.args.number) _ _ _ c.find.ensures.ran
    (YieldsList-from_map _ (λ row. row.0) (YieldsList-from_slice _ (ap iter_rest c.map.ensures.source ∙ c.iter.ensures.rest)) c.map.ensures.closure (λ x r q k. search rules))
    (λ x b q k. search rules)
