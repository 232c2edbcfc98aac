use Rattle.std.proofs.Common.{rules, ◌∙◌, sym, ap}
use Rattle.std.proofs.lemmas.Iterator.{YieldsList-from_slice}
use Rattle.std.proofs.lemmas.Iterator.Adapters.{option_map_id}
use Rattle.std.proofs.lemmas.Iterator.Consumers.{YieldsList-from_copied}
use Rattle.std.proofs.lemmas.Iterator.Search.{find_from_yields_List}
use Rattle.std.specs.Slice.Iter.{iter_rest}
use Rattle.std.specs.Str.{bytes_eq}
use Rattle.nr_rev.specs.Kind.{kind_name, kinds}
use Rattle.nr_rev.proofs.NameLookupLemmas.{found_by_length}
use Rattle.nr_rev.proofs.kind.Kind.named.Goals as goal

pub returns : goal.returns
returns c =
    sym (option_map_id c.find.result) ∙ find_from_yields_List (λ kind. bytes_eq (kind_name kind) c.args.name.now) _ _ _ c.find.ensures.ran
    (YieldsList-from_copied (YieldsList-from_slice _ (ap iter_rest c.copied.ensures.source ∙ c.iter.ensures.rest ∙ c.kinds_of_length.ensures)))
    (λ x b q k. search rules) ∙ found_by_length kind_name c.args.name.now kinds
