use Rattle.std.proofs.Common.{ℕ, List, Bor}
use Rattle.std.proofs.Math.ListN.{get_or-map}
use Rattle.nr_rev.specs.declared.kind.Kind.{Kind}
use Rattle.nr_rev.proofs.NameLookupLemmas.{name_placed}
use Rattle.nr_rev.proofs.kind.Kind.name.Goals as goal

pub returns : goal.returns
returns c = rw (← get_or-map (λ (row : Kind × Bor (List ℕ)). row.1.now)) (name_placed c.args.self c.number.result c.number.ensures.value)
