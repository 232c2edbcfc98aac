use Rattle.std.proofs.lemmas.List.Elements.{All-pop}
use Rattle.nr_serving.specs.Auxiliary.Fronts.{IsReady}
use Rattle.nr_serving.proofs.ServingLemmas.{last_taken}
use Rattle.nr_serving.proofs.fronts.pop_front.Goals as goal

pub returns-clause-some : goal.returns-clause-some
returns-clause-some g c = (All-pop (IsReady c.args.journal.now) _ _ _ c.pop.ensures.items c.requires).1

pub returns-clause-last : goal.returns-clause-last
returns-clause-last g c = last_taken _ _ _ c.pop.ensures.items

pub returns-clause-rest : goal.returns-clause-rest
returns-clause-rest g c = (All-pop (IsReady c.args.journal.now) _ _ _ c.pop.ensures.items c.requires).0
