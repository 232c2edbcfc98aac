use Rattle.std.proofs.Common.{rules}
use Rattle.nr_changes.proofs.ChangingLemmas.{changes_since_from_retain}
use Rattle.nr_changes.proofs.changing.keep_changed.Goals as goal

pub returns : goal.returns
returns g c = changes_since_from_retain _ (g.W.Worlds.world c.args.world.now) _ (λ x b f' y k. search rules) _ _ c.retain.ensures.filtered
