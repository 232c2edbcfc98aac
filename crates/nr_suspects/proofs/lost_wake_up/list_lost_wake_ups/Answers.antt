use Rattle.std.proofs.Common.{arith}
use Rattle.nr_suspects.specs.Accounts.{kept_of}
use Rattle.nr_suspects.proofs.LostWakeUpLemmas.{next_listed}
use Rattle.nr_suspects.proofs.lost_wake_up.list_lost_wake_ups.Goals as goal

pub loop-descriptor-preserved : goal.loop-descriptor-preserved
loop-descriptor-preserved g c =
    let i = c.loop-descriptor.invariant in
    record {
      items = next_listed c.args.position (g.W.Worlds.world c.args.world.now) (kept_of c.args.accounts.now) c.loop-descriptor.descriptor c.of-account.result _ _ _ c.of-account.ensures i.items c.add_lost.ensures.items c.add_lost-in-loop-descriptor.ensures.items;
      few = omega (arith, i.few, c.add_lost.ensures.few, c.add_lost-in-loop-descriptor.ensures.few);
    }
