use Rattle.std.proofs.Common.{ap, arith}
use Rattle.std.specs.Prelude.{option_and_then}
use Rattle.nr_rev.specs.declared.sides.Side.TheVariants.{Read, Write}
use Rattle.nr_suspects.specs.Accounts.{kept_of}
use Rattle.nr_suspects.specs.Peers.{peer_in}
use Rattle.nr_suspects.specs.Sleepers.{reason_kept, reason_of_account}
use Rattle.nr_suspects.proofs.SleeperLemmas.{next_listed}
use Rattle.nr_suspects.proofs.sleeper.list_sleepers.Goals as goal

pub loop-descriptor-preserved : goal.loop-descriptor-preserved
loop-descriptor-preserved g c =
    let i = c.loop-descriptor.invariant in
    let w = g.W.Worlds.world c.args.world.now in
    let d = c.loop-descriptor.descriptor in
    let peers = peer_in c.args.peers.now in
    record {
      items = next_listed c.args.position w (reason_kept w (kept_of c.args.accounts.now) peers) d _ _ _ _ _
          (ap (option_and_then (reason_of_account w d Read peers)) c.of-account.ensures) (ap (option_and_then (reason_of_account w d Write peers)) c.of-account.ensures)
          i.items c.add_sleeper.ensures.items c.add_sleeper-in-loop-descriptor.ensures.items;
      few = omega (arith, i.few, c.add_sleeper.ensures.few, c.add_sleeper-in-loop-descriptor.ensures.few);
    }
