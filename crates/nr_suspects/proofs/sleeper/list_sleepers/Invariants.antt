-- The sleepers at the descriptors visited so far are listed, at most two per descriptor.
use Rattle.std.proofs.Common.{◌≡◌, ◌≤◌, ◌*◌, length}
use Rattle.nr_suspects.specs.Accounts.{kept_of}
use Rattle.nr_suspects.specs.Peers.{peer_in}
use Rattle.nr_suspects.specs.Sleepers.{reason_kept, sleepers_below}
use Rattle.nr_suspects.proofs.sleeper.list_sleepers.Given as goal

abbrev pub invariant-loop-descriptor : goal.invariant-loop-descriptor
invariant-loop-descriptor g l =
    record {
      items : l.found.items ≡ sleepers_below l.position (g.W.Worlds.world l.world) (reason_kept (g.W.Worlds.world l.world) (kept_of l.accounts) (peer_in l.peers)) l.descriptor;
      few : length l.found.items ≤ 2 * l.descriptor;
    }
