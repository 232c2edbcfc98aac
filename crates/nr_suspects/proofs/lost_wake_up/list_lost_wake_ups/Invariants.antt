-- The lost wake-ups at the descriptors visited so far are listed, at most two per descriptor.
use Rattle.std.proofs.Common.{◌≡◌, ◌≤◌, ◌*◌, length}
use Rattle.nr_suspects.specs.LostWakeUps.{lost_below}
use Rattle.nr_suspects.specs.Accounts.{kept_of}
use Rattle.nr_suspects.proofs.lost_wake_up.list_lost_wake_ups.Given as goal

abbrev pub invariant-loop-descriptor : goal.invariant-loop-descriptor
invariant-loop-descriptor g l =
    record {
      items : l.found.items ≡ lost_below l.position (g.W.Worlds.world l.world) (kept_of l.accounts) l.descriptor;
      few : length l.found.items ≤ 2 * l.descriptor;
    }
