-- The output of the program `suspects` for a recording.
use Rattle.std.specs.Prelude.{◌≡◌, ℕ, List, ◌++◌, length, Option}
use Rattle.nr_rev.specs.Run.{Recording}
use Rattle.nr_rev.specs.World.{World}
use Rattle.nr_rev.specs.declared.limits.Limits.{Limits}
use Rattle.nr_suspects.specs.declared.account.Account.{Account}
use Rattle.nr_suspects.specs.declared.deadline_finding.DeadlineFinding.{DeadlineFinding}
use Rattle.nr_suspects.specs.declared.holding.Holding.{Holding}
use Rattle.nr_suspects.specs.declared.suspects.Suspects.{Suspects}
use Rattle.nr_suspects.specs.Accounts.{AreAccounts, kept_of}
use Rattle.nr_suspects.specs.DeadlineFindings.{deadline_findings, deadline_lines}
use Rattle.nr_suspects.specs.HeldReferences.{held_of_sockets, held_lines, held_references}
use Rattle.nr_suspects.specs.Holdings.{AreHoldings, holding_of}
use Rattle.nr_suspects.specs.LostWakeUps.{lost_below, lost_lines, lost_wake_ups}
use Rattle.nr_suspects.specs.Peers.{ArePeers, peer_in}
use Rattle.nr_suspects.specs.Sleepers.{reason_kept, sleeper_lines, sleepers, sleepers_below}
use Rattle.nr_suspects.specs.declared.peer.Peer.{Peer}

-- The lines for a recording: first the findings about deadlines, step by step; then, for its last
-- position, the lost wake-ups, the sleepers, and the held references to closed sockets.
abbrev pub suspect_lines : Recording → List ℕ
suspect_lines r =
    let n : ℕ = length r.steps in
    deadline_lines (deadline_findings r n)
    ++ (lost_lines (lost_wake_ups r n)
    ++ (sleeper_lines (sleepers r n) ++ held_lines (held_references r n)))

-- ---- the notebook

-- the contents of a notebook: the account of each descriptor, the other end of each socket, the
-- ledger of references, and the findings about deadlines
pub record Notes : Type 0 where
  pub accounts : List (Option Account)
  pub peers : List (Option Peer)
  pub rows : List (List Holding)
  pub deadlines : List DeadlineFinding

-- the notebook has the contents for position n of a recording
pub record AreNotes (r : Recording) (n : ℕ) (notes : Notes) : Type 0 where
  pub accounts : AreAccounts r n notes.accounts
  pub peers : ArePeers r n notes.peers
  pub holdings : AreHoldings r n notes.rows
  pub deadlines : notes.deadlines ≡ deadline_findings r n

-- the lines of all findings
abbrev pub found_lines : Suspects → List ℕ
found_lines found =
    deadline_lines found.deadlines.items
    ++ (lost_lines found.lost.items
    ++ (sleeper_lines found.asleep.items ++ held_lines found.held.items))

-- these are the findings in a world at position n, given a notebook with these contents
pub record AreFound (n : ℕ) (w : World) (limits : Limits) (notes : Notes) (found : Suspects) :
    Type 0 where
  pub deadlines : found.deadlines.items ≡ notes.deadlines
  pub lost : found.lost.items ≡ lost_below n w (kept_of notes.accounts) (length notes.accounts)
  pub asleep : found.asleep.items
      ≡ sleepers_below n w (reason_kept w (kept_of notes.accounts) (peer_in notes.peers))
      (length notes.accounts)
  pub held : found.held.items
      ≡ held_of_sockets n w (holding_of notes.rows) limits.goroutines limits.sockets
