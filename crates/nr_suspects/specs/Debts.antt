-- Debts: after an event for a side, a read or a write of the socket must be answered `Again` before
-- a goroutine sleeps at that side. Until then, the side has a debt.
use Rattle.std.specs.Prelude.{◌≡◌, ◌⊎◌, ℕ, zero, suc, ◌<◌, ◌==◌, if◌then◌else◌, Option, Some, None, option_map, option_and_then, IsTrue}
use Rattle.nr_rev.specs.declared.sides.Mode.{Mode}
use Rattle.nr_rev.specs.declared.sides.Side.{Side}
use Rattle.nr_rev.specs.declared.sides.Side.TheVariants.{Read, Write}
use Rattle.nr_rev.specs.Run.{Recording}
use Rattle.nr_rev.specs.Sides.{names_side, of_side, twice, with_side}
use Rattle.nr_suspects.specs.declared.account.Account.{Account}
use Rattle.nr_suspects.specs.declared.account.Debt.{Debt}
use Rattle.nr_suspects.specs.declared.notice.Notice.{Notice}
use Rattle.nr_suspects.specs.declared.notice.Notice.TheVariants.{Opened, Event, Tried, TookReadiness, Checked, SetDeadline, PassedDeadline}
use Rattle.nr_suspects.specs.declared.notice.Visit.{Visit}
use Rattle.nr_suspects.specs.Notices.{notice_at}
use Rattle.nr_suspects.specs.Settings.{never_set, looked_at, after_setting, after_passing}

-- the account of a descriptor that was just opened for socket s: no side has a debt, and no
-- deadline was set
abbrev pub newly_opened : ℕ → Account
newly_opened s = record { socket = s; debts = twice None; deadlines = twice never_set }

-- the debt of a side after step n, if this step is an event; it is a new debt if the event's mode
-- names the side
abbrev pub owed_by_event : ℕ → Mode → Side → Option Debt → Option Debt
owed_by_event n mode side debt =
    if names_side mode side then Some (record { event = n; taken = None }) else debt

-- the account after step n, if this step is an event for these sides
abbrev pub with_event : ℕ → Mode → Account → Account
with_event n mode a = record a {
  debts = record {
    read = owed_by_event n mode Read a.debts.read;
    write = owed_by_event n mode Write a.debts.write;
  };
}

-- the debt after goroutine g consumed the event's readiness notification in step n
abbrev pub taken_by : ℕ → ℕ → Debt → Debt
taken_by n g debt = record debt { taken = Some (record { step = n; goroutine = g }) }

-- the account after the visiting goroutine consumed its side's readiness notification in step n
abbrev pub with_taking : ℕ → Visit → Account → Account
with_taking n v a =
    let debt : Option Debt = option_map (taken_by n v.goroutine) (of_side v.side a.debts) in
    record a {
      debts = with_side v.side debt a.debts;
      deadlines = looked_at v.goroutine v.side a.deadlines;
    }

-- the account after the visiting goroutine checked why it was woken
abbrev pub with_look : Visit → Account → Account
with_look v a = record a { deadlines = looked_at v.goroutine v.side a.deadlines }

-- the account of an open descriptor d after the step with this number
abbrev pub noted : ℕ → ℕ → Notice → Account → Account
noted n d (Event e mode) a = if d == e then with_event n mode a else a
noted n d (Tried s side) a =
    if a.socket == s then record a { debts = with_side side None a.debts } else a
noted n d (TookReadiness v) a = if d == v.descriptor then with_taking n v a else a
noted n d (Checked v code) a = if d == v.descriptor then with_look v a else a
noted n d (SetDeadline g e mode) a =
    if d == e then record a { deadlines = after_setting n g mode a.deadlines } else a
noted n d (PassedDeadline e passings) a =
    if d == e then record a { deadlines = after_passing passings a.deadlines } else a
noted n d _ a = a

-- the account of descriptor d after a step, if it was ever opened
abbrev pub account_after : ℕ → ℕ → Notice → Option Account → Option Account
account_after n d (Opened e s) a = if d == e then Some (newly_opened s) else a
account_after n d notice a = option_map (noted n d notice) a

-- the account of descriptor d at position n of a recording
abbrev pub account : Recording → ℕ → ℕ → Option Account
account r d zero = None
account r d (suc n) = account_after (suc n) d (notice_at r n) (account r d n)

-- the debt of a side of descriptor d at position n: the step of the event, and the step that
-- consumed the readiness notification
abbrev pub debt : Recording → ℕ → Side → ℕ → Option Debt
debt r d side n = option_and_then (λ (a : Account). of_side side a.debts) (account r d n)

-- ---- in words

-- the step after position n was an event for a side of descriptor d
abbrev pub IsEvent : Recording → ℕ → Side → ℕ → Type 0
IsEvent r d side n =
    (mode : Mode) × (notice_at r n ≡ Event d mode) × IsTrue (names_side mode side)

-- the socket for which descriptor d was last opened, at position n
abbrev pub socket_at : Recording → ℕ → ℕ → Option ℕ
socket_at r d n = option_map (λ (a : Account). a.socket) (account r d n)

-- The step after position n settles the debt of a side of descriptor d: it reopened the descriptor,
-- or it tried the descriptor's socket at that side and was answered `Again`.
abbrev pub IsPayment : Recording → ℕ → Side → ℕ → Type 0
IsPayment r d side n =
    ((s : ℕ) × (notice_at r n ≡ Opened d s))
    ⊎ ((s : ℕ) × (notice_at r n ≡ Tried s side) × (socket_at r d n ≡ Some s))

-- A side of descriptor d has a debt at position n: an event came for the side, and no later step
-- has settled the debt (`IsPayment`).
pub record Owed (r : Recording) (n d : ℕ) (side : Side) : Type 0 where
  pub event : ℕ
  pub before : event < n
  pub came : IsEvent r d side event
  pub unpaid : (k : ℕ) → event < k → k < n → ¬ IsPayment r d side k
