-- If a goroutine is recorded as woken by a deadline, the step that set the deadline is recorded
-- too. So each deadline that is set again too soon is listed.
use Rattle.std.proofs.Common.{◌≡◌, ◌≢◌, ℕ, zero, suc, ◌<◌, ◌++◌, [], Bool, true, false, ◌⊎◌, inl, inr, Option, Some, None, refl, sym, ap, subst, ◌∙◌}
use Rattle.std.specs.Prelude.{Contains, ◌==◌, if◌then◌else◌}
use Rattle.std.specs.Option.{option_map_or}
use Rattle.std.proofs.lemmas.List.Elements.{Contains-append_left, Contains-append_right}
use Rattle.std.proofs.lemmas.Bool.{eqb-false, eqb-true}
use Rattle.std.proofs.lemmas.Option.{none-some}
use Rattle.nr_rev.specs.declared.sides.Mode.{Mode}
use Rattle.nr_rev.specs.declared.sides.Side.{Side}
use Rattle.nr_rev.specs.declared.sides.Side.TheVariants.{Read, Write}
use Rattle.nr_rev.specs.declared.sides.Sides.{Sides}
use Rattle.nr_rev.specs.Run.{Recording}
use Rattle.nr_rev.specs.Sides.{names_side, of_side, with_side}
use Rattle.nr_rev.proofs.SideLemmas.{other_side, of_side-with_side_other, of_side-with_side_same}
use Rattle.nr_suspects.specs.declared.account.Account.{Account}
use Rattle.nr_suspects.specs.declared.notice.Notice.{Notice}
use Rattle.nr_suspects.specs.declared.notice.Notice.TheVariants as notices
use Rattle.nr_suspects.specs.declared.notice.Passing.{Passing}
use Rattle.nr_suspects.specs.declared.setting.Deadline.{Deadline}
use Rattle.nr_suspects.specs.declared.setting.Setting.{Setting}
use Rattle.nr_suspects.specs.declared.deadline_finding.Consequence.TheVariants.{TakenBack}
use Rattle.nr_suspects.specs.declared.deadline_finding.DeadlineFinding.{DeadlineFinding}
use Rattle.nr_suspects.specs.DeadlineFindings.{Comes, IsOf, account_within, deadline_findings, finding, findings_at, taken_back_at, woken_of}
use Rattle.nr_suspects.specs.Debts.{account, account_after, newly_opened, with_event, with_look, with_taking}
use Rattle.nr_suspects.specs.Notices.{notice_at}
use Rattle.nr_suspects.specs.Settings.{after_passing, after_setting, looked_at, passed_with, woken_but}
use Rattle.nr_suspects.proofs.FindingLemmas.{listed_from, listed_if_set, passed_has_setting, within}
use Rattle.nr_suspects.proofs.SettingLemmas.{IsSet, set_on}

-- the goroutine recorded as woken at a side
abbrev woken_in : Side → Sides Deadline → Option ℕ
woken_in side deadlines = (of_side side deadlines).woken

-- a goroutine was already recorded as woken at this side
abbrev WasWoken : Side → Account → Type 0
WasWoken side y = (h : ℕ) × (woken_in side y.deadlines ≡ Some h)

by_bool : (side : Side) (b : Bool) (x y : Account) (g : ℕ) → (woken_in side x.deadlines ≡ Some g → WasWoken side y) → woken_of side (Some (if b then x else y)) ≡ Some g → WasWoken side y
by_bool side true x y g from at = from at
by_bool side false x y g from at = (g, at)

looked : (g h : ℕ) (o : Option ℕ) → woken_but g o ≡ Some h → (k : ℕ) × (o ≡ Some k)
looked g h None e = absurd (none-some _ e)
looked g h (Some k) e = (k, refl)

from_look : (g h : ℕ) (at side : Side) (deadlines : Sides Deadline) → woken_in side (looked_at g at deadlines) ≡ Some h → (k : ℕ) × (woken_in side deadlines ≡ Some k)
from_look g h at side deadlines e = elim (other_side side at) [
  | inl same ↦
      let here : woken_but g (of_side at deadlines).woken ≡ Some h =
      sym (ap (λ x. woken_in x (looked_at g at deadlines)) same ∙ ap (λ (x : Deadline). x.woken) (of_side-with_side_same at (record (of_side at deadlines) { woken = woken_but g (of_side at deadlines).woken }) deadlines)) ∙ e in
      let was = looked g h (of_side at deadlines).woken here in
      (was.0, ap (λ x. woken_in x deadlines) same ∙ was.1)
  | inr apart ↦ (h, sym (ap (λ (x : Deadline). x.woken) (of_side-with_side_other side at (record (of_side at deadlines) { woken = woken_but g (of_side at deadlines).woken }) deadlines apart)) ∙ e)
]

set_cases : (fresh : Setting) (moved : Option Setting) (old : Deadline) (h : ℕ) (b : Bool)
    → (if b then record { setting = Some fresh; woken = None } else record old { setting = moved }).woken ≡ Some h → (k : ℕ) × (old.woken ≡ Some k)
set_cases fresh moved old h true e = absurd (none-some _ e)
set_cases fresh moved old h false e = (h, e)

from_set : (n g : ℕ) (mode : Mode) (side : Side) (deadlines : Sides Deadline) (h : ℕ) → woken_in side (after_setting n g mode deadlines) ≡ Some h → (k : ℕ) × (woken_in side deadlines ≡ Some k)
from_set n g mode Read deadlines h e = set_cases _ _ deadlines.read h (names_side mode Read) e
from_set n g mode Write deadlines h e = set_cases _ _ deadlines.write h (names_side mode Write) e

-- Why a goroutine is recorded as woken after a notice: either the notice says that the deadline
-- passed, or a goroutine was already recorded.
data WokenFrom (d : ℕ) (side : Side) (x : Notice) (a : Option Account) : Type 0 where
  Now : (passings : Sides (Option Passing)) (p : Passing) → x ≡ notices.PassedDeadline d passings → of_side side passings ≡ Some p → WokenFrom d side x a
  Before : (h : ℕ) → woken_of side a ≡ Some h → ((s : ℕ) → x ≢ notices.Opened d s) → WokenFrom d side x a

before : (d : ℕ) (side : Side) (x : Notice) (y : Account) → ((s : ℕ) → x ≢ notices.Opened d s) → WasWoken side y → WokenFrom d side x (Some y)
before d side x y unopened was = Before was.0 was.1 unopened

passed : (o : Option Passing) (old : Deadline) (h : ℕ) → (passed_with o old).woken ≡ Some h → ((p : Passing) × (o ≡ Some p)) ⊎ ((k : ℕ) × (old.woken ≡ Some k))
passed None old h e = inr (h, e)
passed (Some p) old h e = inl (p, refl)

from_passing : (d : ℕ) (passings : Sides (Option Passing)) (side : Side) (y : Account) (h : ℕ) → woken_in side (after_passing passings y.deadlines) ≡ Some h → WokenFrom d side (notices.PassedDeadline d passings) (Some y)
from_passing d passings Read y h e = elim (passed passings.read y.deadlines.read h e) [
  | inl p ↦ Now passings p.0 refl p.1
  | inr was ↦ Before was.0 was.1 (λ s is. cc)
]
from_passing d passings Write y h e = elim (passed passings.write y.deadlines.write h e) [
  | inl p ↦ Now passings p.0 refl p.1
  | inr was ↦ Before was.0 was.1 (λ s is. cc)
]

passing_at : (d e : ℕ) (passings : Sides (Option Passing)) (side : Side) (y : Account) (h : ℕ) (b : Bool) → (d == e) ≡ b
    → woken_of side (Some (if b then record y { deadlines = after_passing passings y.deadlines } else y)) ≡ Some h → WokenFrom d side (notices.PassedDeadline e passings) (Some y)
passing_at d e passings side y h true same at = subst (λ k. WokenFrom d side (notices.PassedDeadline k passings) (Some y)) (eqb-true d e same) (from_passing d passings side y h at)
passing_at d e passings side y h false apart at = Before h at (λ s is. cc)

never : (s : ℕ) (side : Side) → woken_of side (Some (newly_opened s)) ≡ None
never s Read = refl
never s Write = refl

opening_at : (d e s : ℕ) (side : Side) (a : Option Account) (h : ℕ) (b : Bool) → (d == e) ≡ b → woken_of side (if b then Some (newly_opened s) else a) ≡ Some h → WokenFrom d side (notices.Opened e s) a
opening_at d e s side a h true same at = absurd (none-some _ (sym (never s side) ∙ at))
opening_at d e s side a h false apart at = Before h at (λ k is. eqb-false d e apart (numbers k is))
  where
    numbers : (k : ℕ) → notices.Opened e s ≡ notices.Opened d k → d ≡ e
    numbers k is = cc

woken_from : (n d : ℕ) (side : Side) (x : Notice) (a : Option Account) (h : ℕ) → woken_of side (account_after n d x a) ≡ Some h → WokenFrom d side x a
woken_from n d side (notices.Opened e s) a h at = opening_at d e s side a h (d == e) refl at
woken_from n d side (notices.Event e mode) (Some y) h at = before d side (notices.Event e mode) y (λ s is. cc) (by_bool side (d == e) (with_event n mode y) y h (λ was. (h, was)) at)
woken_from n d side (notices.Tried s on) (Some y) h at = before d side (notices.Tried s on) y (λ k is. cc) (by_bool side (y.socket == s) (record y { debts = with_side on None y.debts }) y h (λ was. (h, was)) at)
woken_from n d side (notices.TookReadiness v) (Some y) h at =
    before d side (notices.TookReadiness v) y (λ s is. cc) (by_bool side (d == v.descriptor) (with_taking n v y) y h (λ was. from_look v.goroutine h v.side side y.deadlines was) at)
woken_from n d side (notices.Checked v code) (Some y) h at =
    before d side (notices.Checked v code) y (λ s is. cc) (by_bool side (d == v.descriptor) (with_look v y) y h (λ was. from_look v.goroutine h v.side side y.deadlines was) at)
woken_from n d side (notices.SetDeadline g e mode) (Some y) h at =
    before d side (notices.SetDeadline g e mode) y (λ s is. cc) (by_bool side (d == e) (record y { deadlines = after_setting n g mode y.deadlines }) y h (λ was. from_set n g mode side y.deadlines h was) at)
woken_from n d side (notices.PassedDeadline e passings) (Some y) h at = passing_at d e passings side y h (d == e) refl at
woken_from n d side (notices.TookReference g s) (Some y) h at = Before h at (λ k is. cc)
woken_from n d side (notices.GaveReference g s) (Some y) h at = Before h at (λ k is. cc)
woken_from n d side (notices.SocketOpened sock room) (Some y) h at = Before h at (λ k is. cc)
woken_from n d side (notices.PeerClosed sock) (Some y) h at = Before h at (λ k is. cc)
woken_from n d side notices.Nothing (Some y) h at = Before h at (λ k is. cc)
woken_from n d side (notices.Event e mode) None h at = absurd (none-some _ at)
woken_from n d side (notices.Tried s on) None h at = absurd (none-some _ at)
woken_from n d side (notices.TookReadiness v) None h at = absurd (none-some _ at)
woken_from n d side (notices.Checked v code) None h at = absurd (none-some _ at)
woken_from n d side (notices.SetDeadline g e mode) None h at = absurd (none-some _ at)
woken_from n d side (notices.PassedDeadline e passings) None h at = absurd (none-some _ at)
woken_from n d side (notices.TookReference g s) None h at = absurd (none-some _ at)
woken_from n d side (notices.GaveReference g s) None h at = absurd (none-some _ at)
woken_from n d side (notices.SocketOpened sock room) None h at = absurd (none-some _ at)
woken_from n d side (notices.PeerClosed sock) None h at = absurd (none-some _ at)
woken_from n d side notices.Nothing None h at = absurd (none-some _ at)

-- if a goroutine is recorded as woken, the step that set the deadline is recorded too
pub woken_is_set : (r : Recording) (d : ℕ) (side : Side) (n h : ℕ) → woken_of side (account r d n) ≡ Some h → IsSet side (account r d n)
woken_is_set r d side zero h at = absurd (none-some _ at)
woken_is_set r d side (suc n) h at = go (woken_from (suc n) d side (notice_at r n) (account r d n) h at) (woken_is_set r d side n)
  where
    go : WokenFrom d side (notice_at r n) (account r d n) → ((k : ℕ) → woken_of side (account r d n) ≡ Some k → IsSet side (account r d n)) → IsSet side (account r d (suc n))
    go (Now passings p passed some) kept =
        set_on (suc n) d side (notice_at r n) (account r d n) (passed_has_setting r n d passings side p passed some) (λ s opened. differ s (sym passed ∙ opened))
      where
        differ : (s : ℕ) → notices.PassedDeadline d passings ≡ notices.Opened d s → ⊥
        differ s f = cc
    go (Before k was unopened) kept = set_on (suc n) d side (notice_at r n) (account r d n) (kept k was) unopened

-- the findings list each deadline that woke a goroutine and was set again before that goroutine
-- checked its side
pub taken_back_is_listed : (r : Recording) (n k d g : ℕ) (side : Side) → k < n → d < r.limits.descriptors → Comes r k d side (TakenBack g)
    → (found : DeadlineFinding) × Contains (deadline_findings r n) found × IsOf k d side (TakenBack g) found
taken_back_is_listed r n k d g side below few comes = (
  there.0,
  listed_from r n k there.0 below (subst (λ x. Contains (findings_at (suc k) x (account_within r k)) there.0) (sym comes.2.0) (to_step side refl)),
  record { position = there.2; descriptor = there.3; side_is = there.4; consequence_is = there.5 },
)
  where
    mode : Mode
    mode = comes.1

    there : (found : DeadlineFinding) × Contains (finding (suc k) d side (TakenBack g) (account_within r k d)) found × (found.position ≡ suc k) × (found.descriptor ≡ d) × (found.side ≡ side)
        × (found.consequence ≡ TakenBack g)
    there = listed_if_set (suc k) d side (TakenBack g) (account_within r k d) (subst (IsSet side) (sym (within r k d few)) (woken_is_set r d side k g comes.3))

    at_side : Contains (taken_back_at (suc k) d mode side (account_within r k d)) there.0
    at_side =
        subst (λ (b : Bool). Contains (if b then option_map_or (λ woken. finding (suc k) d side (TakenBack woken) (account_within r k d)) (woken_of side (account_within r k d)) [] else []) there.0) (sym comes.2.1)
        (subst (λ (o : Option ℕ). Contains (option_map_or (λ woken. finding (suc k) d side (TakenBack woken) (account_within r k d)) o []) there.0) (sym (ap (woken_of side) (within r k d few) ∙ comes.3)) there.1)

    to_step : (s : Side) → s ≡ side → Contains (taken_back_at (suc k) d mode Read (account_within r k d) ++ taken_back_at (suc k) d mode Write (account_within r k d)) there.0
    to_step Read is =
        Contains-append_left (taken_back_at (suc k) d mode Read (account_within r k d)) (taken_back_at (suc k) d mode Write (account_within r k d)) there.0
        (subst (λ (s : Side). Contains (taken_back_at (suc k) d mode s (account_within r k d)) there.0) (sym is) at_side)
    to_step Write is =
        Contains-append_right (taken_back_at (suc k) d mode Read (account_within r k d)) (taken_back_at (suc k) d mode Write (account_within r k d)) there.0
        (subst (λ (s : Side). Contains (taken_back_at (suc k) d mode s (account_within r k d)) there.0) (sym is) at_side)
