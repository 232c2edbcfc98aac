-- The recorded setting of a side names the step that set the side's deadline.
use Rattle.std.proofs.Common.{◌≡◌, ◌≢◌, ℕ, zero, suc, ◌<◌, Bool, true, false, ◌⊎◌, inl, inr, Option, Some, None, refl, sym, ap, subst, ◌∙◌, arith, true≢false}
use Rattle.std.specs.Prelude.{◌==◌, if◌then◌else◌, option_map}
use Rattle.std.specs.Option.{option_map_or}
use Rattle.std.proofs.lemmas.Bool.{eqb-false, eqb-true}
use Rattle.std.proofs.lemmas.Option.{none-some, same_Some}
use Rattle.nr_rev.specs.declared.sides.Mode.{Mode}
use Rattle.nr_rev.specs.declared.sides.Side.{Side}
use Rattle.nr_rev.specs.declared.sides.Side.TheVariants.{Read, Write}
use Rattle.nr_rev.specs.declared.sides.Sides.{Sides}
use Rattle.nr_rev.proofs.NumberLemmas.{number_apart}
use Rattle.nr_rev.specs.Run.{Recording}
use Rattle.nr_rev.specs.Sides.{names_side, of_side, with_side}
use Rattle.nr_rev.proofs.SideLemmas.{other_side, of_side-with_side_other, of_side-with_side_same}
use Rattle.nr_suspects.specs.declared.account.Account.{Account}
use Rattle.nr_suspects.specs.declared.notice.Notice.{Notice}
use Rattle.nr_suspects.specs.declared.notice.Notice.TheVariants as notices
use Rattle.nr_suspects.specs.declared.notice.Passing.{Passing}
use Rattle.nr_suspects.specs.declared.setting.Deadline.{Deadline}
use Rattle.nr_suspects.specs.declared.setting.Setting.{Setting}
use Rattle.nr_suspects.specs.declared.setting.StepBy.{StepBy}
use Rattle.nr_suspects.specs.DeadlineFindings.{IsFirstMove, IsMove, IsSetBy, IsSetting, side_setting}
use Rattle.nr_suspects.specs.Debts.{account, account_after, newly_opened, with_event, with_look, with_taking}
use Rattle.nr_suspects.specs.Notices.{notice_at}
use Rattle.nr_suspects.specs.Settings.{after_passing, after_setting, looked_at, moved_since, passed_with}

-- ---- the setting after a notice

-- the setting of a side of descriptor d after a notice
abbrev next_setting : ℕ → ℕ → Side → Notice → Option Setting → Option Setting
next_setting n d side (notices.Opened e s) old = if d == e then None else old
next_setting n d side (notices.SetDeadline g e mode) old =
    if d == e then (if names_side mode side then Some (record { by = record { step = n; goroutine = g }; mode = mode; moved = None }) else option_map (moved_since (record { step = n; goroutine = g })) old) else old
next_setting n d side x old = old

-- the setting of a side
abbrev set_of : Side → Sides Deadline → Option Setting
set_of side deadlines = (of_side side deadlines).setting

by_bool : (side : Side) (b : Bool) (x y : Account) (o : Option Setting) → set_of side x.deadlines ≡ o → set_of side y.deadlines ≡ o → side_setting side (Some (if b then x else y)) ≡ o
by_bool side true x y o e f = e
by_bool side false x y o e f = f

never : (s : ℕ) (side : Side) → side_setting side (Some (newly_opened s)) ≡ None
never s Read = refl
never s Write = refl

after_opening : (side : Side) (b : Bool) (s : ℕ) (y : Account) → side_setting side (if b then Some (newly_opened s) else Some y) ≡ (if b then None else side_setting side (Some y))
after_opening side true s y = never s side
after_opening side false s y = refl

after_look : (g : ℕ) (at side : Side) (deadlines : Sides Deadline) → set_of side (looked_at g at deadlines) ≡ set_of side deadlines
after_look g at side deadlines = elim (other_side side at) [
  | inl same ↦
      ap (λ x. set_of x (looked_at g at deadlines)) same ∙ ap (λ (x : Deadline). x.setting) (of_side-with_side_same at _ deadlines) ∙ sym (ap (λ x. set_of x deadlines) same)
  | inr apart ↦ ap (λ (x : Deadline). x.setting) (of_side-with_side_other side at _ deadlines apart)
]

set_by_cases : (by : StepBy) (mode : Mode) (side : Side) (old : Deadline) (b : Bool)
    → (if b then record { setting = Some (record { by = by; mode = mode; moved = None }); woken = None } else record old { setting = option_map (moved_since by) old.setting }).setting
    ≡ (if b then Some (record { by = by; mode = mode; moved = None }) else option_map (moved_since by) old.setting)
set_by_cases by mode side old true = refl
set_by_cases by mode side old false = refl

after_set : (n g : ℕ) (mode : Mode) (side : Side) (deadlines : Sides Deadline) → set_of side (after_setting n g mode deadlines)
    ≡ (if names_side mode side then Some (record { by = record { step = n; goroutine = g }; mode = mode; moved = None }) else option_map (moved_since (record { step = n; goroutine = g })) (set_of side deadlines))
after_set n g mode Read deadlines = set_by_cases (record { step = n; goroutine = g }) mode Read deadlines.read (names_side mode Read)
after_set n g mode Write deadlines = set_by_cases (record { step = n; goroutine = g }) mode Write deadlines.write (names_side mode Write)

after_pass : (passings : Sides (Option Passing)) (side : Side) (deadlines : Sides Deadline) → set_of side (after_passing passings deadlines) ≡ set_of side deadlines
after_pass passings side deadlines = by side
  where
    passed : (o : Option Passing) (old : Deadline) → (passed_with o old).setting ≡ old.setting
    passed None old = refl
    passed (Some p) old = refl

    by : (s : Side) → set_of s (after_passing passings deadlines) ≡ set_of s deadlines
    by Read = passed passings.read deadlines.read
    by Write = passed passings.write deadlines.write

after_set_if : (n g : ℕ) (mode : Mode) (side : Side) (y : Account) (b : Bool) → side_setting side (Some (if b then record y { deadlines = after_setting n g mode y.deadlines } else y))
    ≡ (if b then (if names_side mode side then Some (record { by = record { step = n; goroutine = g }; mode = mode; moved = None }) else option_map (moved_since (record { step = n; goroutine = g })) (set_of side y.deadlines)) else set_of side y.deadlines)
after_set_if n g mode side y true = after_set n g mode side y.deadlines
after_set_if n g mode side y false = refl

-- `next_setting` computes the setting that the descriptor's account has after a notice
next_of_setting : (n d : ℕ) (side : Side) (x : Notice) (y : Account) → side_setting side (account_after n d x (Some y)) ≡ next_setting n d side x (set_of side y.deadlines)
next_of_setting n d side (notices.Opened e s) y = after_opening side (d == e) s y
next_of_setting n d side (notices.Event e mode) y = by_bool side (d == e) (with_event n mode y) y (set_of side y.deadlines) refl refl
next_of_setting n d side (notices.Tried s at) y = by_bool side (y.socket == s) (record y { debts = with_side at None y.debts }) y (set_of side y.deadlines) refl refl
next_of_setting n d side (notices.TookReadiness v) y = by_bool side (d == v.descriptor) (with_taking n v y) y (set_of side y.deadlines) (after_look v.goroutine v.side side y.deadlines) refl
next_of_setting n d side (notices.Checked v code) y = by_bool side (d == v.descriptor) (with_look v y) y (set_of side y.deadlines) (after_look v.goroutine v.side side y.deadlines) refl
next_of_setting n d side (notices.SetDeadline g e mode) y = after_set_if n g mode side y (d == e)
next_of_setting n d side (notices.PassedDeadline e passings) y =
    by_bool side (d == e) (record y { deadlines = after_passing passings y.deadlines }) y (set_of side y.deadlines) (after_pass passings side y.deadlines) refl
next_of_setting n d side (notices.TookReference g s) y = refl
next_of_setting n d side (notices.GaveReference g s) y = refl
next_of_setting n d side (notices.SocketOpened sock room) y = refl
next_of_setting n d side (notices.PeerClosed sock) y = refl
next_of_setting n d side notices.Nothing y = refl

-- ---- the source of a setting

-- The recorded move is the first step that set only the other side's deadline. There are two cases.
-- If the notice sets no deadline of descriptor d, the recorded move is unchanged. If the notice
-- sets only the other side's deadline, the notice's step is recorded as the move, unless an earlier
-- move was recorded.
abbrev pub MoveFrom : ℕ → ℕ → Side → Notice → Option StepBy → Option StepBy → Type 0
MoveFrom n d side x old new =
    ((new ≡ old) × ((g : ℕ) (mode : Mode) → x ≢ notices.SetDeadline g d mode))
    ⊎ ((g : ℕ) × (mode : Mode) × (x ≡ notices.SetDeadline g d mode) × (names_side mode side ≡ false) × (new ≡ Some (option_map_or (λ first. first) old (record { step = n; goroutine = g }))))

-- The source of a setting. `Fresh`: this step set the deadline. `Old`: an earlier step set the
-- deadline, and this step changed nothing or only the recorded move.
pub data SettingFrom (n d : ℕ) (side : Side) (x : Notice) (a : Option Account) (setting : Setting) : Type 0 where
  Fresh : (g : ℕ) (mode : Mode) → x ≡ notices.SetDeadline g d mode → names_side mode side ≡ true → setting.by ≡ record { step = n; goroutine = g } → setting.mode ≡ mode → setting.moved ≡ None → SettingFrom n d side x a setting
  Old : (old : Setting) → side_setting side a ≡ Some old → setting.by ≡ old.by → setting.mode ≡ old.mode → ((g : ℕ) (mode : Mode) → x ≡ notices.SetDeadline g d mode → names_side mode side ≡ true → ⊥)
      → ((s : ℕ) → x ≢ notices.Opened d s) → MoveFrom n d side x old.moved setting.moved → SettingFrom n d side x a setting

as_before : (n d : ℕ) (side : Side) (x : Notice) (y : Account) (setting : Setting) → next_setting n d side x (set_of side y.deadlines) ≡ set_of side y.deadlines → ((g : ℕ) (mode : Mode) → x ≢ notices.SetDeadline g d mode)
    → ((s : ℕ) → x ≢ notices.Opened d s) → side_setting side (account_after n d x (Some y)) ≡ Some setting → SettingFrom n d side x (Some y) setting
as_before n d side x y setting same unset unopened at =
    Old setting (sym (next_of_setting n d side x y ∙ same) ∙ at) refl refl (λ g mode is names. unset g mode is) unopened (inl (refl, unset))

opened_from : (n d e s : ℕ) (side : Side) (y : Account) (setting : Setting) (b : Bool) → (d == e) ≡ b → (if b then None else set_of side y.deadlines) ≡ Some setting → SettingFrom n d side (notices.Opened e s) (Some y) setting
opened_from n d e s side y setting true same at = absurd (none-some _ at)
opened_from n d e s side y setting false apart at = Old setting at refl refl (λ g mode is. cc) (λ k is. eqb-false d e apart (numbers k is)) (inl (refl, λ g mode is. cc))
  where
    numbers : (k : ℕ) → notices.Opened e s ≡ notices.Opened d k → d ≡ e
    numbers k is = cc

moved_from : (n d g : ℕ) (mode : Mode) (side : Side) (y : Account) (setting : Setting) (o : Option Setting) → names_side mode side ≡ false → set_of side y.deadlines ≡ o
    → option_map (moved_since (record { step = n; goroutine = g })) o ≡ Some setting → SettingFrom n d side (notices.SetDeadline g d mode) (Some y) setting
moved_from n d g mode side y setting None unnamed is at = absurd (none-some _ at)
moved_from n d g mode side y setting (Some old) unnamed is at =
    let same : moved_since (record { step = n; goroutine = g }) old ≡ setting = same_Some _ _ at in
    Old old is (sym (ap (λ (x : Setting). x.by) same)) (sym (ap (λ (x : Setting). x.mode) same)) (λ h other e names. true≢false (sym names ∙ ap (λ m. names_side m side) (sym (modes h other e)) ∙ unnamed)) (λ s e. cc)
    (inr (g, mode, refl, unnamed, sym (ap (λ (x : Setting). x.moved) same)))
  where
    modes : (h : ℕ) (other : Mode) → notices.SetDeadline g d mode ≡ notices.SetDeadline h d other → mode ≡ other
    modes h other e = cc

set_from : (n d g e : ℕ) (mode : Mode) (side : Side) (y : Account) (setting : Setting) (b names : Bool) → (d == e) ≡ b → names_side mode side ≡ names
    → (if b then (if names then Some (record { by = record { step = n; goroutine = g }; mode = mode; moved = None }) else option_map (moved_since (record { step = n; goroutine = g })) (set_of side y.deadlines)) else set_of side y.deadlines)
    ≡ Some setting → SettingFrom n d side (notices.SetDeadline g e mode) (Some y) setting
set_from n d g e mode side y setting true true here names at =
    let same : record { by = record { step = n; goroutine = g }; mode = mode; moved = None } ≡ setting = same_Some _ _ at in
    Fresh g mode (ap (λ k. notices.SetDeadline g k mode) (sym (eqb-true d e here))) names (sym (ap (λ (x : Setting). x.by) same)) (sym (ap (λ (x : Setting). x.mode) same)) (sym (ap (λ (x : Setting). x.moved) same))
set_from n d g e mode side y setting true false here names at =
    subst (λ k. SettingFrom n d side (notices.SetDeadline g k mode) (Some y) setting) (eqb-true d e here) (moved_from n d g mode side y setting (set_of side y.deadlines) names refl at)
set_from n d g e mode side y setting false names apart is at = Old setting at refl refl (λ h other same named. eqb-false d e apart (numbers h other same)) (λ s same. cc) (inl (refl, λ h other same. eqb-false d e apart (numbers h other same)))
  where
    numbers : (h : ℕ) (other : Mode) → notices.SetDeadline g e mode ≡ notices.SetDeadline h d other → d ≡ e
    numbers h other same = cc

unopened_none : (n d : ℕ) (side : Side) (x : Notice) (setting : Setting) → side_setting side (account_after n d x None) ≡ Some setting → ⊥
unopened_none n d side (notices.Opened e s) setting at = by (d == e) at
  where
    by : (b : Bool) → side_setting side (if b then Some (newly_opened s) else None) ≡ Some setting → ⊥
    by true is = none-some _ (sym (never s side) ∙ is)
    by false is = none-some _ is
unopened_none n d side (notices.Event e mode) setting at = none-some _ at
unopened_none n d side (notices.Tried s side') setting at = none-some _ at
unopened_none n d side (notices.TookReadiness v) setting at = none-some _ at
unopened_none n d side (notices.Checked v code) setting at = none-some _ at
unopened_none n d side (notices.SetDeadline g e mode) setting at = none-some _ at
unopened_none n d side (notices.PassedDeadline e passings) setting at = none-some _ at
unopened_none n d side (notices.TookReference g s) setting at = none-some _ at
unopened_none n d side (notices.GaveReference g s) setting at = none-some _ at
unopened_none n d side (notices.SocketOpened sock room) setting at = none-some _ at
unopened_none n d side (notices.PeerClosed sock) setting at = none-some _ at
unopened_none n d side notices.Nothing setting at = none-some _ at

pub setting_from : (n d : ℕ) (side : Side) (x : Notice) (a : Option Account) (setting : Setting) → side_setting side (account_after n d x a) ≡ Some setting → SettingFrom n d side x a setting
setting_from n d side x None setting at = absurd (unopened_none n d side x setting at)
setting_from n d side (notices.Opened e s) (Some y) setting at = opened_from n d e s side y setting (d == e) refl (sym (next_of_setting n d side (notices.Opened e s) y) ∙ at)
setting_from n d side (notices.SetDeadline g e mode) (Some y) setting at =
    set_from n d g e mode side y setting (d == e) (names_side mode side) refl refl (sym (next_of_setting n d side (notices.SetDeadline g e mode) y) ∙ at)
setting_from n d side (notices.Event e mode) (Some y) setting at = as_before n d side (notices.Event e mode) y setting refl (λ g m is. cc) (λ s is. cc) at
setting_from n d side (notices.Tried s side') (Some y) setting at = as_before n d side (notices.Tried s side') y setting refl (λ g m is. cc) (λ k is. cc) at
setting_from n d side (notices.TookReadiness v) (Some y) setting at = as_before n d side (notices.TookReadiness v) y setting refl (λ g m is. cc) (λ k is. cc) at
setting_from n d side (notices.Checked v code) (Some y) setting at = as_before n d side (notices.Checked v code) y setting refl (λ g m is. cc) (λ k is. cc) at
setting_from n d side (notices.PassedDeadline e passings) (Some y) setting at = as_before n d side (notices.PassedDeadline e passings) y setting refl (λ g m is. cc) (λ k is. cc) at
setting_from n d side (notices.TookReference g s) (Some y) setting at = as_before n d side (notices.TookReference g s) y setting refl (λ h m is. cc) (λ k is. cc) at
setting_from n d side (notices.GaveReference g s) (Some y) setting at = as_before n d side (notices.GaveReference g s) y setting refl (λ h m is. cc) (λ k is. cc) at
setting_from n d side (notices.SocketOpened sock room) (Some y) setting at = as_before n d side (notices.SocketOpened sock room) y setting refl (λ h m is. cc) (λ k is. cc) at
setting_from n d side (notices.PeerClosed sock) (Some y) setting at = as_before n d side (notices.PeerClosed sock) y setting refl (λ h m is. cc) (λ k is. cc) at
setting_from n d side notices.Nothing (Some y) setting at = as_before n d side notices.Nothing y setting refl (λ h m is. cc) (λ k is. cc) at

-- ---- a setting persists

-- the account contains a setting of this side's deadline
abbrev pub IsSet : Side → Option Account → Type 0
IsSet side a = (setting : Setting) × (side_setting side a ≡ Some setting)

stays_if : (b : Bool) (o : Option Setting) → b ≡ false → (setting : Setting) × (o ≡ Some setting) → (setting : Setting) × ((if b then None else o) ≡ Some setting)
stays_if true o e set = absurd (true≢false e)
stays_if false o e set = set

moved_stays : (by : StepBy) (names : Bool) (fresh : Setting) (o : Option Setting) → (setting : Setting) × (o ≡ Some setting) → (setting : Setting) × ((if names then Some fresh else option_map (moved_since by) o) ≡ Some setting)
moved_stays by true fresh o set = (fresh, refl)
moved_stays by false fresh o set = (moved_since by set.0, ap (option_map (moved_since by)) set.1)

set_stays_if : (b : Bool) (x y : Option Setting) → (setting : Setting) × (x ≡ Some setting) → (setting : Setting) × (y ≡ Some setting) → (setting : Setting) × ((if b then x else y) ≡ Some setting)
set_stays_if true x y p q = p
set_stays_if false x y p q = q

next_is_set : (n d : ℕ) (side : Side) (x : Notice) (o : Option Setting) → ((s : ℕ) → x ≢ notices.Opened d s) → (setting : Setting) × (o ≡ Some setting) → (setting : Setting) × (next_setting n d side x o ≡ Some setting)
next_is_set n d side (notices.Opened e s) o unopened set = stays_if (d == e) o (number_apart d e (λ same. unopened s (ap (λ k. notices.Opened k s) (sym same)))) set
next_is_set n d side (notices.SetDeadline g e mode) o unopened set = set_stays_if (d == e) _ o (moved_stays (record { step = n; goroutine = g }) (names_side mode side) _ o set) set
next_is_set n d side (notices.Event e mode) o unopened set = set
next_is_set n d side (notices.Tried s side') o unopened set = set
next_is_set n d side (notices.TookReadiness v) o unopened set = set
next_is_set n d side (notices.Checked v code) o unopened set = set
next_is_set n d side (notices.PassedDeadline e passings) o unopened set = set
next_is_set n d side (notices.TookReference g s) o unopened set = set
next_is_set n d side (notices.GaveReference g s) o unopened set = set
next_is_set n d side (notices.SocketOpened sock room) o unopened set = set
next_is_set n d side (notices.PeerClosed sock) o unopened set = set
next_is_set n d side notices.Nothing o unopened set = set

-- a setting persists unless the descriptor is reopened
pub set_on : (n d : ℕ) (side : Side) (x : Notice) (a : Option Account) → IsSet side a → ((s : ℕ) → x ≢ notices.Opened d s) → IsSet side (account_after n d x a)
set_on n d side x None set unopened = absurd (none-some _ set.1)
set_on n d side x (Some y) set unopened =
    let next = next_is_set n d side x (set_of side y.deadlines) unopened set in
    (next.0, next_of_setting n d side x y ∙ next.1)

-- after a step sets the deadline of a side, the account says which step set it
pub set_now : (n d g : ℕ) (mode : Mode) (side : Side) (y : Account) → names_side mode side ≡ true → IsSet side (account_after n d (notices.SetDeadline g d mode) (Some y))
set_now n d g mode side y names = by (d == d) (names_side mode side) refl names
  where
    fresh : Setting
    fresh = record { by = record { step = n; goroutine = g }; mode = mode; moved = None }

    by : (b named : Bool) → (d == d) ≡ b → named ≡ true → IsSet side (account_after n d (notices.SetDeadline g d mode) (Some y))
    by true named here is = (fresh, next_of_setting n d side (notices.SetDeadline g d mode) y ∙ both (d == d) (names_side mode side) here names)
      where
        both : (b c : Bool) → b ≡ true → c ≡ true → (if b then (if c then Some fresh else option_map (moved_since (record { step = n; goroutine = g })) (set_of side y.deadlines)) else set_of side y.deadlines) ≡ Some fresh
        both true true e f = refl
        both true false e f = absurd (true≢false (sym f))
        both false c e f = absurd (true≢false (sym e))
    by false named apart is = absurd (eqb-false d d apart refl)

-- ---- over a recording

pub below_or_here : (k n : ℕ) → k < suc n → (k < n) ⊎ (k ≡ n)
below_or_here k n h = grind (arith, h)

-- the first move at a position is still the first one at the next position
module _ (r : Recording) (d : ℕ) (side : Side) (n : ℕ) where
  none_more : (start : ℕ) → ((k g : ℕ) → start < k → k < n → ¬ IsMove r d side k g) → ((g : ℕ) → ¬ IsMove r d side n g) → (k g : ℕ) → start < k → k < suc n → ¬ IsMove r d side k g
  none_more start before now k g after below = elim (below_or_here k n below) [
    | inl earlier ↦ before k g after earlier
    | inr here ↦ subst (λ j. ¬ IsMove r d side j g) (sym here) (now g)
  ]

  stays_first : (start : ℕ) (move : StepBy) → IsFirstMove r start n d side (Some move) → IsFirstMove r start (suc n) d side (Some move)
  stays_first start move is = (is.0, is.1, omega (arith, is.2), is.3, is.4, is.5)

  first_on : (start : ℕ) (old new : Option StepBy) → start < n → IsFirstMove r start n d side old → MoveFrom (suc n) d side (notice_at r n) old new → IsFirstMove r start (suc n) d side new
  first_on start None new before is (inl same) =
      subst (IsFirstMove r start (suc n) d side) (sym same.0) (none_more start is (λ g move. same.1 g move.0 move.1))
  first_on start (Some move) new before is (inl same) = subst (IsFirstMove r start (suc n) d side) (sym same.0) (stays_first start move is)
  first_on start None new before is (inr moved) =
      subst (IsFirstMove r start (suc n) d side) (sym moved.4) (n, before, omega arith, refl, (moved.1, moved.2, moved.3), is)
  first_on start (Some move) new before is (inr moved) = subst (IsFirstMove r start (suc n) d side) (sym moved.4) (stays_first start move is)

-- the recorded setting of a side names the step that set the side's deadline
pub setting_is : (r : Recording) (d : ℕ) (side : Side) (n : ℕ) (setting : Setting) → side_setting side (account r d n) ≡ Some setting → IsSetBy r n d side setting
setting_is r d side zero setting is = absurd (none-some _ is)
setting_is r d side (suc n) setting is = go (setting_from (suc n) d side (notice_at r n) (account r d n) setting is) (setting_is r d side n)
  where
    go : SettingFrom (suc n) d side (notice_at r n) (account r d n) setting → ((old : Setting) → side_setting side (account r d n) ≡ Some old → IsSetBy r n d side old) → IsSetBy r (suc n) d side setting
    go (Fresh g mode set names by mode_is unmoved) before = record {
      at = n;
      before = omega arith;
      step = ap (λ (x : StepBy). x.step) by;
      sets = (set ∙ ap (λ k. notices.SetDeadline k d mode) (sym (ap (λ (x : StepBy). x.goroutine) by)) ∙ ap (notices.SetDeadline setting.by.goroutine d) (sym mode_is), ap (λ m. names_side m side) mode_is ∙ names);
      last = λ k h other after below. absurd (omega (arith, after, below));
      unopened = λ k s after below. absurd (omega (arith, after, below));
      moved = subst (IsFirstMove r n (suc n) d side) (sym unmoved) (λ k h after below move. omega (arith, after, below));
    }
    go (Old old at by mode_is unset unopened move) before =
        let was = before old at in
        record {
          at = was.at;
          before = omega (arith, was.before);
          step = ap (λ (x : StepBy). x.step) by ∙ was.step;
          sets = (was.sets.0 ∙ ap (λ (x : StepBy). notices.SetDeadline x.goroutine d old.mode) (sym by) ∙ ap (notices.SetDeadline setting.by.goroutine d) (sym mode_is), ap (λ m. names_side m side) mode_is ∙ was.sets.1);
          last = λ k h other after below. elim (below_or_here k n below) [
            | inl earlier ↦ was.last k h other after earlier
            | inr here ↦ subst (λ j. ¬ IsSetting r d side j h other) (sym here) (λ sets. unset h other sets.0 sets.1)
          ];
          unopened = λ k s after below. elim (below_or_here k n below) [
            | inl earlier ↦ was.unopened k s after earlier
            | inr here ↦ subst (λ j. notice_at r j ≢ notices.Opened d s) (sym here) (unopened s)
          ];
          moved = first_on r d side n was.at old.moved setting.moved was.before was.moved move;
        }
