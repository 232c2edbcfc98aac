-- A side has a debt if and only if an event came for it and no step has settled the debt since.
use Rattle.std.proofs.Common.{◌≡◌, ◌≢◌, ◌⊎◌, inl, inr, ℕ, zero, suc, ◌+◌, ◌<◌, Bool, true, false, Option, Some, None, refl, sym, ap, subst, ◌∙◌, arith}
use Rattle.std.specs.Prelude.{◌==◌, if◌then◌else◌, option_and_then, option_map, IsTrue}
use Rattle.std.proofs.lemmas.Bool.{eqb-false, eqb-true}
use Rattle.std.proofs.lemmas.Option.{none-some, same_Some}
use Rattle.nr_rev.specs.declared.sides.Mode.{Mode}
use Rattle.nr_rev.specs.declared.sides.Side.{Side}
use Rattle.nr_rev.specs.declared.sides.Side.TheVariants.{Read, Write}
use Rattle.nr_rev.specs.Run.{Recording}
use Rattle.nr_rev.specs.Sides.{names_side, of_side, with_side}
use Rattle.nr_rev.proofs.SideLemmas.{other_side, of_side-with_side_same, of_side-with_side_other}
use Rattle.nr_suspects.specs.declared.account.Account.{Account}
use Rattle.nr_suspects.specs.declared.account.Debt.{Debt}
use Rattle.nr_suspects.specs.declared.notice.Notice.{Notice}
use Rattle.nr_suspects.specs.declared.notice.Notice.TheVariants as notices
use Rattle.nr_suspects.specs.declared.notice.Visit.{Visit}
use Rattle.nr_suspects.specs.Debts.{account, account_after, debt, noted, newly_opened, owed_by_event, taken_by, with_event, with_look, with_taking, IsEvent, IsPayment, Owed}
use Rattle.nr_suspects.specs.Notices.{notice_at}
use Rattle.nr_suspects.specs.Settings.{after_passing, after_setting}
use Rattle.nr_suspects.proofs.PresenceLemmas.{event_is_kept}
use Rattle.nr_suspects.proofs.SettingLemmas.{below_or_here}

-- the debt of a side, from the descriptor's account
abbrev pub debt_of : Side → Option Account → Option Debt
debt_of side a = option_and_then (λ (x : Account). of_side side x.debts) a

-- the number of the event that caused a debt
abbrev pub event_of : Option Debt → Option ℕ
event_of debt = option_map (λ (b : Debt). b.event) debt

-- the notice ends a side's debt: the descriptor was opened, or the socket in its account was tried
-- at this side and the answer was `Again`
abbrev pub Pays : ℕ → Side → Notice → Option Account → Type 0
Pays d side x a =
    ((s : ℕ) × (x ≡ notices.Opened d s)) ⊎ ((s : ℕ) × (x ≡ notices.Tried s side) × (option_map (λ (y : Account). y.socket) a ≡ Some s))

-- the notice is an event for a side of descriptor d
abbrev pub Comes : ℕ → Side → Notice → Type 0
Comes d side x = (mode : Mode) × (x ≡ notices.Event d mode) × IsTrue (names_side mode side)

-- The effect of a notice on the debt of a side: it adds a debt, settles the debt, or leaves the
-- debt's event unchanged.
pub data Effect (n d : ℕ) (side : Side) (x : Notice) (a : Option Account) : Type 0 where
  Owes : Comes d side x → event_of (debt_of side (account_after n d x a)) ≡ Some n → Effect n d side x a
  Clears : Pays d side x a → debt_of side (account_after n d x a) ≡ None → Effect n d side x a
  Leaves : ¬ Pays d side x a → (Comes d side x → a ≡ None) → event_of (debt_of side (account_after n d x a)) ≡ event_of (debt_of side a) → Effect n d side x a

pub if_true : {A : Type 0} (b : Bool) (x y : A) → b ≡ true → (if b then x else y) ≡ x
if_true true x y e = refl
if_true false x y e = cc

pub if_false : {A : Type 0} (b : Bool) (x y : A) → b ≡ false → (if b then x else y) ≡ y
if_false true x y e = cc
if_false false x y e = refl

none_paid : (d : ℕ) (side : Side) → (x : Notice) → ((s : ℕ) → ¬ (x ≡ notices.Opened d s)) → ((s : ℕ) (other : Side) → ¬ (x ≡ notices.Tried s other)) → (a : Option Account) → ¬ Pays d side x a
none_paid d side x opened tried a (inl p) = opened p.0 p.1
none_paid d side x opened tried a (inr p) = tried p.0 side p.1

opened_effect : (n d e s : ℕ) (side : Side) (a : Option Account) (b : Bool) → (d == e) ≡ b → Effect n d side (notices.Opened e s) a
opened_effect n d e s side a true same =
    let is : d ≡ e = eqb-true d e same in
    Clears (inl (s, ap (λ k. notices.Opened k s) (sym is))) (ap (debt_of side) (if_true (d == e) (Some (newly_opened s)) a same) ∙ nothing side)
  where
    nothing : (side : Side) → debt_of side (Some (newly_opened s)) ≡ None
    nothing Read = refl
    nothing Write = refl
opened_effect n d e s side a false apart =
    Leaves (none_paid d side (notices.Opened e s) (λ k is. eqb-false d e apart (numbers k is)) (λ k other is. cc) a) (λ c. let is = c.1 in cc)
    (ap (λ o. event_of (debt_of side o)) (if_false (d == e) (Some (newly_opened s)) a apart))
  where
    numbers : (k : ℕ) → notices.Opened e s ≡ notices.Opened d k → d ≡ e
    numbers k is = cc

pub events_of_sides : (n : ℕ) (mode : Mode) (side : Side) (x : Account) → of_side side (with_event n mode x).debts ≡ owed_by_event n mode side (of_side side x.debts)
events_of_sides n mode Read x = refl
events_of_sides n mode Write x = refl

owed_names : (n : ℕ) (mode : Mode) (side : Side) (debt : Option Debt) → names_side mode side ≡ true → event_of (owed_by_event n mode side debt) ≡ Some n
owed_names n mode side debt names = ap event_of (if_true (names_side mode side) (Some (record { event = n; taken = None })) debt names)

pub owed_other : (n : ℕ) (mode : Mode) (side : Side) (debt : Option Debt) → names_side mode side ≡ false → owed_by_event n mode side debt ≡ debt
owed_other n mode side debt names = if_false (names_side mode side) (Some (record { event = n; taken = None })) debt names

event_effect : (n d e : ℕ) (mode : Mode) (side : Side) (a : Option Account) (b c : Bool) → (d == e) ≡ b → names_side mode side ≡ c → Effect n d side (notices.Event e mode) a
event_effect n d e mode side None b c same names =
    Leaves (none_paid d side (notices.Event e mode) (λ k is. cc) (λ k other is. cc) None) (λ _. refl) refl
event_effect n d e mode side (Some x) true true same names =
    let is : d ≡ e = eqb-true d e same in
    Owes (mode, ap (λ k. notices.Event k mode) (sym is), names)
    (ap (λ y. event_of (of_side side y.debts)) (if_true (d == e) (with_event n mode x) x same) ∙ ap event_of (events_of_sides n mode side x) ∙ owed_names n mode side (of_side side x.debts) names)
event_effect n d e mode side (Some x) true false same names =
    Leaves (none_paid d side (notices.Event e mode) (λ k is. cc) (λ k other is. cc) (Some x)) (λ c. absurd (unnamed c.0 c.1 c.2))
    (ap (λ y. event_of (of_side side y.debts)) (if_true (d == e) (with_event n mode x) x same) ∙ ap event_of (events_of_sides n mode side x ∙ owed_other n mode side (of_side side x.debts) names))
  where
    unnamed : (m : Mode) → notices.Event e mode ≡ notices.Event d m → names_side m side ≡ true → ⊥
    unnamed m is named = cc
event_effect n d e mode side (Some x) false c apart names =
    Leaves (none_paid d side (notices.Event e mode) (λ k is. cc) (λ k other is. cc) (Some x)) (λ c. absurd (eqb-false d e apart (numbers c.0 c.1)))
    (ap (λ y. event_of (of_side side y.debts)) (if_false (d == e) (with_event n mode x) x apart))
  where
    numbers : (m : Mode) → notices.Event e mode ≡ notices.Event d m → d ≡ e
    numbers m is = cc

tried_effect : (n d s : ℕ) (at side : Side) (a : Option Account) → Effect n d side (notices.Tried s at) a
tried_effect n d s at side None = Leaves (unpaid None refl) (λ c. refl) refl
  where
    unpaid : (o : Option Account) → o ≡ None → ¬ Pays d side (notices.Tried s at) o
    unpaid o none (inl p) = let is = p.1 in cc
    unpaid o none (inr p) = none-some _ (sym (ap (option_map (λ (y : Account). y.socket)) none) ∙ p.2)
tried_effect n d s at side (Some x) = by (x.socket == s) refl (other_side side at)
  where
    same_socket : (k : ℕ) (other : Side) → notices.Tried s at ≡ notices.Tried k other → Some x.socket ≡ Some k → (x.socket ≡ s) × (at ≡ other)
    same_socket k other is socket = (cc, cc)

    by : (b : Bool) → (x.socket == s) ≡ b → (side ≡ at) ⊎ (side ≢ at) → Effect n d side (notices.Tried s at) (Some x)
    by true socket (inl same) =
        Clears (inr (s, ap (notices.Tried s) (sym same), ap Some (eqb-true x.socket s socket)))
        (ap (λ y. of_side side y.debts) (if_true (x.socket == s) (record x { debts = with_side at None x.debts }) x socket)
        ∙ ap (λ z. of_side z (with_side at None x.debts)) same ∙ of_side-with_side_same at None x.debts)
    by true socket (inr apart) =
        Leaves (unpaid_other apart) (λ c. let is = c.1 in cc)
        (ap event_of (ap (λ y. of_side side y.debts) (if_true (x.socket == s) (record x { debts = with_side at None x.debts }) x socket) ∙ of_side-with_side_other side at None x.debts apart))
      where
        unpaid_other : side ≢ at → ¬ Pays d side (notices.Tried s at) (Some x)
        unpaid_other differ (inl p) = let is = p.1 in cc
        unpaid_other differ (inr p) = differ (sym (same_socket p.0 side p.1 p.2).1)
    by false socket which =
        Leaves unpaid_socket (λ c. let is = c.1 in cc)
        (ap (λ y. event_of (of_side side y.debts)) (if_false (x.socket == s) (record x { debts = with_side at None x.debts }) x socket))
      where
        unpaid_socket : ¬ Pays d side (notices.Tried s at) (Some x)
        unpaid_socket (inl p) = let is = p.1 in cc
        unpaid_socket (inr p) = eqb-false x.socket s socket (same_socket p.0 side p.1 p.2).0

taken_event : (n g : ℕ) (o : Option Debt) → event_of (option_map (taken_by n g) o) ≡ event_of o
taken_event n g None = refl
taken_event n g (Some b) = refl

took_effect : (n d : ℕ) (p : Visit) (side : Side) (a : Option Account) → Effect n d side (notices.TookReadiness p) a
took_effect n d p side None = Leaves (none_paid d side (notices.TookReadiness p) (λ k is. cc) (λ k other is. cc) None) (λ c. refl) refl
took_effect n d p side (Some x) = Leaves (none_paid d side (notices.TookReadiness p) (λ k is. cc) (λ k other is. cc) (Some x)) (λ c. let is = c.1 in cc) (by (d == p.descriptor) refl (other_side side p.side))
  where
    after : Account
    after = with_taking n p x

    by : (b : Bool) → (d == p.descriptor) ≡ b → (side ≡ p.side) ⊎ (side ≢ p.side) → event_of (of_side side (noted n d (notices.TookReadiness p) x).debts) ≡ event_of (of_side side x.debts)
    by false other which = ap (λ (y : Account). event_of (of_side side y.debts)) (if_false (d == p.descriptor) after x other)
    by true same (inl is) =
        ap (λ (y : Account). event_of (of_side side y.debts)) (if_true (d == p.descriptor) after x same)
        ∙ ap event_of (ap (λ z. of_side z after.debts) is ∙ of_side-with_side_same p.side (option_map (taken_by n p.goroutine) (of_side p.side x.debts)) x.debts)
        ∙ taken_event n p.goroutine (of_side p.side x.debts)
        ∙ sym (ap (λ z. event_of (of_side z x.debts)) is)
    by true same (inr apart) =
        ap (λ (y : Account). event_of (of_side side y.debts)) (if_true (d == p.descriptor) after x same)
        ∙ ap event_of (of_side-with_side_other side p.side (option_map (taken_by n p.goroutine) (of_side p.side x.debts)) x.debts apart)

quiet_effect : (n d : ℕ) (side : Side) (x : Notice) (a : Option Account) → ¬ Pays d side x a → ¬ Comes d side x → ((y : Account) → (noted n d x y).debts ≡ y.debts) → account_after n d x a ≡ option_map (noted n d x) a → Effect n d side x a
quiet_effect n d side x None unpaid silent same is = Leaves unpaid (λ c. absurd (silent c)) (ap (λ o. event_of (debt_of side o)) is)
quiet_effect n d side x (Some y) unpaid silent same is = Leaves unpaid (λ c. absurd (silent c)) (ap (λ o. event_of (debt_of side o)) is ∙ ap (λ debts. event_of (of_side side debts)) (same y))

same_debts : (b : Bool) (x y : Account) → x.debts ≡ y.debts → (if b then x else y).debts ≡ y.debts
same_debts true x y e = e
same_debts false x y e = refl

pub effect : (n d : ℕ) (side : Side) (x : Notice) (a : Option Account) → Effect n d side x a
effect n d side (notices.Opened e s) a = opened_effect n d e s side a (d == e) refl
effect n d side (notices.Event e mode) a = event_effect n d e mode side a (d == e) (names_side mode side) refl refl
effect n d side (notices.Tried s at) a = tried_effect n d s at side a
effect n d side (notices.TookReadiness p) a = took_effect n d p side a
effect n d side (notices.TookReference g s) a =
    quiet_effect n d side (notices.TookReference g s) a (none_paid d side (notices.TookReference g s) (λ k is. cc) (λ k other is. cc) a) (λ c. let is = c.1 in cc) (λ y. refl) refl
effect n d side (notices.GaveReference g s) a =
    quiet_effect n d side (notices.GaveReference g s) a (none_paid d side (notices.GaveReference g s) (λ k is. cc) (λ k other is. cc) a) (λ c. let is = c.1 in cc) (λ y. refl) refl
effect n d side (notices.Checked v code) a =
    quiet_effect n d side (notices.Checked v code) a (none_paid d side (notices.Checked v code) (λ k is. cc) (λ k other is. cc) a) (λ c. let is = c.1 in cc)
    (λ y. same_debts (d == v.descriptor) (with_look v y) y refl) refl
effect n d side (notices.SetDeadline g e mode) a =
    quiet_effect n d side (notices.SetDeadline g e mode) a (none_paid d side (notices.SetDeadline g e mode) (λ k is. cc) (λ k other is. cc) a) (λ c. let is = c.1 in cc)
    (λ y. same_debts (d == e) (record y { deadlines = after_setting n g mode y.deadlines }) y refl) refl
effect n d side (notices.PassedDeadline e passings) a =
    quiet_effect n d side (notices.PassedDeadline e passings) a (none_paid d side (notices.PassedDeadline e passings) (λ k is. cc) (λ k other is. cc) a) (λ c. let is = c.1 in cc)
    (λ y. same_debts (d == e) (record y { deadlines = after_passing passings y.deadlines }) y refl) refl
effect n d side (notices.SocketOpened sock room) a =
    quiet_effect n d side (notices.SocketOpened sock room) a (none_paid d side (notices.SocketOpened sock room) (λ k is. cc) (λ k other is. cc) a) (λ c. let is = c.1 in cc) (λ y. refl) refl
effect n d side (notices.PeerClosed sock) a =
    quiet_effect n d side (notices.PeerClosed sock) a (none_paid d side (notices.PeerClosed sock) (λ k is. cc) (λ k other is. cc) a) (λ c. let is = c.1 in cc) (λ y. refl) refl
effect n d side notices.Nothing a =
    quiet_effect n d side notices.Nothing a (none_paid d side notices.Nothing (λ k is. cc) (λ k other is. cc) a) (λ c. let is = c.1 in cc) (λ y. refl) refl

-- ---- over a recording

-- a notice that is an event for a side doesn't settle the side's debt
not_both : (d : ℕ) (side : Side) (x : Notice) (a : Option Account) → Comes d side x → Pays d side x a → ⊥
not_both d side x a comes (inl p) = let is = sym comes.1 ∙ p.1 in cc
not_both d side x a comes (inr p) = let is = sym comes.1 ∙ p.1 in cc

some_debt : (o : Option Debt) (n : ℕ) → event_of o ≡ Some n → (b : Debt) × (o ≡ Some b) × (b.event ≡ n)
some_debt None n e = cc
some_debt (Some b) n e = (b, refl, same_Some _ _ e)

no_debt : (o : Option Debt) → event_of o ≡ None → o ≡ None
no_debt None e = refl
no_debt (Some b) e = cc

module _ (r : Recording) (d : ℕ) (side : Side) where
  effect_at : (n : ℕ) → Effect (suc n) d side (notice_at r n) (account r d n)
  effect_at n = effect (suc n) d side (notice_at r n) (account r d n)

  -- an event comes only to a descriptor with an account
  kept_there : (n : ℕ) → Comes d side (notice_at r n) → account r d n ≡ None → ⊥
  kept_there n comes none = let kept = event_is_kept r d n comes.0 comes.1 in none-some _ (sym none ∙ kept.1)

  -- if no step before position n settles the debt, and the step after position n doesn't settle it
  -- either, no step before position n + 1 does
  unpaid_on : (n event : ℕ) → ((k : ℕ) → event < k → k < n → ¬ IsPayment r d side k) → ¬ IsPayment r d side n → (k : ℕ) → event < k → k < suc n → ¬ IsPayment r d side k
  unpaid_on n event before now k after below =
      elim (below_or_here k n below) [
        | inl earlier ↦ before k after earlier
        | inr same ↦ subst (λ j. ¬ IsPayment r d side j) (sym same) now
      ]

  -- if a side has a debt, the debt was caused by an event, and no step after that event has settled
  -- the debt
  pub debt_is_owed : (n : ℕ) (b : Debt) → debt r d side n ≡ Some b → (owed : Owed r n d side) × (b.event ≡ owed.event + 1)
  debt_is_owed zero b is = cc
  debt_is_owed (suc n) b is = go (effect_at n) (debt_is_owed n)
    where
      go : Effect (suc n) d side (notice_at r n) (account r d n) → ((x : Debt) → debt r d side n ≡ Some x → (owed : Owed r n d side) × (x.event ≡ owed.event + 1))
          → (owed : Owed r (suc n) d side) × (b.event ≡ owed.event + 1)
      go (Owes comes made) earlier = (
        record {
          event = n;
          before = omega arith;
          came = comes;
          unpaid = λ k after before. absurd (omega (arith, after, before));
        },
        (let same : b.event ≡ suc n = same_Some _ _ (sym (ap event_of is) ∙ made) in omega (arith, same)),
      )
      go (Clears pays none) earlier = absurd (none-some _ (sym none ∙ is))
      go (Leaves unpaid silent same) earlier =
          let old = some_debt (debt r d side n) b.event (sym same ∙ ap event_of is) in
          let owed = earlier old.0 old.1 in (
            record {
              event = owed.0.event;
              before = omega (arith, owed.0.before);
              came = owed.0.came;
              unpaid = unpaid_on n owed.0.event owed.0.unpaid unpaid;
            },
            sym old.2 ∙ owed.1,
          )

  -- the debt that an event caused remains as long as no later step settles it
  pub owed_is_kept : (n event : ℕ) → event < n → IsEvent r d side event → ((k : ℕ) → event < k → k < n → ¬ IsPayment r d side k)
      → (b : Debt) × (debt r d side n ≡ Some b)
  owed_is_kept zero event before came unpaid = absurd (omega (arith, before))
  owed_is_kept (suc n) event before came unpaid =
      go (effect_at n) (below_or_here event n before) (λ below. owed_is_kept n event below came (λ k after within. unpaid k after (omega (arith, within))))
    where
      go : Effect (suc n) d side (notice_at r n) (account r d n) → (event < n) ⊎ (event ≡ n) → (event < n → (b : Debt) × (debt r d side n ≡ Some b)) → (b : Debt) × (debt r d side (suc n) ≡ Some b)
      go (Owes comes made) which kept = let b = some_debt (debt r d side (suc n)) (suc n) made in (b.0, b.1)
      go (Clears pays none) (inl earlier) kept = absurd (unpaid n earlier (omega arith) pays)
      go (Clears pays none) (inr same) kept = absurd (not_both d side (notice_at r n) (account r d n) (subst (IsEvent r d side) same came) pays)
      go (Leaves not_paid silent same) (inl earlier) kept =
          let old = kept earlier in
          let b = some_debt (debt r d side (suc n)) old.0.event (same ∙ ap event_of old.1) in
          (b.0, b.1)
      go (Leaves not_paid silent same) (inr here) kept =
          absurd (kept_there n (subst (IsEvent r d side) here came) (silent (subst (IsEvent r d side) here came)))

  -- if a side has no debt, each event for the side was followed by a step that settled the debt
  pub paid_since : (n event : ℕ) → event < n → IsEvent r d side event → debt r d side n ≡ None
      → (k : ℕ) × (event < k) × (k < n) × IsPayment r d side k
  paid_since zero event before came none = absurd (omega (arith, before))
  paid_since (suc n) event before came none = go (effect_at n) (below_or_here event n before) (λ below. paid_since n event below came)
    where
      go : Effect (suc n) d side (notice_at r n) (account r d n) → (event < n) ⊎ (event ≡ n) → (event < n → debt r d side n ≡ None → (k : ℕ) × (event < k) × (k < n) × IsPayment r d side k)
          → (k : ℕ) × (event < k) × (k < suc n) × IsPayment r d side k
      go (Owes comes made) which earlier_paid = absurd (none-some _ (sym (ap event_of none) ∙ made))
      go (Clears pays clear) (inl earlier) earlier_paid = (n, earlier, omega arith, pays)
      go (Clears pays clear) (inr same) earlier_paid = absurd (not_both d side (notice_at r n) (account r d n) (subst (IsEvent r d side) same came) pays)
      go (Leaves not_paid silent same) (inl earlier) earlier_paid =
          let paid = earlier_paid earlier (no_debt (debt r d side n) (sym same ∙ ap event_of none)) in
          (paid.0, paid.1, omega (arith, paid.2), paid.3)
      go (Leaves not_paid silent same) (inr here) earlier_paid =
          absurd (kept_there n (subst (IsEvent r d side) here came) (silent (subst (IsEvent r d side) here came)))
