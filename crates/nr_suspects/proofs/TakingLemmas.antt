-- Each lost wake-up names the step that consumed its readiness notification, because the
-- notification remains until a step consumes it.
use Rattle.std.proofs.Common.{◌≡◌, ◌≢◌, ℕ, zero, suc, Bool, true, false, ◌⊎◌, inl, inr, Option, Some, None, Ok, refl, sym, ap, subst, ◌∙◌, arith, true≢false}
use Rattle.std.specs.Prelude.{Contains, ◌==◌, if◌then◌else◌, option_map}
use Rattle.std.proofs.lemmas.Bool.{eqb-false, eqb-true}
use Rattle.std.proofs.lemmas.Option.{none-some, same_Some}
use Rattle.nr_rev.specs.declared.answer.Answer.{Answer}
use Rattle.nr_rev.specs.declared.sides.Mode.{Mode}
use Rattle.nr_rev.specs.declared.sides.Side.{Side}
use Rattle.nr_rev.specs.declared.sides.Side.TheVariants.{Read, Write}
use Rattle.nr_rev.specs.declared.step.Step.{Step}
use Rattle.nr_rev.specs.Cell.{cell}
use Rattle.nr_rev.specs.Run.{Recording, world_at}
use Rattle.nr_rev.specs.Sides.{names_side, of_side, with_side}
use Rattle.nr_rev.specs.Step.{outcome}
use Rattle.nr_rev.specs.WellFormed.{WellFormed}
use Rattle.nr_rev.specs.World.{World}
use Rattle.nr_rev.proofs.SideLemmas.{other_side, of_side-with_side_other, of_side-with_side_same}
use Rattle.nr_suspects.specs.declared.account.Account.{Account}
use Rattle.nr_suspects.specs.declared.account.Debt.{Debt}
use Rattle.nr_suspects.specs.declared.lost_wake_up.LostWakeUp.{LostWakeUp}
use Rattle.nr_suspects.specs.declared.notice.Notice.{Notice}
use Rattle.nr_suspects.specs.declared.notice.Notice.TheVariants as notices
use Rattle.nr_suspects.specs.declared.notice.Visit.{Visit}
use Rattle.nr_suspects.specs.declared.setting.StepBy.{StepBy}
use Rattle.nr_suspects.specs.Debts.{account, account_after, debt, newly_opened, noted, taken_by, with_event, with_look, with_taking}
use Rattle.nr_suspects.specs.LostWakeUps.{IsTakenBy, Anew, Took, IsTaking, lost_wake_ups}
use Rattle.nr_suspects.specs.Notices.{is_ready, is_ready_word, notice, notice_at, word_cell}
use Rattle.nr_suspects.specs.Settings.{after_passing, after_setting}
use Rattle.nr_suspects.proofs.DebtLemmas.{Comes, debt_is_owed, debt_of, events_of_sides, if_false, if_true, owed_other}
use Rattle.nr_suspects.proofs.LostWakeUpLemmas.{IsOf, listed_word}
use Rattle.nr_suspects.proofs.NoticeLemmas.{Moves, Made, Stays, moves}
use Rattle.nr_suspects.proofs.PresenceLemmas.{event_step}
use Rattle.nr_suspects.proofs.ReadinessLemmas.{event_makes_ready, taken_by_three}

-- ---- the origin of a debt

-- the visit is to this side of descriptor d
abbrev IsAt : Visit → ℕ → Side → Type 0
IsAt v d side = (v.descriptor ≡ d) × (v.side ≡ side)

-- The source of a debt after a notice. `Fresh`: the notice is the debt's event. `TakenNow`: the
-- debt existed before, and the notice says that a goroutine consumed the readiness notification of
-- its side. `Old`: the debt existed before, and the notice says neither that a goroutine consumed
-- that notification nor that the descriptor was opened.
data DebtFrom (n d : ℕ) (side : Side) (x : Notice) (a : Option Account) (b : Debt) : Type 0 where
  Fresh : Comes d side x → b ≡ record { event = n; taken = None } → DebtFrom n d side x a b
  TakenNow : (v : Visit) (old : Debt) → x ≡ notices.TookReadiness v → IsAt v d side → debt_of side a ≡ Some old → b ≡ taken_by n v.goroutine old → DebtFrom n d side x a b
  Old : debt_of side a ≡ Some b → ((v : Visit) → x ≡ notices.TookReadiness v → ¬ IsAt v d side) → ((s : ℕ) → x ≢ notices.Opened d s) → DebtFrom n d side x a b

nothing_owed : (s : ℕ) (side : Side) → debt_of side (Some (newly_opened s)) ≡ None
nothing_owed s Read = refl
nothing_owed s Write = refl

from_opened : (n d e s : ℕ) (side : Side) (a : Option Account) (b : Debt) (here : Bool) → (d == e) ≡ here → debt_of side (account_after n d (notices.Opened e s) a) ≡ Some b → DebtFrom n d side (notices.Opened e s) a b
from_opened n d e s side a b true is at =
    absurd (none-some _ (sym (ap (debt_of side) (if_true (d == e) (Some (newly_opened s)) a is) ∙ nothing_owed s side) ∙ at))
from_opened n d e s side a b false is at =
    Old (sym (ap (debt_of side) (if_false (d == e) (Some (newly_opened s)) a is)) ∙ at) (λ v same. cc) (λ k same. eqb-false d e is (numbers k same))
  where
    numbers : (k : ℕ) → notices.Opened e s ≡ notices.Opened d k → d ≡ e
    numbers k same = cc

from_event : (n d e : ℕ) (mode : Mode) (side : Side) (y : Account) (b : Debt) (here names : Bool) → (d == e) ≡ here → names_side mode side ≡ names
    → debt_of side (account_after n d (notices.Event e mode) (Some y)) ≡ Some b → DebtFrom n d side (notices.Event e mode) (Some y) b
from_event n d e mode side y b true true is names at =
    Fresh (mode, ap (λ k. notices.Event k mode) (sym (eqb-true d e is)), names)
    (same_Some _ _
    (sym at
    ∙ ap (λ (x : Account). of_side side x.debts) (if_true (d == e) (with_event n mode y) y is)
    ∙ events_of_sides n mode side y
    ∙ if_true (names_side mode side) (Some (record { event = n; taken = None })) (of_side side y.debts) names))
from_event n d e mode side y b true false is names at =
    Old
    (sym
    (ap (λ (x : Account). of_side side x.debts) (if_true (d == e) (with_event n mode y) y is) ∙ events_of_sides n mode side y ∙ owed_other n mode side (of_side side y.debts) names)
    ∙ at) (λ v same. cc) (λ k same. cc)
from_event n d e mode side y b false names is named at =
    Old (sym (ap (λ (x : Account). of_side side x.debts) (if_false (d == e) (with_event n mode y) y is)) ∙ at) (λ v same. cc) (λ k same. cc)

from_try : (n d s : ℕ) (at_side side : Side) (y : Account) (b : Debt) (here : Bool) → (y.socket == s) ≡ here → (side ≡ at_side) ⊎ (side ≢ at_side)
    → debt_of side (account_after n d (notices.Tried s at_side) (Some y)) ≡ Some b → DebtFrom n d side (notices.Tried s at_side) (Some y) b
from_try n d s at_side side y b true is (inl same) at =
    absurd
    (none-some _
    (sym
    (ap (λ (x : Account). of_side side x.debts) (if_true (y.socket == s) (record y { debts = with_side at_side None y.debts }) y is)
    ∙ ap (λ z. of_side z (with_side at_side None y.debts)) same ∙ of_side-with_side_same at_side None y.debts)
    ∙ at))
from_try n d s at_side side y b true is (inr apart) at =
    Old
    (sym
    (ap (λ (x : Account). of_side side x.debts) (if_true (y.socket == s) (record y { debts = with_side at_side None y.debts }) y is) ∙ of_side-with_side_other side at_side None y.debts apart)
    ∙ at) (λ v same. cc) (λ k same. cc)
from_try n d s at_side side y b false is which at =
    Old (sym (ap (λ (x : Account). of_side side x.debts) (if_false (y.socket == s) (record y { debts = with_side at_side None y.debts }) y is)) ∙ at) (λ v same. cc) (λ k same. cc)

from_taking : (n d : ℕ) (v : Visit) (side : Side) (y : Account) (b : Debt) (here : Bool) → (d == v.descriptor) ≡ here → (side ≡ v.side) ⊎ (side ≢ v.side)
    → debt_of side (account_after n d (notices.TookReadiness v) (Some y)) ≡ Some b → DebtFrom n d side (notices.TookReadiness v) (Some y) b
from_taking n d v side y b true is (inl same) at = by (of_side v.side y.debts) refl
  where
    after : of_side v.side (with_taking n v y).debts ≡ Some b
    after = sym (ap (λ z. of_side z (with_taking n v y).debts) same) ∙ sym (ap (λ (x : Account). of_side side x.debts) (if_true (d == v.descriptor) (with_taking n v y) y is)) ∙ at

    made : of_side v.side (with_taking n v y).debts ≡ option_map (taken_by n v.goroutine) (of_side v.side y.debts)
    made = of_side-with_side_same v.side (option_map (taken_by n v.goroutine) (of_side v.side y.debts)) y.debts

    by : (o : Option Debt) → of_side v.side y.debts ≡ o → DebtFrom n d side (notices.TookReadiness v) (Some y) b
    by None none = absurd (none-some _ (sym (made ∙ ap (option_map (taken_by n v.goroutine)) none) ∙ after))
    by (Some old) some =
        TakenNow v old refl (sym (eqb-true d v.descriptor is), sym same) (ap (λ z. of_side z y.debts) same ∙ some)
        (same_Some _ _ (sym after ∙ made ∙ ap (option_map (taken_by n v.goroutine)) some))
from_taking n d v side y b true is (inr apart) at =
    Old
    (sym
    (ap (λ (x : Account). of_side side x.debts) (if_true (d == v.descriptor) (with_taking n v y) y is)
    ∙ of_side-with_side_other side v.side (option_map (taken_by n v.goroutine) (of_side v.side y.debts)) y.debts apart)
    ∙ at) (λ u same here. apart (sym here.1 ∙ ap (λ (x : Visit). x.side) (same_visit u same))) (λ k same. cc)
  where
    same_visit : (u : Visit) → notices.TookReadiness v ≡ notices.TookReadiness u → u ≡ v
    same_visit u same = cc
from_taking n d v side y b false is which at =
    Old (sym (ap (λ (x : Account). of_side side x.debts) (if_false (d == v.descriptor) (with_taking n v y) y is)) ∙ at)
    (λ u same here. eqb-false d v.descriptor is (sym here.0 ∙ ap (λ (x : Visit). x.descriptor) (same_visit u same))) (λ k same. cc)
  where
    same_visit : (u : Visit) → notices.TookReadiness v ≡ notices.TookReadiness u → u ≡ v
    same_visit u same = cc

-- a notice that leaves the debts of both sides unchanged leaves the debt of this side unchanged
from_others : (n d : ℕ) (side : Side) (x : Notice) (y : Account) (b : Debt) → (noted n d x y).debts ≡ y.debts → debt_of side (account_after n d x (Some y)) ≡ debt_of side (Some (noted n d x y))
    → ((v : Visit) → x ≢ notices.TookReadiness v) → ((s : ℕ) → x ≢ notices.Opened d s) → debt_of side (account_after n d x (Some y)) ≡ Some b → DebtFrom n d side x (Some y) b
from_others n d side x y b same is took opened at = Old (sym (ap (of_side side) same) ∙ sym is ∙ at) (λ v e here. took v e) opened

kept_debts : (b : Bool) (x y : Account) → x.debts ≡ y.debts → (if b then x else y).debts ≡ y.debts
kept_debts true x y e = e
kept_debts false x y e = refl

debt_from : (n d : ℕ) (side : Side) (x : Notice) (a : Option Account) (b : Debt) → debt_of side (account_after n d x a) ≡ Some b → DebtFrom n d side x a b
debt_from n d side (notices.Opened e s) a b at = from_opened n d e s side a b (d == e) refl at
debt_from n d side (notices.Event e mode) (Some y) b at = from_event n d e mode side y b (d == e) (names_side mode side) refl refl at
debt_from n d side (notices.Tried s at_side) (Some y) b at = from_try n d s at_side side y b (y.socket == s) refl (other_side side at_side) at
debt_from n d side (notices.TookReadiness v) (Some y) b at = from_taking n d v side y b (d == v.descriptor) refl (other_side side v.side) at
debt_from n d side (notices.Checked v code) (Some y) b at =
    from_others n d side (notices.Checked v code) y b (kept_debts (d == v.descriptor) (with_look v y) y refl) refl (λ u e. cc) (λ s e. cc) at
debt_from n d side (notices.SetDeadline g e mode) (Some y) b at =
    from_others n d side (notices.SetDeadline g e mode) y b (kept_debts (d == e) (record y { deadlines = after_setting n g mode y.deadlines }) y refl) refl (λ u f. cc) (λ s f. cc) at
debt_from n d side (notices.PassedDeadline e passings) (Some y) b at =
    from_others n d side (notices.PassedDeadline e passings) y b (kept_debts (d == e) (record y { deadlines = after_passing passings y.deadlines }) y refl) refl (λ u f. cc) (λ s f. cc) at
debt_from n d side (notices.TookReference g s) (Some y) b at = from_others n d side (notices.TookReference g s) y b refl refl (λ u f. cc) (λ k f. cc) at
debt_from n d side (notices.GaveReference g s) (Some y) b at = from_others n d side (notices.GaveReference g s) y b refl refl (λ u f. cc) (λ k f. cc) at
debt_from n d side (notices.SocketOpened sock room) (Some y) b at = from_others n d side (notices.SocketOpened sock room) y b refl refl (λ u f. cc) (λ k f. cc) at
debt_from n d side (notices.PeerClosed sock) (Some y) b at = from_others n d side (notices.PeerClosed sock) y b refl refl (λ u f. cc) (λ k f. cc) at
debt_from n d side notices.Nothing (Some y) b at = from_others n d side notices.Nothing y b refl refl (λ u f. cc) (λ k f. cc) at
debt_from n d side (notices.Event e mode) None b at = cc
debt_from n d side (notices.Tried s at_side) None b at = cc
debt_from n d side (notices.TookReadiness v) None b at = cc
debt_from n d side (notices.Checked v code) None b at = cc
debt_from n d side (notices.SetDeadline g e mode) None b at = cc
debt_from n d side (notices.PassedDeadline e passings) None b at = cc
debt_from n d side (notices.TookReference g s) None b at = cc
debt_from n d side (notices.GaveReference g s) None b at = cc
debt_from n d side (notices.SocketOpened sock room) None b at = cc
debt_from n d side (notices.PeerClosed sock) None b at = cc
debt_from n d side notices.Nothing None b at = cc

-- ---- over a recording

module _ (r : Recording) (d : ℕ) (side : Side) where
  -- the readiness notification remains until a step consumes it
  ready_on : (w next : World) (step : Step) (answer : Answer) (n : ℕ) → outcome w step ≡ Ok (answer, next) → is_ready w d side ≡ true
      → ((v : Visit) → notice w step answer next ≡ notices.TookReadiness v → ¬ IsAt v d side) → ((s : ℕ) → notice w step answer next ≢ notices.Opened d s) → is_ready next d side ≡ true
  ready_on w next step answer n is ready untaken unopened = by (is_ready next d side) refl
    where
      by_taking : IsTakenBy w step answer next d side → is_ready next d side ≡ true
      by_taking (Anew s opened) = absurd (unopened s opened)
      by_taking (Took g took kind) = absurd (untaken (record { goroutine = g; descriptor = d; side = side }) took (refl, refl))

      by : (b : Bool) → is_ready next d side ≡ b → is_ready next d side ≡ true
      by true e = e
      by false e = by_taking (taken_by_three w next step answer d side is ready e)

  untaken_is_ready : (n : ℕ) (b : Debt) → debt r d side n ≡ Some b → b.taken ≡ None → is_ready (world_at r n) d side ≡ true
  untaken_is_ready zero b is none = cc
  untaken_is_ready (suc n) b is none = go (debt_from (suc n) d side (notice_at r n) (account r d n) b is) (untaken_is_ready n b) (moves r n)
    where
      w : World
      w = world_at r n

      go : DebtFrom (suc n) d side (notice_at r n) (account r d n) b → (debt r d side n ≡ Some b → b.taken ≡ None → is_ready w d side ≡ true) → Moves r n → is_ready (world_at r (suc n)) d side ≡ true
      go (Fresh comes made) before moved =
          let event = event_step r d n comes.0 comes.1 in
          ap (λ x. is_ready x d side) event.leads ∙ event_makes_ready w d event.tag comes.0 event.error side event.next event.is comes.2
      go (TakenNow v old took at there made) before moved = absurd (none-some _ (sym (sym (ap (λ (x : Debt). x.taken) made) ∙ none)))
      go (Old there untaken unopened) before (Made step answer next read came leads noticed) =
          ap (λ x. is_ready x d side) leads
          ∙ ready_on w next step answer n came (before there none) (λ v took. untaken v (noticed ∙ took)) (λ s opened. unopened s (noticed ∙ opened))
      go (Old there untaken unopened) before (Stays same quiet) = ap (λ x. is_ready x d side) same ∙ before there none

  -- if a debt records a step that consumed the readiness notification, that step did consume it
  taking_is : (n : ℕ) (b : Debt) (t : StepBy) → debt r d side n ≡ Some b → b.taken ≡ Some t → IsTaking r n d side b.event t
  taking_is zero b t is some = cc
  taking_is (suc n) b t is some = go (debt_from (suc n) d side (notice_at r n) (account r d n) b is) (taking_is n b t)
    where
      on : IsTaking r n d side b.event t → IsTaking r (suc n) d side b.event t
      on taking = record { at = taking.at; before = omega (arith, taking.before); step = taking.step; after = taking.after; took = taking.took }

      go : DebtFrom (suc n) d side (notice_at r n) (account r d n) b → (debt r d side n ≡ Some b → b.taken ≡ Some t → IsTaking r n d side b.event t) → IsTaking r (suc n) d side b.event t
      go (Fresh comes made) before = absurd (none-some _ (sym (ap (λ (x : Debt). x.taken) made) ∙ some))
      go (TakenNow v old took at there made) before =
          let taken : record { step = suc n; goroutine = v.goroutine } ≡ t = same_Some _ _ (sym (ap (λ (x : Debt). x.taken) made) ∙ some) in
          let owed = debt_is_owed r d side n old there in
          let event : b.event ≡ old.event = ap (λ (x : Debt). x.event) made in
          let number : t.step ≡ suc n = sym (ap (λ (x : StepBy). x.step) taken) in
          record {
            at = n;
            before = omega arith;
            step = number;
            after = omega (arith, number, event, owed.1, owed.0.before);
            took = took ∙ ap (λ (x : ℕ). notices.TookReadiness (record { goroutine = v.goroutine; descriptor = x; side = v.side })) at.0
                ∙ ap (λ (x : Side). notices.TookReadiness (record { goroutine = v.goroutine; descriptor = d; side = x })) at.1
                ∙ ap (λ (x : ℕ). notices.TookReadiness (record { goroutine = x; descriptor = d; side = side })) (ap (λ (x : StepBy). x.goroutine) taken);
          }
      go (Old there untaken unopened) before = on (before there some)

-- each lost wake-up names the step that consumed its readiness notification
pub names_taking : (r : Recording) (n : ℕ) (lost : LostWakeUp) → WellFormed (world_at r n) → Contains (lost_wake_ups r n) lost
    → (taken : StepBy) × (lost.taken ≡ Some taken) × IsTaking r n lost.descriptor lost.side lost.event taken
names_taking r n lost fits at = by is.owed.0.taken refl
  where
    is : IsOf n lost.descriptor lost.side (cell (world_at r n) (word_cell lost.descriptor lost.side)) (debt r lost.descriptor lost.side n) lost
    is = listed_word r n lost at

    unready : is_ready (world_at r n) lost.descriptor lost.side ≡ false
    unready = ap is_ready_word is.held

    by : (o : Option StepBy) → is.owed.0.taken ≡ o → (taken : StepBy) × (lost.taken ≡ Some taken) × IsTaking r n lost.descriptor lost.side lost.event taken
    by None none = absurd (true≢false (sym (untaken_is_ready r lost.descriptor lost.side n is.owed.0 is.owed.1 none) ∙ unready))
    by (Some t) some = (
      t,
      is.owed.3 ∙ some,
      subst (λ e. IsTaking r n lost.descriptor lost.side e t) (sym is.owed.2) (taking_is r lost.descriptor lost.side n is.owed.0 t is.owed.1 some),
    )
