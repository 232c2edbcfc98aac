-- The list of findings about deadlines is correct and complete.
use Rattle.std.proofs.Common.{◌≡◌, ℕ, zero, suc, ◌<◌, Bool, true, false, not, ◌&&◌, ◌⊎◌, inl, inr, List, [], ◌∷◌, ◌++◌, Option, Some, None, Ok, refl, sym, ap, subst, ◌∙◌, arith, true≢false}
use Rattle.std.specs.Prelude.{Contains, ◌==◌, if◌then◌else◌, nat_lt, ℤ}
use Rattle.std.specs.Option.{option_map_or}
use Rattle.std.proofs.lemmas.Bool.{eqb-true}
use Rattle.std.proofs.lemmas.List.Elements.{Contains-append_cases, Contains-append_left, Contains-append_right, Contains-push_cases}
use Rattle.std.proofs.lemmas.Option.{none-some}
use Rattle.nr_rev.specs.declared.answer.Answer.{Answer}
use Rattle.nr_rev.specs.declared.answer.Answer.TheVariants as answers
use Rattle.nr_rev.specs.declared.sides.Mode.{Mode}
use Rattle.nr_rev.specs.declared.sides.Side.{Side}
use Rattle.nr_rev.specs.declared.sides.Side.TheVariants.{Read, Write}
use Rattle.nr_rev.specs.declared.sides.Sides.{Sides}
use Rattle.nr_rev.specs.declared.step.Step.{Step}
use Rattle.nr_rev.specs.Cell.{cell}
use Rattle.nr_rev.specs.Run.{Recording, world_at}
use Rattle.nr_rev.specs.Sides.{names_side, of_side}
use Rattle.nr_rev.specs.Step.{idle, outcome, setdeadline}
use Rattle.nr_rev.specs.World.{World}
use Rattle.nr_laws.proofs.AspectLemmas.{ComesTo, ComesTo-any, ComesTo-bind, ComesTo-then}
use Rattle.nr_laws.proofs.AspectDescriptorStepLemmas.{ComesTo-open_row_of}
use Rattle.nr_suspects.specs.declared.account.Account.{Account}
use Rattle.nr_suspects.specs.declared.deadline_finding.Consequence.{Consequence}
use Rattle.nr_suspects.specs.declared.deadline_finding.Consequence.TheVariants.{Passed, EndedCall, TakenBack}
use Rattle.nr_suspects.specs.declared.deadline_finding.DeadlineFinding.{DeadlineFinding}
use Rattle.nr_suspects.specs.declared.notice.Notice.{Notice}
use Rattle.nr_suspects.specs.declared.notice.Notice.TheVariants as notices
use Rattle.nr_suspects.specs.declared.notice.Passing.{Passing}
use Rattle.nr_suspects.specs.declared.notice.Visit.{Visit}
use Rattle.nr_suspects.specs.declared.setting.Setting.{Setting}
use Rattle.nr_suspects.specs.DeadlineFindings.{Comes, IsFinding, IsOf, IsSetBy, account_within, deadline_findings, finding, findings_at, passed_at, side_setting, taken_back_at, woken_of}
use Rattle.nr_suspects.specs.Debts.{account, account_after}
use Rattle.nr_suspects.specs.Notices.{checking, has_passed, held_goroutine, is_taken, notice, notice_at, passing, running, word_cell}
use Rattle.nr_suspects.proofs.DeadlineStepLemmas.{IsDeadline, IsNoOpening, Sets, passed_is_set, set_before, timeout_is_set}
use Rattle.nr_suspects.proofs.LostWakeUpLemmas.{here, nowhere}
use Rattle.nr_suspects.proofs.NoticeLemmas.{Moves, Made, Stays, Noticed, OfOpening, OfEvent, OfSetting, OfTimer, OfVisit, Quiet, checking_cases, is_quiet, moves, noticed_of}
use Rattle.nr_suspects.proofs.PresenceLemmas.{IsKept, IsMade, made_is_kept}
use Rattle.nr_suspects.proofs.SettingLemmas.{IsSet, below_or_here, set_now, set_on, setting_is}

-- ---- a deadline that is set has a recorded setting

same_opening : (d e s k : ℕ) → notices.Opened d s ≡ notices.Opened e k → d ≡ e
same_opening d e s k is = cc

-- a step with another notice opened no descriptor
unopened : (w : World) (step : Step) (answer : Answer) (next : World) (d s : ℕ) → IsNoOpening step answer d → Noticed w step answer next → notice w step answer next ≡ notices.Opened d s → ⊥
unopened w step answer next d s none (OfOpening g k e is number same) opened = none g k is (number ∙ ap answers.Number (same_opening e d k s (sym same ∙ opened)))
unopened w step answer next d s none (OfEvent e tag mode error is done same) opened = differ (sym same ∙ opened)
  where
    differ : notices.Event e mode ≡ notices.Opened d s → ⊥
    differ f = cc
unopened w step answer next d s none (OfSetting g e mode t is same) opened = differ (sym same ∙ opened)
  where
    differ : notices.SetDeadline g e mode ≡ notices.Opened d s → ⊥
    differ f = cc
unopened w step answer next d s none (OfTimer i e is at same) opened = differ (sym same ∙ opened)
  where
    differ : running w next (Some e) notices.Nothing ≡ notices.Opened d s → ⊥
    differ f = cc
unopened w step answer next d s none (OfVisit v at same) opened = by (is_taken w next v) (sym same ∙ opened)
  where
    by : (b : Bool) → (if b then notices.TookReadiness v else checking v answer) ≡ notices.Opened d s → ⊥
    by true f = took f
      where
        took : notices.TookReadiness v ≡ notices.Opened d s → ⊥
        took g = cc
    by false f = elim (checking_cases v answer) [
      | inl code ↦ checked (sym code.2 ∙ f)
      | inr none ↦ nothing (sym none ∙ f)
    ]
      where
        checked : {code : ℕ} → notices.Checked v code ≡ notices.Opened d s → ⊥
        checked g = cc

        nothing : notices.Nothing ≡ notices.Opened d s → ⊥
        nothing g = cc
unopened w step answer next d s none (Quiet quiet) opened = true≢false (sym quiet ∙ ap is_quiet opened)

-- no deadline is set in the empty world
none_at_first : (d : ℕ) (side : Side) (r : Recording) → IsDeadline (world_at r 0) d side → ⊥
none_at_first d side r set = none-some _ set.1

-- a `setdeadline` applies only to a descriptor that exists
setdeadline_made : (w : World) (g d : ℕ) (mode : Mode) (t : ℤ) → ComesTo (λ left. IsMade w d) (setdeadline g d mode t w)
setdeadline_made w g d mode t = ComesTo-then (ComesTo-any (idle g w)) λ _. ComesTo-bind (ComesTo-open_row_of d w) λ row at. record { value = λ left is. (row, at) }

pub deadline_has_setting : (r : Recording) (d : ℕ) (side : Side) (n : ℕ) → IsDeadline (world_at r n) d side → IsSet side (account r d n)
deadline_has_setting r d side zero set = absurd (none_at_first d side r set)
deadline_has_setting r d side (suc n) set = go (moves r n) (deadline_has_setting r d side n)
  where
    w : World
    w = world_at r n

    made_step : (step : Step) (answer : Answer) (next : World) → outcome w step ≡ Ok (answer, next) → world_at r (suc n) ≡ next → notice_at r n ≡ notice w step answer next
        → (IsDeadline w d side ⊎ Sets step d side) → IsNoOpening step answer d → (IsDeadline w d side → IsSet side (account r d n)) → IsSet side (account r d (suc n))
    made_step step answer next is leads noticed (inl there) none before =
        set_on (suc n) d side (notice_at r n) (account r d n) (before there) (λ s opened. unopened w step answer next d s none (noticed_of w answer next step) (sym noticed ∙ opened))
    made_step step answer next is leads noticed (inr sets) none before =
        by_kept (made_is_kept r d n ((setdeadline_made w sets.0 d sets.1 sets.2).value (answer, next) (ap (outcome w) (sym sets.3) ∙ is)))
      where
        x_is : notice_at r n ≡ notices.SetDeadline sets.0 d sets.1
        x_is = noticed ∙ ap (λ x. notice w x answer next) sets.3

        by_kept : IsKept (account r d n) → IsSet side (account r d (suc n))
        by_kept kept =
            subst (λ x. IsSet side (account_after (suc n) d x (account r d n))) (sym x_is)
            (subst (λ a. IsSet side (account_after (suc n) d (notices.SetDeadline sets.0 d sets.1) a)) (sym kept.1) (set_now (suc n) d sets.0 sets.1 side kept.0 sets.4))

    go : Moves r n → (IsDeadline w d side → IsSet side (account r d n)) → IsSet side (account r d (suc n))
    go (Stays same none) before =
        set_on (suc n) d side (notice_at r n) (account r d n) (before (subst (λ x. IsDeadline x d side) same set)) (λ s opened. nothing s (sym none ∙ opened))
      where
        nothing : (s : ℕ) → notices.Nothing ≡ notices.Opened d s → ⊥
        nothing s f = cc
    go (Made step answer next read is leads noticed) before =
        let was = set_before w step answer next d side is (subst (λ x. IsDeadline x d side) leads set) in
        made_step step answer next is leads noticed was.0 was.1 before

-- ---- a timeout has a recorded setting

-- a check with code 2 found a deadline that is set
checked_is_set : (w : World) (step : Step) (answer : Answer) (next : World) (v : Visit) → outcome w step ≡ Ok (answer, next) → Noticed w step answer next → notice w step answer next ≡ notices.Checked v 2 → IsDeadline w v.descriptor v.side
checked_is_set w step answer next v is (OfOpening g k e at number same) checked = absurd (differ (sym same ∙ checked))
  where
    differ : notices.Opened e k ≡ notices.Checked v 2 → ⊥
    differ f = cc
checked_is_set w step answer next v is (OfEvent e tag mode error at done same) checked = absurd (differ (sym same ∙ checked))
  where
    differ : notices.Event e mode ≡ notices.Checked v 2 → ⊥
    differ f = cc
checked_is_set w step answer next v is (OfSetting g e mode t at same) checked = absurd (differ (sym same ∙ checked))
  where
    differ : notices.SetDeadline g e mode ≡ notices.Checked v 2 → ⊥
    differ f = cc
checked_is_set w step answer next v is (OfTimer i e at there same) checked = absurd (differ (sym same ∙ checked))
  where
    differ : running w next (Some e) notices.Nothing ≡ notices.Checked v 2 → ⊥
    differ f = cc
checked_is_set w step answer next v is (OfVisit u at same) checked = by (is_taken w next u) (sym same ∙ checked)
  where
    both : (code : ℕ) → notices.Checked u code ≡ notices.Checked v 2 → (u ≡ v) × (code ≡ 2)
    both code f = (cc, cc)

    by : (b : Bool) → (if b then notices.TookReadiness u else checking u answer) ≡ notices.Checked v 2 → IsDeadline w v.descriptor v.side
    by true f = absurd (took f)
      where
        took : notices.TookReadiness u ≡ notices.Checked v 2 → ⊥
        took g = cc
    by false f = elim (checking_cases u answer) [
      | inl code ↦
          let same_check = both code.0 (sym code.2 ∙ f) in
          timeout_is_set w step next v (is ∙ ap (λ (a : Answer). Ok (a, next)) (code.1 ∙ ap answers.Code same_check.1)) (at ∙ ap Some same_check.0)
      | inr none ↦ absurd (nothing (sym none ∙ f))
    ]
      where
        nothing : notices.Nothing ≡ notices.Checked v 2 → ⊥
        nothing g = cc
checked_is_set w step answer next v is (Quiet quiet) checked = absurd (true≢false (sym quiet ∙ ap is_quiet checked))

pub timeout_has_setting : (r : Recording) (n : ℕ) (v : Visit) → notice_at r n ≡ notices.Checked v 2 → IsSet v.side (account r v.descriptor n)
timeout_has_setting r n v checked = deadline_has_setting r v.descriptor v.side n (go (moves r n))
  where
    go : Moves r n → IsDeadline (world_at r n) v.descriptor v.side
    go (Stays same none) = absurd (nothing (sym none ∙ checked))
      where
        nothing : notices.Nothing ≡ notices.Checked v 2 → ⊥
        nothing f = cc
    go (Made step answer next read is leads noticed) = checked_is_set (world_at r n) step answer next v is (noticed_of (world_at r n) answer next step) (sym noticed ∙ checked)

-- ---- a deadline that passes has a recorded setting

passing_passed : (w next : World) (d : ℕ) (side : Side) (p : Passing) → passing w next d side ≡ Some p → has_passed next d side ≡ true
passing_passed w next d side p is = by (not (has_passed w d side)) (has_passed next d side) is
  where
    by : (a b : Bool) → ◌≡◌ {A = Option Passing} (if a && b then Some (record { woken = held_goroutine (cell w (word_cell d side)) }) else None) (Some p) → b ≡ true
    by a true f = refl
    by true false f = absurd (none-some _ f)
    by false false f = absurd (none-some _ f)

passed_has_setting_by : (r : Recording) (n d : ℕ) (passings : Sides (Option Passing)) (side : Side) (p : Passing) (step : Step) (answer : Answer) (next : World) → outcome (world_at r n) step ≡ Ok (answer, next)
    → Noticed (world_at r n) step answer next → notice (world_at r n) step answer next ≡ notices.PassedDeadline d passings → of_side side passings ≡ Some p → IsDeadline (world_at r n) d side
passed_has_setting_by r n d passings side p step answer next is (OfOpening g k e at number same) passed some = absurd (differ (sym same ∙ passed))
  where
    differ : notices.Opened e k ≡ notices.PassedDeadline d passings → ⊥
    differ f = cc
passed_has_setting_by r n d passings side p step answer next is (OfEvent e tag mode error at done same) passed some = absurd (differ (sym same ∙ passed))
  where
    differ : notices.Event e mode ≡ notices.PassedDeadline d passings → ⊥
    differ f = cc
passed_has_setting_by r n d passings side p step answer next is (OfSetting g e mode t at same) passed some = absurd (differ (sym same ∙ passed))
  where
    differ : notices.SetDeadline g e mode ≡ notices.PassedDeadline d passings → ⊥
    differ f = cc
passed_has_setting_by r n d passings side p step answer next is (OfTimer i e at fired same) passed some = by_before (set_before w step answer next d side is now).0
  where
    w : World
    w = world_at r n

    found : Sides (Option Passing)
    found = record { read = passing w next e Read; write = passing w next e Write }

    both : notices.PassedDeadline e found ≡ notices.PassedDeadline d passings → (e ≡ d) × (found ≡ passings)
    both f = (cc, cc)

    parts : (e ≡ d) × (found ≡ passings)
    parts = both (sym same ∙ passed)

    of_found : (s : Side) → of_side s found ≡ passing w next e s
    of_found Read = refl
    of_found Write = refl

    passes : passing w next d side ≡ Some p
    passes = ap (λ k. passing w next k side) (sym parts.0) ∙ sym (of_found side) ∙ ap (of_side side) parts.1 ∙ some

    now : IsDeadline next d side
    now = passed_is_set next d side (passing_passed w next d side p passes)

    by_before : (IsDeadline w d side ⊎ Sets step d side) → IsDeadline w d side
    by_before (inl there) = there
    by_before (inr sets) = absurd (other (sym at ∙ sets.3))
      where
        other : Step.Fire i ≡ Step.SetDeadline sets.0 d sets.1 sets.2 → ⊥
        other f = cc
passed_has_setting_by r n d passings side p step answer next is (OfVisit v at same) passed some = absurd (by (is_taken (world_at r n) next v) (sym same ∙ passed))
  where
    by : (b : Bool) → (if b then notices.TookReadiness v else checking v answer) ≡ notices.PassedDeadline d passings → ⊥
    by true f = took f
      where
        took : notices.TookReadiness v ≡ notices.PassedDeadline d passings → ⊥
        took g = cc
    by false f = elim (checking_cases v answer) [
      | inl code ↦ checked (sym code.2 ∙ f)
      | inr none ↦ nothing (sym none ∙ f)
    ]
      where
        checked : {code : ℕ} → notices.Checked v code ≡ notices.PassedDeadline d passings → ⊥
        checked g = cc

        nothing : notices.Nothing ≡ notices.PassedDeadline d passings → ⊥
        nothing g = cc
passed_has_setting_by r n d passings side p step answer next is (Quiet quiet) passed some = absurd (true≢false (sym quiet ∙ ap is_quiet passed))

pub passed_has_setting : (r : Recording) (n d : ℕ) (passings : Sides (Option Passing)) (side : Side) (p : Passing) → notice_at r n ≡ notices.PassedDeadline d passings → of_side side passings ≡ Some p
    → IsSet side (account r d n)
passed_has_setting r n d passings side p passed some = deadline_has_setting r d side n (go (moves r n))
  where
    go : Moves r n → IsDeadline (world_at r n) d side
    go (Stays same none) = absurd (nothing (sym none ∙ passed))
      where
        nothing : notices.Nothing ≡ notices.PassedDeadline d passings → ⊥
        nothing f = cc
    go (Made step answer next read is leads noticed) = passed_has_setting_by r n d passings side p step answer next is (noticed_of (world_at r n) answer next step) (sym noticed ∙ passed) some

-- ---- one finding

-- the contents of a listed finding
record Says (n d : ℕ) (side : Side) (c : Consequence) (a : Option Account) (found : DeadlineFinding) : Type 0 where
  position : found.position ≡ n
  descriptor : found.descriptor ≡ d
  side_is : found.side ≡ side
  consequence : found.consequence ≡ c
  setting : side_setting side a ≡ Some found.setting

says : (n d : ℕ) (side : Side) (c : Consequence) (a : Option Account) (found : DeadlineFinding) → Contains (finding n d side c a) found → Says n d side c a found
says n d side c a found at = by (side_setting side a) refl at
  where
    by : (o : Option Setting) → side_setting side a ≡ o
        → Contains (option_map_or (λ (setting : Setting). record { position = n; descriptor = d; side = side; consequence = c; setting = setting } ∷ []) o []) found → Says n d side c a found
    by None none there = absurd (nowhere found there)
    by (Some setting) some there = elim (Contains-push_cases [] _ found there) [
      | inl none ↦ absurd (nowhere found none)
      | inr same ↦ subst (Says n d side c a) same (record { position = refl; descriptor = refl; side_is = refl; consequence = refl; setting = some })
    ]

pub listed_if_set : (n d : ℕ) (side : Side) (c : Consequence) (a : Option Account) → IsSet side a → (found : DeadlineFinding) × Contains (finding n d side c a) found × (found.position ≡ n) × (found.descriptor ≡ d) × (found.side ≡ side) × (found.consequence ≡ c)
listed_if_set n d side c a set =
    let found : DeadlineFinding = record { position = n; descriptor = d; side = side; consequence = c; setting = set.0 } in
    (found, subst (λ (xs : List DeadlineFinding). Contains xs found) (sym (ap (λ o. option_map_or (λ (setting : Setting). record { position = n; descriptor = d; side = side; consequence = c; setting = setting } ∷ []) o []) set.1)) (here found), refl, refl, refl, refl)

-- ---- the findings of a step

pub is_below : (a b : ℕ) → a < b → nat_lt a b ≡ true
is_below a b h = grind (arith, h)

module _ (r : Recording) where
  -- a finding about the step after position k is correct
  is_finding : (n k d : ℕ) (side : Side) (c : Consequence) (found : DeadlineFinding) → k < n → Says (suc k) d side c (account r d k) found → Comes r k d side c → IsFinding r n found
  is_finding n k d side c found below is comes = record {
    at = k;
    before = below;
    position = is.position;
    comes = subst (λ e. Comes r k e found.side found.consequence) (sym is.descriptor) (subst (λ s. Comes r k d s found.consequence) (sym is.side_is) (subst (Comes r k d side) (sym is.consequence) comes));
    set = subst (λ e. IsSetBy r k e found.side found.setting) (sym is.descriptor) (subst (λ s. IsSetBy r k d s found.setting) (sym is.side_is) (setting_is r d side k found.setting is.setting));
  }

  -- the account of a descriptor below the limit, or none
  within_is : (k d : ℕ) → (account_within r k d ≡ account r d k) ⊎ (account_within r k d ≡ None)
  within_is k d = by (nat_lt d r.limits.descriptors)
    where
      by : (b : Bool) → ((if b then account r d k else None) ≡ account r d k) ⊎ ((if b then account r d k else None) ≡ None)
      by true = inl refl
      by false = inr refl

  says_within : (k d : ℕ) (side : Side) (c : Consequence) (found : DeadlineFinding) → Contains (finding (suc k) d side c (account_within r k d)) found → Says (suc k) d side c (account r d k) found
  says_within k d side c found at = elim (within_is k d) [
    | inl same ↦ subst (λ a. Says (suc k) d side c a found) same (says (suc k) d side c (account_within r k d) found at)
    | inr none ↦ absurd (none_set (says (suc k) d side c (account_within r k d) found at) none)
  ]
    where
      none_set : Says (suc k) d side c (account_within r k d) found → account_within r k d ≡ None → ⊥
      none_set is none = none-some _ (sym (ap (side_setting side) none) ∙ is.setting)

  woken_within : (k d : ℕ) (side : Side) (woken : ℕ) → woken_of side (account_within r k d) ≡ Some woken → woken_of side (account r d k) ≡ Some woken
  woken_within k d side woken is = elim (within_is k d) [
    | inl same ↦ sym (ap (woken_of side) same) ∙ is
    | inr none ↦ absurd (none-some _ (sym (ap (woken_of side) none) ∙ is))
  ]

  -- if d is below the limit of descriptors, `account_within` is the account of descriptor d
  pub within : (k d : ℕ) → d < r.limits.descriptors → account_within r k d ≡ account r d k
  within k d below = ap (λ b. if b then account r d k else None) (is_below d r.limits.descriptors below)

  from_passed : (n k d : ℕ) (passings : Sides (Option Passing)) (side : Side) (o : Option Passing) (found : DeadlineFinding) → k < n → notice_at r k ≡ notices.PassedDeadline d passings → of_side side passings ≡ o
      → Contains (passed_at (suc k) d side o (account_within r k d)) found → IsFinding r n found
  from_passed n k d passings side None found below is none at = absurd (nowhere found at)
  from_passed n k d passings side (Some p) found below is some at = is_finding n k d side Passed found below (says_within k d side Passed found at) (passings, p, is, some)

  from_checked : (n k : ℕ) (v : Visit) (code : ℕ) (b : Bool) (found : DeadlineFinding) → k < n → notice_at r k ≡ notices.Checked v code → (code == 2) ≡ b
      → Contains (if b then finding (suc k) v.descriptor v.side (EndedCall v.goroutine) (account_within r k v.descriptor) else []) found → IsFinding r n found
  from_checked n k v code true found below is two at =
      is_finding n k v.descriptor v.side (EndedCall v.goroutine) found below (says_within k v.descriptor v.side (EndedCall v.goroutine) found at) (is ∙ ap (notices.Checked v) (eqb-true code 2 two))
  from_checked n k v code false found below is other at = absurd (nowhere found at)

  from_taken_back : (n k g d : ℕ) (mode : Mode) (side : Side) (b : Bool) (o : Option ℕ) (found : DeadlineFinding) → k < n → notice_at r k ≡ notices.SetDeadline g d mode → names_side mode side ≡ b → woken_of side (account_within r k d) ≡ o
      → Contains (if b then option_map_or (λ woken. finding (suc k) d side (TakenBack woken) (account_within r k d)) o [] else []) found → IsFinding r n found
  from_taken_back n k g d mode side true (Some woken) found below is names some at =
      is_finding n k d side (TakenBack woken) found below (says_within k d side (TakenBack woken) found at) (g, mode, (is, names), woken_within k d side woken some)
  from_taken_back n k g d mode side true None found below is names none at = absurd (nowhere found at)
  from_taken_back n k g d mode side false o found below is names some at = absurd (nowhere found at)

  from_step : (n k : ℕ) (x : Notice) (found : DeadlineFinding) → k < n → notice_at r k ≡ x → Contains (findings_at (suc k) x (account_within r k)) found → IsFinding r n found
  from_step n k (notices.PassedDeadline d passings) found below is at =
      elim (Contains-append_cases (passed_at (suc k) d Read passings.read (account_within r k d)) (passed_at (suc k) d Write passings.write (account_within r k d)) found at) [
        | inl reads ↦ from_passed n k d passings Read passings.read found below is refl reads
        | inr writes ↦ from_passed n k d passings Write passings.write found below is refl writes
      ]
  from_step n k (notices.Checked v code) found below is at = from_checked n k v code (code == 2) found below is refl at
  from_step n k (notices.SetDeadline g d mode) found below is at =
      elim (Contains-append_cases (taken_back_at (suc k) d mode Read (account_within r k d)) (taken_back_at (suc k) d mode Write (account_within r k d)) found at) [
        | inl reads ↦ from_taken_back n k g d mode Read (names_side mode Read) (woken_of Read (account_within r k d)) found below is refl refl reads
        | inr writes ↦ from_taken_back n k g d mode Write (names_side mode Write) (woken_of Write (account_within r k d)) found below is refl refl writes
      ]
  from_step n k (notices.Opened d s) found below is at = absurd (nowhere found at)
  from_step n k (notices.Event d mode) found below is at = absurd (nowhere found at)
  from_step n k (notices.Tried s side) found below is at = absurd (nowhere found at)
  from_step n k (notices.TookReadiness v) found below is at = absurd (nowhere found at)
  from_step n k (notices.TookReference g s) found below is at = absurd (nowhere found at)
  from_step n k (notices.GaveReference g s) found below is at = absurd (nowhere found at)
  from_step n k (notices.SocketOpened sock room) found below is at = absurd (nowhere found at)
  from_step n k (notices.PeerClosed sock) found below is at = absurd (nowhere found at)
  from_step n k notices.Nothing found below is at = absurd (nowhere found at)

  later : (n : ℕ) (found : DeadlineFinding) → IsFinding r n found → IsFinding r (suc n) found
  later n found is = record { at = is.at; before = omega (arith, is.before); position = is.position; comes = is.comes; set = is.set }

  -- each listed finding is correct
  pub listed_is_so : (n : ℕ) (found : DeadlineFinding) → Contains (deadline_findings r n) found → IsFinding r n found
  listed_is_so zero found at = absurd (nowhere found at)
  listed_is_so (suc n) found at = elim (Contains-append_cases (deadline_findings r n) (findings_at (suc n) (notice_at r n) (account_within r n)) found at) [
    | inl before ↦ later n found (listed_is_so n found before)
    | inr last ↦ from_step (suc n) n (notice_at r n) found (omega arith) refl last
  ]

  -- a finding at a step is listed at each later position
  pub listed_from : (n k : ℕ) (found : DeadlineFinding) → k < n → Contains (findings_at (suc k) (notice_at r k) (account_within r k)) found → Contains (deadline_findings r n) found
  listed_from zero k found below at = absurd (omega (arith, below))
  listed_from (suc n) k found below at = elim (below_or_here k n below) [
    | inl earlier ↦ Contains-append_left (deadline_findings r n) (findings_at (suc n) (notice_at r n) (account_within r n)) found (listed_from n k found earlier at)
    | inr same ↦
        Contains-append_right (deadline_findings r n) (findings_at (suc n) (notice_at r n) (account_within r n)) found
        (subst (λ j. Contains (findings_at (suc j) (notice_at r j) (account_within r j)) found) same at)
  ]

  -- each deadline that passes is listed
  pub passed_is_listed : (n k d : ℕ) (side : Side) → k < n → d < r.limits.descriptors → Comes r k d side Passed → (found : DeadlineFinding) × Contains (deadline_findings r n) found × IsOf k d side Passed found
  passed_is_listed n k d side below few comes = (
    there.0,
    listed_from n k there.0 below (subst (λ x. Contains (findings_at (suc k) x (account_within r k)) there.0) (sym comes.2) (to_step side refl)),
    record { position = there.2; descriptor = there.3; side_is = there.4; consequence_is = there.5 },
  )
    where
      there : (found : DeadlineFinding) × Contains (finding (suc k) d side Passed (account_within r k d)) found × (found.position ≡ suc k) × (found.descriptor ≡ d) × (found.side ≡ side) × (found.consequence ≡ Passed)
      there = listed_if_set (suc k) d side Passed (account_within r k d) (subst (IsSet side) (sym (within k d few)) (passed_has_setting r k d comes.0 side comes.1 comes.2 comes.3))

      at_side : Contains (passed_at (suc k) d side (of_side side comes.0) (account_within r k d)) there.0
      at_side = subst (λ o. Contains (passed_at (suc k) d side o (account_within r k d)) there.0) (sym comes.3) there.1

      to_step : (s : Side) → s ≡ side → Contains (passed_at (suc k) d Read comes.0.read (account_within r k d) ++ passed_at (suc k) d Write comes.0.write (account_within r k d)) there.0
      to_step Read is =
          Contains-append_left (passed_at (suc k) d Read comes.0.read (account_within r k d)) (passed_at (suc k) d Write comes.0.write (account_within r k d)) there.0
          (subst (λ (s : Side). Contains (passed_at (suc k) d s (of_side s comes.0) (account_within r k d)) there.0) (sym is) at_side)
      to_step Write is =
          Contains-append_right (passed_at (suc k) d Read comes.0.read (account_within r k d)) (passed_at (suc k) d Write comes.0.write (account_within r k d)) there.0
          (subst (λ (s : Side). Contains (passed_at (suc k) d s (of_side s comes.0) (account_within r k d)) there.0) (sym is) at_side)

  -- each call that a deadline ends is listed
  pub ended_is_listed : (n k d g : ℕ) (side : Side) → k < n → d < r.limits.descriptors → Comes r k d side (EndedCall g) → (found : DeadlineFinding) × Contains (deadline_findings r n) found × IsOf k d side (EndedCall g) found
  ended_is_listed n k d g side below few comes =
      let v : Visit = record { goroutine = g; descriptor = d; side = side } in
      let there = listed_if_set (suc k) d side (EndedCall g) (account_within r k d) (subst (IsSet side) (sym (within k d few)) (timeout_has_setting r k v comes)) in (
        there.0,
        listed_from n k there.0 below (subst (λ x. Contains (findings_at (suc k) x (account_within r k)) there.0) (sym comes) there.1),
        record { position = there.2; descriptor = there.3; side_is = there.4; consequence_is = there.5 },
      )
