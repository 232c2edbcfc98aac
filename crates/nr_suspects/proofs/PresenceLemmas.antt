-- Each descriptor that exists has an account, so an event finds its account.
use Rattle.std.proofs.Common.{◌≡◌, ℕ, zero, suc, Bool, true, false, List, [], ◌∷◌, length, ◌⊎◌, inl, inr, Option, Some, None, Ok, refl, sym, ap, subst, ◌∙◌, true≢false}
use Rattle.std.specs.Prelude.{◌==◌, ◌||◌, if◌then◌else◌, nat_lt, slice_get, option_map}
use Rattle.std.proofs.lemmas.Bool.{eqb-false}
use Rattle.std.proofs.lemmas.Option.{none-some}
use Rattle.nr_rev.specs.declared.answer.Answer.{Answer}
use Rattle.nr_rev.specs.declared.answer.Answer.TheVariants as answers
use Rattle.nr_rev.specs.declared.cell.Cell.{Cell}
use Rattle.nr_rev.specs.declared.cell_value.CellValue.{CellValue}
use Rattle.nr_rev.specs.declared.descriptor.DescriptorRow.{DescriptorRow}
use Rattle.nr_rev.specs.declared.sides.Mode.{Mode}
use Rattle.nr_rev.specs.declared.sides.Side.TheVariants.{Read, Write}
use Rattle.nr_rev.specs.declared.step.Step.{Step}
use Rattle.nr_rev.specs.Aspect.{can_change}
use Rattle.nr_rev.specs.Cell.{value_or_absent}
use Rattle.nr_rev.specs.Descriptor.{closed, opened_for}
use Rattle.nr_rev.specs.Kind.{kind_of}
use Rattle.nr_rev.specs.Refusing.{refused_if, refused_unless}
use Rattle.nr_rev.specs.Run.{Recording, world_at}
use Rattle.nr_rev.specs.Step.{idle, new_row, outcome, pollclose, pollevent, pollopen, socket_of, taken}
use Rattle.nr_rev.specs.World.{World, is_waited, with_row}
use Rattle.nr_rev.proofs.ListUpdateLemmas.{slice_get-push_cases, slice_get-set_cases}
use Rattle.nr_laws.proofs.AspectLemmas.{ComesTo, ComesTo-ok, ComesTo-ends, ComesTo-any, ComesTo-bind, ComesTo-then}
use Rattle.nr_laws.proofs.AspectDescriptorStepLemmas.{ComesTo-open_row_of}
use Rattle.nr_laws.proofs.AspectStepLemmas.{step_keeps_cell}
use Rattle.nr_laws.proofs.LookupLemmas.{Ends-row_of}
use Rattle.nr_suspects.specs.declared.account.Account.{Account}
use Rattle.nr_suspects.specs.declared.notice.Notice.{Notice}
use Rattle.nr_suspects.specs.declared.notice.Notice.TheVariants as notices
use Rattle.nr_suspects.specs.Debts.{account, account_after, newly_opened, noted}
use Rattle.nr_suspects.specs.Notices.{checking, is_taken, notice, notice_at, running}
use Rattle.nr_suspects.proofs.NoticeLemmas.{Moves, Made, Stays, Noticed, OfOpening, OfEvent, OfSetting, OfTimer, OfVisit, Quiet, checking_is_no_event, is_quiet, moves, noticed_of}

-- ---- steps

-- descriptor d exists
abbrev pub IsMade : World → ℕ → Type 0
IsMade w d = (row : DescriptorRow) × (slice_get w.descriptors d ≡ Some row)

-- a descriptor that exists after a step either existed before it or was opened by it
abbrev WasMade : World → Step → ℕ → Answer × World → Type 0
WasMade w step d left = IsMade left.1 d → IsMade w d ⊎ ((g s : ℕ) × (step ≡ Step.PollOpen g s) × (left.0 ≡ answers.Number d))

-- changing a row makes no new descriptor
row_was_made : (w : World) (e d : ℕ) (row new : DescriptorRow) → slice_get w.descriptors e ≡ Some row → IsMade (with_row e new w) d → IsMade w d
row_was_made w e d row new at made =
    elim (slice_get-set_cases w.descriptors e row new d at) [
      | inl here ↦ (row, ap (slice_get w.descriptors) here.0 ∙ at)
      | inr other ↦ (made.0, sym other.1 ∙ made.1)
    ]

taken_was_made : (w : World) (free : List ℕ) (d : ℕ) → ComesTo (λ (place : ℕ × World). IsMade place.1 d → IsMade w d ⊎ (place.0 ≡ d)) (taken free w)
taken_was_made w (e ∷ free) d = ComesTo-ok (λ made. inl made)
taken_was_made w [] d =
    ComesTo-then (ComesTo-any (refused_unless (nat_lt (length w.descriptors) w.limits.descriptors) _)) λ _.
    ComesTo-ok
    (λ made. elim (slice_get-push_cases w.descriptors new_row made.0 d made.1) [
      | inl before ↦ inl (made.0, before)
      | inr last ↦ inr (sym last.0)
    ])

pollopen_made : (w : World) (g s d : ℕ) → ComesTo (WasMade w (Step.PollOpen g s) d) (pollopen g s w)
pollopen_made w g s d =
    ComesTo-then (ComesTo-any (idle g w)) λ _.
    ComesTo-bind (ComesTo-any (socket_of s w)) λ _ _.
    ComesTo-bind (taken_was_made w w.free d) λ place was.
    ComesTo-bind (ComesTo-ends (Ends-row_of place.0 place.1)) λ row at.
    ComesTo-bind (ComesTo-any (opened_for s row.descriptor)) λ descriptor _.
    ComesTo-ok
    (λ made. elim (was (row_was_made place.1 place.0 d row (record row { descriptor = descriptor }) at made)) [
      | inl before ↦ inl before
      | inr here ↦ inr (g, s, refl, ap answers.Number here)
    ])

pollclose_made : (w : World) (g e d : ℕ) → ComesTo (WasMade w (Step.PollClose g e) d) (pollclose g e w)
pollclose_made w g e d =
    ComesTo-then (ComesTo-any (idle g w)) λ _.
    ComesTo-bind (ComesTo-open_row_of e w) λ row at.
    ComesTo-then (ComesTo-any (refused_unless row.descriptor.closing _)) λ _.
    ComesTo-then (ComesTo-any (refused_if (is_waited e Read w.goroutines || is_waited e Write w.goroutines) _)) λ _.
    ComesTo-bind (ComesTo-any (closed row.descriptor)) λ descriptor _.
    ComesTo-ok (λ made. inl (row_was_made w e d row (record row { descriptor = descriptor }) at made))

-- a descriptor whose cell is unchanged existed before
same_is_made : (a b : Option DescriptorRow) → value_or_absent (λ (row : DescriptorRow). CellValue.Number row.descriptor.fdseq) a ≡ value_or_absent (λ (row : DescriptorRow). CellValue.Number row.descriptor.fdseq) b
    → (row : DescriptorRow) × (a ≡ Some row) → (row : DescriptorRow) × (b ≡ Some row)
same_is_made a (Some row) e made = (row, refl)
same_is_made None None e made = absurd (none-some _ made.1)
same_is_made (Some row) None e made = absurd (shows e)
  where
    shows : CellValue.Number row.descriptor.fdseq ≡ CellValue.Absent → ⊥
    shows is = cc

unchanged : (w : World) (step : Step) (d : ℕ) → can_change (kind_of step) (Cell.DescriptorSequence d) ≡ false → ComesTo (WasMade w step d) (outcome w step)
unchanged w step d cannot = record {
  value = λ left is made. inl (same_is_made (slice_get left.1.descriptors d) (slice_get w.descriptors d) (step_keeps_cell w step left.0 left.1 (Cell.DescriptorSequence d) is cannot) made);
}

-- the law for every kind of step
was_made : (w : World) (step : Step) (d : ℕ) → ComesTo (WasMade w step d) (outcome w step)
was_made w Step.Spawn d = unchanged w Step.Spawn d refl
was_made w (Step.Exit g) d = unchanged w (Step.Exit g) d refl
was_made w (Step.SockOpen rc wc) d = unchanged w (Step.SockOpen rc wc) d refl
was_made w (Step.Arrive k bytes) d = unchanged w (Step.Arrive k bytes) d refl
was_made w (Step.PeerClose k) d = unchanged w (Step.PeerClose k) d refl
was_made w (Step.SysRead g k n) d = unchanged w (Step.SysRead g k n) d refl
was_made w (Step.SysWrite g k bytes) d = unchanged w (Step.SysWrite g k bytes) d refl
was_made w (Step.Drain k n) d = unchanged w (Step.Drain k n) d refl
was_made w (Step.Incref g k) d = unchanged w (Step.Incref g k) d refl
was_made w (Step.IncrefClose g k) d = unchanged w (Step.IncrefClose g k) d refl
was_made w (Step.Decref g k) d = unchanged w (Step.Decref g k) d refl
was_made w (Step.RwLock g k side) d = unchanged w (Step.RwLock g k side) d refl
was_made w (Step.RwUnlock g k side) d = unchanged w (Step.RwUnlock g k side) d refl
was_made w (Step.Acquire g) d = unchanged w (Step.Acquire g) d refl
was_made w (Step.Release g) d = unchanged w (Step.Release g) d refl
was_made w (Step.PollOpen g k) d = pollopen_made w g k d
was_made w (Step.PollClose g e) d = pollclose_made w g e d
was_made w (Step.PollReset g e side) d = unchanged w (Step.PollReset g e side) d refl
was_made w (Step.WaitBegin g e side) d = unchanged w (Step.WaitBegin g e side) d refl
was_made w (Step.BlockArm g) d = unchanged w (Step.BlockArm g) d refl
was_made w (Step.BlockCheck g) d = unchanged w (Step.BlockCheck g) d refl
was_made w (Step.ParkCommit g) d = unchanged w (Step.ParkCommit g) d refl
was_made w (Step.BlockSwap g) d = unchanged w (Step.BlockSwap g) d refl
was_made w (Step.WaitCheck g) d = unchanged w (Step.WaitCheck g) d refl
was_made w (Step.SetDeadline g e mode x) d = unchanged w (Step.SetDeadline g e mode x) d refl
was_made w (Step.Evict g e) d = unchanged w (Step.Evict g e) d refl
was_made w (Step.PollEvent e tag mode error) d = unchanged w (Step.PollEvent e tag mode error) d refl
was_made w (Step.Tick x) d = unchanged w (Step.Tick x) d refl
was_made w Step.Pop d = unchanged w Step.Pop d refl
was_made w (Step.Fire i) d = unchanged w (Step.Fire i) d refl
was_made w (Step.CloseWrite g k) d = unchanged w (Step.CloseWrite g k) d refl

-- ---- accounts

-- the account exists
abbrev pub IsKept : Option Account → Type 0
IsKept a = (x : Account) × (a ≡ Some x)

-- a descriptor that has an account still has one after any notice
pub kept_on : (n d : ℕ) (x : Notice) (a : Option Account) → IsKept a → IsKept (account_after n d x a)
kept_on n d (notices.Opened e s) a kept = by_opening (d == e)
  where
    by_opening : (b : Bool) → IsKept (if b then Some (newly_opened s) else a)
    by_opening true = (newly_opened s, refl)
    by_opening false = kept
kept_on n d (notices.Event e mode) a kept = (noted n d (notices.Event e mode) kept.0, ap (option_map (noted n d (notices.Event e mode))) kept.1)
kept_on n d (notices.Tried s side) a kept = (noted n d (notices.Tried s side) kept.0, ap (option_map (noted n d (notices.Tried s side))) kept.1)
kept_on n d (notices.TookReadiness v) a kept = (noted n d (notices.TookReadiness v) kept.0, ap (option_map (noted n d (notices.TookReadiness v))) kept.1)
kept_on n d (notices.Checked v code) a kept = (noted n d (notices.Checked v code) kept.0, ap (option_map (noted n d (notices.Checked v code))) kept.1)
kept_on n d (notices.SetDeadline g e mode) a kept = (noted n d (notices.SetDeadline g e mode) kept.0, ap (option_map (noted n d (notices.SetDeadline g e mode))) kept.1)
kept_on n d (notices.PassedDeadline e passings) a kept = (noted n d (notices.PassedDeadline e passings) kept.0, ap (option_map (noted n d (notices.PassedDeadline e passings))) kept.1)
kept_on n d (notices.TookReference g s) a kept = (kept.0, ap (option_map (noted n d (notices.TookReference g s))) kept.1)
kept_on n d (notices.GaveReference g s) a kept = (kept.0, ap (option_map (noted n d (notices.GaveReference g s))) kept.1)
kept_on n d (notices.SocketOpened sock room) a kept = (kept.0, ap (option_map (noted n d (notices.SocketOpened sock room))) kept.1)
kept_on n d (notices.PeerClosed sock) a kept = (kept.0, ap (option_map (noted n d (notices.PeerClosed sock))) kept.1)
kept_on n d notices.Nothing a kept = (kept.0, ap (option_map (noted n d notices.Nothing)) kept.1)

-- a descriptor that was just opened has an account
pub opened_is_kept : (n d s : ℕ) (a : Option Account) → IsKept (account_after n d (notices.Opened d s) a)
opened_is_kept n d s a = by (d == d) refl
  where
    by : (b : Bool) → (d == d) ≡ b → IsKept (if b then Some (newly_opened s) else a)
    by true e = (newly_opened s, refl)
    by false e = absurd (eqb-false d d e refl)

-- if a descriptor exists after a step, it already existed before the step, or the step's notice
-- says that it was opened
opens : (w : World) (step : Step) (answer : Answer) (next : World) (d : ℕ) → outcome w step ≡ Ok (answer, next) → IsMade next d → IsMade w d ⊎ ((s : ℕ) × (notice w step answer next ≡ notices.Opened d s))
opens w step answer next d is made = elim ((was_made w step d).value (answer, next) is made) [
  | inl before ↦ inl before
  | inr opening ↦
      inr (opening.1, ap (λ x. notice w x answer next) opening.2 ∙ ap (λ a. notice w (Step.PollOpen opening.0 opening.1) a next) opening.3)
]

-- each descriptor that exists has an account
pub made_is_kept : (r : Recording) (d n : ℕ) → IsMade (world_at r n) d → IsKept (account r d n)
made_is_kept r d zero made = absurd (none-some _ made.1)
made_is_kept r d (suc n) made = go (moves r n) (made_is_kept r d n)
  where
    go : Moves r n → (IsMade (world_at r n) d → IsKept (account r d n)) → IsKept (account r d (suc n))
    go (Stays same none) before = kept_on (suc n) d (notice_at r n) (account r d n) (before (subst (λ w. IsMade w d) same made))
    go (Made step answer next read is leads noticed) before =
        elim (opens (world_at r n) step answer next d is (subst (λ w. IsMade w d) leads made)) [
          | inl there ↦ kept_on (suc n) d (notice_at r n) (account r d n) (before there)
          | inr opening ↦
              subst (λ x. IsKept (account_after (suc n) d x (account r d n))) (sym (noticed ∙ opening.1)) (opened_is_kept (suc n) d opening.0 (account r d n))
        ]

-- ---- events

-- an event that was answered `Done` names a descriptor that exists
event_made : (w : World) (d tag : ℕ) (mode : Mode) (error : Bool) → ComesTo (λ left. IsMade w d) (pollevent d tag mode error w)
event_made w d tag mode error = ComesTo-bind (ComesTo-ends (Ends-row_of d w)) λ row at. record { value = λ left is. (row, at) }

same_event : (d e : ℕ) (mode other : Mode) → notices.Event d mode ≡ notices.Event e other → (d ≡ e) × (mode ≡ other)
same_event d e mode other is = (cc, cc)

-- A step that is an event. The step was answered `Done`, and the world after it is the world at the
-- next position.
pub record EventStep (r : Recording) (d n : ℕ) (mode : Mode) : Type 0 where
  pub tag : ℕ
  pub error : Bool
  pub next : World
  pub is : outcome (world_at r n) (Step.PollEvent d tag mode error) ≡ Ok (answers.Done, next)
  pub leads : world_at r (suc n) ≡ next

pub event_step : (r : Recording) (d n : ℕ) (mode : Mode) → notice_at r n ≡ notices.Event d mode → EventStep r d n mode
event_step r d n mode event = go (moves r n)
  where
    w : World
    w = world_at r n

    not_quiet : {A : Type 0} (x : Notice) → x ≡ notices.Event d mode → is_quiet x ≡ true → A
    not_quiet x is quiet = absurd (true≢false (sym quiet ∙ ap is_quiet is))

    by : (step : Step) (answer : Answer) (next : World) → outcome w step ≡ Ok (answer, next) → world_at r (suc n) ≡ next → notice w step answer next ≡ notices.Event d mode → Noticed w step answer next → EventStep r d n mode
    by step answer next is leads x (OfOpening g s e a b same) = absurd (differ (sym same ∙ x))
      where
        differ : notices.Opened e s ≡ notices.Event d mode → ⊥
        differ f = cc
    by step answer next is leads x (OfEvent e tag other error a b same) =
        let both = same_event e d other mode (sym same ∙ x) in
        record {
          tag = tag;
          error = error;
          next = next;
          is = ap (λ k. outcome w (Step.PollEvent k tag mode error)) (sym both.0) ∙ ap (λ m. outcome w (Step.PollEvent e tag m error)) (sym both.1) ∙ ap (outcome w) (sym a) ∙ is
              ∙ ap (λ y. Ok (y, next)) b;
          leads = leads;
        }
    by step answer next is leads x (OfSetting g e other t a same) = absurd (differ (sym same ∙ x))
      where
        differ : notices.SetDeadline g e other ≡ notices.Event d mode → ⊥
        differ f = cc
    by step answer next is leads x (OfTimer i e a b same) = absurd (differ (sym same ∙ x))
      where
        differ : running w next (Some e) notices.Nothing ≡ notices.Event d mode → ⊥
        differ f = cc
    by step answer next is leads x (OfVisit v a same) = by_taken (is_taken w next v) (sym same ∙ x)
      where
        by_taken : (b : Bool) → (if b then notices.TookReadiness v else checking v answer) ≡ notices.Event d mode → EventStep r d n mode
        by_taken true f = absurd (differ f)
          where
            differ : notices.TookReadiness v ≡ notices.Event d mode → ⊥
            differ g = cc
        by_taken false f = absurd (checking_is_no_event v answer d mode f)
    by step answer next is leads x (Quiet quiet) = not_quiet (notice w step answer next) x quiet

    go : Moves r n → EventStep r d n mode
    go (Stays same none) = not_quiet notices.Nothing (sym none ∙ event) refl
    go (Made step answer next read is leads noticed) = by step answer next is leads (sym noticed ∙ event) (noticed_of w answer next step)

-- an event's descriptor has an account
pub event_is_kept : (r : Recording) (d n : ℕ) (mode : Mode) → notice_at r n ≡ notices.Event d mode → IsKept (account r d n)
event_is_kept r d n mode event =
    let step = event_step r d n mode event in
    made_is_kept r d n ((event_made (world_at r n) d step.tag mode step.error).value (answers.Done, step.next) step.is)
