-- The effect of a step, from its notice.
use Rattle.std.proofs.Common.{◌≡◌, ℕ, zero, suc, Bool, true, false, List, [], ◌∷◌, take, ◌⊎◌, inl, inr, Option, Some, None, Ok, Err, refl, sym, ap, ◌∙◌, arith}
use Rattle.std.specs.Prelude.{if◌then◌else◌, slice_get, ℤ}
use Rattle.std.specs.Option.{option_map_or}
use Rattle.nr_rev.specs.contracts.answer.AnswerPartialEq.TheImpl as answer_eq
use Rattle.nr_rev.specs.declared.answer.Answer.{Answer}
use Rattle.nr_rev.specs.declared.answer.Answer.TheVariants as answers
use Rattle.nr_rev.specs.declared.sides.Mode.{Mode}
use Rattle.nr_rev.specs.declared.step.Step.{Step}
use Rattle.nr_rev.specs.Run.{Recording, next_of, world_after, world_at}
use Rattle.nr_rev.specs.Step.{Outcome, outcome}
use Rattle.nr_rev.specs.World.{World, empty_world}
use Rattle.nr_suspects.specs.declared.notice.Notice.{Notice}
use Rattle.nr_suspects.specs.declared.notice.Notice.TheVariants as notices
use Rattle.nr_suspects.specs.declared.notice.Visit.{Visit}
use Rattle.nr_suspects.specs.Notices.{checking, fired_descriptor, if_answered, notice, notice_at, notice_of, notice_of_opening, notice_of_socket, running, visit, visiting}

-- ---- positions

-- the world after the next step, if there is one
abbrev made_by : Option Step → World → World
made_by None w = w
made_by (Some step) w = next_of w (outcome w step)

after_next : (steps : List Step) (w : World) (n : ℕ) → world_after w (take (suc n) steps) ≡ made_by (slice_get steps n) (world_after w (take n steps))
after_next [] w zero = refl
after_next [] w (suc n) = refl
after_next (step ∷ steps) w zero = refl
after_next (step ∷ steps) w (suc n) = after_next steps (next_of w (outcome w step)) n

-- Either the step after position n turns the world at n into the world at n + 1 and gives the
-- notice at n, or the two worlds are equal and the notice is `Nothing`.
pub data Moves (r : Recording) (n : ℕ) : Type 0 where
  Made : (step : Step) (answer : Answer) (next : World) → slice_get r.steps n ≡ Some step → outcome (world_at r n) step ≡ Ok (answer, next) → world_at r (suc n) ≡ next → notice_at r n ≡ notice (world_at r n) step answer next → Moves r n
  Stays : world_at r (suc n) ≡ world_at r n → notice_at r n ≡ notices.Nothing → Moves r n

pub moves : (r : Recording) (n : ℕ) → Moves r n
moves r n = by_step (slice_get r.steps n) refl
  where
    w : World
    w = world_at r n

    by_outcome : (step : Step) (o : Outcome) → slice_get r.steps n ≡ Some step → outcome w step ≡ o → Moves r n
    by_outcome step (Ok (answer, next)) read is =
        Made step answer next read is (after_next r.steps (empty_world r.limits) n ∙ ap (λ x. made_by x w) read ∙ ap (next_of w) is)
        (ap (λ x. option_map_or (λ s. notice_of w s (outcome w s)) x notices.Nothing) read ∙ ap (notice_of w step) is)
    by_outcome step (Err reason) read is =
        Stays (after_next r.steps (empty_world r.limits) n ∙ ap (λ x. made_by x w) read ∙ ap (next_of w) is)
        (ap (λ x. option_map_or (λ s. notice_of w s (outcome w s)) x notices.Nothing) read ∙ ap (notice_of w step) is)

    by_step : (o : Option Step) → slice_get r.steps n ≡ o → Moves r n
    by_step None read =
        Stays (after_next r.steps (empty_world r.limits) n ∙ ap (λ x. made_by x w) read) (ap (λ x. option_map_or (λ s. notice_of w s (outcome w s)) x notices.Nothing) read)
    by_step (Some step) read = by_outcome step (outcome w step) read refl

-- ---- notices by answer

pub same_answer : (a b : Answer) → (answer_eq.ghosts).eq a b ≡ true → a ≡ b
same_answer a b e = grind (arith, e)

answered_cases : (wanted answer : Answer) (n : Notice) → ((answer ≡ wanted) × (if_answered wanted answer n ≡ n)) ⊎ (if_answered wanted answer n ≡ notices.Nothing)
answered_cases wanted answer n = go ((answer_eq.ghosts).eq answer wanted) refl
  where
    go : (b : Bool) → (answer_eq.ghosts).eq answer wanted ≡ b → ((answer ≡ wanted) × ((if b then n else notices.Nothing) ≡ n)) ⊎ ((if b then n else notices.Nothing) ≡ notices.Nothing)
    go true same = inl (same_answer answer wanted same, refl)
    go false other = inr refl

pub opening_cases : (s : ℕ) (answer : Answer) → ((d : ℕ) × (answer ≡ answers.Number d) × (notice_of_opening s answer ≡ notices.Opened d s)) ⊎ (notice_of_opening s answer ≡ notices.Nothing)
opening_cases s (answers.Number d) = inl (d, refl, refl)
opening_cases s (answers.Code x) = inr refl
opening_cases s (answers.Got x) = inr refl
opening_cases s (answers.Put x) = inr refl
opening_cases s answers.Done = inr refl
opening_cases s answers.Yes = inr refl
opening_cases s answers.No = inr refl
opening_cases s answers.Wait = inr refl
opening_cases s answers.Last = inr refl
opening_cases s answers.NotLast = inr refl
opening_cases s answers.Eof = inr refl
opening_cases s answers.Again = inr refl
opening_cases s answers.Stale = inr refl
opening_cases s answers.Pipe = inr refl

pub socket_cases : (capacity : ℕ) (answer : Answer) → ((s : ℕ) × (answer ≡ answers.Number s) × (notice_of_socket capacity answer ≡ notices.SocketOpened s capacity)) ⊎ (notice_of_socket capacity answer ≡ notices.Nothing)
socket_cases capacity (answers.Number s) = inl (s, refl, refl)
socket_cases capacity (answers.Code x) = inr refl
socket_cases capacity (answers.Got x) = inr refl
socket_cases capacity (answers.Put x) = inr refl
socket_cases capacity answers.Done = inr refl
socket_cases capacity answers.Yes = inr refl
socket_cases capacity answers.No = inr refl
socket_cases capacity answers.Wait = inr refl
socket_cases capacity answers.Last = inr refl
socket_cases capacity answers.NotLast = inr refl
socket_cases capacity answers.Eof = inr refl
socket_cases capacity answers.Again = inr refl
socket_cases capacity answers.Stale = inr refl
socket_cases capacity answers.Pipe = inr refl

-- ---- notices by step

-- true if the notice is a read or write that was answered `Again`, a reference that was taken or
-- returned, a socket that was opened, a peer's close, or `Nothing`
abbrev pub is_quiet : Notice → Bool
is_quiet (notices.Tried s side) = true
is_quiet (notices.TookReference g s) = true
is_quiet (notices.GaveReference g s) = true
is_quiet (notices.SocketOpened s capacity) = true
is_quiet (notices.PeerClosed s) = true
is_quiet notices.Nothing = true
is_quiet x = false

-- The notice of a step that applied.
pub data Noticed (w : World) (step : Step) (answer : Answer) (next : World) : Type 0 where
  OfOpening : (g s d : ℕ) → step ≡ Step.PollOpen g s → answer ≡ answers.Number d → notice w step answer next ≡ notices.Opened d s → Noticed w step answer next
  OfEvent : (d tag : ℕ) (mode : Mode) (error : Bool) → step ≡ Step.PollEvent d tag mode error → answer ≡ answers.Done → notice w step answer next ≡ notices.Event d mode → Noticed w step answer next
  OfSetting : (g d : ℕ) (mode : Mode) (t : ℤ) → step ≡ Step.SetDeadline g d mode t → notice w step answer next ≡ notices.SetDeadline g d mode → Noticed w step answer next
  OfTimer : (i d : ℕ) → step ≡ Step.Fire i → fired_descriptor w step ≡ Some d → notice w step answer next ≡ running w next (Some d) notices.Nothing → Noticed w step answer next
  OfVisit : (v : Visit) → visit w step ≡ Some v → notice w step answer next ≡ visiting w next answer (Some v) → Noticed w step answer next
  Quiet : is_quiet (notice w step answer next) ≡ true → Noticed w step answer next

module _ (w : World) (answer : Answer) (next : World) where
  by_answer : (step : Step) (wanted : Answer) (x : Notice) → notice w step answer next ≡ if_answered wanted answer x → is_quiet x ≡ true → Noticed w step answer next
  by_answer step wanted x is quiet = elim (answered_cases wanted answer x) [
    | inl same ↦ Quiet (ap is_quiet (is ∙ same.1) ∙ quiet)
    | inr other ↦ Quiet (ap is_quiet (is ∙ other))
  ]

  by_event : (d tag : ℕ) (mode : Mode) (error : Bool) → Noticed w (Step.PollEvent d tag mode error) answer next
  by_event d tag mode error = elim (answered_cases answers.Done answer (notices.Event d mode)) [
    | inl same ↦ OfEvent d tag mode error refl same.0 same.1
    | inr other ↦ Quiet (ap is_quiet other)
  ]

  by_opening : (g s : ℕ) → Noticed w (Step.PollOpen g s) answer next
  by_opening g s = elim (opening_cases s answer) [
    | inl opened ↦ OfOpening g s opened.0 refl opened.1 opened.2
    | inr other ↦ Quiet (ap is_quiet other)
  ]

  by_socket : (rc wc : ℕ) → Noticed w (Step.SockOpen rc wc) answer next
  by_socket rc wc = elim (socket_cases wc answer) [
    | inl opened ↦ Quiet (ap is_quiet opened.2)
    | inr other ↦ Quiet (ap is_quiet other)
  ]

  by_timer : (i : ℕ) (o : Option ℕ) → fired_descriptor w (Step.Fire i) ≡ o → Noticed w (Step.Fire i) answer next
  by_timer i None is = Quiet (ap is_quiet (ap (λ x. running w next x notices.Nothing) is))
  by_timer i (Some d) is = OfTimer i d refl is (ap (λ x. running w next x notices.Nothing) is)

  by_visit : (step : Step) (o : Option Visit) → visit w step ≡ o → notice w step answer next ≡ visiting w next answer (visit w step) → Noticed w step answer next
  by_visit step None is same = Quiet (ap is_quiet (same ∙ ap (visiting w next answer) is))
  by_visit step (Some v) is same = OfVisit v is (same ∙ ap (visiting w next answer) is)

  pub noticed_of : (step : Step) → Noticed w step answer next
  noticed_of Step.Spawn = Quiet refl
  noticed_of (Step.Exit g) = Quiet refl
  noticed_of (Step.SockOpen rc wc) = by_socket rc wc
  noticed_of (Step.Arrive s bytes) = Quiet refl
  noticed_of (Step.PeerClose s) = Quiet refl
  noticed_of (Step.SysRead g s n) = by_answer (Step.SysRead g s n) answers.Again _ refl refl
  noticed_of (Step.SysWrite g s bytes) = by_answer (Step.SysWrite g s bytes) answers.Again _ refl refl
  noticed_of (Step.Drain s n) = Quiet refl
  noticed_of (Step.Incref g s) = by_answer (Step.Incref g s) answers.Yes _ refl refl
  noticed_of (Step.IncrefClose g s) = by_answer (Step.IncrefClose g s) answers.Yes _ refl refl
  noticed_of (Step.Decref g s) = Quiet refl
  noticed_of (Step.RwLock g s side) = by_answer (Step.RwLock g s side) answers.Yes _ refl refl
  noticed_of (Step.RwUnlock g s side) = Quiet refl
  noticed_of (Step.Acquire g) = Quiet refl
  noticed_of (Step.Release g) = Quiet refl
  noticed_of (Step.PollOpen g s) = by_opening g s
  noticed_of (Step.PollClose g d) = Quiet refl
  noticed_of (Step.PollReset g d side) = by_visit (Step.PollReset g d side) (visit w (Step.PollReset g d side)) refl refl
  noticed_of (Step.WaitBegin g d side) = by_visit (Step.WaitBegin g d side) (visit w (Step.WaitBegin g d side)) refl refl
  noticed_of (Step.BlockArm g) = by_visit (Step.BlockArm g) (visit w (Step.BlockArm g)) refl refl
  noticed_of (Step.BlockCheck g) = Quiet refl
  noticed_of (Step.ParkCommit g) = Quiet refl
  noticed_of (Step.BlockSwap g) = by_visit (Step.BlockSwap g) (visit w (Step.BlockSwap g)) refl refl
  noticed_of (Step.WaitCheck g) = by_visit (Step.WaitCheck g) (visit w (Step.WaitCheck g)) refl refl
  noticed_of (Step.SetDeadline g d mode t) = OfSetting g d mode t refl refl
  noticed_of (Step.Evict g d) = Quiet refl
  noticed_of (Step.PollEvent d tag mode error) = by_event d tag mode error
  noticed_of (Step.Tick t) = Quiet refl
  noticed_of Step.Pop = Quiet refl
  noticed_of (Step.Fire i) = by_timer i (fired_descriptor w (Step.Fire i)) refl
  noticed_of (Step.CloseWrite g s) = Quiet refl

-- ---- checks

-- the notice of a check has the check's code; any other answer has no notice
pub checking_cases : (v : Visit) (answer : Answer) → ((code : ℕ) × (answer ≡ answers.Code code) × (checking v answer ≡ notices.Checked v code)) ⊎ (checking v answer ≡ notices.Nothing)
checking_cases v (answers.Number x) = inr refl
checking_cases v (answers.Code x) = inl (x, refl, refl)
checking_cases v (answers.Got x) = inr refl
checking_cases v (answers.Put x) = inr refl
checking_cases v answers.Done = inr refl
checking_cases v answers.Yes = inr refl
checking_cases v answers.No = inr refl
checking_cases v answers.Wait = inr refl
checking_cases v answers.Last = inr refl
checking_cases v answers.NotLast = inr refl
checking_cases v answers.Eof = inr refl
checking_cases v answers.Again = inr refl
checking_cases v answers.Stale = inr refl
checking_cases v answers.Pipe = inr refl

-- a check isn't an event
pub checking_is_no_event : (v : Visit) (answer : Answer) (d : ℕ) (mode : Mode) → checking v answer ≡ notices.Event d mode → ⊥
checking_is_no_event v answer d mode is = elim (checking_cases v answer) [
  | inl code ↦ checked (sym code.2 ∙ is)
  | inr none ↦ nothing (sym none ∙ is)
]
  where
    checked : {code : ℕ} → notices.Checked v code ≡ notices.Event d mode → ⊥
    checked e = cc

    nothing : notices.Nothing ≡ notices.Event d mode → ⊥
    nothing e = cc
