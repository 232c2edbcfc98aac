-- The number of references to a socket that goroutines took, minus the number that they returned,
-- is the count in its lock.
use Rattle.std.proofs.Common.{◌≡◌, ℕ, zero, suc, ◌+◌, ◌<◌, ◌≤◌, Bool, true, false, ◌&&◌, inl, inr, List, Option, Some, None, Ok, refl, sym, ap, subst, ◌∙◌, arith, true≢false}
use Rattle.std.specs.Prelude.{All, ◌==◌, if◌then◌else◌, slice_get}
use Rattle.nr_rev.specs.declared.sides.Side.TheVariants.{Read, Write}
use Rattle.nr_rev.specs.declared.status.Status.{Status}
use Rattle.nr_rev.specs.declared.status.Status.TheVariants.{Idle}
use Rattle.std.proofs.lemmas.Bool.{eqb-false, eqb-true}
use Rattle.std.proofs.lemmas.Option.{get_or_from_slice_get, slice_get_within}
use Rattle.nr_rev.specs.contracts.answer.AnswerPartialEq.TheImpl as answer_eq
use Rattle.nr_rev.specs.declared.answer.Answer.{Answer}
use Rattle.nr_rev.specs.declared.answer.Answer.TheVariants as answers
use Rattle.nr_rev.specs.declared.sides.Side.{Side}
use Rattle.nr_rev.specs.declared.step.Step.{Step}
use Rattle.nr_rev.specs.Auxiliary.Step.{IsTimely}
use Rattle.nr_rev.specs.Run.{Recording, world_at}
use Rattle.nr_rev.specs.Step.{outcome, idle, incref, increfclose, decref, rwlock, rwunlock}
use Rattle.nr_rev.specs.WellFormed.{WellFormed}
use Rattle.nr_rev.specs.World.{World}
use Rattle.nr_laws.proofs.AspectLemmas.{ComesTo, ComesTo-bind, ComesTo-ends, ComesTo-then}
use Rattle.nr_laws.proofs.LookupLemmas.{Ends-idle, Ends-status_of}
use Rattle.nr_laws.proofs.PositionLemmas.{positions_fit}
use Rattle.nr_suspects.specs.declared.holding.Holding.{Holding}
use Rattle.nr_suspects.specs.declared.notice.Notice.{Notice}
use Rattle.nr_suspects.specs.declared.notice.Notice.TheVariants as notices
use Rattle.nr_suspects.specs.Holdings.{holding, holding_after}
use Rattle.nr_suspects.specs.declared.notice.Visit.{Visit}
use Rattle.nr_suspects.specs.Notices.{checking, fired_descriptor, if_answered, is_taken, notice, notice_at, notice_of_opening, notice_of_socket, running, visit, visiting}
use Rattle.nr_suspects.specs.References.{gives, references_at, taken_by, takes}
use Rattle.nr_suspects.proofs.LimitLemmas.{limits_at}
use Rattle.nr_suspects.proofs.NoticeLemmas.{Moves, Made, Stays, checking_cases, moves, opening_cases, socket_cases, same_answer}
use Rattle.nr_suspects.proofs.ReferenceLemmas.{counted}

-- the sum over the goroutines below k
abbrev pub total : (ℕ → ℕ) → ℕ → ℕ
total f zero = 0
total f (suc k) = total f k + f k

total_same : (f h : ℕ → ℕ) (k : ℕ) → ((g : ℕ) → f g ≡ h g) → total f k ≡ total h k
total_same f h zero same = refl
total_same f h (suc k) same = let rest = total_same f h k same in let last = same k in omega (arith, rest, last)

total_none : (k : ℕ) → total (λ g. 0) k ≡ 0
total_none zero = refl
total_none (suc k) = let rest = total_none k in omega (arith, rest)

total_both : (f h : ℕ → ℕ) (k : ℕ) → total (λ g. f g + h g) k ≡ total f k + total h k
total_both f h zero = refl
total_both f h (suc k) = let rest = total_both f h k in omega (arith, rest)

-- 1 if the place is h, otherwise 0
abbrev place_of : ℕ → ℕ → ℕ
place_of h g = if g == h then 1 else 0

not_yet : (h k : ℕ) → k ≤ h → total (place_of h) k ≡ 0
not_yet h zero below = refl
not_yet h (suc k) below = by (k == h) refl (not_yet h k (omega (arith, below)))
  where
    by : (b : Bool) → (k == h) ≡ b → total (place_of h) k ≡ 0 → total (place_of h) k + (if b then 1 else 0) ≡ 0
    by true same rest = let is = eqb-true k h same in absurd (omega (arith, is, below))
    by false apart rest = omega (arith, rest)

one_place : (h k : ℕ) → h < k → total (place_of h) k ≡ 1
one_place h zero below = absurd (omega (arith, below))
one_place h (suc k) below = by (k == h) refl (λ less. one_place h k less)
  where
    by : (b : Bool) → (k == h) ≡ b → (h < k → total (place_of h) k ≡ 1) → total (place_of h) k + (if b then 1 else 0) ≡ 1
    by true same rest = let is = eqb-true k h same in let none = not_yet h k (omega (arith, is)) in omega (arith, none)
    by false apart rest = let differ = eqb-false k h apart in let one = rest (omega (arith, below, differ)) in omega (arith, one)

abbrev count_if : Bool → ℕ
count_if b = if b then 1 else 0

-- 1 for goroutine h at socket s, otherwise 0
abbrev here_of : ℕ → ℕ → ℕ → ℕ → ℕ
here_of s h k g = if (g == h) && (s == k) then 1 else 0

one_here : (s h k G : ℕ) → h < G → ◌≡◌ {A = ℕ} (total (here_of s h k) G) (if s == k then 1 else 0)
one_here s h k G below = by (s == k) refl
  where
    by : (b : Bool) → (s == k) ≡ b → ◌≡◌ {A = ℕ} (total (here_of s h k) G) (if b then 1 else 0)
    by true same = total_same (here_of s h k) (place_of h) G (λ g. each g (g == h) refl) ∙ one_place h G below
      where
        each : (g : ℕ) (c : Bool) → (g == h) ≡ c → ◌≡◌ {A = ℕ} (if c && (s == k) then 1 else 0) (if c then 1 else 0)
        each g true is = ap (λ (x : Bool). count_if x) same
        each g false is = refl
    by false apart = total_same (here_of s h k) (λ g. 0) G (λ g. each g (g == h) refl) ∙ total_none G
      where
        each : (g : ℕ) (c : Bool) → (g == h) ≡ c → ◌≡◌ {A = ℕ} (if c && (s == k) then 1 else 0) 0
        each g true is = ap (λ (x : Bool). count_if x) apart
        each g false is = refl

-- ---- the references that a notice takes and returns

-- how many references to socket s goroutine g takes
abbrev took : ℕ → Notice → ℕ → ℕ
took s (notices.TookReference h k) g = here_of s h k g
took s x g = 0

abbrev gave : ℕ → Notice → ℕ → ℕ
gave s (notices.GaveReference h k) g = here_of s h k g
gave s x g = 0

more_if : (b : Bool) (n : ℕ) (h : Holding) → ((if b then record h { taken = h.taken + 1; since = n } else h).taken ≡ h.taken + (if b then 1 else 0)) × ((if b then record h { taken = h.taken + 1; since = n } else h).given ≡ h.given + 0)
more_if true n h = (refl, omega arith)
more_if false n h = (omega arith, omega arith)

given_if : (b : Bool) (h : Holding) → ((if b then record h { given = h.given + 1 } else h).taken ≡ h.taken + 0) × ((if b then record h { given = h.given + 1 } else h).given ≡ h.given + (if b then 1 else 0))
given_if true h = (omega arith, refl)
given_if false h = (omega arith, omega arith)

moved : (n g s : ℕ) (x : Notice) (h : Holding) → ((holding_after n g s x h).taken ≡ h.taken + took s x g) × ((holding_after n g s x h).given ≡ h.given + gave s x g)
moved n g s (notices.TookReference a k) h = more_if ((g == a) && (s == k)) n h
moved n g s (notices.GaveReference a k) h = given_if ((g == a) && (s == k)) h
moved n g s (notices.Opened d k) h = (omega arith, omega arith)
moved n g s (notices.Event d mode) h = (omega arith, omega arith)
moved n g s (notices.Tried k side) h = (omega arith, omega arith)
moved n g s (notices.TookReadiness v) h = (omega arith, omega arith)
moved n g s (notices.Checked v code) h = (omega arith, omega arith)
moved n g s (notices.SetDeadline a d mode) h = (omega arith, omega arith)
moved n g s (notices.PassedDeadline d passings) h = (omega arith, omega arith)
moved n g s (notices.SocketOpened sock room) h = (omega arith, omega arith)
moved n g s (notices.PeerClosed sock) h = (omega arith, omega arith)
moved n g s notices.Nothing h = (omega arith, omega arith)

-- true if a notice neither takes nor returns a reference
abbrev moves_none : Notice → Bool
moves_none (notices.TookReference h k) = false
moves_none (notices.GaveReference h k) = false
moves_none x = true

-- summed over the goroutines below G, a notice takes `takes` references to socket s and returns
-- `gives`
record Sums (s G : ℕ) (x : Notice) (takes gives : ℕ) : Type 0 where
  takes_is : total (took s x) G ≡ takes
  gives_is : total (gave s x) G ≡ gives

none_moved : (s G : ℕ) (x : Notice) → moves_none x ≡ true → Sums s G x 0 0
none_moved s G (notices.TookReference h k) e = absurd (true≢false (sym e))
none_moved s G (notices.GaveReference h k) e = absurd (true≢false (sym e))
none_moved s G (notices.Opened d k) e = record { takes_is = total_none G; gives_is = total_none G }
none_moved s G (notices.Event d mode) e = record { takes_is = total_none G; gives_is = total_none G }
none_moved s G (notices.Tried k side) e = record { takes_is = total_none G; gives_is = total_none G }
none_moved s G (notices.TookReadiness v) e = record { takes_is = total_none G; gives_is = total_none G }
none_moved s G (notices.Checked v code) e = record { takes_is = total_none G; gives_is = total_none G }
none_moved s G (notices.SetDeadline a d mode) e = record { takes_is = total_none G; gives_is = total_none G }
none_moved s G (notices.PassedDeadline d passings) e = record { takes_is = total_none G; gives_is = total_none G }
none_moved s G (notices.SocketOpened sock room) e = record { takes_is = total_none G; gives_is = total_none G }
none_moved s G (notices.PeerClosed sock) e = record { takes_is = total_none G; gives_is = total_none G }
none_moved s G notices.Nothing e = record { takes_is = total_none G; gives_is = total_none G }

-- ---- the references that a step takes and returns

taken_of_yes : (answer : Answer) → ((answer_eq.ghosts).eq answer answers.Yes ≡ false) → taken_by answer ≡ 0
taken_of_yes answers.Yes e = absurd (yes e)
  where
    yes : (answer_eq.ghosts).eq answers.Yes answers.Yes ≡ false → ⊥
    yes f = grind (arith, f)
taken_of_yes (answers.Number x) e = refl
taken_of_yes (answers.Code x) e = refl
taken_of_yes (answers.Got x) e = refl
taken_of_yes (answers.Put x) e = refl
taken_of_yes answers.Done e = refl
taken_of_yes answers.No e = refl
taken_of_yes answers.Wait e = refl
taken_of_yes answers.Last e = refl
taken_of_yes answers.NotLast e = refl
taken_of_yes answers.Eof e = refl
taken_of_yes answers.Again e = refl
taken_of_yes answers.Stale e = refl
taken_of_yes answers.Pipe e = refl

if_none : (b : Bool) (n : ℕ) → n ≡ 0 → 0 ≡ (if b then n else 0)
if_none true n e = sym e
if_none false n e = refl

if_same : (b : Bool) (n m : ℕ) → n ≡ m → (if b then n else 0) ≡ (if b then m else 0)
if_same true n m e = e
if_same false n m e = refl

taking : (s G h k : ℕ) (answer : Answer) → h < G → Sums s G (if_answered answers.Yes answer (notices.TookReference h k)) (if s == k then taken_by answer else 0) 0
taking s G h k answer below = by ((answer_eq.ghosts).eq answer answers.Yes) refl
  where
    by : (b : Bool) → (answer_eq.ghosts).eq answer answers.Yes ≡ b → Sums s G (if b then notices.TookReference h k else notices.Nothing) (if s == k then taken_by answer else 0) 0
    by true is = record {
      takes_is = one_here s h k G below ∙ if_same (s == k) 1 (taken_by answer) (sym (ap taken_by (same_answer answer answers.Yes is)));
      gives_is = total_none G;
    }
    by false isnt = record { takes_is = total_none G ∙ if_none (s == k) (taken_by answer) (taken_of_yes answer isnt); gives_is = total_none G }

giving : (s G h k : ℕ) → h < G → Sums s G (notices.GaveReference h k) 0 (if s == k then 1 else 0)
giving s G h k below = record { takes_is = total_none G; gives_is = one_here s h k G below }

-- ---- the notices of all kinds

answered : (wanted answer : Answer) (x : Notice) → moves_none x ≡ true → moves_none (if_answered wanted answer x) ≡ true
answered wanted answer x e = by ((answer_eq.ghosts).eq answer wanted)
  where
    by : (b : Bool) → moves_none (if b then x else notices.Nothing) ≡ true
    by true = e
    by false = refl

opened : (k : ℕ) (answer : Answer) → moves_none (notice_of_opening k answer) ≡ true
opened k answer = elim (opening_cases k answer) [
  | inl is ↦ ap moves_none is.2
  | inr none ↦ ap moves_none none
]

opened_socket : (capacity : ℕ) (answer : Answer) → moves_none (notice_of_socket capacity answer) ≡ true
opened_socket capacity answer = elim (socket_cases capacity answer) [
  | inl is ↦ ap moves_none is.2
  | inr none ↦ ap moves_none none
]

visited : (w next : World) (answer : Answer) (o : Option Visit) → moves_none (visiting w next answer o) ≡ true
visited w next answer None = refl
visited w next answer (Some v) = by (is_taken w next v)
  where
    by : (b : Bool) → moves_none (if b then notices.TookReadiness v else checking v answer) ≡ true
    by true = refl
    by false = elim (checking_cases v answer) [
      | inl code ↦ ap moves_none code.2
      | inr none ↦ ap moves_none none
    ]

ran : (w next : World) (o : Option ℕ) → moves_none (running w next o notices.Nothing) ≡ true
ran w next None = refl
ran w next (Some d) = refl

-- a goroutine that exists is below the limit
there_below : (w : World) (g : ℕ) (status : Status) → WellFormed w → slice_get w.goroutines g ≡ Some status → g < w.limits.goroutines
there_below w g status fits at =
    let within = slice_get_within w.goroutines g status at in
    let limited = fits.goroutines_limited in
    omega (arith, within, limited)

idle_below : (w : World) (g : ℕ) → WellFormed w → ComesTo (λ _. g < w.limits.goroutines) (idle g w)
idle_below w g fits = record { value = λ left is. there_below w g Idle fits ((Ends-idle g w).value left is) }

incref_below : (w : World) (g k : ℕ) → WellFormed w → ComesTo (λ left. g < w.limits.goroutines) (incref g k w)
incref_below w g k fits = ComesTo-then (idle_below w g fits) λ below. record { value = λ left is. below }

increfclose_below : (w : World) (g k : ℕ) → WellFormed w → ComesTo (λ left. g < w.limits.goroutines) (increfclose g k w)
increfclose_below w g k fits = ComesTo-then (idle_below w g fits) λ below. record { value = λ left is. below }

decref_below : (w : World) (g k : ℕ) → WellFormed w → ComesTo (λ left. g < w.limits.goroutines) (decref g k w)
decref_below w g k fits = ComesTo-then (idle_below w g fits) λ below. record { value = λ left is. below }

rwunlock_below : (w : World) (g k : ℕ) (side : Side) → WellFormed w → ComesTo (λ left. g < w.limits.goroutines) (rwunlock g k side w)
rwunlock_below w g k side fits = ComesTo-then (idle_below w g fits) λ below. record { value = λ left is. below }

rwlock_below : (w : World) (g k : ℕ) (side : Side) → WellFormed w → ComesTo (λ left. g < w.limits.goroutines) (rwlock g k side w)
rwlock_below w g k side fits = ComesTo-bind (ComesTo-ends (Ends-status_of g w)) λ status at. record { value = λ left is. there_below w g status fits at }

-- the notice of a step takes and returns as many references as the step does
step_sums : (w : World) (step : Step) (answer : Answer) (next : World) (s : ℕ) → WellFormed w → outcome w step ≡ Ok (answer, next) → Sums s w.limits.goroutines (notice w step answer next) (takes s step answer) (gives s step)
step_sums w Step.Spawn answer next s fits is = none_moved s w.limits.goroutines (notice w Step.Spawn answer next) refl
step_sums w (Step.Exit g) answer next s fits is = none_moved s w.limits.goroutines (notice w (Step.Exit g) answer next) refl
step_sums w (Step.SockOpen rc wc) answer next s fits is = none_moved s w.limits.goroutines (notice w (Step.SockOpen rc wc) answer next) (opened_socket wc answer)
step_sums w (Step.Arrive k bytes) answer next s fits is = none_moved s w.limits.goroutines (notice w (Step.Arrive k bytes) answer next) refl
step_sums w (Step.PeerClose k) answer next s fits is = none_moved s w.limits.goroutines (notice w (Step.PeerClose k) answer next) refl
step_sums w (Step.SysRead g k n) answer next s fits is = none_moved s w.limits.goroutines (notice w (Step.SysRead g k n) answer next) (answered answers.Again answer (notices.Tried k Read) refl)
step_sums w (Step.SysWrite g k bytes) answer next s fits is = none_moved s w.limits.goroutines (notice w (Step.SysWrite g k bytes) answer next) (answered answers.Again answer (notices.Tried k Write) refl)
step_sums w (Step.Drain k n) answer next s fits is = none_moved s w.limits.goroutines (notice w (Step.Drain k n) answer next) refl
step_sums w (Step.Incref g k) answer next s fits is = taking s w.limits.goroutines g k answer ((incref_below w g k fits).value (answer, next) is)
step_sums w (Step.IncrefClose g k) answer next s fits is = taking s w.limits.goroutines g k answer ((increfclose_below w g k fits).value (answer, next) is)
step_sums w (Step.Decref g k) answer next s fits is = giving s w.limits.goroutines g k ((decref_below w g k fits).value (answer, next) is)
step_sums w (Step.RwLock g k side) answer next s fits is = taking s w.limits.goroutines g k answer ((rwlock_below w g k side fits).value (answer, next) is)
step_sums w (Step.RwUnlock g k side) answer next s fits is = giving s w.limits.goroutines g k ((rwunlock_below w g k side fits).value (answer, next) is)
step_sums w (Step.Acquire g) answer next s fits is = none_moved s w.limits.goroutines (notice w (Step.Acquire g) answer next) refl
step_sums w (Step.Release g) answer next s fits is = none_moved s w.limits.goroutines (notice w (Step.Release g) answer next) refl
step_sums w (Step.PollOpen g k) answer next s fits is = none_moved s w.limits.goroutines (notice w (Step.PollOpen g k) answer next) (opened k answer)
step_sums w (Step.PollClose g e) answer next s fits is = none_moved s w.limits.goroutines (notice w (Step.PollClose g e) answer next) refl
step_sums w (Step.PollReset g e side) answer next s fits is = none_moved s w.limits.goroutines (notice w (Step.PollReset g e side) answer next) (visited w next answer (visit w (Step.PollReset g e side)))
step_sums w (Step.WaitBegin g e side) answer next s fits is = none_moved s w.limits.goroutines (notice w (Step.WaitBegin g e side) answer next) (visited w next answer (visit w (Step.WaitBegin g e side)))
step_sums w (Step.BlockArm g) answer next s fits is = none_moved s w.limits.goroutines (notice w (Step.BlockArm g) answer next) (visited w next answer (visit w (Step.BlockArm g)))
step_sums w (Step.BlockCheck g) answer next s fits is = none_moved s w.limits.goroutines (notice w (Step.BlockCheck g) answer next) refl
step_sums w (Step.ParkCommit g) answer next s fits is = none_moved s w.limits.goroutines (notice w (Step.ParkCommit g) answer next) refl
step_sums w (Step.BlockSwap g) answer next s fits is = none_moved s w.limits.goroutines (notice w (Step.BlockSwap g) answer next) (visited w next answer (visit w (Step.BlockSwap g)))
step_sums w (Step.WaitCheck g) answer next s fits is = none_moved s w.limits.goroutines (notice w (Step.WaitCheck g) answer next) (visited w next answer (visit w (Step.WaitCheck g)))
step_sums w (Step.SetDeadline g e mode x) answer next s fits is = none_moved s w.limits.goroutines (notice w (Step.SetDeadline g e mode x) answer next) refl
step_sums w (Step.Evict g e) answer next s fits is = none_moved s w.limits.goroutines (notice w (Step.Evict g e) answer next) refl
step_sums w (Step.PollEvent e tag mode error) answer next s fits is = none_moved s w.limits.goroutines (notice w (Step.PollEvent e tag mode error) answer next) (answered answers.Done answer (notices.Event e mode) refl)
step_sums w (Step.Tick x) answer next s fits is = none_moved s w.limits.goroutines (notice w (Step.Tick x) answer next) refl
step_sums w Step.Pop answer next s fits is = none_moved s w.limits.goroutines (notice w Step.Pop answer next) refl
step_sums w (Step.Fire i) answer next s fits is = none_moved s w.limits.goroutines (notice w (Step.Fire i) answer next) (ran w next (fired_descriptor w (Step.Fire i)))
step_sums w (Step.CloseWrite g k) answer next s fits is = none_moved s w.limits.goroutines (notice w (Step.CloseWrite g k) answer next) refl

-- ---- over a recording

timely_at : (steps : List Step) (n : ℕ) (step : Step) → All IsTimely steps → slice_get steps n ≡ Some step → IsTimely step
timely_at steps n step timely read = subst IsTimely (get_or_from_slice_get steps n step step read) (timely n step (slice_get_within steps n step read))

-- the number of references taken by all goroutines equals the number returned plus the count in the
-- lock
pub sums_at : (r : Recording) (n s : ℕ) → 0 < r.limits.goroutines → All IsTimely r.steps
    → references_at (world_at r n) s + total (λ g. (holding r g s n).given) r.limits.goroutines ≡ total (λ g. (holding r g s n).taken) r.limits.goroutines
sums_at r zero s room timely = let none = total_none r.limits.goroutines in omega (arith, none)
sums_at r (suc n) s room timely = go (moves r n) (sums_at r n s room timely)
  where
    w : World
    w = world_at r n

    G : ℕ
    G = r.limits.goroutines

    x : Notice
    x = notice_at r n

    taken_next : total (λ g. (holding r g s (suc n)).taken) G ≡ total (λ g. (holding r g s n).taken) G + total (took s x) G
    taken_next = total_same (λ g. (holding r g s (suc n)).taken) (λ g. (holding r g s n).taken + took s x g) G (λ g. (moved (suc n) g s x (holding r g s n)).0) ∙ total_both (λ g. (holding r g s n).taken) (took s x) G

    given_next : total (λ g. (holding r g s (suc n)).given) G ≡ total (λ g. (holding r g s n).given) G + total (gave s x) G
    given_next = total_same (λ g. (holding r g s (suc n)).given) (λ g. (holding r g s n).given + gave s x g) G (λ g. (moved (suc n) g s x (holding r g s n)).1) ∙ total_both (λ g. (holding r g s n).given) (gave s x) G

    go : Moves r n → references_at w s + total (λ g. (holding r g s n).given) G ≡ total (λ g. (holding r g s n).taken) G
        → references_at (world_at r (suc n)) s + total (λ g. (holding r g s (suc n)).given) G ≡ total (λ g. (holding r g s (suc n)).taken) G
    go (Stays same none) before =
        let now : references_at (world_at r (suc n)) s ≡ references_at w s = ap (λ v. references_at v s) same in
        let sums = none_moved s G x (ap moves_none none) in
        let takes_is = sums.takes_is in
        let gives_is = sums.gives_is in
        omega (arith, now, before, taken_next, given_next, takes_is, gives_is)
    go (Made step answer next read is leads noticed) before =
        let fits = positions_fit r n room timely in
        let now : references_at (world_at r (suc n)) s ≡ references_at next s = ap (λ v. references_at v s) leads in
        let counts = (counted w step s fits (timely_at r.steps n step timely read)).value (answer, next) is in
        let sums : Sums s G x (takes s step answer) (gives s step) = subst (λ k. Sums s k x (takes s step answer) (gives s step)) (ap (λ l. l.goroutines) (limits_at r n)) (subst (λ y. Sums s w.limits.goroutines y (takes s step answer) (gives s step)) (sym noticed) (step_sums w step answer next s fits is)) in
        let takes_is = sums.takes_is in
        let gives_is = sums.gives_is in
        omega (arith, now, before, counts, taken_next, given_next, takes_is, gives_is)
