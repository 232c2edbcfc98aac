-- A lock's reference count is the number of references taken minus the number returned.
use Rattle.std.proofs.Common.{◌≡◌, ℕ, Bool, true, false, ◌+◌, ◌-◌, ◌/◌, ◌%◌, ◌^◌, ◌≤◌, List, [], ◌∷◌, length, refl, sym, ap, subst, ◌∙◌, inl, inr, arith, Option, Some, None, Result, Ok, Err, eq-eqb}
use Rattle.std.specs.Prelude.{All, ◌==◌, ◌&&◌, ◌||◌, not, nat_lt, slice_get, if◌then◌else◌}
use Rattle.std.specs.Option.{option_map_or}
use Rattle.std.proofs.lemmas.Bool.{eqb-false, eqb-true}
use Rattle.std.proofs.lemmas.List.Elements.{All-head, All-tail}
use Rattle.nr_laws.proofs.BoolLemmas.{both_true}
use Rattle.nr_rev.specs.declared.answer.Answer.{Answer}
use Rattle.nr_rev.specs.declared.cell.Cell.{Cell}
use Rattle.nr_rev.specs.declared.cell_value.CellValue.TheVariants.{Number}
use Rattle.nr_rev.specs.declared.lock.Lock.{Lock}
use Rattle.nr_rev.specs.declared.lock.LockOutcome.{LockOutcome}
use Rattle.nr_rev.specs.declared.refusal.Refusal.{Refusal}
use Rattle.nr_rev.specs.declared.sides.Side.{Side}
use Rattle.nr_rev.specs.declared.status.Status.{Status}
use Rattle.nr_rev.specs.declared.status.Status.TheVariants.{Idle}
use Rattle.nr_rev.specs.declared.step.Step.{Step}
use Rattle.nr_rev.specs.Aspect.{can_change}
use Rattle.nr_rev.specs.Auxiliary.Step.{IsTimely}
use Rattle.nr_rev.specs.Cell.{value_or_absent}
use Rattle.nr_rev.specs.Kind.{kind_of}
use Rattle.nr_rev.specs.Lock
use Rattle.nr_rev.specs.Lock.{lock_number, raised_field}
use Rattle.nr_rev.specs.Refusing.{refused_unless}
use Rattle.nr_rev.specs.Run.{next_of, world_after}
use Rattle.nr_rev.specs.Sides.{of_side, with_side}
use Rattle.nr_rev.specs.Socket.{Socket, new_socket}
use Rattle.nr_rev.specs.Step.{Outcome, outcome, idle, status_of, sized, may_lock, locker, owing, incref, increfclose, decref, rwlock, rwunlock, sockopen}
use Rattle.nr_rev.specs.WellFormed.{LockFits, WellFormed}
use Rattle.nr_rev.specs.World.{World, with_socket, with_status}
use Rattle.nr_rev.proofs.BitLemmas.{bit_small}
use Rattle.nr_rev.specs.declared.sides.Side.TheVariants.{Read}
use Rattle.nr_rev.proofs.ListUpdateLemmas.{slice_get-push_unseen, slice_get-set_cases, slice_get-set_here}
use Rattle.nr_rev.proofs.OutcomeLemmas.{Ends-refused_if}
use Rattle.nr_laws.proofs.AspectLemmas.{ComesTo, ComesTo-ok, ComesTo-ends, ComesTo-any, ComesTo-bind, ComesTo-then, ComesTo-either}
use Rattle.nr_laws.proofs.AspectStepLemmas.{step_keeps_cell}
use Rattle.nr_laws.proofs.LookupLemmas.{Ends-socket_of}
use Rattle.nr_laws.proofs.StepKeepsLemmas.{step_keeps}
use Rattle.nr_suspects.specs.References.{references_at, taken_by, takes, gives, takes_in, gives_in, taken, given}

-- ---- the operations of a lock

-- the operation raises the reference count by the number of references taken, less the number
-- returned
abbrev LockCounts : ℕ → Lock → Result LockOutcome Refusal → Type 0
LockCounts give lock o = ComesTo (λ (left : LockOutcome). left.lock.references + give ≡ lock.references + taken_by left.answer) o

raised : (n : ℕ) → ComesTo (λ m. m ≡ n + 1) (raised_field n)
raised n = ComesTo-then (ComesTo-any (refused_unless (nat_lt n (2 ^ 20 - 1)) Refusal.FieldOverflow)) λ _. ComesTo-ok refl

incref_counts : (lock : Lock) → LockCounts 0 lock (Lock.incref lock)
incref_counts lock =
    ComesTo-either lock.closed (ComesTo-ok refl)
    (ComesTo-bind (raised lock.references) λ n is. ComesTo-ok (omega (arith, is)))

incref_close_counts : (lock : Lock) → LockCounts 0 lock (Lock.incref_close lock)
incref_close_counts lock =
    ComesTo-either lock.closed (ComesTo-ok refl)
    (ComesTo-bind (raised lock.references) λ n is. ComesTo-ok (omega (arith, is)))

rw_lock_counts : (side : Side) (lock : Lock) → LockCounts 0 lock (Lock.rw_lock side lock)
rw_lock_counts side lock =
    ComesTo-either lock.closed (ComesTo-ok refl)
    (ComesTo-either (of_side side lock.locked)
    (ComesTo-bind (ComesTo-any (raised_field (of_side side lock.waiters))) λ n _. ComesTo-ok refl)
    (ComesTo-bind (raised lock.references) λ n is. ComesTo-ok (omega (arith, is))))

-- returning a reference takes no reference, whatever the answer is
last_takes : (lock : Lock) → taken_by (Lock.last_of lock) ≡ 0
last_takes lock = by_last (lock.closed)
  where
    by_both : (b : Bool) → taken_by (if b then Answer.Last else Answer.NotLast) ≡ 0
    by_both true = refl
    by_both false = refl

    by_last : (b : Bool) → taken_by (Lock.last_of lock) ≡ 0
    by_last b = by_both _

some_there : (n : ℕ) → (n == 0) ≡ false → n - 1 + 1 ≡ n
some_there n e = let apart = eqb-false n 0 e in omega (arith, apart)

-- the answer `Last` means that no reference is left
last_is_none : (lock : Lock) → Lock.last_of lock ≡ Answer.Last → lock.references ≡ 0
last_is_none lock e = eqb-true lock.references 0 (both_true lock.closed (lock.references == 0) (is_last (lock.closed && (lock.references == 0)) e)).1
  where
    is_last : (b : Bool) → (if b then Answer.Last else Answer.NotLast) ≡ Answer.Last → b ≡ true
    is_last true e = refl
    is_last false e = cc

-- the lock has one reference fewer than before, and none if the answer is `Last`
record Gives (lock : Lock) (left : LockOutcome) : Type 0 where
  one : left.lock.references + 1 ≡ lock.references
  none_taken : taken_by left.answer ≡ 0
  last : left.answer ≡ Answer.Last → left.lock.references ≡ 0

abbrev LockGives : Lock → Result LockOutcome Refusal → Type 0
LockGives lock o = ComesTo (Gives lock) o

decref_gives : (lock : Lock) → LockGives lock (Lock.decref lock)
decref_gives lock =
    let left : Lock = record lock { references = lock.references - 1 } in
    ComesTo-then (ComesTo-ends (Ends-refused_if (lock.references == 0) Refusal.InconsistentLock refl)) λ some.
    ComesTo-ok (record { one = some_there lock.references some; none_taken = last_takes left; last = last_is_none left })

neither : (a b : Bool) → a || b ≡ false → b ≡ false
neither true b e = cc
neither false b e = e

rw_unlock_gives : (side : Side) (lock : Lock) → LockGives lock (Lock.rw_unlock side lock)
rw_unlock_gives side lock =
    let left : Lock = record lock { locked = with_side side false lock.locked; references = lock.references - 1; waiters = with_side side (of_side side lock.waiters - 1) lock.waiters } in
    ComesTo-then (ComesTo-ends (Ends-refused_if (not (of_side side lock.locked) || (lock.references == 0)) Refusal.InconsistentLock refl)) λ some.
    ComesTo-ok (record { one = some_there lock.references (neither (not (of_side side lock.locked)) (lock.references == 0) some); none_taken = last_takes left; last = last_is_none left })

-- ---- the references to a socket after its lock was changed

module _ (w : World) (g s k : ℕ) (socket : Socket) (lock : Lock) (status : Status) (at : slice_get w.sockets k ≡ Some socket) where
  abbrev left_world : World
  left_world = with_status g status (with_socket k (record socket { lock = lock }) w)

  here : (s == k) ≡ true → (references_at left_world s ≡ lock.references) × (references_at w s ≡ socket.lock.references)
  here e =
      let same : s ≡ k = eqb-true s k e in
      let now : references_at left_world k ≡ lock.references = ap (λ o. option_map_or (λ (x : Socket). x.lock.references) o 0) (slice_get-set_here w.sockets k socket (record socket { lock = lock }) at) in
      let was : references_at w k ≡ socket.lock.references = ap (λ o. option_map_or (λ (x : Socket). x.lock.references) o 0) at in
      subst (λ j. (references_at left_world j ≡ lock.references) × (references_at w j ≡ socket.lock.references)) (sym same) (now, was)

  elsewhere : (s == k) ≡ false → references_at left_world s ≡ references_at w s
  elsewhere e =
      elim (slice_get-set_cases w.sockets k socket (record socket { lock = lock }) s at) [
        | inl same ↦ absurd (eqb-false s k e same.0)
        | inr other ↦ ap (λ o. option_map_or (λ (x : Socket). x.lock.references) o 0) other.1
      ]

  takes_at : (take : ℕ) (b : Bool) → (s == k) ≡ b → lock.references + 0 ≡ socket.lock.references + take → references_at left_world s + 0 ≡ references_at w s + (if b then take else 0)
  takes_at take true e counts = let both = here e in omega (arith, both.0, both.1, counts)
  takes_at take false e counts = let same = elsewhere e in omega (arith, same)

  gives_at : (b : Bool) → (s == k) ≡ b → lock.references + 1 ≡ socket.lock.references → references_at left_world s + (if b then 1 else 0) ≡ references_at w s + 0
  gives_at true e counts = let both = here e in omega (arith, both.0, both.1, counts)
  gives_at false e counts = let same = elsewhere e in omega (arith, same)

-- ---- steps

-- a step raises the reference count of socket s by the number of references taken, less the number
-- returned
abbrev Counts : World → ℕ → Step → Outcome → Type 0
Counts w s step o = ComesTo (λ (left : Answer × World). references_at left.1 s + gives s step ≡ references_at w s + takes s step left.0) o

incref_step : (w : World) (g k s : ℕ) → Counts w s (Step.Incref g k) (incref g k w)
incref_step w g k s =
    ComesTo-then (ComesTo-any (idle g w)) λ _.
    ComesTo-bind (ComesTo-ends (Ends-socket_of k w)) λ socket there.
    ComesTo-bind (incref_counts socket.lock) λ left counts.
    ComesTo-ok (takes_at w g s k socket left.lock Idle there (taken_by left.answer) (s == k) refl counts)

increfclose_step : (w : World) (g k s : ℕ) → Counts w s (Step.IncrefClose g k) (increfclose g k w)
increfclose_step w g k s =
    ComesTo-then (ComesTo-any (idle g w)) λ _.
    ComesTo-bind (ComesTo-ends (Ends-socket_of k w)) λ socket there.
    ComesTo-bind (incref_close_counts socket.lock) λ left counts.
    ComesTo-ok (takes_at w g s k socket left.lock (owing k left.owed) there (taken_by left.answer) (s == k) refl counts)

rwlock_step : (w : World) (g k s : ℕ) (side : Side) → Counts w s (Step.RwLock g k side) (rwlock g k side w)
rwlock_step w g k s side =
    ComesTo-bind (ComesTo-any (status_of g w)) λ status _.
    ComesTo-then (ComesTo-any (refused_unless (may_lock k side status) _)) λ _.
    ComesTo-bind (ComesTo-ends (Ends-socket_of k w)) λ socket there.
    ComesTo-bind (rw_lock_counts side socket.lock) λ left counts.
    ComesTo-ok (takes_at w g s k socket left.lock (locker k side left.answer) there (taken_by left.answer) (s == k) refl counts)

decref_step : (w : World) (g k s : ℕ) → Counts w s (Step.Decref g k) (decref g k w)
decref_step w g k s =
    ComesTo-then (ComesTo-any (idle g w)) λ _.
    ComesTo-bind (ComesTo-ends (Ends-socket_of k w)) λ socket there.
    ComesTo-bind (decref_gives socket.lock) λ left given.
    ComesTo-ok (gives_at w g s k socket left.lock Idle there (s == k) refl given.one)

rwunlock_step : (w : World) (g k s : ℕ) (side : Side) → Counts w s (Step.RwUnlock g k side) (rwunlock g k side w)
rwunlock_step w g k s side =
    ComesTo-then (ComesTo-any (idle g w)) λ _.
    ComesTo-bind (ComesTo-ends (Ends-socket_of k w)) λ socket there.
    ComesTo-bind (rw_unlock_gives side socket.lock) λ left given.
    ComesTo-ok (gives_at w g s k socket left.lock (owing k left.owed) there (s == k) refl given.one)

sockopen_step : (w : World) (rc wc s : ℕ) → Counts w s (Step.SockOpen rc wc) (sockopen rc wc w)
sockopen_step w rc wc s =
    ComesTo-then (ComesTo-any (refused_unless (nat_lt (length w.sockets) w.limits.sockets) _)) λ _.
    ComesTo-then (ComesTo-any (sized rc w)) λ _.
    ComesTo-then (ComesTo-any (sized wc w)) λ _.
    ComesTo-ok (ap (λ n. n + 0) (slice_get-push_unseen (λ o. option_map_or (λ (x : Socket). x.lock.references) o 0) w.sockets (new_socket rc wc) s refl))

-- ---- steps that leave locks alone

number_references : (lock : Lock) → LockFits lock → lock_number lock / 8 % 2 ^ 20 ≡ lock.references
number_references lock fits =
    let closed = bit_small lock.closed in
    let read = bit_small lock.locked.read in
    let write = bit_small lock.locked.write in
    let readers = fits.waiters Read in
    let references = fits.references in
    let n : ℕ = lock_number lock in
    let references_are : n / 8 % 2 ^ 20 ≡ lock.references = omega arith in
    references_are

same_number : (m n : ℕ) → Number m ≡ Number n → m ≡ n
same_number m n e = cc

same_count : (a b : Option Socket) → ((x : Socket) → a ≡ Some x → LockFits x.lock) → ((x : Socket) → b ≡ Some x → LockFits x.lock)
    → value_or_absent (λ (x : Socket). Number (lock_number x.lock)) a ≡ value_or_absent (λ (x : Socket). Number (lock_number x.lock)) b
    → option_map_or (λ (x : Socket). x.lock.references) a 0 ≡ option_map_or (λ (x : Socket). x.lock.references) b 0
same_count None None fits_a fits_b e = refl
same_count None (Some y) fits_a fits_b e = cc
same_count (Some x) None fits_a fits_b e = cc
same_count (Some x) (Some y) fits_a fits_b e =
    let number : lock_number x.lock ≡ lock_number y.lock = same_number _ _ e in
    sym (number_references x.lock (fits_a x refl)) ∙ ap (λ n. n / 8 % 2 ^ 20) number ∙ number_references y.lock (fits_b y refl)

unchanged : (w : World) (step : Step) (s : ℕ) → WellFormed w → IsTimely step → can_change (kind_of step) (Cell.Lock s) ≡ false
    → ComesTo (λ (left : Answer × World). references_at left.1 s + 0 ≡ references_at w s + 0) (outcome w step)
unchanged w step s h timely cannot = record { value = each }
  where
    each : (left : Answer × World) → outcome w step ≡ Ok left → references_at left.1 s + 0 ≡ references_at w s + 0
    each (answer, next) is =
        let fits : WellFormed next = step_keeps w step answer next timely h is in
        let same = step_keeps_cell w step answer next (Cell.Lock s) is cannot in
        ap (λ n. n + 0) (same_count (slice_get next.sockets s) (slice_get w.sockets s) (λ x e. (fits.sockets s x e).lock) (λ x e. (h.sockets s x e).lock) same)

-- the law for every kind of step
pub counted : (w : World) (step : Step) (s : ℕ) → WellFormed w → IsTimely step → Counts w s step (outcome w step)
counted w Step.Spawn s h t = unchanged w Step.Spawn s h t refl
counted w (Step.Exit g) s h t = unchanged w (Step.Exit g) s h t refl
counted w (Step.SockOpen rc wc) s h t = sockopen_step w rc wc s
counted w (Step.Arrive k bytes) s h t = unchanged w (Step.Arrive k bytes) s h t refl
counted w (Step.PeerClose k) s h t = unchanged w (Step.PeerClose k) s h t refl
counted w (Step.SysRead g k n) s h t = unchanged w (Step.SysRead g k n) s h t refl
counted w (Step.SysWrite g k bytes) s h t = unchanged w (Step.SysWrite g k bytes) s h t refl
counted w (Step.Drain k n) s h t = unchanged w (Step.Drain k n) s h t refl
counted w (Step.Incref g k) s h t = incref_step w g k s
counted w (Step.IncrefClose g k) s h t = increfclose_step w g k s
counted w (Step.Decref g k) s h t = decref_step w g k s
counted w (Step.RwLock g k side) s h t = rwlock_step w g k s side
counted w (Step.RwUnlock g k side) s h t = rwunlock_step w g k s side
counted w (Step.Acquire g) s h t = unchanged w (Step.Acquire g) s h t refl
counted w (Step.Release g) s h t = unchanged w (Step.Release g) s h t refl
counted w (Step.PollOpen g k) s h t = unchanged w (Step.PollOpen g k) s h t refl
counted w (Step.PollClose g d) s h t = unchanged w (Step.PollClose g d) s h t refl
counted w (Step.PollReset g d side) s h t = unchanged w (Step.PollReset g d side) s h t refl
counted w (Step.WaitBegin g d side) s h t = unchanged w (Step.WaitBegin g d side) s h t refl
counted w (Step.BlockArm g) s h t = unchanged w (Step.BlockArm g) s h t refl
counted w (Step.BlockCheck g) s h t = unchanged w (Step.BlockCheck g) s h t refl
counted w (Step.ParkCommit g) s h t = unchanged w (Step.ParkCommit g) s h t refl
counted w (Step.BlockSwap g) s h t = unchanged w (Step.BlockSwap g) s h t refl
counted w (Step.WaitCheck g) s h t = unchanged w (Step.WaitCheck g) s h t refl
counted w (Step.SetDeadline g d mode x) s h t = unchanged w (Step.SetDeadline g d mode x) s h t refl
counted w (Step.Evict g d) s h t = unchanged w (Step.Evict g d) s h t refl
counted w (Step.PollEvent d tag mode error) s h t = unchanged w (Step.PollEvent d tag mode error) s h t refl
counted w (Step.Tick x) s h t = unchanged w (Step.Tick x) s h t refl
counted w Step.Pop s h t = unchanged w Step.Pop s h t refl
counted w (Step.Fire i) s h t = unchanged w (Step.Fire i) s h t refl
counted w (Step.CloseWrite g k) s h t = unchanged w (Step.CloseWrite g k) s h t refl

-- ---- runs

step_counted : (w : World) (step : Step) (s : ℕ) → WellFormed w → IsTimely step
    → references_at (next_of w (outcome w step)) s + gives_in s step (outcome w step) ≡ references_at w s + takes_in s step (outcome w step)
step_counted w step s h timely = go (outcome w step) refl
  where
    go : (o : Outcome) → outcome w step ≡ o → references_at (next_of w o) s + gives_in s step o ≡ references_at w s + takes_in s step o
    go (Ok (answer, next)) e = (counted w step s h timely).value (answer, next) e
    go (Err reason) e = refl

next_fits : (w : World) (step : Step) → IsTimely step → WellFormed w → WellFormed (next_of w (outcome w step))
next_fits w step timely h = go (outcome w step) refl
  where
    go : (o : Outcome) → outcome w step ≡ o → WellFormed (next_of w o)
    go (Ok (answer, next)) e = step_keeps w step answer next timely h e
    go (Err reason) e = h

pub run_counted : (w : World) (steps : List Step) (s : ℕ) → WellFormed w → All IsTimely steps
    → references_at (world_after w steps) s + given s w steps ≡ references_at w s + taken s w steps
run_counted w [] s h timely = refl
run_counted w (step ∷ steps) s h timely =
    let now = step_counted w step s h (All-head IsTimely step steps timely) in
    let rest = run_counted (next_of w (outcome w step)) steps s (next_fits w step (All-head IsTimely step steps timely) h) (All-tail IsTimely step steps timely) in
    omega (arith, now, rest)

pub kept : (w : World) (steps : List Step) (s k : ℕ) → WellFormed w → All IsTimely steps
    → given s w steps + k ≤ references_at w s + taken s w steps → k ≤ references_at (world_after w steps) s
kept w steps s k h timely others = let counts = run_counted w steps s h timely in omega (arith, counts, others)

-- ---- the last reference

module _ (w : World) (g s : ℕ) (socket : Socket) (lock : Lock) (status : Status) (at : slice_get w.sockets s ≡ Some socket) where
  none_at : lock.references ≡ 0 → references_at (left_world w g s s socket lock status at) s ≡ 0
  none_at e = (here w g s s socket lock status at (eq-eqb s s refl)).0 ∙ e

decref_last : (w : World) (g s : ℕ) → ComesTo (λ (left : Answer × World). left.0 ≡ Answer.Last → references_at left.1 s ≡ 0) (decref g s w)
decref_last w g s =
    ComesTo-then (ComesTo-any (idle g w)) λ _.
    ComesTo-bind (ComesTo-ends (Ends-socket_of s w)) λ socket there.
    ComesTo-bind (decref_gives socket.lock) λ left given.
    ComesTo-ok (λ last. none_at w g s socket left.lock Idle there (given.last last))

rwunlock_last : (w : World) (g s : ℕ) (side : Side) → ComesTo (λ (left : Answer × World). left.0 ≡ Answer.Last → references_at left.1 s ≡ 0) (rwunlock g s side w)
rwunlock_last w g s side =
    ComesTo-then (ComesTo-any (idle g w)) λ _.
    ComesTo-bind (ComesTo-ends (Ends-socket_of s w)) λ socket there.
    ComesTo-bind (rw_unlock_gives side socket.lock) λ left given.
    ComesTo-ok (λ last. none_at w g s socket left.lock (owing s left.owed) there (given.last last))

pub decref_frees : (w : World) (g s : ℕ) (next : World) → outcome w (Step.Decref g s) ≡ Ok (Answer.Last, next) → references_at next s ≡ 0
decref_frees w g s next is = (decref_last w g s).value (Answer.Last, next) is refl

pub rwunlock_frees : (w : World) (g s : ℕ) (side : Side) (next : World) → outcome w (Step.RwUnlock g s side) ≡ Ok (Answer.Last, next) → references_at next s ≡ 0
rwunlock_frees w g s side next is = (rwunlock_last w g s side).value (Answer.Last, next) is refl
