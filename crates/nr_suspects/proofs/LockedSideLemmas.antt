-- A side of a socket's lock has one holder at a time.
use Rattle.std.proofs.Common.{◌≡◌, ◌≢◌, ◌⊎◌, inl, inr, ℕ, Bool, true, false, ◌+◌, ◌-◌, ◌/◌, ◌%◌, ◌^◌, ◌||◌, not, List, [], ◌∷◌, length, Option, Some, None, Result, Ok, Err, suc, refl, sym, ap, subst, ◌∙◌, arith, true≢false}
use Rattle.std.specs.Prelude.{◌↔◌, ◌==◌, if◌then◌else◌, min, nat_lt, slice_get, take, IsOk}
use Rattle.std.specs.Option.{option_map_or}
use Rattle.std.proofs.lemmas.Option.{same_Some}
use Rattle.nr_rev.specs.declared.answer.Answer.{Answer}
use Rattle.nr_rev.specs.declared.answer.Answer.TheVariants as answers
use Rattle.nr_rev.specs.declared.cell.Cell.{Cell}
use Rattle.nr_rev.specs.declared.cell_value.CellValue.TheVariants.{Number}
use Rattle.nr_rev.specs.declared.lock.Lock.{Lock}
use Rattle.nr_rev.specs.declared.lock.LockOutcome.{LockOutcome}
use Rattle.nr_rev.specs.declared.refusal.Refusal.{Refusal}
use Rattle.nr_rev.specs.declared.sides.Side.{Side}
use Rattle.nr_rev.specs.declared.sides.Side.TheVariants.{Read, Write}
use Rattle.nr_rev.specs.declared.sides.Sides.{Sides}
use Rattle.nr_rev.specs.declared.status.Status.{Status}
use Rattle.nr_rev.specs.declared.status.Status.TheVariants.{Idle}
use Rattle.nr_rev.specs.declared.step.Step.{Step}
use Rattle.nr_rev.specs.Aspect.{can_change}
use Rattle.nr_rev.specs.Cell.{value_or_absent}
use Rattle.nr_rev.specs.Kind.{kind_of}
use Rattle.nr_rev.specs.Lock
use Rattle.nr_rev.specs.Lock.{bit, lock_number, raised_field}
use Rattle.nr_rev.specs.Refusing.{refused_if, refused_unless}
use Rattle.nr_rev.specs.Run.{next_of, world_after}
use Rattle.nr_rev.specs.Sides.{of_side, twice, with_side}
use Rattle.nr_rev.specs.Socket.{Socket, new_socket}
use Rattle.nr_rev.specs.Step.{Outcome, decref, idle, incref, increfclose, locker, may_lock, outcome, owing, rwlock, rwunlock, sized, sockopen, status_of}
use Rattle.nr_rev.specs.World.{World, with_socket, with_status}
use Rattle.nr_rev.proofs.BitLemmas.{bit_small}
use Rattle.nr_rev.proofs.ListUpdateLemmas.{slice_get-push_unseen, slice_get-set_cases, slice_get-set_here, slice_get-set_unseen}
use Rattle.nr_rev.proofs.OutcomeLemmas.{Ends-refused_if}
use Rattle.nr_rev.proofs.SideLemmas.{of_side-with_side_other, of_side-with_side_same, other_side}
use Rattle.nr_laws.proofs.AspectLemmas.{ComesTo, ComesTo-ok, ComesTo-any, ComesTo-bind, ComesTo-ends, ComesTo-then}
use Rattle.nr_laws.proofs.AspectStepLemmas.{step_keeps_cell}
use Rattle.nr_laws.proofs.BoolLemmas.{neither_of, not_false}
use Rattle.nr_laws.proofs.LookupLemmas.{Ends-idle, Ends-socket_of}
use Rattle.nr_suspects.specs.LockedSides.{is_locked}

-- ---- the operations of a lock

ComesTo-cases : {A : Type 0} {P : A → Type 0} (c : Bool) {x y : Result A Refusal} → (c ≡ true → ComesTo P x) → (c ≡ false → ComesTo P y) → ComesTo P (if c then x else y)
ComesTo-cases true a b = a refl
ComesTo-cases false a b = b refl

-- the lock with one more waiter
abbrev with_waiter : Side → Lock → Lock
with_waiter side lock = record lock { waiters = with_side side (of_side side lock.waiters + 1) lock.waiters }

-- the lock with the side locked and one more reference
abbrev locked_at : Side → Lock → Lock
locked_at side lock = record lock { locked = with_side side true lock.locked; references = lock.references + 1 }

-- the result of trying to lock a side
data Tried (side : Side) (lock : Lock) (left : LockOutcome) : Type 0 where
  Refused : left.answer ≡ answers.No → left.lock ≡ lock → lock.closed ≡ true → Tried side lock left
  Waits : left.answer ≡ answers.Wait → left.lock ≡ with_waiter side lock → lock.closed ≡ false → of_side side lock.locked ≡ true → Tried side lock left
  Takes : left.answer ≡ answers.Yes → left.lock ≡ locked_at side lock → lock.closed ≡ false → of_side side lock.locked ≡ false → Tried side lock left

raised : (n : ℕ) → ComesTo (λ m. m ≡ n + 1) (raised_field n)
raised n = ComesTo-then (ComesTo-any (refused_unless (nat_lt n (2 ^ 20 - 1)) Refusal.FieldOverflow)) λ _. ComesTo-ok refl

tried : (side : Side) (lock : Lock) → ComesTo (Tried side lock) (Lock.rw_lock side lock)
tried side lock =
    ComesTo-cases lock.closed (λ closed. ComesTo-ok (Refused refl refl closed)) λ is_open.
    ComesTo-cases (of_side side lock.locked)
    (λ locked. ComesTo-bind (raised (of_side side lock.waiters)) λ n is. ComesTo-ok (Waits refl (ap (λ k. record lock { waiters = with_side side k lock.waiters }) is) is_open locked))
    (λ free. ComesTo-bind (raised lock.references) λ n is. ComesTo-ok (Takes refl (ap (λ k. record lock { locked = with_side side true lock.locked; references = k }) is) is_open free))

-- the lock with the side unlocked, one reference fewer and one waiter fewer
abbrev freed_at : Side → Lock → Lock
freed_at side lock = record lock { locked = with_side side false lock.locked; references = lock.references - 1; waiters = with_side side (of_side side lock.waiters - 1) lock.waiters }

-- the result of unlocking a side
record Freed (side : Side) (lock : Lock) (left : LockOutcome) : Type 0 where
  was : of_side side lock.locked ≡ true
  lock_is : left.lock ≡ freed_at side lock
  owes : left.owed ≡ with_side side (min (of_side side lock.waiters) 1) (twice 0)

freed : (side : Side) (lock : Lock) → ComesTo (Freed side lock) (Lock.rw_unlock side lock)
freed side lock =
    ComesTo-then (ComesTo-ends (Ends-refused_if (not (of_side side lock.locked) || (lock.references == 0)) Refusal.InconsistentLock refl)) λ some.
    ComesTo-ok (record { was = not_false (of_side side lock.locked) (neither_of (not (of_side side lock.locked)) (lock.references == 0) some).0; lock_is = refl; owes = refl })

-- operations that leave both sides as they are
abbrev KeepsSides : Lock → Result LockOutcome Refusal → Type 0
KeepsSides lock o = ComesTo (λ (left : LockOutcome). left.lock.locked ≡ lock.locked) o

incref_keeps : (lock : Lock) → KeepsSides lock (Lock.incref lock)
incref_keeps lock =
    ComesTo-cases lock.closed (λ _. ComesTo-ok refl) λ _.
    ComesTo-bind (ComesTo-any (raised_field lock.references)) λ n _. ComesTo-ok refl

incref_close_keeps : (lock : Lock) → KeepsSides lock (Lock.incref_close lock)
incref_close_keeps lock =
    ComesTo-cases lock.closed (λ _. ComesTo-ok refl) λ _.
    ComesTo-bind (ComesTo-any (raised_field lock.references)) λ n _. ComesTo-ok refl

decref_keeps : (lock : Lock) → KeepsSides lock (Lock.decref lock)
decref_keeps lock = ComesTo-then (ComesTo-any (refused_if (lock.references == 0) _)) λ _. ComesTo-ok refl

-- ---- what a step does to a side

-- true if the socket exists and this side of its lock is locked
abbrev locked_in : Side → Option Socket → Bool
locked_in side o = option_map_or (λ (socket : Socket). of_side side socket.lock.locked) o false

-- the side is unchanged, or the step locked it, or the step unlocked it
data Turn (w : World) (s : ℕ) (side : Side) (step : Step) (left : Answer × World) : Type 0 where
  Kept : is_locked left.1 s side ≡ is_locked w s side → Turn w s side step left
  Locked : (g : ℕ) → step ≡ Step.RwLock g s side → left.0 ≡ answers.Yes → is_locked w s side ≡ false → is_locked left.1 s side ≡ true → Turn w s side step left
  Unlocked : (g : ℕ) → step ≡ Step.RwUnlock g s side → is_locked w s side ≡ true → is_locked left.1 s side ≡ false → Turn w s side step left

abbrev Turns : World → ℕ → Side → Step → Outcome → Type 0
Turns w s side step o = ComesTo (Turn w s side step) o

module _ (w : World) (g k : ℕ) (socket : Socket) (lock : Lock) (status : Status) (at : slice_get w.sockets k ≡ Some socket) where
  abbrev left_world : World
  left_world = with_status g status (with_socket k (record socket { lock = lock }) w)

  was_locked : (side : Side) → is_locked w k side ≡ of_side side socket.lock.locked
  was_locked side = ap (locked_in side) at

  socket_here : slice_get left_world.sockets k ≡ Some (record socket { lock = lock })
  socket_here = slice_get-set_here w.sockets k socket (record socket { lock = lock }) at

  now_locked : (side : Side) → is_locked left_world k side ≡ of_side side lock.locked
  now_locked side = ap (locked_in side) socket_here

  -- if a step leaves a side of the lock unchanged, the side is unchanged in the world
  unseen : (s : ℕ) (side : Side) → of_side side lock.locked ≡ of_side side socket.lock.locked → is_locked left_world s side ≡ is_locked w s side
  unseen s side same = slice_get-set_unseen (locked_in side) w.sockets k socket (record socket { lock = lock }) s at same

  elsewhere : (s : ℕ) (side : Side) → s ≢ k → is_locked left_world s side ≡ is_locked w s side
  elsewhere s side apart =
      elim (slice_get-set_cases w.sockets k socket (record socket { lock = lock }) s at) [
        | inl same ↦ absurd (apart same.0)
        | inr other ↦ ap (locked_in side) other.1
      ]

  here_or_not : (s : ℕ) → (s ≡ k) ⊎ (s ≢ k)
  here_or_not s =
      elim (slice_get-set_cases w.sockets k socket (record socket { lock = lock }) s at) [
        | inl same ↦ inl same.0
        | inr other ↦ inr other.0
      ]

-- the sides after an attempt to lock one of them
tried_turn : (w : World) (g k s : ℕ) (at_side side : Side) (socket : Socket) (status : Status) (left : LockOutcome) (at : slice_get w.sockets k ≡ Some socket)
    → Tried at_side socket.lock left → Turn w s side (Step.RwLock g k at_side) (left.answer, left_world w g k socket left.lock status at)
tried_turn w g k s at_side side socket status left at (Refused answer lock closed) = Kept (unseen w g k socket left.lock status at s side (ap (λ (x : Lock). of_side side x.locked) lock))
tried_turn w g k s at_side side socket status left at (Waits answer lock is_open locked) = Kept (unseen w g k socket left.lock status at s side (ap (λ (x : Lock). of_side side x.locked) lock))
tried_turn w g k s at_side side socket status left at (Takes answer lock is_open free) = by (other_side side at_side) (here_or_not w g k socket left.lock status at s)
  where
    after : World
    after = left_world w g k socket left.lock status at

    by : (side ≡ at_side) ⊎ (side ≢ at_side) → (s ≡ k) ⊎ (s ≢ k) → Turn w s side (Step.RwLock g k at_side) (left.answer, left_world w g k socket left.lock status at)
    by (inr apart) here = Kept (unseen w g k socket left.lock status at s side (ap (λ (x : Lock). of_side side x.locked) lock ∙ of_side-with_side_other side at_side true socket.lock.locked apart))
    by (inl same) (inr there) = Kept (elsewhere w g k socket left.lock status at s side there)
    by (inl same) (inl here) =
        Locked g (ap (λ j. Step.RwLock g j at_side) (sym here) ∙ ap (λ x. Step.RwLock g s x) (sym same)) answer
        (ap (λ j. is_locked w j side) here ∙ ap (is_locked w k) same ∙ was_locked w g k socket left.lock status at at_side ∙ free)
        (ap (λ j. is_locked (left_world w g k socket left.lock status at) j side) here ∙ ap (is_locked (left_world w g k socket left.lock status at) k) same ∙ now_locked w g k socket left.lock status at at_side
        ∙ ap (λ (x : Lock). of_side at_side x.locked) lock ∙ of_side-with_side_same at_side true socket.lock.locked)

freed_turn : (w : World) (g k s : ℕ) (at_side side : Side) (socket : Socket) (status : Status) (left : LockOutcome) (at : slice_get w.sockets k ≡ Some socket)
    → Freed at_side socket.lock left → Turn w s side (Step.RwUnlock g k at_side) (left.answer, left_world w g k socket left.lock status at)
freed_turn w g k s at_side side socket status left at done = by (other_side side at_side) (here_or_not w g k socket left.lock status at s)
  where
    by : (side ≡ at_side) ⊎ (side ≢ at_side) → (s ≡ k) ⊎ (s ≢ k) → Turn w s side (Step.RwUnlock g k at_side) (left.answer, left_world w g k socket left.lock status at)
    by (inr apart) here = Kept (unseen w g k socket left.lock status at s side (ap (λ (x : Lock). of_side side x.locked) done.lock_is ∙ of_side-with_side_other side at_side false socket.lock.locked apart))
    by (inl same) (inr there) = Kept (elsewhere w g k socket left.lock status at s side there)
    by (inl same) (inl here) =
        Unlocked g (ap (λ j. Step.RwUnlock g j at_side) (sym here) ∙ ap (λ x. Step.RwUnlock g s x) (sym same))
        (ap (λ j. is_locked w j side) here ∙ ap (is_locked w k) same ∙ was_locked w g k socket left.lock status at at_side ∙ done.was)
        (ap (λ j. is_locked (left_world w g k socket left.lock status at) j side) here ∙ ap (is_locked (left_world w g k socket left.lock status at) k) same ∙ now_locked w g k socket left.lock status at at_side
        ∙ ap (λ (x : Lock). of_side at_side x.locked) done.lock_is ∙ of_side-with_side_same at_side false socket.lock.locked)

rwlock_turns : (w : World) (g k s : ℕ) (at_side side : Side) → Turns w s side (Step.RwLock g k at_side) (rwlock g k at_side w)
rwlock_turns w g k s at_side side =
    ComesTo-bind (ComesTo-any (status_of g w)) λ status _.
    ComesTo-then (ComesTo-any (refused_unless (may_lock k at_side status) _)) λ _.
    ComesTo-bind (ComesTo-ends (Ends-socket_of k w)) λ socket there.
    ComesTo-bind (tried at_side socket.lock) λ left try.
    ComesTo-ok (tried_turn w g k s at_side side socket (locker k at_side left.answer) left there try)

rwunlock_turns : (w : World) (g k s : ℕ) (at_side side : Side) → Turns w s side (Step.RwUnlock g k at_side) (rwunlock g k at_side w)
rwunlock_turns w g k s at_side side =
    ComesTo-then (ComesTo-any (idle g w)) λ _.
    ComesTo-bind (ComesTo-ends (Ends-socket_of k w)) λ socket there.
    ComesTo-bind (freed at_side socket.lock) λ left done.
    ComesTo-ok (freed_turn w g k s at_side side socket (owing k left.owed) left there done)

incref_turns : (w : World) (g k s : ℕ) (side : Side) → Turns w s side (Step.Incref g k) (incref g k w)
incref_turns w g k s side =
    ComesTo-then (ComesTo-any (idle g w)) λ _.
    ComesTo-bind (ComesTo-ends (Ends-socket_of k w)) λ socket there.
    ComesTo-bind (incref_keeps socket.lock) λ left same.
    ComesTo-ok (Kept (unseen w g k socket left.lock Idle there s side (ap (of_side side) same)))

increfclose_turns : (w : World) (g k s : ℕ) (side : Side) → Turns w s side (Step.IncrefClose g k) (increfclose g k w)
increfclose_turns w g k s side =
    ComesTo-then (ComesTo-any (idle g w)) λ _.
    ComesTo-bind (ComesTo-ends (Ends-socket_of k w)) λ socket there.
    ComesTo-bind (incref_close_keeps socket.lock) λ left same.
    ComesTo-ok (Kept (unseen w g k socket left.lock (owing k left.owed) there s side (ap (of_side side) same)))

decref_turns : (w : World) (g k s : ℕ) (side : Side) → Turns w s side (Step.Decref g k) (decref g k w)
decref_turns w g k s side =
    ComesTo-then (ComesTo-any (idle g w)) λ _.
    ComesTo-bind (ComesTo-ends (Ends-socket_of k w)) λ socket there.
    ComesTo-bind (decref_keeps socket.lock) λ left same.
    ComesTo-ok (Kept (unseen w g k socket left.lock Idle there s side (ap (of_side side) same)))

sockopen_turns : (w : World) (rc wc s : ℕ) (side : Side) → Turns w s side (Step.SockOpen rc wc) (sockopen rc wc w)
sockopen_turns w rc wc s side =
    ComesTo-then (ComesTo-any (refused_unless (nat_lt (length w.sockets) w.limits.sockets) _)) λ _.
    ComesTo-then (ComesTo-any (sized rc w)) λ _.
    ComesTo-then (ComesTo-any (sized wc w)) λ _.
    ComesTo-ok (Kept (slice_get-push_unseen (locked_in side) w.sockets (new_socket rc wc) s (free side)))
  where
    free : (x : Side) → false ≡ of_side x (twice false)
    free Read = refl
    free Write = refl

-- ---- steps that leave locks alone

number_locked : (side : Side) (lock : Lock) → bit (of_side side lock.locked) ≡ of_side side (record { read = lock_number lock / 2 % 2; write = lock_number lock / 4 % 2 })
number_locked Read lock =
    let closed = bit_small lock.closed in
    let read = bit_small lock.locked.read in
    omega arith
number_locked Write lock =
    let closed = bit_small lock.closed in
    let read = bit_small lock.locked.read in
    let write = bit_small lock.locked.write in
    omega arith

same_bit : (a b : Bool) → bit a ≡ bit b → a ≡ b
same_bit true true e = refl
same_bit true false e = cc
same_bit false true e = cc
same_bit false false e = refl

same_number : (m n : ℕ) → Number m ≡ Number n → m ≡ n
same_number m n e = cc

same_locks : (side : Side) (a b : Option Socket) → value_or_absent (λ (x : Socket). Number (lock_number x.lock)) a ≡ value_or_absent (λ (x : Socket). Number (lock_number x.lock)) b → locked_in side a ≡ locked_in side b
same_locks side None None e = refl
same_locks side None (Some y) e = cc
same_locks side (Some x) None e = cc
same_locks side (Some x) (Some y) e =
    same_bit _ _
    (number_locked side x.lock ∙ ap (λ n. of_side side (record { read = n / 2 % 2; write = n / 4 % 2 })) (same_number (lock_number x.lock) (lock_number y.lock) e) ∙ sym (number_locked side y.lock))

unchanged : (w : World) (s : ℕ) (side : Side) (step : Step) → can_change (kind_of step) (Cell.Lock s) ≡ false → Turns w s side step (outcome w step)
unchanged w s side step cannot = record {
  value = λ left is. Kept (same_locks side (slice_get left.1.sockets s) (slice_get w.sockets s) (step_keeps_cell w step left.0 left.1 (Cell.Lock s) is cannot));
}

-- the law for every kind of step
turns : (w : World) (s : ℕ) (side : Side) (step : Step) → Turns w s side step (outcome w step)
turns w s side (Step.SockOpen rc wc) = sockopen_turns w rc wc s side
turns w s side (Step.Incref g k) = incref_turns w g k s side
turns w s side (Step.IncrefClose g k) = increfclose_turns w g k s side
turns w s side (Step.Decref g k) = decref_turns w g k s side
turns w s side (Step.RwLock g k at_side) = rwlock_turns w g k s at_side side
turns w s side (Step.RwUnlock g k at_side) = rwunlock_turns w g k s at_side side
turns w s side Step.Spawn = unchanged w s side Step.Spawn refl
turns w s side (Step.Exit g) = unchanged w s side (Step.Exit g) refl
turns w s side (Step.Arrive k bytes) = unchanged w s side (Step.Arrive k bytes) refl
turns w s side (Step.PeerClose k) = unchanged w s side (Step.PeerClose k) refl
turns w s side (Step.SysRead g k n) = unchanged w s side (Step.SysRead g k n) refl
turns w s side (Step.SysWrite g k bytes) = unchanged w s side (Step.SysWrite g k bytes) refl
turns w s side (Step.Drain k n) = unchanged w s side (Step.Drain k n) refl
turns w s side (Step.Acquire g) = unchanged w s side (Step.Acquire g) refl
turns w s side (Step.Release g) = unchanged w s side (Step.Release g) refl
turns w s side (Step.PollOpen g k) = unchanged w s side (Step.PollOpen g k) refl
turns w s side (Step.PollClose g e) = unchanged w s side (Step.PollClose g e) refl
turns w s side (Step.PollReset g e x) = unchanged w s side (Step.PollReset g e x) refl
turns w s side (Step.WaitBegin g e x) = unchanged w s side (Step.WaitBegin g e x) refl
turns w s side (Step.BlockArm g) = unchanged w s side (Step.BlockArm g) refl
turns w s side (Step.BlockCheck g) = unchanged w s side (Step.BlockCheck g) refl
turns w s side (Step.ParkCommit g) = unchanged w s side (Step.ParkCommit g) refl
turns w s side (Step.BlockSwap g) = unchanged w s side (Step.BlockSwap g) refl
turns w s side (Step.WaitCheck g) = unchanged w s side (Step.WaitCheck g) refl
turns w s side (Step.SetDeadline g e mode x) = unchanged w s side (Step.SetDeadline g e mode x) refl
turns w s side (Step.Evict g e) = unchanged w s side (Step.Evict g e) refl
turns w s side (Step.PollEvent e tag mode error) = unchanged w s side (Step.PollEvent e tag mode error) refl
turns w s side (Step.Tick x) = unchanged w s side (Step.Tick x) refl
turns w s side Step.Pop = unchanged w s side Step.Pop refl
turns w s side (Step.Fire i) = unchanged w s side (Step.Fire i) refl
turns w s side (Step.CloseWrite g k) = unchanged w s side (Step.CloseWrite g k) refl

pub just_a_lock_locks : (w : World) (step : Step) (s : ℕ) (side : Side) (answer : Answer) (next : World) → outcome w step ≡ Ok (answer, next) → is_locked w s side ≡ false → is_locked next s side ≡ true
    → ((g : ℕ) × (step ≡ Step.RwLock g s side)) × (answer ≡ answers.Yes)
just_a_lock_locks w step s side answer next is before after = by ((turns w s side step).value (answer, next) is)
  where
    by : Turn w s side step (answer, next) → ((g : ℕ) × (step ≡ Step.RwLock g s side)) × (answer ≡ answers.Yes)
    by (Kept same) = absurd (true≢false (sym after ∙ same ∙ before))
    by (Locked g e got was now) = ((g, e), got)
    by (Unlocked g e was now) = absurd (true≢false (sym was ∙ before))

pub just_an_unlock_frees : (w : World) (step : Step) (s : ℕ) (side : Side) (answer : Answer) (next : World) → outcome w step ≡ Ok (answer, next) → is_locked w s side ≡ true → is_locked next s side ≡ false
    → (g : ℕ) × (step ≡ Step.RwUnlock g s side)
just_an_unlock_frees w step s side answer next is before after = by ((turns w s side step).value (answer, next) is)
  where
    by : Turn w s side step (answer, next) → (g : ℕ) × (step ≡ Step.RwUnlock g s side)
    by (Kept same) = absurd (true≢false (sym before ∙ sym same ∙ after))
    by (Locked g e got was now) = absurd (true≢false (sym before ∙ was))
    by (Unlocked g e was now) = (g, e)

-- ---- a read or write that is answered `Again`

-- the result of an rwlock
record Lock-left (w : World) (g s : ℕ) (side : Side) (left : Answer × World) : Type 0 where
  socket : Socket
  at : slice_get w.sockets s ≡ Some socket
  outcome_left : LockOutcome
  tried_so : Tried side socket.lock outcome_left
  answer_is : left.0 ≡ outcome_left.answer
  socket_is : slice_get left.1.sockets s ≡ Some (record socket { lock = outcome_left.lock })

lock_left_by : (w : World) (g s : ℕ) (side : Side) → ComesTo (Lock-left w g s side) (rwlock g s side w)
lock_left_by w g s side =
    ComesTo-bind (ComesTo-any (status_of g w)) λ status _.
    ComesTo-then (ComesTo-any (refused_unless (may_lock s side status) _)) λ _.
    ComesTo-bind (ComesTo-ends (Ends-socket_of s w)) λ socket there.
    ComesTo-bind (tried side socket.lock) λ left try.
    ComesTo-ok (record { socket = socket; at = there; outcome_left = left; tried_so = try; answer_is = refl; socket_is = socket_here w g s socket left.lock (locker s side left.answer) there })

pub got_a_free_side : (w : World) (g s : ℕ) (side : Side) (next : World) → outcome w (Step.RwLock g s side) ≡ Ok (answers.Yes, next) → (is_locked w s side ≡ false) × (is_locked next s side ≡ true)
got_a_free_side w g s side next is = by ((lock_left_by w g s side).value (answers.Yes, next) is)
  where
    by : Lock-left w g s side (answers.Yes, next) → (is_locked w s side ≡ false) × (is_locked next s side ≡ true)
    by left = by_try left.tried_so
      where
        by_try : Tried side left.socket.lock left.outcome_left → (is_locked w s side ≡ false) × (is_locked next s side ≡ true)
        by_try (Refused answer lock closed) = absurd (differ (left.answer_is ∙ answer))
          where
            differ : answers.Yes ≡ answers.No → ⊥
            differ e = cc
        by_try (Waits answer lock is_open locked) = absurd (differ (left.answer_is ∙ answer))
          where
            differ : answers.Yes ≡ answers.Wait → ⊥
            differ e = cc
        by_try (Takes answer lock is_open free) = (
          ap (locked_in side) left.at ∙ free,
          ap (locked_in side) left.socket_is ∙ ap (λ (x : Lock). of_side side x.locked) lock ∙ of_side-with_side_same side true left.socket.lock.locked,
        )

pub got_just_if : (w : World) (g s : ℕ) (side : Side) (socket : Socket) (answer : Answer) (next : World) → slice_get w.sockets s ≡ Some socket → outcome w (Step.RwLock g s side) ≡ Ok (answer, next)
    → (answer ≡ answers.Yes) ↔ ((socket.lock.closed ≡ false) × (of_side side socket.lock.locked ≡ false))
got_just_if w g s side socket answer next there is =
    let left = (lock_left_by w g s side).value (answer, next) is in
    subst (λ (x : Socket). (answer ≡ answers.Yes) ↔ ((x.lock.closed ≡ false) × (of_side side x.lock.locked ≡ false))) (same_Some _ _ (sym left.at ∙ there)) (by left.socket left.outcome_left left.answer_is left.tried_so)
  where
    differ : (a : Answer) → a ≡ answers.No → a ≡ answers.Yes → ⊥
    differ a refused got = cc

    waiting : (a : Answer) → a ≡ answers.Wait → a ≡ answers.Yes → ⊥
    waiting a waits got = cc

    by : (x : Socket) (left : LockOutcome) → answer ≡ left.answer → Tried side x.lock left → (answer ≡ answers.Yes) ↔ ((x.lock.closed ≡ false) × (of_side side x.lock.locked ≡ false))
    by x left same (Refused a lock closed) = (λ e. absurd (differ answer (same ∙ a) e), λ e. absurd (true≢false (sym closed ∙ e.0)))
    by x left same (Waits a lock is_open locked) = (λ e. absurd (waiting answer (same ∙ a) e), λ e. absurd (true≢false (sym locked ∙ e.1)))
    by x left same (Takes a lock is_open free) = (λ e. (is_open, free), λ e. same ∙ a)

pub waits_at_a_locked_side : (w : World) (g s : ℕ) (side : Side) (socket : Socket) (next : World) → slice_get w.sockets s ≡ Some socket → outcome w (Step.RwLock g s side) ≡ Ok (answers.Wait, next)
    → (of_side side socket.lock.locked ≡ true)
    × (slice_get next.sockets s ≡ Some (record socket { lock = record socket.lock { waiters = with_side side (of_side side socket.lock.waiters + 1) socket.lock.waiters } }))
waits_at_a_locked_side w g s side socket next there is =
    let left = (lock_left_by w g s side).value (answers.Wait, next) is in
    subst (λ (x : Socket). (of_side side x.lock.locked ≡ true) × (slice_get next.sockets s ≡ Some (record x { lock = with_waiter side x.lock }))) (same_Some _ _ (sym left.at ∙ there))
    (by left.socket left.outcome_left left.answer_is left.socket_is left.tried_so)
  where
    by : (x : Socket) (left : LockOutcome) → answers.Wait ≡ left.answer → slice_get next.sockets s ≡ Some (record x { lock = left.lock }) → Tried side x.lock left
        → (of_side side x.lock.locked ≡ true) × (slice_get next.sockets s ≡ Some (record x { lock = with_waiter side x.lock }))
    by x left same at (Refused a lock closed) = absurd (differ (same ∙ a))
      where
        differ : answers.Wait ≡ answers.No → ⊥
        differ e = cc
    by x left same at (Waits a lock is_open locked) = (locked, at ∙ ap (λ (l : Lock). Some (record x { lock = l })) lock)
    by x left same at (Takes a lock is_open free) = absurd (differ (same ∙ a))
      where
        differ : answers.Wait ≡ answers.Yes → ⊥
        differ e = cc

-- ---- giving back

-- the result of an rwunlock
record Unlock-left (w : World) (g s : ℕ) (side : Side) (left : Answer × World) : Type 0 where
  socket : Socket
  at : slice_get w.sockets s ≡ Some socket
  was : of_side side socket.lock.locked ≡ true
  socket_is : slice_get left.1.sockets s ≡ Some (record socket { lock = freed_at side socket.lock })
  status_is : slice_get left.1.goroutines g ≡ Some (owing s (with_side side (min (of_side side socket.lock.waiters) 1) (twice 0)))

unlock_left_by : (w : World) (g s : ℕ) (side : Side) → ComesTo (Unlock-left w g s side) (rwunlock g s side w)
unlock_left_by w g s side =
    ComesTo-then (ComesTo-ends (Ends-idle g w)) λ idle_there.
    ComesTo-bind (ComesTo-ends (Ends-socket_of s w)) λ socket there.
    ComesTo-bind (freed side socket.lock) λ left done.
    ComesTo-ok (record {
      socket = socket;
      at = there;
      was = done.was;
      socket_is = socket_here w g s socket left.lock (owing s left.owed) there ∙ ap (λ (l : Lock). Some (record socket { lock = l })) done.lock_is;
      status_is = slice_get-set_here w.goroutines g Idle (owing s left.owed) idle_there ∙ ap (λ (owed : Sides ℕ). Some (owing s owed)) done.owes;
    })

pub unlock_frees : (w : World) (g s : ℕ) (side : Side) (answer : Answer) (next : World) → outcome w (Step.RwUnlock g s side) ≡ Ok (answer, next) → (is_locked w s side ≡ true) × (is_locked next s side ≡ false)
unlock_frees w g s side answer next is =
    let left = (unlock_left_by w g s side).value (answer, next) is in
    (ap (locked_in side) left.at ∙ left.was, ap (locked_in side) left.socket_is ∙ of_side-with_side_same side false left.socket.lock.locked)

pub unlock_owes_a_waiter : (w : World) (g s : ℕ) (side : Side) (socket : Socket) (answer : Answer) (next : World) → slice_get w.sockets s ≡ Some socket → outcome w (Step.RwUnlock g s side) ≡ Ok (answer, next)
    → (slice_get next.goroutines g ≡ Some (owing s (with_side side (min (of_side side socket.lock.waiters) 1) (twice 0))))
    × (slice_get next.sockets s ≡ Some (record socket {
      lock = record socket.lock {
        locked = with_side side false socket.lock.locked;
        references = socket.lock.references - 1;
        waiters = with_side side (of_side side socket.lock.waiters - 1) socket.lock.waiters;
      };
    }))
unlock_owes_a_waiter w g s side socket answer next there is =
    let left = (unlock_left_by w g s side).value (answer, next) is in
    subst
    (λ (x : Socket). (slice_get next.goroutines g ≡ Some (owing s (with_side side (min (of_side side x.lock.waiters) 1) (twice 0)))) × (slice_get next.sockets s ≡ Some (record x { lock = freed_at side x.lock })))
    (same_Some _ _ (sym left.at ∙ there)) (left.status_is, left.socket_is)

-- ---- runs

-- these steps, starting from a world, include an rwunlock that unlocks the side
abbrev GivenBack : World → ℕ → Side → List Step → Type 0
GivenBack w s side steps = (n k : ℕ) × (slice_get steps n ≡ Some (Step.RwUnlock k s side)) × IsOk (outcome (world_after w (take n steps)) (Step.RwUnlock k s side))

-- if such an rwunlock is among the steps after the first, it is also in the list of all steps
given_back_later : (w : World) (s : ℕ) (side : Side) (step : Step) (steps : List Step) → GivenBack (next_of w (outcome w step)) s side steps → GivenBack w s side (step ∷ steps)
given_back_later w s side step steps rest = (suc rest.0, rest.1, rest.2, rest.3)

given_back_first : (w : World) (s : ℕ) (side : Side) (step : Step) (steps : List Step) → is_locked w s side ≡ true → is_locked (next_of w (outcome w step)) s side ≡ false → GivenBack w s side (step ∷ steps)
given_back_first w s side step steps locked free = go (outcome w step) refl
  where
    go : (o : Outcome) → outcome w step ≡ o → GivenBack w s side (step ∷ steps)
    go (Ok left) e =
        let found = just_an_unlock_frees w step s side left.0 left.1 e locked (sym (ap (λ o. is_locked (next_of w o) s side) e) ∙ free) in
        (0, found.0, ap Some found.1, subst (λ x. IsOk (outcome w x)) found.1 (subst IsOk (sym e) refl))
    go (Err reason) e = absurd (true≢false (sym locked ∙ sym (ap (λ o. is_locked (next_of w o) s side) e) ∙ free))

given_back : (w : World) (s : ℕ) (side : Side) (steps : List Step) → is_locked w s side ≡ true → is_locked (world_after w steps) s side ≡ false → GivenBack w s side steps
given_back w s side [] locked free = absurd (true≢false (sym locked ∙ free))
given_back w s side (step ∷ steps) locked free =
    by (is_locked (next_of w (outcome w step)) s side) refl (λ still. given_back (next_of w (outcome w step)) s side steps still free)
  where
    by : (b : Bool) → is_locked (next_of w (outcome w step)) s side ≡ b → (is_locked (next_of w (outcome w step)) s side ≡ true → GivenBack (next_of w (outcome w step)) s side steps) → GivenBack w s side (step ∷ steps)
    by true is rest = given_back_later w s side step steps (rest is)
    by false is rest = given_back_first w s side step steps locked is

pub given_back_between : (w : World) (g h s : ℕ) (side : Side) (steps : List Step) (next last : World) → outcome w (Step.RwLock g s side) ≡ Ok (answers.Yes, next)
    → outcome (world_after next steps) (Step.RwLock h s side) ≡ Ok (answers.Yes, last)
    → (n k : ℕ) × (slice_get steps n ≡ Some (Step.RwUnlock k s side)) × IsOk (outcome (world_after next (take n steps)) (Step.RwUnlock k s side))
given_back_between w g h s side steps next last first second =
    given_back next s side steps (got_a_free_side w g s side next first).1 (got_a_free_side (world_after next steps) h s side last second).0
