-- The operations. Each checks its reasons for refusal in order, and then gives an answer and the
-- next table.
use Rattle.std.specs.Prelude.{◌≡◌, ℕ, ◌-◌, Bool, true, false, ◌&&◌, ◌==◌, nat_lt, if◌then◌else◌, [], ◌∷◌, ◌++◌, length, slice_get, Option, Some, None, Result, Ok, Err}
use Rattle.nr_rev.specs.declared.sides.Side.{Side}
use Rattle.nr_rev.specs.declared.sides.Side.TheVariants.{Read, Write}
use Rattle.nr_rev.specs.declared.sides.Sides.{Sides}
use Rattle.nr_rev.specs.declared.status.Status.{Status}
use Rattle.nr_rev.specs.declared.status.Status.TheVariants.{Idle, Acquiring, Queued, Relock, Owing, Entering, Armed, Parking, Parked, Swapping, Checking, Gone}
use Rattle.nr_rev.specs.declared.answer.Answer.{Answer}
use Rattle.nr_rev.specs.declared.answer.Answer.TheVariants.{Number, Done, Yes, Wait}
use Rattle.nr_rev.specs.declared.refusal.Refusal.{Refusal}
use Rattle.nr_rev.specs.declared.refusal.Refusal.TheVariants.{NotThere, TableFull, NoSuchSocket}
use Rattle.nr_rev.specs.Refusing.{◌>>=◌, ◌>>◌, refused_unless, found_or}
use Rattle.nr_rev.specs.Semaphore.{Semaphore, is_free, acquired, front_of, released}
use Rattle.nr_rev.specs.Sides.{of_side, with_side, same_side}
use Rattle.nr_rev.specs.Step.{alive, is_idle, owing, acquiring_of, owing_of}
use Rattle.nr_rev.specs.WellFormed.{socket_named}
use Rattle.nr_gsema.specs.declared.operation.GOperation.{GOperation}
use Rattle.nr_gsema.specs.declared.operation.GOperation.TheVariants as operation
use Rattle.nr_gsema.specs.Table.{GoroutineTable}
use Rattle.nr_gsema.specs.Auxiliary.Table.{with_status, with_semaphore}

-- the answer and the next table, or the reason for a refusal
abbrev pub Outcome : Type 0
Outcome = Result (Answer × GoroutineTable) Refusal

-- the status of goroutine g; refused for reason 1 if g doesn't exist or has ended
abbrev pub status_of : ℕ → GoroutineTable → Result Status Refusal
status_of g t = alive (slice_get t.goroutines g)

-- the semaphores of socket s; refused for reason 4 if s isn't below the limit
abbrev pub semaphores_of : ℕ → GoroutineTable → Result (Sides Semaphore) Refusal
semaphores_of s t = found_or (slice_get t.semaphores s) NoSuchSocket

-- spawn: a new goroutine
abbrev pub spawn : GoroutineTable → Outcome
spawn t = do
  refused_unless (nat_lt (length t.goroutines) t.limit) TableFull
  Ok (Number (length t.goroutines), record t { goroutines = t.goroutines ++ Idle ∷ [] })

-- exit: an idle goroutine ends
abbrev pub exit : ℕ → GoroutineTable → Outcome
exit g t = do
  status ← status_of g t
  refused_unless (is_idle status) NotThere
  Ok (Done, with_status g Gone t)

-- true if two places have the same number and side
abbrev pub same_place : ℕ → Side → ℕ → Side → Bool
same_place n side m other = (n == m) && same_side side other

-- true if two statuses are equal
abbrev pub same_status : Status → Status → Bool
same_status Idle Idle = true
same_status (Acquiring s side) (Acquiring k other) = same_place s side k other
same_status (Queued s side) (Queued k other) = same_place s side k other
same_status (Relock s side) (Relock k other) = same_place s side k other
same_status (Owing s reads writes) (Owing k r w) = (s == k) && ((reads == r) && (writes == w))
same_status (Entering d side) (Entering e other) = same_place d side e other
same_status (Armed d side) (Armed e other) = same_place d side e other
same_status (Parking d side) (Parking e other) = same_place d side e other
same_status (Parked d side) (Parked e other) = same_place d side e other
same_status (Swapping d side) (Swapping e other) = same_place d side e other
same_status (Checking d side) (Checking e other) = same_place d side e other
same_status Gone Gone = true
same_status _ _ = false

-- true if a goroutine may be moved from and to this status: it is neither queued nor ended
abbrev pub is_movable : Status → Bool
is_movable (Queued s side) = false
is_movable Gone = false
is_movable _ = true

-- true if the socket that a status names, if any, is below the limit
abbrev pub names_within : ℕ → Option ℕ → Bool
names_within sockets None = true
names_within sockets (Some s) = nat_lt s sockets

-- move: changes a goroutine's status from one to another
abbrev pub move : ℕ → Status → Status → GoroutineTable → Outcome
move g from to t = do
  status ← status_of g t
  refused_unless (same_status status from && (is_movable from && is_movable to)) NotThere
  refused_unless (names_within (length t.semaphores) (socket_named to)) NoSuchSocket
  Ok (Done, with_status g to t)

-- acquire: the goroutine gets the semaphore or is queued
abbrev pub acquire : ℕ → GoroutineTable → Outcome
acquire g t = do
  status ← status_of g t
  (s, side) ← acquiring_of status
  semaphores ← semaphores_of s t
  let semaphore : Semaphore = of_side side semaphores
  let next : GoroutineTable = with_semaphore s side semaphores (acquired g semaphore) t
  Ok (if is_free semaphore then (Yes, with_status g (Relock s side) next)
      else (Wait, with_status g (Queued s side) next))

-- The table after this goroutine, if one is given, gets the status `Acquiring`. In a release, it is
-- the goroutine that leaves the queue.
abbrev pub tries_again : ℕ → Side → Option ℕ → GoroutineTable → GoroutineTable
tries_again s side None t = t
tries_again s side (Some g) t = with_status g (Acquiring s side) t

-- the side of the next release, given the releases that a goroutine owes: the read side comes first
abbrev pub side_owed : Sides ℕ → Side
side_owed owed = if nat_lt 0 owed.read then Read else Write

-- release: one release
abbrev pub release : ℕ → GoroutineTable → Outcome
release g t = do
  status ← status_of g t
  (s, owed) ← owing_of status
  semaphores ← semaphores_of s t
  let side : Side = side_owed owed
  let semaphore : Semaphore = of_side side semaphores
  left ← released semaphore
  let next : GoroutineTable =
      tries_again s side (front_of semaphore) (with_semaphore s side semaphores left t)
  Ok (Done, with_status g (owing s (with_side side (of_side side owed - 1) owed)) next)

-- the answer of an operation and the next table, or the first reason for a refusal
abbrev pub outcome : GoroutineTable → GOperation → Outcome
outcome t operation.Spawn = spawn t
outcome t (operation.Exit g) = exit g t
outcome t (operation.Move g from to) = move g from to t
outcome t (operation.Acquire g) = acquire g t
outcome t (operation.Release g) = release g t

-- true if the operation applies, with this answer and this next table
abbrev pub StepTo : GoroutineTable → GOperation → Answer → GoroutineTable → Type 0
StepTo t op answer next = outcome t op ≡ Ok (answer, next)

-- the reason for a refusal, if the outcome is one
abbrev pub refusal_of : Outcome → Option Refusal
refusal_of (Ok left) = None
refusal_of (Err reason) = Some reason

-- the reason why an operation is refused, if it is
abbrev pub table_reason : GoroutineTable → GOperation → Option Refusal
table_reason t op = refusal_of (outcome t op)
