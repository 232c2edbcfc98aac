-- The laws that `Reversible` requires of a table.
use Rattle.std.proofs.Common.{◌≡◌, ◌+◌, ◌-◌, ◌^◌, ◌≤◌, Some, None, Ok, Err, Result, refl, sym, ap, ◌∙◌, lit≤, true≢false}
use Rattle.nr_rev.specs.declared.answer.Answer.{Answer}
use Rattle.nr_rev.specs.declared.refusal.Refusal.{Refusal}
use Rattle.nr_rev.specs.Refusing.{out_of_memory}
use Rattle.nr_rev.specs.declared.status.Status.{Status}
use Rattle.nr_rev.specs.declared.status.Status.TheVariants.{Idle, Acquiring, Queued, Relock, Owing, Entering, Armed, Parking, Parked, Swapping, Checking, Gone}
use Rattle.nr_rev.proofs.OutcomeLemmas.{Ends, Ends-bind, Ends-found_or, Ends-ok, Ends-refused_unless, Ends-then}
use Rattle.std.specs.Prelude.{◌&&◌, length, nat_lt, slice_get}
use Rattle.nr_rev.specs.Sides.{of_side}
use Rattle.nr_rev.specs.WellFormed.{socket_named}
use Rattle.nr_rev.specs.Semaphore.{Semaphore, released}
use Rattle.nr_rev.specs.Step.{is_idle}
use Rattle.nr_laws.proofs.LookupLemmas.{Ends-acquiring_of, Ends-alive, Ends-owing_of}
use Rattle.nr_rev.specs.Weight.{status_weight}
use Rattle.nr_rev.proofs.OutcomeLemmas.{same_parts}
use Rattle.nr_gsema.specs.declared.apply.TheConstants.{MOST_WORDS}
use Rattle.nr_gsema.specs.declared.operation.GOperation.{GOperation}
use Rattle.nr_gsema.specs.declared.operation.GOperation.TheVariants as operation
use Rattle.nr_gsema.specs.declared.delta.GDelta.{GDelta}
use Rattle.nr_gsema.specs.Applying.{IsQueuedUp}
use Rattle.nr_gsema.specs.Delta.{LeadsBack, weight_allowed}
use Rattle.nr_gsema.specs.Step.{Outcome, StepTo, is_movable, names_within, outcome, refusal_of, same_status, side_owed, table_reason}
use Rattle.nr_gsema.specs.Table.{GoroutineTable}

-- an operation with a reason for refusal doesn't apply
pub refused_has_no_step : (old : GoroutineTable) (op : GOperation) (e : Refusal) (answer : Answer)
    (new : GoroutineTable)
    → table_reason old op ≡ Some e → StepTo old op answer new → ⊥
refused_has_no_step old op e answer new reason is =
    absurd (let none : Some e ≡ None = sym reason ∙ ap refusal_of is in cc)

-- an operation has exactly one outcome
pub steps_unique : (old : GoroutineTable) (op : GOperation) (a b : Answer)
    (new other : GoroutineTable)
    → StepTo old op a new → StepTo old op b other → (a ≡ b) × (new ≡ other)
steps_unique old op a b new other p q = same_parts a b new other (sym p ∙ q)

-- a delta and the new table determine the old table
pub LeadsBack-unique : (delta : GDelta) (new a b : GoroutineTable) → LeadsBack delta new a
    → LeadsBack delta new b → a ≡ b
LeadsBack-unique delta new a b p q = p.1 ∙ sym q.1

-- a status has at most four words
status_is_short : (status : Status) → 2 + status_weight status ≤ MOST_WORDS
status_is_short Idle = lit≤ tt
status_is_short (Acquiring s side) = lit≤ tt
status_is_short (Queued s side) = lit≤ tt
status_is_short (Relock s side) = lit≤ tt
status_is_short (Owing s reads writes) = lit≤ tt
status_is_short (Entering d side) = lit≤ tt
status_is_short (Armed d side) = lit≤ tt
status_is_short (Parking d side) = lit≤ tt
status_is_short (Parked d side) = lit≤ tt
status_is_short (Swapping d side) = lit≤ tt
status_is_short (Checking d side) = lit≤ tt
status_is_short Gone = lit≤ tt

-- the allowance of each operation is at most `MOST_WORDS`
pub weight_is_within : (op : GOperation) → weight_allowed op ≤ MOST_WORDS
weight_is_within operation.Spawn = lit≤ tt
weight_is_within (operation.Exit g) = lit≤ tt
weight_is_within (operation.Move g from to) = status_is_short from
weight_is_within (operation.Acquire g) = lit≤ tt
weight_is_within (operation.Release g) = lit≤ tt

-- no release and no operation is refused for lack of memory
ends_released : (semaphore : Semaphore) → Ends (λ _. Unit {0}) (released semaphore)
ends_released semaphore =
    Ends-then (Ends-refused_unless (nat_lt semaphore.count (2 ^ 32 - 1)) Refusal.FieldOverflow refl)
    λ _. Ends-ok tt

ends_outcome : (t : GoroutineTable) (op : GOperation) → Ends (λ _. Unit {0}) (outcome t op)
ends_outcome t operation.Spawn =
    Ends-then (Ends-refused_unless (nat_lt (length t.goroutines) t.limit) Refusal.TableFull refl)
    λ _. Ends-ok tt
ends_outcome t (operation.Exit g) =
    Ends-bind (Ends-alive (slice_get t.goroutines g)) λ status _.
    Ends-then (Ends-refused_unless (is_idle status) Refusal.NotThere refl) λ _.
    Ends-ok tt
ends_outcome t (operation.Move g from to) =
    Ends-bind (Ends-alive (slice_get t.goroutines g)) λ status _.
    Ends-then (Ends-refused_unless (same_status status from && (is_movable from && is_movable to))
    Refusal.NotThere refl) λ _.
    Ends-then (Ends-refused_unless (names_within (length t.semaphores) (socket_named to))
    Refusal.NoSuchSocket refl) λ _.
    Ends-ok tt
ends_outcome t (operation.Acquire g) =
    Ends-bind (Ends-alive (slice_get t.goroutines g)) λ status _.
    Ends-bind (Ends-acquiring_of status) λ place _.
    Ends-bind (Ends-found_or (slice_get t.semaphores place.0) Refusal.NoSuchSocket refl) λ both _.
    Ends-ok tt
ends_outcome t (operation.Release g) =
    Ends-bind (Ends-alive (slice_get t.goroutines g)) λ status _.
    Ends-bind (Ends-owing_of status) λ debt _.
    Ends-bind (Ends-found_or (slice_get t.semaphores debt.0) Refusal.NoSuchSocket refl) λ both _.
    Ends-bind (ends_released (of_side (side_owed debt.1) both)) λ left _.
    Ends-ok tt

-- an outcome that contains the refusal e is `Err e`
refused_for : (o : Outcome) (e : Refusal) → refusal_of o ≡ Some e → ◌≡◌ {A = Outcome} o (Err e)
refused_for (Ok left) e is = cc
refused_for (Err reason) e is = cc

-- an operation is never refused for lack of memory
pub memory_is_no_reason : (t : GoroutineTable) (op : GOperation) → IsQueuedUp t
    → table_reason t op ≡ Some out_of_memory → ⊥
memory_is_no_reason t op h is =
    true≢false ((ends_outcome t op).given out_of_memory (refused_for (outcome t op) _ is))
