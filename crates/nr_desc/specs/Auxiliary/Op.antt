-- Helper definitions for `Op`. The laws in THEOREM.md don't use them.
use Rattle.std.specs.Prelude.{◌≡◌, ℕ, Option, Some, None, Result, Ok, Err, IfOk}
use Rattle.nr_rev.specs.declared.descriptor.Descriptor.{Descriptor}
use Rattle.nr_rev.specs.declared.refusal.Refusal.{Refusal}
use Rattle.nr_rev.specs.Auxiliary.Refusing.{Gives}
use Rattle.nr_rev.specs.Sides.{twice}
use Rattle.nr_rev.specs.declared.sides.Sides.{Sides}
use Rattle.nr_desc.specs.Auxiliary.Change.{both_let_go, made_view}
use Rattle.nr_desc.specs.declared.op.DescAnswer.{DescAnswer}
use Rattle.nr_desc.specs.declared.op.DescOp.{DescOp}
use Rattle.nr_desc.specs.declared.op.DescOp.TheVariants as op
use Rattle.nr_desc.specs.declared.reversible.Made.{Made}
use Rattle.nr_desc.specs.Op.{Outcome, left, outcome}

-- The goroutine that the operation wakes at each side: the one that the wait word held before the
-- operation and no longer holds. An operation that unblocks no word wakes no goroutine.
abbrev pub woken_by : DescOp → Descriptor → Descriptor → Sides (Option ℕ)
woken_by (op.SetDeadline clock mode t) old new = both_let_go old.words new.words
woken_by op.Evict old new = both_let_go old.words new.words
woken_by (op.Fire function sequence) old new = both_let_go old.words new.words
woken_by (op.Event tag mode error) old new = both_let_go old.words new.words
woken_by _ old new = twice None

-- True if the result is the operation's outcome: an answer and a change, or the reason for a
-- refusal. If the operation applies, the change wakes the goroutines that the operation unblocks.
abbrev pub ComesTo : DescOp → Descriptor → Result Made Refusal → Type 0
ComesTo op old result =
    Gives made_view result (outcome old op)
    × IfOk result (λ made. made.change.woken ≡ woken_by op old made.change.desc)

-- true if the operation applies, with this answer and this resulting descriptor
pub record StepTo (old : Descriptor) (op : DescOp) (answer : DescAnswer) (new : Descriptor) : Type 0
  where
    pub defined : outcome old op ≡ Ok (left answer new)
    pub woken : answer.woken ≡ woken_by op old new

-- the reason for a refusal, if the outcome is one
abbrev pub refusal_of : Outcome → Option Refusal
refusal_of (Ok left) = None
refusal_of (Err reason) = Some reason

-- the reason why an operation is refused, if it is
abbrev pub desc_reason : Descriptor → DescOp → Option Refusal
desc_reason d op = refusal_of (outcome d op)
