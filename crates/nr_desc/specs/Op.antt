-- The outcome of an operation on a descriptor.
use Rattle.std.specs.Prelude.{ℕ, ◌&&◌, ◌||◌, ◌==◌, if◌then◌else◌, Option, Some, None, Result, Ok, Err}
use Rattle.nr_rev.specs.declared.answer.Answer.{Answer}
use Rattle.nr_rev.specs.declared.answer.Answer.TheVariants.{Code, Done, Stale, Yes, No}
use Rattle.nr_rev.specs.declared.descriptor.Descriptor.{Descriptor}
use Rattle.nr_rev.specs.declared.descriptor.WaitWord.{WaitWord}
use Rattle.nr_rev.specs.declared.descriptor.WaitWord.TheVariants.{Nil, Ready, Wait, Held}
use Rattle.nr_rev.specs.declared.refusal.Refusal.{Refusal}
use Rattle.nr_rev.specs.declared.refusal.Refusal.TheVariants.{CloseWithoutUnblock, DoubleWait, WaiterInside}
use Rattle.nr_rev.specs.declared.sides.Side.{Side}
use Rattle.nr_rev.specs.Descriptor.{Change, quiet, check, opened_for, closed, with_wait_word, change_by_deadline, change_by_evict, change_by_event, change_by_firing}
use Rattle.nr_rev.specs.Refusing.{◌>>=◌, ◌>>◌, refused_if, refused_unless}
use Rattle.nr_rev.specs.Sides.{of_side}
use Rattle.nr_desc.specs.Change.{listed}
use Rattle.nr_desc.specs.Code.{is_awaited}
use Rattle.nr_desc.specs.declared.op.DescAnswer.{DescAnswer}
use Rattle.nr_desc.specs.declared.op.DescOp.{DescOp}
use Rattle.nr_desc.specs.declared.op.DescOp.TheVariants as op

-- the answer and the change, or the first reason for a refusal
abbrev pub Outcome : Type 0
Outcome = Result (Answer × Change) Refusal

-- the outcome of opening the descriptor for a socket
abbrev pub opened : ℕ → Descriptor → Outcome
opened socket d = do
  left ← opened_for socket d
  Ok (Done, quiet left)

-- the descriptor after closing; refused if it wasn't evicted, or if its words show a waiter
abbrev pub closed_by_words : Descriptor → Result Descriptor Refusal
closed_by_words d = do
  refused_unless d.closing CloseWithoutUnblock
  refused_if (is_awaited d.words.read || is_awaited d.words.write) WaiterInside
  closed d

-- the outcome of closing the descriptor
abbrev pub close : Descriptor → Outcome
close d = do
  left ← closed_by_words d
  Ok (Done, quiet left)

-- the outcome of a reset, which prepares a side for the next wait: the answer is the check's code,
-- and the word becomes nil if the code is 0
abbrev pub reset : Side → Descriptor → Outcome
reset side d = do
  refused_if ((check side d == 0) && is_awaited (of_side side d.words)) WaiterInside
  Ok (Code (check side d), quiet (if check side d == 0 then with_wait_word side Nil d else d))

-- the outcome of arming a side that has this word: nil becomes wait, and ready is consumed
abbrev pub armed_by : Side → WaitWord → Descriptor → Outcome
armed_by side Nil d = Ok (Answer.Wait, quiet (with_wait_word side Wait d))
armed_by side Ready d = Ok (Code 0, quiet (with_wait_word side Nil d))
armed_by side _ d = Err DoubleWait

-- the result of committing goroutine g to its wait: if the side's word is still wait, it now holds
-- g
abbrev pub committed_by : Side → ℕ → WaitWord → Descriptor → Answer × Change
committed_by side g Wait d = (Yes, quiet (with_wait_word side (Held g) d))
committed_by side g _ d = (No, quiet d)

-- the result of ending a wait: the answer says whether the side's word was ready, and the word
-- becomes nil
abbrev pub swapped_by : Side → WaitWord → Descriptor → Answer × Change
swapped_by side Ready d = (Yes, quiet (with_wait_word side Nil d))
swapped_by side _ d = (No, quiet (with_wait_word side Nil d))

-- The outcome of a change. The answer is `Done`, unless the change is refused.
abbrev pub done : Result Change Refusal → Outcome
done changed = do
  change ← changed
  Ok (Done, change)

-- the result of a firing: a stale firing changes nothing
abbrev pub fired : Option Change → Descriptor → Answer × Change
fired None d = (Stale, quiet d)
fired (Some change) d = (Done, change)

-- the outcome of a firing that may be refused
abbrev pub fire_by : Result (Option Change) Refusal → Descriptor → Outcome
fire_by firing d = do
  change ← firing
  Ok (fired change d)

-- the outcome of each operation
abbrev pub outcome : Descriptor → DescOp → Outcome
outcome d (op.Open socket) = opened socket d
outcome d op.Close = close d
outcome d (op.Reset side) = reset side d
outcome d (op.Check side) = Ok (Code (check side d), quiet d)
outcome d (op.Arm side) = armed_by side (of_side side d.words) d
outcome d (op.Commit side g) = Ok (committed_by side g (of_side side d.words) d)
outcome d (op.Swap side) = Ok (swapped_by side (of_side side d.words) d)
outcome d (op.SetDeadline clock mode t) = done (change_by_deadline clock mode t d)
outcome d op.Evict = done (change_by_evict d)
outcome d (op.Fire function sequence) = fire_by (change_by_firing function sequence d) d
outcome d (op.Event tag mode error) =
    Ok (if tag == d.fdseq then (Done, change_by_event mode error d) else (Stale, quiet d))

-- the result with this answer and this descriptor
abbrev pub left : DescAnswer → Descriptor → Answer × Change
left answer d =
    (answer.answer, record { descriptor = d; orders = answer.orders; woken = listed answer.woken })
