-- `WaitWordsFit` and `QueuesFit` depend on statuses only through `parked_of`, `awaiting_of` and `is_queued`.
use Rattle.std.proofs.Common.{◌≡◌, ℕ, ◌≤◌, List, length, Option, sym, ap, ◌∙◌}
use Rattle.std.specs.List.{slice_get}
use Rattle.std.specs.Option.{option_and_then}
use Rattle.nr_rev.specs.declared.sides.Side.{Side}
use Rattle.nr_rev.specs.declared.status.Status.{Status}
use Rattle.nr_rev.specs.Socket.{Socket}
use Rattle.nr_rev.specs.declared.descriptor.DescriptorRow.{DescriptorRow}
use Rattle.nr_rev.specs.Lock.{bit}
use Rattle.nr_rev.specs.World.{World}
use Rattle.nr_rev.specs.WellFormed.{WellFormed, GoroutinesFit, WaitWordsFit, QueuesFit, parked_of, awaiting_of, is_queued}

-- each goroutine has the same view in both lists
abbrev pub SameView : {B : Type 0} → (Option Status → B) → List Status → List Status → Type 0
SameView f old new = (g : ℕ) → f (slice_get new g) ≡ f (slice_get old g)

pub WaitWordsFit-same : (old new : List Status) (rows : List DescriptorRow) (waiters : ℕ) → SameView (option_and_then parked_of) old new → SameView (option_and_then awaiting_of) old new
    → WaitWordsFit old rows waiters → WaitWordsFit new rows waiters
WaitWordsFit-same old new rows waiters parked awaiting h =
    record {
      held = λ g d side. (λ word. parked g ∙ (h.held g d side).0 word, λ p. (h.held g d side).1 (sym (parked g) ∙ p));
      waited = λ d side word. let w = h.waited d side word in (w.0, awaiting w.0 ∙ w.1);
      counted = h.counted;
    }

pub QueuesFit-same : (old new : List Status) (sockets : List Socket) → ((s : ℕ) (side : Side) → SameView (is_queued s side) old new) → QueuesFit old sockets → QueuesFit new sockets
QueuesFit-same old new sockets same h =
    record { queued = λ g s side socket at. h.queued g s side socket at ∙ sym (ap bit (same s side g)) }

-- statuses change, but `parked_of`, `awaiting_of` and `is_queued` have the same values as before
pub unseen_set_keeps : (w : World) (gs : List Status) → WellFormed w → GoroutinesFit gs w.sockets w.descriptors w.free → SameView (option_and_then parked_of) w.goroutines gs
    → SameView (option_and_then awaiting_of) w.goroutines gs → ((s : ℕ) (side : Side) → SameView (is_queued s side) w.goroutines gs) → length gs ≤ w.limits.goroutines
    → WellFormed (record w { goroutines = gs })
unseen_set_keeps w gs h goroutines parked awaits queued limited =
    record {
      goroutines = goroutines;
      words = WaitWordsFit-same w.goroutines gs w.descriptors w.waiters parked awaits h.words;
      queues = QueuesFit-same w.goroutines gs w.sockets queued h.queues;
      timers = h.timers;
      free = h.free;
      sockets = h.sockets;
      goroutines_limited = limited;
      sockets_limited = h.sockets_limited;
      descriptors_limited = h.descriptors_limited;
      firings_limited = h.firings_limited;
      clock = h.clock;
    }
