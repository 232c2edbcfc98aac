-- The result of applying a step, and where its undo is stored.
use Rattle.std.specs.Prelude.{◌≡◌, ℕ, ◌+◌, ◌/◌, ◌≤◌, Bool, true, List, drop, length, take, slice_get, IfSome, Result, Ok, Err}
use Rattle.nr_rev.specs.declared.answer.Answer.{Answer}
use Rattle.nr_rev.specs.declared.refusal.Refusal.{Refusal}
use Rattle.nr_rev.specs.declared.sides.Side.{Side}
use Rattle.nr_rev.specs.declared.step.Step.{Step}
use Rattle.nr_rev.specs.Auxiliary.Reversible.{IfKept}
use Rattle.nr_rev.specs.Reversible.{Refuses}
use Rattle.nr_rev.specs.Sides.{of_side}
use Rattle.nr_rev.specs.Socket.{Socket}
use Rattle.nr_rev.specs.Step.{outcome}
use Rattle.nr_rev.specs.World.{World}
use Rattle.nr_rev.specs.Worlds.{LosesBytes, bytes_left}
use Rattle.nr_plain.specs.declared.delta.PlainDelta.{PlainDelta}
use Rattle.nr_plain.specs.declared.delta.TheConstants.{MOST_WORDS}
use Rattle.nr_plain.specs.Delta.{PlainBack, delta_weight}
use Rattle.nr_plain.specs.Edit.{with_changed}
use Rattle.nr_plain.specs.Plan.{world_reason}
use Rattle.nr_plain.specs.SocketEdit.{on_bytes}

-- the world after this many bytes leave the front of a buffer of socket s
abbrev pub after_taking : ℕ → Side → ℕ → World → World
after_taking s side count w =
    record w { sockets = with_changed s (on_bytes side (λ held. drop count held)) w.sockets }

-- true if these bytes are the first `count` bytes of a buffer of socket s
abbrev pub IsFrontOf : ℕ → Side → ℕ → World → List ℕ → Type 0
IsFrontOf s side count w bytes =
    (length bytes ≡ count) × IfSome (slice_get w.sockets s)
    (λ (socket : Socket). bytes ≡ take count (of_side side socket.buffers).bytes)

-- true if undoing the delta turns the new world into the old one, and the delta has at most this
-- many words
abbrev pub LeadsBackWithin : ℕ → World → World → PlainDelta → Type 0
LeadsBackWithin most new old delta = PlainBack delta new old × (delta_weight delta ≤ most)

-- True if the step is applied, and its undo is in the place if undos are kept. Also true if nothing
-- changes because the step is refused, or because memory for the bytes that it removes runs out.
abbrev pub Makes : {Place : Type 0} → Bool → (Place → PlainDelta → Type 0) → Place → Step → World
    → Result Answer Refusal → World → Type 0
Makes {Place} keeps holds place step old (Ok answer) new =
    (outcome old step ≡ Ok (answer, new)) × IfKept keeps holds place
    (LeadsBackWithin (MOST_WORDS + (bytes_left step answer + 7) / 8) new old)
Makes {Place} keeps holds place step old (Err reason) new =
    Refuses world_reason (λ w made. (keeps ≡ true) × LosesBytes w made) old step reason
    × (new ≡ old)
