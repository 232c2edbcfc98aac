-- Outboxes, which write replies.
use Rattle.std.specs.Prelude.{◌≡◌, ℕ, Bool, true, false, List, [], Result}
use Rattle.nr_text.specs.Streams.{Outgoing}
use Rattle.nr_text.specs.declared.sink.Part.{Part}
use Rattle.nr_lines.specs.Page.{PrintsBehind}
use Rattle.nr_lines.specs.declared.outbox.Outbox.{Outbox}
use Rattle.nr_lines.specs.declared.outbox.Outbox.TheVariants.{AtOnce, Held}

-- the held bytes
abbrev pub held_bytes : Outbox → List ℕ
held_bytes AtOnce = []
held_bytes (Held page) = page

-- true if each reply is written immediately
abbrev pub is_at_once : Outbox → Bool
is_at_once AtOnce = true
is_at_once (Held page) = false

-- An outbox printed a text, or a write failed while it was printed.
pub record Delivers (old : Outgoing) (before : Outbox) (new : Outgoing) (after : Outbox)
    (text : List ℕ) (result : Result (Unit {0}) Part) : Type 0 where
  pub prints : PrintsBehind old (held_bytes before) new (held_bytes after) text result
  pub kind : is_at_once after ≡ is_at_once before
