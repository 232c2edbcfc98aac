-- Bytes that are sent and received in two parts.
use Rattle.std.proofs.Common.{ℕ, List, [], ◌++◌, refl, sym, ap, ◌∙◌, append-nil, append_assoc, Option, None, Some}
use Rattle.std.proofs.KnownBytes.{Appends-trans, Consumes-trans}
use Rattle.std.specs.Io.KnownBytes.{Appends, Consumes}
use Rattle.nr_text.specs.Streams.{Incoming, Outgoing, Receives, Sends}

appends_none : (known : Option (List ℕ)) → Appends known known []
appends_none None = tt
appends_none (Some xs) = sym (append-nil xs)

-- nothing was sent
pub sends_none : (at : Outgoing) → Sends at at []
sends_none at = record { sent = sym (append-nil at.sent); appended = appends_none at.contents }

-- two sends in a row send the bytes of both
pub sends_then : (a b c : Outgoing) (one two : List ℕ) → Sends a b one → Sends b c two → Sends a c (one ++ two)
sends_then a b c one two first then = record {
  sent = then.sent ∙ ap (λ s. s ++ two) first.sent ∙ append_assoc a.sent one two;
  appended = Appends-trans a.contents b.contents c.contents one two first.appended then.appended;
}

consumes_none : (known : Option (List ℕ)) → Consumes known known []
consumes_none None = tt
consumes_none (Some xs) = refl

-- nothing was received
pub receives_none : (at : Incoming) → Receives at at []
receives_none at = record { received = sym (append-nil at.received); consumed = consumes_none at.remaining }

-- two receives in a row receive the bytes of the first and then those of the second
pub receives_then : (a b c : Incoming) (one two : List ℕ) → Receives a b one → Receives b c two → Receives a c (one ++ two)
receives_then a b c one two first then = record {
  received = then.received ∙ ap (λ s. s ++ two) first.received ∙ append_assoc a.received one two;
  consumed = Consumes-trans a.remaining b.remaining c.remaining one two first.consumed then.consumed;
}
