-- Logged callers.
use Rattle.std.specs.Prelude.{◌≡◌, ℕ, List, [], ◌∷◌, ◌++◌, Option}
use Rattle.nr_text.specs.Streams.{Incoming, Outgoing}
use Rattle.nr_text.specs.Auxiliary.Streams.{unread, unwritten}
use Rattle.nr_front.specs.FrontState.{FrontState}
use Rattle.nr_serving.specs.Conversations.{Conversation, Passed}
use Rattle.nr_serving.specs.Auxiliary.Fronts.{ServesCaller}
use Rattle.nr_serving.specs.declared.connection.Next.{Next}
use Rattle.nr_serving.specs.declared.connection.Next.TheVariants as nexts
use Rattle.nr_serving.specs.declared.conversations.Arrival.{Arrival}
use Rattle.nr_serving.specs.declared.conversations.Arrival.TheVariants as arrivals
use Rattle.nr_serving.specs.declared.logged.Came.{Came}
use Rattle.nr_serving.specs.declared.logged.Came.TheVariants as came

-- the log with the result of another wait
abbrev pub with_arrival : Arrival → Passed → Passed
with_arrival arrival p = record p { arrivals = p.arrivals ++ arrival ∷ [] }

-- the log with another conversation
abbrev pub with_conversation : Conversation → Passed → Passed
with_conversation c p = record p { callers = p.callers ++ c ∷ [] }

-- True if nothing was received from the caller and nothing was sent to it, or if no caller came.
abbrev pub IsNewCaller : Next Incoming Outgoing → Type 0
IsNewCaller (nexts.Serve input output) =
    (known : Option (List ℕ)) × (held : Option (List ℕ)) × (input ≡ unread known)
    × (output ≡ unwritten held)
IsNewCaller nexts.Ended = Unit {0}
IsNewCaller nexts.Failed = Unit {0}

-- The effect of one wait: the front served another caller, or no caller came.
abbrev pub WaitsOnce : Passed → Passed → FrontState → FrontState → Came → Type 0
WaitsOnce old new d d' (came.Served ending) =
    (c : Conversation) × (new ≡ with_conversation c (with_arrival arrivals.Came old))
    × (c.ending ≡ ending) × ServesCaller c d d'
WaitsOnce old new d d' came.Ended = (new ≡ with_arrival arrivals.Ended old) × (d' ≡ d)
WaitsOnce old new d d' came.Failed = (new ≡ with_arrival arrivals.Failed old) × (d' ≡ d)
