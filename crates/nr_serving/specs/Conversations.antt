-- Conversations between fronts and their callers.
use Rattle.std.specs.Prelude.{ℕ, List, Result}
use Rattle.nr_text.specs.Streams.{Incoming, Outgoing}
use Rattle.nr_lines.specs.declared.ending.End.{End}
use Rattle.nr_lines.specs.declared.ending.LineEnd.{LineEnd}
use Rattle.nr_serving.specs.declared.conversations.Arrival.{Arrival}

-- A conversation between a front and a caller: what was received from the caller, what was sent,
-- and the result of serving it.
pub record Conversation : Type 0 where
  pub input : Incoming
  pub output : Outgoing
  pub ending : Result End LineEnd

-- The log of a front and its callers: the results of the waits, and the conversation with each
-- caller, in order.
pub record Passed : Type 0 where
  pub arrivals : List Arrival
  pub callers : List Conversation

-- The log of the fronts of a session: the numbers of the fronts whose ports were opened, and the
-- log of each front that has ended, in order.
pub record FrontsLog : Type 0 where
  pub opened : List ℕ
  pub ended : List Passed
