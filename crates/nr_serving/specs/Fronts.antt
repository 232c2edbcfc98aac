-- The course of a front, from its opening to its end.
use Rattle.std.specs.Prelude.{Bool, ◌||◌, List, [], ◌∷◌, ◌++◌, map, is_err, if◌then◌else◌}
use Rattle.std.specs.List.{list_any}
use Rattle.nr_front.specs.FrontState.{FrontState}
use Rattle.nr_serving.specs.Conversations.{Conversation, Passed}
use Rattle.nr_serving.specs.declared.conversations.Arrival.{Arrival}
use Rattle.nr_serving.specs.declared.conversations.Arrival.TheVariants as arrivals

-- one arrival of a caller for each conversation
abbrev pub came : List Conversation → List Arrival
came callers = map (λ c. arrivals.Came) callers

-- true if serving the caller ended with a failure
abbrev pub is_failure : Conversation → Bool
is_failure c = is_err c.ending

-- The course of a front: its conversation with each caller, whether waiting for a caller failed,
-- and the final state of the front.
pub record Course : Type 0 where
  pub callers : List Conversation
  pub cut_off : Bool
  pub last : FrontState

-- true if waiting for a caller failed, or serving one of the callers failed
abbrev pub has_failed : Course → Bool
has_failed course = course.cut_off || list_any is_failure course.callers

-- The log of a front with this `Course`. The callers that came were served one after another. The
-- last arrival says that no further caller came, or that waiting for a caller failed.
abbrev pub passed_in : Course → Passed
passed_in course = record {
  arrivals =
      came course.callers
      ++ (if course.cut_off then arrivals.Failed else arrivals.Ended) ∷ [];
  callers = course.callers;
}
