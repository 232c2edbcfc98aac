-- Helper definitions for `Fronts`. The laws in THEOREM.md don't use them.
use Rattle.std.specs.Prelude.{◌≡◌, ℕ, List, [], ◌∷◌, ◌++◌, Option}
use Rattle.atomic_table.specs.Seated.{TableId}
use Rattle.nr_text.specs.Auxiliary.Streams.{unread, unwritten}
use Rattle.nr_front.specs.FrontState.{FrontState}
use Rattle.nr_front.specs.Auxiliary.FrontState.{pass_of}
use Rattle.nr_lines.specs.Auxiliary.Engine.{AnswersLines, is_read_failure, is_write_failure}
use Rattle.nr_serving.specs.Conversations.{Conversation, Passed}
use Rattle.nr_serving.specs.declared.connection.Next.{Next}
use Rattle.nr_serving.specs.declared.connection.Next.TheVariants as nexts
use Rattle.nr_serving.specs.declared.fronts.Done.{Done}
use Rattle.nr_serving.specs.declared.conversations.Arrival.{Arrival}
use Rattle.nr_serving.specs.declared.conversations.Arrival.TheVariants as arrivals
use Rattle.nr_serving.specs.Fronts.{Course, has_failed, passed_in}

-- A front in state d served a caller, with a new reader and writer, and is in state d' now. The
-- bytes that were sent answer the lines that were received, up to the point that the result
-- reports. The result reports a failure if and only if a read or a write failed.
pub record ServesCaller (c : Conversation) (d d' : FrontState) : Type 0 where
  pub remaining : Option (List ℕ)
  pub contents : Option (List ℕ)
  pub serves :
      AnswersLines (unread remaining) c.input (unwritten contents) c.output d d' c.ending
  pub read_failed : c.input.failed ≡ is_read_failure c.ending
  pub write_failed : c.output.failed ≡ is_write_failure c.ending

-- True if the front served the callers one after the other, with these conversations, and kept its
-- state from one caller to the next.
abbrev pub ServesCallers : List Conversation → FrontState → FrontState → Type 0
ServesCallers [] d d' = d' ≡ d
ServesCallers (c ∷ callers) d d' =
    (mid : FrontState) × ServesCaller c d mid × ServesCallers callers mid d'

-- the result of waiting for a caller
abbrev pub arrival_of : {I O : Type 0} → Next I O → Arrival
arrival_of (nexts.Serve reader writer) = arrivals.Came
arrival_of nexts.Ended = arrivals.Ended
arrival_of nexts.Failed = arrivals.Failed

-- the log before any caller has come
abbrev pub none_passed : Passed
none_passed = record { arrivals = []; callers = [] }

-- True if the front uses this journal and its log is empty, because no caller has come yet.
abbrev pub IsReady : TableId → FrontState × Passed → Type 0
IsReady table f = (f.0.table ≡ table) × (f.1 ≡ none_passed)

-- This front was served with this result. The log has the front's conversations, as the callers'
-- streams recorded them. The result reports a failure if and only if there was a failure.
pub record IsServed (start : FrontState) (done : Done) (passed : Passed) : Type 0 where
  pub course : Course
  pub passed_is : passed ≡ passed_in course
  pub serving : ServesCallers course.callers start course.last
  pub failed : done.failed ≡ has_failed course
  pub pass : done.pass ≡ pass_of course.last
  pub same : course.last.table ≡ start.table

-- True if these fronts were served with these results and logs.
abbrev pub AreServed : List FrontState → List (Done × Passed) → Type 0
AreServed [] [] = Unit {0}
AreServed (start ∷ starts) (one ∷ ones) = IsServed start one.0 one.1 × AreServed starts ones
AreServed [] (one ∷ ones) = ⊥
AreServed (start ∷ starts) [] = ⊥

-- True if these fronts were served, and their results were appended to the earlier results.
abbrev pub Adds : List FrontState → List (Done × Passed) → List (Done × Passed) → Type 0
Adds starts old new = (more : List (Done × Passed)) × (new ≡ old ++ more) × AreServed starts more
