-- The result of a session that several users share.
use Rattle.std.specs.Prelude.{◌≡◌, ◌⊎◌, ℕ, zero, suc, Bool, List, [], ◌∷◌, ◌++◌, length, map, Option, IfSome}
use Rattle.std.specs.List.{All, Contains, list_any}
use Rattle.atomic_table.specs.Seated.{TableId}
use Rattle.nr_rev.specs.Run.{Recording}
use Rattle.nr_journal.specs.Rule.{journal_room, tag_of}
use Rattle.nr_journal.specs.declared.view.PassState.{PassState}
use Rattle.nr_front.specs.FrontState.{FrontState}
use Rattle.nr_serving.specs.Conversations.{FrontsLog, Passed}
use Rattle.nr_serving.specs.Fronts.{Course, has_failed, passed_in}
use Rattle.nr_serving.specs.Auxiliary.Fronts.{ServesCallers}
use Rattle.nr_serving.specs.Auxiliary.Session.{HasItsOwnWords, IsFresh, IsSeenBy}

-- the numbers below this one, in order
abbrev pub numbers_below : ℕ → List ℕ
numbers_below zero = []
numbers_below (suc n) = numbers_below n ++ n ∷ []

-- True if the word has the tag of one of these passes.
abbrev pub IsTheirs : List PassState → ℕ → Type 0
IsTheirs pass_states word = Contains (map (λ p. p.tag) pass_states) (tag_of word)

-- The history, given the final states of the passes: it has all words of each pass and no other
-- words, and one of the passes read it to its end. Without passes, the history is empty.
pub record IsHistory (room : ℕ) (pass_states : List PassState) (history : List ℕ) : Type 0 where
  pub own : All (HasItsOwnWords history) pass_states
  pub theirs : All (IsTheirs pass_states) history
  pub whole : ((pass_state : PassState) × Contains pass_states pass_state
      × IsSeenBy room history pass_state)
      ⊎ ((pass_states ≡ []) × (history ≡ []))

-- A front with this `Course` served its callers, starting from the state of a new front
-- (`IsFresh`).
pub record BeginsFresh (table : TableId) (r : Recording) (fronts depth workers : ℕ)
    (course : Course) : Type 0 where
  pub start : FrontState
  pub fresh : IsFresh table r fronts depth workers start
  pub serving : ServesCallers course.callers start course.last

-- the final state of the front's pass
abbrev pub last_pass_state : Course → PassState
last_pass_state course = course.last.pass_state

-- Fronts shared the session, each with a walker of this depth and this number of workers. Their
-- tags are their numbers, from 0. `history` has the words that were placed, or is `None` if memory
-- ran out while they were collected. `failed` says whether one of the fronts failed. `passed` has
-- the logs of the fronts.
pub record IsShared (r : Recording) (room fronts depth workers : ℕ) (passed : List Passed)
    (history : Option (List ℕ)) (failed : Bool) : Type 0 where
  pub table : TableId
  pub room_is : journal_room table ≡ room
  pub courses : List Course
  pub counted : length courses ≡ fronts
  pub served : All (BeginsFresh table r fronts depth workers) courses
  pub tags : map (λ course. course.last.pass_state.tag) courses ≡ numbers_below fronts
  pub one_history : IfSome history (IsHistory room (map last_pass_state courses))
  pub reported : failed ≡ list_any has_failed courses
  pub passed_is : passed ≡ map passed_in courses

-- True if the ports of this number of fronts were opened, once each and in the order of their
-- numbers; all of these fronts then ended, with these logs; and nothing else was logged.
abbrev pub Opens : ℕ → List Passed → FrontsLog → FrontsLog → Type 0
Opens fronts passed old new =
    new ≡ record {
      opened = old.opened ++ numbers_below fronts;
      ended = old.ended ++ passed;
    }
