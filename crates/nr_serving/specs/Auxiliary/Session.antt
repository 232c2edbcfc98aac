-- Helper definitions for `Session`. The laws in THEOREM.md don't use them.
use Rattle.std.specs.Prelude.{◌≡◌, ℕ, Bool, List, Option, Some, None, Result, Ok, Err}
use Rattle.std.specs.List.{list_any}
use Rattle.std.specs.Global.{Vec}
use Rattle.nr_rev.specs.declared.memory.Memory.{Memory}
use Rattle.atomic_table.specs.Seated.{TableId}
use Rattle.nr_rev.specs.Run.{Recording}
use Rattle.nr_journal.specs.Pass.{CatchesUp, SeesOthers}
use Rattle.nr_journal.specs.Rule.{Covers}
use Rattle.nr_journal.specs.Auxiliary.Rule.{entering}
use Rattle.nr_journal.specs.declared.view.PassState.{PassState}
use Rattle.nr_front.specs.FrontState.{FrontState}
use Rattle.nr_front.specs.Auxiliary.FrontState.{opened_front}
use Rattle.nr_front.specs.Auxiliary.Replica.{at_start}
use Rattle.nr_serving.specs.declared.fronts.Done.{Done}

-- True if the front is new. It uses this recording, this journal with this number of fronts, and
-- this number of workers. It has read no word. Its walker has this depth and hasn't moved.
abbrev pub IsFresh : TableId → Recording → ℕ → ℕ → ℕ → FrontState → Type 0
IsFresh table r fronts depth workers front_state =
    (tag : ℕ) × (every : ℕ)
    × (front_state ≡ opened_front (record { table = table; pass_state = entering fronts tag }) r
    workers (at_start every depth))

-- true if one of the fronts failed
abbrev pub any_failed : List Done → Bool
any_failed done = list_any (λ d. d.failed) done

-- the words, or `None` if memory ran out while they were collected
abbrev pub words_of : Result (Vec ℕ) Memory → Option (List ℕ)
words_of (Ok words) = Some words.items
words_of (Err fault) = None

-- True if the history begins with what this pass has read and contains all of the pass's own words.
abbrev pub HasItsOwnWords : List ℕ → PassState → Type 0
HasItsOwnWords history pass_state = Covers history pass_state.tag pass_state.seen

-- The pass read words of other passes until it found no further word or had read a full journal.
-- The history is what the pass had read by then.
pub record IsSeenBy (room : ℕ) (history : List ℕ) (pass_state : PassState) : Type 0 where
  pub before : PassState
  pub after : PassState
  pub others : Covers before.seen pass_state.tag pass_state.seen
  pub tag : before.tag ≡ pass_state.tag
  pub sees_others : SeesOthers before after
  pub caught_up : CatchesUp room before after
  pub is : history ≡ after.seen
