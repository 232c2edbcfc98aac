-- The removal of a key's entry, if it has one, and the undo of the removal.
use Rattle.std.specs.Prelude.{◌≡◌, ℕ, ◌<◌, List, length, Option, Some, None}
use Rattle.nr_rev.specs.declared.timer.Entry.{Entry}
use Rattle.nr_timers.specs.declared.heap.Gone.{Gone}
use Rattle.nr_timers.specs.declared.delta.TimersUndo.{TimersUndo}
use Rattle.nr_timers.specs.declared.delta.TimersUndo.TheVariants.{Armed, Rearmed, Stopped, Still}
use Rattle.nr_timers.specs.Order.{at}
use Rattle.nr_timers.specs.Change.{Removed}
use Rattle.nr_timers.specs.Auxiliary.Change.{RemovedBack}
use Rattle.nr_timers.specs.Index.{key, Absent}

-- true if the removed entry was the entry of the key
pub record Takes (k : ℕ) (gone : Gone) (old new : List Entry) : Type 0 where
  pub within : gone.place < length old
  pub key : key (at old gone.place) ≡ k
  pub entry : gone.entry ≡ at old gone.place
  pub removed : Removed old gone.place gone.last new

-- true if the entry of the key was removed, or the key had none
abbrev pub Cleared : ℕ → Option Gone → List Entry → List Entry → Type 0
Cleared k None old new = (new ≡ old) × Absent k old
Cleared k (Some gone) old new = Takes k gone old new

-- true if this undoes the removal of the key's entry, if one was removed
abbrev pub ClearedBack : Option Gone → List Entry → List Entry → Type 0
ClearedBack None new old = old ≡ new
ClearedBack (Some gone) new old = RemovedBack gone.place gone.last gone.entry new old

-- The undo of an operation that armed a timer. The operation removed the old entry with the timer's
-- key, if any, and put the new entry at place `to`.
abbrev pub armed_undo : ℕ → Option Gone → TimersUndo
armed_undo to None = Armed to
armed_undo to (Some gone) = Rearmed to gone.place gone.last gone.entry.timer

-- The undo of an operation that stopped a timer. The operation removed the entry with the timer's
-- key, if any.
abbrev pub stopped_undo : Option Gone → TimersUndo
stopped_undo None = Still
stopped_undo (Some gone) = Stopped gone.place gone.last gone.entry
