-- The effects of a front's private methods.
use Rattle.std.specs.Prelude.{◌≡◌, ◌≢◌, ℕ, ◌<◌, ◌⊎◌, Bool, true, false, length, Option, Some, None, Result, Ok, Err}
use Rattle.nr_journal.specs.Rule.{IsOthers, StartsWith, journal_room}
use Rattle.nr_journal.specs.Auxiliary.Rule.{looked, having_seen}
use Rattle.nr_journal.specs.declared.pass.Offered.{Offered}
use Rattle.nr_journal.specs.declared.pass.Offered.TheVariants as offered
use Rattle.nr_command.specs.Word.{word_of}
use Rattle.nr_command.specs.declared.command.Command.{Command}
use Rattle.nr_front.specs.FrontState.{FrontState}
use Rattle.nr_front.specs.Auxiliary.FrontState.{owed_command}
use Rattle.nr_front.specs.Front.{FindsFull, IsRefusedMemory, IsUnmoved, PlacesCommand}
use Rattle.nr_front.specs.declared.pending.Pending.{Pending}
use Rattle.nr_front.specs.declared.pending.Pending.TheVariants.{Nothing, Others, Own}
use Rattle.nr_front.specs.declared.fault.FrontFault.{FrontFault}
use Rattle.nr_front.specs.declared.fault.FrontFault.TheVariants.{Memory, Placed, Full}

-- what is pending after a word of another user: the word's command, if it has a command
abbrev pub pending_after : Option (ℕ × Command) → Pending
pending_after None = Nothing
pending_after (Some tagged) = Others tagged.1

-- the front read the next word, which is a word of another user, so the journal has more than one
-- pass
pub record SeesWord (word : ℕ) (old new : FrontState) : Type 0 where
  pub same : IsUnmoved old new
  pub pass_state : new.pass_state ≡ having_seen old.pass_state word
  pub others : IsOthers old.pass_state.tag word
  pub company : old.pass_state.passes ≢ 1
  pub room : length old.pass_state.seen < journal_room old.table
  pub unowed : owed_command new ≡ None

-- true if the pass found no further word, or the journal is full and all its words were read
abbrev pub FindsNone : FrontState → FrontState → Type 0
FindsNone old new =
    ((new.pass_state ≡ looked old.pass_state)
    × StartsWith old.pass_state.seen old.pass_state.learned)
    ⊎ ((new.pass_state ≡ old.pass_state) × (length old.pass_state.seen ≡ journal_room old.table))

-- if `true`, the front read the next word; if `false`, it found no further word
abbrev pub Sees : FrontState → FrontState → Bool → Type 0
Sees old new true = (word : ℕ) × SeesWord word old new
Sees old new false = IsUnmoved old new × (new.pending ≡ Nothing) × FindsNone old new

-- true if the offer had this effect: the command's word was placed and the command is pending; or
-- another user's word took its place; or the journal is full and all its words were read
abbrev pub OffersCommand : Command → FrontState → FrontState → Offered → Type 0
OffersCommand command old new offered.Placed =
    IsUnmoved old new × (new.pass_state ≡ having_seen old.pass_state
    (word_of old.pass_state.tag command))
    × (new.pending ≡ Own command) × (length old.pass_state.seen < journal_room old.table)
OffersCommand command old new (offered.Lost word) = SeesWord word old new
OffersCommand command old new offered.Full =
    IsUnmoved old new × (new.pass_state ≡ old.pass_state) × (new.pending ≡ Nothing)
    × (length old.pass_state.seen ≡ journal_room old.table)

-- true if the front has read all words that its pass has learned of, or all words of a full journal
abbrev pub HasSeenAll : FrontState → Type 0
HasSeenAll front_state = StartsWith front_state.pass_state.seen front_state.pass_state.learned
    ⊎ (length front_state.pass_state.seen ≡ journal_room front_state.table)

-- true if offering a command until it is placed may have this effect: the command was placed and is
-- pending, or another user's command ran out of memory, or the journal is full
abbrev pub Placing : Command → FrontState → FrontState → Result (Unit {0}) FrontFault → Type 0
Placing command old new (Ok _) = PlacesCommand command old new × (new.pending ≡ Own command)
Placing command old new (Err (Memory refused)) = IsRefusedMemory old new
Placing command old new (Err (Placed place)) = ⊥
Placing command old new (Err Full) = FindsFull old new
