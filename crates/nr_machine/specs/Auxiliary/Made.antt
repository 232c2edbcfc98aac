-- Helper definitions for `Made`. The laws in THEOREM.md don't use them.
use Rattle.std.specs.Prelude.{◌≡◌, ℕ, ◌+◌, ◌/◌, ◌≤◌, Bool, true, List, Result, Ok, Err}
use Rattle.nr_rev.specs.declared.answer.Answer.{Answer}
use Rattle.nr_rev.specs.declared.refusal.Refusal.{Refusal}
use Rattle.nr_rev.specs.declared.step.Step.{Step}
use Rattle.nr_rev.specs.Reversible.{Refuses}
use Rattle.nr_rev.specs.Auxiliary.Reversible.{IfKept}
use Rattle.nr_rev.specs.Step.{Outcome, outcome}
use Rattle.nr_rev.specs.Worlds.{bytes_left}
use Rattle.nr_timers.specs.declared.op.TimersOp.{TimersOp}
use Rattle.nr_machine.specs.declared.delta.TheConstants.{MOST_WORDS}
use Rattle.nr_machine.specs.declared.delta.WorldUndo.{WorldUndo}
use Rattle.nr_machine.specs.Asked.{TimersMade, asked_of}
use Rattle.nr_machine.specs.Delta.{UndoBack, undo_weight}
use Rattle.nr_machine.specs.Fits.{PartsFit}
use Rattle.nr_machine.specs.World.{WorldParts, meant}
use Rattle.nr_machine.specs.Made.{TakesMemory, parts_reason}

-- True if the new parts represent the definition's next world and fit together, and the requested
-- operations turn the old timers into the new ones.
pub record Advanced (due : Outcome) (asked : List TimersOp) (old : WorldParts) (answer : Answer)
    (new : WorldParts) : Type 0 where
  pub leads : due ≡ Ok (answer, meant new)
  pub parts : PartsFit new
  pub timers : TimersMade asked old.core.timers new.core.timers

-- true if the undo turns the new parts into the old ones, and has at most this many words
abbrev pub LeadsBackWithin : ℕ → WorldParts → WorldParts → WorldUndo → Type 0
LeadsBackWithin most new old undo = UndoBack undo new old × (undo_weight undo ≤ most)

-- true if the new parts are those of the definition, and the undo restores the old parts
abbrev pub Made : Outcome → List TimersOp → ℕ → WorldParts → Answer → WorldUndo → WorldParts
    → Type 0
Made due asked most old answer undo new =
    Advanced due asked old answer new × LeadsBackWithin most new old undo

-- True if the step is made and the place holds its undo. Also true if the step is refused as its
-- definition says and changes nothing.
abbrev pub Makes : {Place : Type 0} → (Place → WorldUndo → Type 0) → Place → Outcome
    → List TimersOp → WorldParts → Result Answer Refusal → WorldParts → Type 0
Makes {Place} holds place due asked old (Ok answer) new =
    (undo : WorldUndo) × holds place undo × Made due asked MOST_WORDS old answer undo new
Makes {Place} holds place due asked old (Err e) new = (due ≡ Err e) × (new ≡ old)

-- True if the step is made, and its undo is in the place if undos are kept. Also true if nothing
-- changes because the step is refused, or because memory for the bytes that it removes runs out.
abbrev pub MakesStep : {Place : Type 0} → Bool → (Place → WorldUndo → Type 0) → Place → Step
    → WorldParts → Result Answer Refusal → WorldParts → Type 0
MakesStep {Place} keeps holds place step old (Ok answer) new =
    Advanced (outcome (meant old) step) (asked_of old step) old answer new
    × IfKept keeps holds place
    (LeadsBackWithin (MOST_WORDS + (bytes_left step answer + 7) / 8) new old)
MakesStep {Place} keeps holds place step old (Err e) new =
    Refuses parts_reason (λ m op. (keeps ≡ true) × TakesMemory m op) old step e × (new ≡ old)
