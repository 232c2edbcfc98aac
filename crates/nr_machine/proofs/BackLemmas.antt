-- Undoing a step's changes one at a time.
use Rattle.std.proofs.Common.{◌≡◌, sym, subst}
use Rattle.nr_machine.specs.declared.delta.WorldUndo.{WorldUndo}
use Rattle.nr_machine.specs.Auxiliary.Changing.{Then}
use Rattle.nr_machine.specs.Delta.{UndoBack}
use Rattle.nr_machine.specs.DeltaLaws.{LeadsToOne}
use Rattle.nr_machine.specs.World.{WorldParts}

-- if two undos apply in turn and the first has a unique result, the second applies to that result
pub then_next : {S : Type 0} (first next : S → S → Type 0) → LeadsToOne first → (new mid : S) → (old : S) × Then first next new old → first new mid
    → (old : S) × next mid old
then_next {S} first next one new mid both made =
    let same : both.1.0 ≡ mid = one new both.1.0 mid both.1.1 made in (both.0, subst (λ (m : S). next m both.0) same both.1.2)

-- if an undo can be applied to parts, an equal undo can be applied to equal parts
pub of_undo : (undo v : WorldUndo) (m new : WorldParts) → undo ≡ v → m ≡ new → (old : WorldParts) × UndoBack undo new old → (old : WorldParts) × UndoBack v m old
of_undo undo v m new is view back =
    subst (λ (n : WorldParts). (old : WorldParts) × UndoBack v n old) (sym view) (subst (λ (u : WorldUndo). (old : WorldParts) × UndoBack u new old) is back)
