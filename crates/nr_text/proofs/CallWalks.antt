-- What the handwritten proofs of `Calls` and `Moments` share: making a struct without fields.
use Rattle.std.proofs.Common.{List, [], ◌∷◌, refl}
use seplogic.Ra.Ura.{Ura}
use mir.Val.{Val, vstruct, vnil}
use types.Logic.{Logic}
use types.Kit.{Goal, Step, step, Item, ‵, ◌$◌, fjoin, fpack, feq_i}
use denote.RattleType.{Valss}
use denote.Steps.{nothing}
use denote.Struct.Struct.{Struct, within}

-- the machine-level value of a struct without fields
abbrev pub of_no_fields : Val
of_no_fields = vstruct vnil

-- a struct without fields owns nothing
pub nothing_made : {M : Type 1} {𝓤 : Ura M} {𝓛 : Logic 𝓤} {K : Type 0} {Γ : List (Item 𝓤)} {G : Goal 𝓤 𝓛.H} → K
    → Step K 𝓛 (‵ ((Struct (record { name = []; args = []; types = []; fields = [] })).own_val tt (of_no_fields ∷ [])) ∷ Γ) G Γ G
nothing_made t = step (λ rest.
    nothing t $ feq_i t (List Val) (of_no_fields ∷ []) (of_no_fields ∷ []) refl $ fjoin t $
    fpack t (Valss []) (within (record { name = []; args = []; types = []; fields = [] }) tt (of_no_fields ∷ [])) tt $ rest)
