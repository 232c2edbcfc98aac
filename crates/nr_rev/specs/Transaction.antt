-- Sequences of operations, and undoing them.
use Rattle.std.specs.Prelude.{◌≡◌, ◌⊎◌, List, [], ◌∷◌}

-- true if the operations, in order, turn old into new, and each has a delta of allowed weight that
-- undoes it
abbrev pub Applied : {State Op Answer Delta : Type 0} → (State → Op → Answer → State → Type 0)
    → (Delta → State → State → Type 0) → (Op → Answer → Delta → Type 0) → State → List Op
    → List Delta → State → Type 0
Applied steps back light old [] deltas new = (deltas ≡ []) × (new ≡ old)
Applied {State} {Op} {Answer} {Delta} steps back light old (op ∷ ops) deltas new =
    (answer : Answer) × (mid : State) × (delta : Delta) × (rest : List Delta)
    × (deltas ≡ delta ∷ rest)
    × steps old op answer mid × back delta mid old × light op answer delta
    × Applied steps back light mid ops rest new

-- true if undoing the deltas, from the last to the first, turns new back into old
abbrev pub LeadsBack : {State Delta : Type 0} → (Delta → State → State → Type 0) → List Delta
    → State → State → Type 0
LeadsBack back [] new old = new ≡ old
LeadsBack {State} back (delta ∷ deltas) new old =
    (mid : State) × LeadsBack back deltas new mid × back delta mid old

-- true if the first operation that doesn't apply is refused for this reason
abbrev pub FirstRefused : {State Op Answer Reason : Type 0} → (State → Op → Answer → State → Type 0)
    → (State → Op → Reason → Type 0) → State → List Op → Reason → Type 0
FirstRefused steps refuses old [] reason = ⊥
FirstRefused {State} {Op} {Answer} steps refuses old (op ∷ ops) reason =
    refuses old op reason ⊎ ((answer : Answer) × (mid : State) × steps old op answer mid
    × FirstRefused steps refuses mid ops reason)
