-- Adding a part after the arguments of a line.
use Rattle.std.proofs.Common.{◌≡◌, ℕ, List, [], ◌∷◌, ◌++◌, refl, sym, ap, ◌∙◌}
use Rattle.serde_json.specs.Data.{Data, string, array, Items, no_items, item}
use Rattle.serde_json.specs.View.{view, items_view}
use Rattle.serde_json.specs.declared.value.Value.{Value}
use Rattle.nr_recording.specs.Spelling.{Argument}
use Rattle.nr_recording.specs.Auxiliary.Spelling.{argument_data, arguments_data, IsInType, AreInTypes, IsSpelling}

-- the values, with one more value at the end
abbrev push : Items → Data → Items
push no_items d = item d no_items
push (item e ds) d = item e (push ds d)

items_pushed : (xs : List Value) (v : Value) → items_view (xs ++ v ∷ []) ≡ push (items_view xs) (view v)
items_pushed [] v = refl
items_pushed (x ∷ xs) v = ap (item (view x)) (items_pushed xs v)

arguments_pushed : (args : List Argument) (a : Argument) → arguments_data (args ++ a ∷ []) ≡ push (arguments_data args) (argument_data a)
arguments_pushed [] a = refl
arguments_pushed (b ∷ args) a = ap (item (argument_data b)) (arguments_pushed args a)

typed_pushed : (args : List Argument) (a : Argument) → AreInTypes args → IsInType a → AreInTypes (args ++ a ∷ [])
typed_pushed [] a typed one = (one, tt)
typed_pushed (b ∷ args) a typed one = (typed.0, typed_pushed args a typed.1 one)

-- the parts of an array
abbrev parts_of : Data → Items
parts_of (array ds) = ds
parts_of _ = no_items

pub spelling_pushed : (xs : List Value) (v : Value) (name : List ℕ) (args : List Argument) (a : Argument) → IsSpelling (array (items_view xs)) (name, args) → view v ≡ argument_data a → IsInType a
    → IsSpelling (array (items_view (xs ++ v ∷ []))) (name, args ++ a ∷ [])
spelling_pushed xs v name args a spelled is typed =
    let parts : items_view xs ≡ item (string name) (arguments_data args) = ap parts_of spelled.is in
    record {
      is = ap array (items_pushed xs v ∙ ap (λ ds. push ds (view v)) parts ∙ ap (λ d. item (string name) (push (arguments_data args) d)) is
          ∙ ap (item (string name)) (sym (arguments_pushed args a)));
      typed = typed_pushed args a spelled.typed typed;
    }
