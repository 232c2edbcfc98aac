-- Changing an element of a list, and undoing the change.
use Rattle.std.proofs.Common.{◌≡◌, ℕ, List, set, Option, Some, None, refl, sym, ap, subst, ◌∙◌}
use Rattle.std.proofs.lemmas.Option.{unwrap_or-slice_get}
use Rattle.std.specs.Prelude.{IfSome, option_map, slice_get, unwrap_or}
use Rattle.nr_rev.proofs.ListUpdateLemmas.{set_read_back, slice_get-set_here}
use Rattle.nr_plain.specs.Edit.{with_changed, with_item}

module _ {X : Type 0} (change : X → X) (xs : List X) (place : ℕ) where
  changed_as : (found : Option X) → slice_get xs place ≡ found → slice_get (with_item place (option_map change found) xs) place ≡ option_map change found
  changed_as None at = at
  changed_as (Some x) at = slice_get-set_here xs place x (change x) at

  pub changed-here : slice_get (with_changed place change xs) place ≡ option_map change (slice_get xs place)
  changed-here = changed_as (slice_get xs place) refl

module _ {X : Type 0} (change back : X → X) (xs : List X) (place : ℕ) where
  returned_as : (found : Option X) → slice_get xs place ≡ found → IfSome found (λ x. x ≡ back (change x))
      → with_item place (option_map back (option_map change found)) (with_item place (option_map change found) xs) ≡ xs
  returned_as None at returns = refl
  returned_as (Some x) at returns =
      let read = ap (λ (found : Option X). unwrap_or found x) (sym at) ∙ unwrap_or-slice_get xs place x in
      subst (λ y. set (set xs place (change x)) place y ≡ xs) returns (set_read_back xs place x (change x) read)

  -- undoing the change to an element restores the list
  pub changed_back : IfSome (slice_get xs place) (λ x. x ≡ back (change x)) → with_changed place back (with_changed place change xs) ≡ xs
  changed_back returns =
      ap (λ (found : Option X). with_item place (option_map back found) (with_changed place change xs)) (changed-here change xs place)
      ∙ returned_as (slice_get xs place) refl returns

-- if P holds for `change x` whenever `found` contains x, P holds for the element of
-- `option_map change found`
pub mapped_known : {X Y : Type 0} (change : X → Y) (P : Y → Type 0) (found : Option X) → IfSome found (λ x. P (change x)) → IfSome (option_map change found) P
mapped_known change P None known = tt
mapped_known change P (Some x) known = known

-- if P and Q hold for an optional element and together imply R, then R holds for it
pub both_known : {X : Type 0} {P Q R : X → Type 0} (found : Option X) → IfSome found P → IfSome found Q → ((x : X) → P x → Q x → R x) → IfSome found R
both_known None one other follows = tt
both_known (Some x) one other follows = follows x one other
