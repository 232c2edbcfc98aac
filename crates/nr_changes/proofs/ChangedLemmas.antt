-- The changed cells are exactly those that differ.
use Rattle.std.proofs.Common.{◌≡◌, ◌≢◌, ◌↔◌, Bool, true, false, not, List, Ok, rules, refl, sym, ap, subst, ◌∙◌, true≢false}
use Rattle.std.specs.Prelude.{Contains, filter}
use Rattle.std.specs.List.{list_any}
use Rattle.std.proofs.lemmas.List.Folds.{Any-from_list_any, list_any-from_Any}
use Rattle.nr_rev.specs.declared.answer.Answer.{Answer}
use Rattle.nr_rev.specs.declared.cell.Cell.{Cell}
use Rattle.nr_rev.specs.declared.step.Step.{Step}
use Rattle.nr_rev.specs.contracts.cell.CellPartialEq.TheImpl as cell_eq
use Rattle.nr_rev.specs.Cell.{cell, same_value}
use Rattle.nr_rev.specs.Step.{outcome}
use Rattle.nr_rev.specs.World.{World}
use Rattle.nr_laws.proofs.BoolLemmas.{not_true, never_true}
use Rattle.nr_rev.proofs.CellValueLemmas.{same_value-equal, same_value-self}
use Rattle.nr_changes.specs.Changed.{changed_cells, touched_cells}
use Rattle.nr_changes.proofs.CellLemmas.{untouched_stays}
use Rattle.nr_changes.proofs.MemberLemmas.{Contains-filter, passes_filter}

abbrev same_cell : Cell → Cell → Bool
same_cell = (cell_eq.ghosts).eq

cell_is : (a b : Cell) → same_cell a b ≡ true → a ≡ b
cell_is a b is = search rules

cell_self : (a : Cell) → same_cell a a ≡ true
cell_self a = search rules

among : (cells : List Cell) (c : Cell) → list_any (λ x. same_cell x c) cells ≡ true → Contains cells c
among cells c e =
    let found = Any-from_list_any (λ x. same_cell x c) cells e in
    subst (Contains cells) (cell_is found.1 c found.4) (found.0, found.2, found.3)

not_among : (cells : List Cell) (c : Cell) → list_any (λ x. same_cell x c) cells ≡ false → ¬ Contains cells c
not_among cells c e at = true≢false (sym (list_any-from_Any (λ x. same_cell x c) cells (at.0, c, at.1, at.2, cell_self c)) ∙ e)

-- if a list contains all changed cells, filtering the list for changed cells leaves exactly those
pub just_differing : (cells : List Cell) (w next : World) (c : Cell) → (cell next c ≢ cell w c → Contains cells c)
    → Contains (filter (λ x. not (same_value (cell next x) (cell w x))) cells) c ↔ (cell next c ≢ cell w c)
just_differing cells w next c there = (differs, found)
  where
    differs : Contains (filter (λ x. not (same_value (cell next x) (cell w x))) cells) c → cell next c ≢ cell w c
    differs at e =
        let equal : same_value (cell next c) (cell w c) ≡ true = subst (λ v. same_value (cell next c) v ≡ true) e (same_value-self (cell next c)) in
        true≢false (sym equal ∙ not_true _ (passes_filter (λ x. not (same_value (cell next x) (cell w x))) cells c at))

    found : cell next c ≢ cell w c → Contains (filter (λ x. not (same_value (cell next x) (cell w x))) cells) c
    found other =
        Contains-filter (λ x. not (same_value (cell next x) (cell w x))) cells c (there other)
        (ap not (never_true (same_value (cell next c) (cell w c)) (λ yes. other (same_value-equal _ _ yes))))

pub changed_differs : (w : World) (step : Step) (answer : Answer) (next : World) (c : Cell) → outcome w step ≡ Ok (answer, next) → Contains (changed_cells w step next) c ↔ (cell next c ≢ cell w c)
changed_differs w step answer next c is = just_differing (touched_cells w step) w next c λ other. by_list other (list_any (λ x. same_cell x c) (touched_cells w step)) refl
  where
    by_list : cell next c ≢ cell w c → (b : Bool) → list_any (λ x. same_cell x c) (touched_cells w step) ≡ b → Contains (touched_cells w step) c
    by_list other false e = absurd (other (untouched_stays w step answer next c is (not_among (touched_cells w step) c e)))
    by_list other true e = among (touched_cells w step) c e
