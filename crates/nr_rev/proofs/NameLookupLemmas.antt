-- Lemmas about lookups: a kind or cell found by a name or a number has that name or number.
use Rattle.std.proofs.Common.{◌≡◌, ◌-◌, slice_get, slice_index_or, ℕ, Bool, true, false, cond, List, [], ◌∷◌, Option, Some, None, find, bytes_eq, nat_eq, ap, sym, subst, refl}
use Rattle.std.specs.Prelude.{filter, length, map}
use Rattle.std.proofs.lemmas.Bool.{eqb-true, eq-eqb}
use Rattle.std.proofs.lemmas.Slice.Eq.{bytes_eq-Decides}
use Rattle.std.specs.List.{AllByRecursion}
use Rattle.nr_rev.specs.declared.cell.Cell.{Cell}
use Rattle.nr_rev.specs.CellName.{cell_index, cells_at}
use Rattle.nr_rev.specs.declared.kind.Kind.{Kind}
use Rattle.nr_rev.specs.Kind.{kind_name, kind_named, kind_number, kind_numbered, kinds, spelled_kinds}

found_passes : {X : Type 0} (test : X → Bool) (xs : List X) (x : X) → find test xs ≡ Some x → test x ≡ true
found_passes test [] x e = cc
found_passes {X} test (y ∷ ys) x e =
    elim (test y) as (λ b. test y ≡ b → ◌≡◌ {A = Option X} (cond b (Some y) (find test ys)) (Some x) → test x ≡ true)
    [ true ↦ λ passes found. (let same : y ≡ x = cc in subst (λ z. test z ≡ true) same passes) | false ↦ λ _ found. found_passes test ys x found ] refl e

pub found_named : {X : Type 0} (name : X → List ℕ) (xs : List X) (text : List ℕ) (x : X) → find (λ y. bytes_eq (name y) text) xs ≡ Some x → text ≡ name x
found_named name xs text x e = sym ((bytes_eq-Decides (name x) text).0 (found_passes _ xs x e))

-- if all items have a property, the found item has it
pub found_such : {X : Type 0} (P : X → Type 0) (test : X → Bool) (xs : List X) (x : X) → AllByRecursion P xs → find test xs ≡ Some x → P x
found_such P test [] x all e = cc
found_such {X} P test (y ∷ ys) x all e =
    elim (test y) as (λ b. ◌≡◌ {A = Option X} (cond b (Some y) (find test ys)) (Some x) → P x)
    [ true ↦ λ found. (let same : y ≡ x = cc in subst P same all.0) | false ↦ λ found. found_such P test ys x all.1 found ] e

pub found_numbered : {X : Type 0} (number : X → ℕ) (xs : List X) (n : ℕ) (x : X) → find (λ y. nat_eq (number y) n) xs ≡ Some x → n ≡ number x
found_numbered number xs n x e = sym (eqb-true (number x) n (found_passes _ xs x e))

-- a cell found among those of an index has that index
pub found_at : (test : Cell → Bool) (index : Option ℕ) (cell : Cell) → find test (cells_at index) ≡ Some cell → index ≡ cell_index cell
found_at test index cell e = found_such (λ c. index ≡ cell_index c) test (cells_at index) cell (indexed index) e
  where
    indexed : (i : Option ℕ) → AllByRecursion (λ c. i ≡ cell_index c) (cells_at i)
    indexed None = (refl, (refl, (refl, (refl, (refl, tt)))))
    indexed (Some i) = (refl, (refl, (refl, (refl, (refl, (refl, (refl, (refl, (refl, (refl, (refl, (refl, (refl, (refl, (refl, tt)))))))))))))))

-- an item found by a name is also found among the items whose names have the same length
pub found_by_length : {X : Type 0} (name : X → List ℕ) (text : List ℕ) (xs : List X) → find (λ x. bytes_eq (name x) text) (filter (λ x. nat_eq (length (name x)) (length text)) xs) ≡ find (λ x. bytes_eq (name x) text) xs
found_by_length name text [] = refl
found_by_length {X} name text (x ∷ xs) =
    elim (bytes_eq (name x) text) as (λ b. bytes_eq (name x) text ≡ b → find test (filter fits (x ∷ xs)) ≡ cond b (Some x) (find test xs)) [
      | true ↦ λ same. (let e : name x ≡ text = (bytes_eq-Decides (name x) text).0 same in let l : fits x ≡ true = eq-eqb _ _ (ap length e) in cc)
      | false ↦ λ differs. elim (fits x) as (λ b. fits x ≡ b → find test (filter fits (x ∷ xs)) ≡ find test xs)
          [ true ↦ λ l. (let h = found_by_length name text xs in cc) | false ↦ λ l. (let h = found_by_length name text xs in cc) ] refl
    ] refl
  where
    test : X → Bool
    test y = bytes_eq (name y) text

    fits : X → Bool
    fits y = nat_eq (length (name y)) (length text)

-- looking up a kind's name finds that kind
pub kind_again : (kind : Kind) → kind_named (kind_name kind) ≡ Some kind
kind_again Kind.Spawn = refl
kind_again _ = refl

-- looking up a kind's number finds that kind
pub kind_counted : (kind : Kind) → kind_numbered (kind_number kind) ≡ Some kind
kind_counted Kind.Spawn = refl
kind_counted _ = refl

-- a kind's number is its place among all kinds
pub kind_placed : (kind : Kind) → slice_get kinds (kind_number kind - 1) ≡ Some kind
kind_placed Kind.Spawn = refl
kind_placed _ = refl

-- the list of kinds, counted from 1, has each kind's name at the kind's number
pub name_placed : (kind : Kind) (n : ℕ) → n ≡ kind_number kind → slice_index_or (map (λ (row : Kind × List ℕ). row.1) spelled_kinds) (n - 1) [] ≡ kind_name kind
name_placed kind n e = subst (λ k. slice_index_or (map (λ (row : Kind × List ℕ). row.1) spelled_kinds) (k - 1) [] ≡ kind_name kind) (sym e) (is_at kind)
  where
    is_at : (kind : Kind) → slice_index_or (map (λ (row : Kind × List ℕ). row.1) spelled_kinds) (kind_number kind - 1) [] ≡ kind_name kind
    is_at Kind.Spawn = refl
    is_at _ = refl
