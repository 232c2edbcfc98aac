-- Cells that are listed by kind and then by number are sorted and complete.
use Rattle.std.proofs.Common.{◌≡◌, ℕ, Bool, true, false, zero, suc, ◌+◌, ◌<◌, ◌≤◌, List, [], ◌∷◌, ◌++◌, map, length, refl, sym, ap, subst, ◌∙◌, inl, inr, arith}
use Rattle.std.specs.Prelude.{Contains, ◌==◌, ⊤}
use Rattle.std.proofs.lemmas.Bool.{eqb-false, eqb-true}
use Rattle.std.specs.Cmp.{nat_cmp_is}
use Rattle.std.specs.List.{AllByRecursion, range_with_len}
use Rattle.std.specs.List.Sorted.{IsStrictlySortedBy}
use Rattle.std.specs.declared.cmp.Ordering.{Ordering}
use Rattle.std.specs.declared.cmp.Ordering.TheVariants.{Less, Equal}
use Rattle.std.specs.Ordering.{nat_cmp, ordering_then}
use Rattle.std.proofs.lemmas.List.{append_assoc}
use Rattle.std.proofs.lemmas.List.Elements.{Contains-append_left, Contains-append_right}
use Rattle.nr_rev.specs.declared.cell.Cell.{Cell}
use Rattle.nr_rev.specs.CellName.{cell_number}
use Rattle.nr_changes.specs.Changed.{listing_order, number_or_0}
use Rattle.nr_changes.specs.Changes.{numbered_cells}
use Rattle.nr_changes.proofs.MemberLemmas.{here, later, nowhere, here_or_later}
use Rattle.nr_changes.proofs.OrderLemmas.{Before}

-- true if the number of each cell's kind is at least k
abbrev pub AtLeast : ℕ → List Cell → Type 0
AtLeast k cells = AllByRecursion (λ c. k ≤ cell_number c) cells

-- true if, for each i, `sort i` is the cell with number i of the kind with number k
pub record IsSort (k : ℕ) (sort : ℕ → Cell) : Type 0 where
  pub shows : (i : ℕ) → cell_number (sort i) ≡ k
  pub numbered : (i : ℕ) → number_or_0 (sort i) ≡ i

-- true if these kinds of cells have the numbers k, k + 1 and so on
abbrev pub AreSorts : ℕ → List (ℕ → Cell) → Type 0
AreSorts k [] = ⊤
AreSorts k (sort ∷ sorts) = IsSort k sort × AreSorts (k + 1) sorts

-- ---- in order

less_by : (c d : Cell) (o : Ordering) → o ≡ nat_cmp (cell_number c) (cell_number d) → ordering_then o (nat_cmp (number_or_0 c) (number_or_0 d)) ≡ Less → listing_order c d ≡ Less
less_by c d o is e = ap (λ x. ordering_then x (nat_cmp (number_or_0 c) (number_or_0 d))) (sym is) ∙ e

-- the cell whose kind has the lower number comes first
pub lower_first : (c d : Cell) → cell_number c < cell_number d → listing_order c d ≡ Less
lower_first c d below = less_by c d Less (nat_cmp_is (cell_number c) (cell_number d) Less below) refl

pub before_higher : (c : Cell) (k : ℕ) (cells : List Cell) → cell_number c < k → AtLeast k cells → Before listing_order c cells
before_higher c k [] below so = tt
before_higher c k (d ∷ cells) below so =
    let le : k ≤ cell_number d = so.0 in
    let lower : cell_number c < cell_number d = omega (arith, below, le) in
    (lower_first c d lower, before_higher c k cells below so.1)

module _ (k : ℕ) (sort : ℕ → Cell) (is : IsSort k sort) where
  -- within a kind, the cell with the lower number comes first
  same_sort : (a b : ℕ) → a < b → listing_order (sort a) (sort b) ≡ Less
  same_sort a b below =
      let equal : Equal ≡ nat_cmp (cell_number (sort a)) (cell_number (sort b)) = nat_cmp_is (cell_number (sort a)) (cell_number (sort b)) Equal (is.shows a ∙ sym (is.shows b)) in
      let numbers : nat_cmp (number_or_0 (sort a)) (number_or_0 (sort b)) ≡ Less =
      ap (λ x. nat_cmp x (number_or_0 (sort b))) (is.numbered a) ∙ ap (nat_cmp a) (is.numbered b) ∙ sym (nat_cmp_is a b Less below) in
      less_by (sort a) (sort b) Equal equal numbers

  before_sort : (b a n : ℕ) (rest : List Cell) → b < a → AtLeast (k + 1) rest → Before listing_order (sort b) (map sort (range_with_len a n) ++ rest)
  before_sort b a zero rest below so =
      let shows = is.shows b in
      let lower : cell_number (sort b) < k + 1 = omega (arith, shows) in
      before_higher (sort b) (k + 1) rest lower so
  before_sort b a (suc n) rest below so =
      let further : b < a + 1 = omega (arith, below) in
      (same_sort b a below, before_sort b (a + 1) n rest further so)

  sort_in_order : (a n : ℕ) (rest : List Cell) → IsStrictlySortedBy listing_order rest → AtLeast (k + 1) rest → IsStrictlySortedBy listing_order (map sort (range_with_len a n) ++ rest)
  unfolding IsStrictlySortedBy
  sort_in_order a zero rest so least = so
  sort_in_order a (suc n) rest so least =
      let next : a < a + 1 = omega arith in
      (before_sort a (a + 1) n rest next least, sort_in_order (a + 1) n rest so least)

  sort_at_least : (a n : ℕ) (rest : List Cell) → AtLeast (k + 1) rest → AtLeast k (map sort (range_with_len a n) ++ rest)
  sort_at_least a zero rest so = weaker rest so
    where
      weaker : (cells : List Cell) → AtLeast (k + 1) cells → AtLeast k cells
      weaker [] so = tt
      weaker (c ∷ cells) so =
          let le : k + 1 ≤ cell_number c = so.0 in
          let less : k ≤ cell_number c = omega (arith, le) in
          (less, weaker cells so.1)
  sort_at_least a (suc n) rest so =
      let shows = is.shows a in
      let le : k ≤ cell_number (sort a) = omega (arith, shows) in
      (le, sort_at_least (a + 1) n rest so)

-- true if the cells are sorted, and the number of each cell's kind is at least k
pub record Listed (k : ℕ) (cells : List Cell) : Type 0 where
  pub in_order : IsStrictlySortedBy listing_order cells
  pub least : AtLeast k cells

-- the cells of some kinds, followed by the cells of later kinds
pub sorts_listed : (n k : ℕ) (sorts : List (ℕ → Cell)) (rest : List Cell) → AreSorts k sorts → Listed (k + length sorts) rest → Listed k (numbered_cells n sorts ++ rest)
sorts_listed n k [] rest are listed = subst (λ m. Listed m rest) (omega arith) listed
sorts_listed n k (sort ∷ sorts) rest are listed =
    let same : k + length (sort ∷ sorts) ≡ k + 1 + length sorts = omega arith in
    let behind = sorts_listed n (k + 1) sorts rest are.1 (subst (λ m. Listed m rest) same listed) in
    let tail = numbered_cells n sorts ++ rest in
    subst (Listed k) (sym (append_assoc (map sort (range_with_len 0 n)) (numbered_cells n sorts) rest)) (record {
      in_order = sort_in_order k sort are.0 0 n tail behind.in_order behind.least;
      least = sort_at_least k sort are.0 0 n tail behind.least;
    })

-- ---- there

first_or_later : (a n i : ℕ) (b : Bool) → (a == i) ≡ b → (b ≡ false → Contains (range_with_len (a + 1) n) i) → Contains (range_with_len a (suc n)) i
first_or_later a n i true e rest = subst (Contains (range_with_len a (suc n))) (eqb-true a i e) (here a (range_with_len (a + 1) n))
first_or_later a n i false e rest = later a (range_with_len (a + 1) n) i (rest refl)

in_range : (a n i : ℕ) → a ≤ i → i < a + n → Contains (range_with_len a n) i
in_range a zero i from below = absurd (omega (arith, from, below))
in_range a (suc n) i from below =
    first_or_later a n i (a == i) refl λ e.
    let apart = eqb-false a i e in
    in_range (a + 1) n i (omega (arith, from, apart)) (omega (arith, below))

in_map : (sort : ℕ → Cell) (xs : List ℕ) (i : ℕ) → Contains xs i → Contains (map sort xs) (sort i)
in_map sort [] i at = absurd (nowhere i at)
in_map sort (x ∷ xs) i at =
    elim (here_or_later x xs i at) [
      | inl same ↦ subst (λ j. Contains (map sort (x ∷ xs)) (sort j)) same (here (sort x) (map sort xs))
      | inr other ↦ later (sort x) (map sort xs) (sort i) (in_map sort xs i other)
    ]

pub in_sorts : (n : ℕ) (sorts : List (ℕ → Cell)) (sort : ℕ → Cell) (i : ℕ) → Contains sorts sort → i < n → Contains (numbered_cells n sorts) (sort i)
in_sorts n [] sort i at below = absurd (nowhere sort at)
in_sorts n (one ∷ sorts) sort i at below =
    elim (here_or_later one sorts sort at) [
      | inl same ↦ Contains-append_left (map one (range_with_len 0 n)) (numbered_cells n sorts) (sort i)
          (subst (λ (f : ℕ → Cell). Contains (map one (range_with_len 0 n)) (f i)) same (in_map one (range_with_len 0 n) i (in_range 0 n i (omega arith) (omega (arith, below)))))
      | inr other ↦ Contains-append_right (map one (range_with_len 0 n)) (numbered_cells n sorts) (sort i) (in_sorts n sorts sort i other below)
    ]
