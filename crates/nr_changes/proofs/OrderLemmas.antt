-- Touched cells are listed in order.
use Rattle.std.proofs.Common.{◌≡◌, ℕ, ◌<◌, ◌≤◌, Bool, true, ◌&&◌, not, List, [], ◌∷◌, ◌++◌, map, Option, Some, None, refl, sym, ap, ◌∙◌, arith}
use Rattle.std.specs.Prelude.{nat_lt}
use Rattle.std.specs.BTreeSet.{insert_key}
use Rattle.std.specs.Cmp.{nat_cmp_is}
use Rattle.std.specs.List.{AllByRecursion}
use Rattle.std.specs.List.Sorted.{IsStrictlySortedBy}
use Rattle.std.specs.Option.{option_map_or}
use Rattle.std.specs.declared.cmp.Ordering.{Ordering}
use Rattle.std.specs.declared.cmp.Ordering.TheVariants.{Less, Equal, Greater}
use Rattle.std.specs.Ordering.{nat_cmp, match_ordering, ordering_reverse, ordering_then}
use Rattle.std.proofs.lemmas.Cmp.{nat_cmp_total}
use Rattle.std.proofs.lemmas.List.Elements.{All-from_recursion, recursion_from_All}
use Rattle.std.proofs.lemmas.List.Kept.{IsStrictlySortedBy-filter}
use Rattle.std.proofs.lemmas.Map.Views.{All-insert_key}
use Rattle.nr_rev.specs.declared.cell.Cell.{Cell}
use Rattle.nr_rev.specs.declared.step.Step.{Step}
use Rattle.nr_rev.specs.Aspect.{can_change}
use Rattle.nr_rev.specs.Cell.{cell, same_value}
use Rattle.nr_rev.specs.CellName.{cell_number, cells_at}
use Rattle.nr_rev.specs.Kind.{kind_of}
use Rattle.nr_rev.specs.World.{World}
use Rattle.nr_laws.proofs.BoolLemmas.{both_true}
use Rattle.nr_rev.proofs.NumberLemmas.{below_of}
use Rattle.nr_changes.specs.Touched.{Touched, touched}
use Rattle.nr_changes.specs.Changed.{cells_of, changed_cells, descriptor_cells, in_order, listing_order, socket_cells, touched_cells}

-- ---- numbers in order

-- true if every element of the list is greater
abbrev pub Before : {X : Type 0} → (X → X → Ordering) → X → List X → Type 0
Before c x ys = AllByRecursion (λ y. c x y ≡ Less) ys

before_too : (k x : ℕ) (ys : List ℕ) → nat_cmp k x ≡ Less → Before nat_cmp x ys → Before nat_cmp k ys
before_too k x [] e so = tt
before_too k x (y ∷ ys) e so = (nat_cmp_total.trans k x y e so.0, before_too k x ys e so.1)

placed : (k x : ℕ) (xs : List ℕ) (o : Ordering) → nat_cmp k x ≡ o → Before nat_cmp x xs → IsStrictlySortedBy nat_cmp xs → IsStrictlySortedBy nat_cmp (insert_key nat_cmp xs k)
    → IsStrictlySortedBy nat_cmp (match_ordering o (k ∷ x ∷ xs) (x ∷ xs) (x ∷ insert_key nat_cmp xs k))
unfolding IsStrictlySortedBy
placed k x xs Less e head tail rest = ((e, before_too k x xs e head), (head, tail))
placed k x xs Equal e head tail rest = (head, tail)
placed k x xs Greater e head tail rest = (
  recursion_from_All (λ y. nat_cmp x y ≡ Less) (insert_key nat_cmp xs k)
      (All-insert_key nat_cmp k (λ y. nat_cmp x y ≡ Less) xs (All-from_recursion (λ y. nat_cmp x y ≡ Less) xs head) (nat_cmp_total.antisymm x k ∙ ap ordering_reverse e)),
  rest,
)

inserted : (k : ℕ) (xs : List ℕ) → IsStrictlySortedBy nat_cmp xs → IsStrictlySortedBy nat_cmp (insert_key nat_cmp xs k)
unfolding IsStrictlySortedBy
inserted k [] so = (tt, tt)
inserted k (x ∷ xs) so = placed k x xs (nat_cmp k x) refl so.0 so.1 (inserted k xs so.1)

ordered : (ns : List ℕ) → IsStrictlySortedBy nat_cmp (in_order ns)
unfolding IsStrictlySortedBy
ordered [] = tt
ordered (n ∷ ns) = inserted n (in_order ns) (ordered ns)

-- ---- cells in order

-- if a cell precedes all goroutine cells and the rest of a list, it precedes the whole list
before_goroutines : (c : Cell) (gs : List ℕ) (rest : List Cell) → ((g : ℕ) → listing_order c (Cell.Goroutine g) ≡ Less) → Before listing_order c rest → Before listing_order c (map Cell.Goroutine gs ++ rest)
before_goroutines c [] rest first so = so
before_goroutines c (g ∷ gs) rest first so = (first g, before_goroutines c gs rest first so)

among_goroutines : (g : ℕ) (gs : List ℕ) (rest : List Cell) → Before nat_cmp g gs → Before listing_order (Cell.Goroutine g) rest → Before listing_order (Cell.Goroutine g) (map Cell.Goroutine gs ++ rest)
among_goroutines g [] rest below so = so
among_goroutines g (h ∷ gs) rest below so = (below.0, among_goroutines g gs rest below.1 so)

goroutines_first : (gs : List ℕ) (rest : List Cell) → IsStrictlySortedBy nat_cmp gs → ((g : ℕ) → Before listing_order (Cell.Goroutine g) rest) → IsStrictlySortedBy listing_order rest
    → IsStrictlySortedBy listing_order (map Cell.Goroutine gs ++ rest)
unfolding IsStrictlySortedBy
goroutines_first [] rest rise before so = so
goroutines_first (g ∷ gs) rest rise before so = (among_goroutines g gs rest rise.0 (before g), goroutines_first gs rest rise.1 before so)

-- if a cell precedes all cells of two lists, it precedes all cells of their concatenation
pub before_both : (c : Cell) (cs ds : List Cell) → Before listing_order c cs → Before listing_order c ds → Before listing_order c (cs ++ ds)
before_both c [] ds so also = also
before_both c (x ∷ cs) ds so also = (so.0, before_both c cs ds so.1 also)

pub joined : (cs ds : List Cell) → IsStrictlySortedBy listing_order cs → AllByRecursion (λ c. Before listing_order c ds) cs → IsStrictlySortedBy listing_order ds → IsStrictlySortedBy listing_order (cs ++ ds)
unfolding IsStrictlySortedBy
joined [] ds so before also = also
joined (c ∷ cs) ds so before also = (before_both c cs ds so.0 before.0, joined cs ds so.1 before.1 also)

-- true if the numbers of the cells' kinds are strictly ascending and all greater than n
abbrev rise_above : ℕ → List Cell → Bool
rise_above n [] = true
rise_above n (c ∷ cs) = nat_lt n (cell_number c) && rise_above (cell_number c) cs

less_above : (a n b : ℕ) → a ≤ n → nat_lt n b ≡ true → nat_cmp a b ≡ Less
less_above a n b le e = let lt : n < b = below_of n b e in let below : a < b = omega arith in sym (nat_cmp_is a b Less below)

less_first : (a b : Ordering) → a ≡ Less → ordering_then a b ≡ Less
less_first a b e = ap (λ o. ordering_then o b) e

before_above : (c : Cell) (n : ℕ) (cs : List Cell) → cell_number c ≤ n → rise_above n cs ≡ true → Before listing_order c cs
before_above c n [] le e = tt
before_above c n (x ∷ cs) le e =
    let both : (nat_lt n (cell_number x) ≡ true) × (rise_above (cell_number x) cs ≡ true) = both_true (nat_lt n (cell_number x)) (rise_above (cell_number x) cs) e in
    let lt : n < cell_number x = below_of n (cell_number x) both.0 in
    let further : cell_number c ≤ cell_number x = omega arith in
    (less_first (nat_cmp (cell_number c) (cell_number x)) _ (less_above (cell_number c) n (cell_number x) le both.0), before_above c (cell_number x) cs further both.1)

pub rising : (n : ℕ) (cs : List Cell) → rise_above n cs ≡ true → IsStrictlySortedBy listing_order cs
unfolding IsStrictlySortedBy
rising n [] e = tt
rising n (c ∷ cs) e =
    let both : (nat_lt n (cell_number c) ≡ true) × (rise_above (cell_number c) cs ≡ true) = both_true (nat_lt n (cell_number c)) (rise_above (cell_number c) cs) e in
    let same : cell_number c ≤ cell_number c = omega arith in
    (before_above c (cell_number c) cs same both.1, rising (cell_number c) cs both.1)

-- a list is sorted if it consists of the cells without a number, then the cells of goroutines in
-- ascending order, and then sorted cells of later kinds
all_in_order : (gs : List ℕ) (cs : List Cell) → IsStrictlySortedBy nat_cmp gs → rise_above 6 cs ≡ true → IsStrictlySortedBy listing_order (cells_at None ++ (map Cell.Goroutine gs ++ cs))
all_in_order gs cs so e =
    joined (cells_at None) (map Cell.Goroutine gs ++ cs) (rising 0 (cells_at None) refl) (
      before Cell.Clock (λ g. refl) (omega arith),
      (
        before Cell.Waiters (λ g. refl) (omega arith),
        (before Cell.Timers (λ g. refl) (omega arith), (before Cell.Firings (λ g. refl) (omega arith), (before Cell.Least (λ g. refl) (omega arith), tt))),
      ),
    )
    (goroutines_first gs cs so (λ g. before_above (Cell.Goroutine g) 6 cs (omega arith) e) (rising 6 cs e))
  where
    before : (c : Cell) → ((g : ℕ) → listing_order c (Cell.Goroutine g) ≡ Less) → cell_number c ≤ 6 → Before listing_order c (map Cell.Goroutine gs ++ cs)
    before c first le = before_goroutines c gs cs first (before_above c 6 cs le e)

parts_in_order : (gs : List ℕ) (s d : Option ℕ) → IsStrictlySortedBy nat_cmp gs
    → IsStrictlySortedBy listing_order
    (cells_at None ++ (map Cell.Goroutine gs ++ (option_map_or socket_cells s [] ++ (option_map_or descriptor_cells d [] ++ option_map_or (λ i. Cell.Shut i ∷ []) s []))))
parts_in_order gs None None so = all_in_order gs [] so refl
parts_in_order gs None (Some d) so = all_in_order gs (descriptor_cells d ++ []) so refl
parts_in_order gs (Some s) None so = all_in_order gs (socket_cells s ++ Cell.Shut s ∷ []) so refl
parts_in_order gs (Some s) (Some d) so = all_in_order gs (socket_cells s ++ (descriptor_cells d ++ Cell.Shut s ∷ [])) so refl

cells_in_order : (t : Touched) → IsStrictlySortedBy listing_order (cells_of t)
cells_in_order t = parts_in_order (in_order t.goroutines) t.socket t.descriptor (ordered t.goroutines)

pub touched_in_order : (w : World) (step : Step) → IsStrictlySortedBy listing_order (touched_cells w step)
touched_in_order w step = IsStrictlySortedBy-filter listing_order (can_change (kind_of step)) (cells_of (touched w step)) (cells_in_order (touched w step))

pub changed_in_order : (w : World) (step : Step) (next : World) → IsStrictlySortedBy listing_order (changed_cells w step next)
changed_in_order w step next =
    IsStrictlySortedBy-filter listing_order (λ c. not (same_value (cell next c) (cell w c))) (touched_cells w step) (touched_in_order w step)
