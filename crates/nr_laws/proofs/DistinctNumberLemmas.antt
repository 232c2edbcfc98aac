-- A list of distinct numbers below n has at most n elements.
use Rattle.std.proofs.Common.{◌≡◌, ℕ, ◌+◌, ◌<◌, ◌≤◌, Bool, true, false, ◌||◌, cond, nat_eq, List, [], ◌∷◌, length, All, refl, sym, ap, ◌∙◌, subst, arith}
use Rattle.std.proofs.lemmas.Bool.{eqb-true, eq-eqb}
use Rattle.std.proofs.lemmas.List.Sums.{sum_by-cons}
use Rattle.std.proofs.lemmas.Map.Steps.{length-le_from_distinct_below}
use Rattle.std.proofs.lemmas.List.Elements.{recursion_from_All}
use Rattle.std.proofs.lemmas.Map.Keys.{IsDistinct-cons}
use Rattle.std.specs.List.{AllByRecursion, IsDistinct, list_any}
use Rattle.std.specs.Prelude.{count_by}

-- how many times a number occurs in a list
abbrev pub times : ℕ → List ℕ → ℕ
times k xs = count_by (λ x. nat_eq x k) xs

times-cons : (k x : ℕ) (xs : List ℕ) → times k (x ∷ xs) ≡ cond (nat_eq x k) 1 0 + times k xs
times-cons k x xs = sum_by-cons (λ y. cond (nat_eq y k) 1 0) x xs

swapped : (a b : ℕ) (t : Bool) → nat_eq a b ≡ t → nat_eq b a ≡ t
swapped a b true e = eq-eqb b a (sym (eqb-true a b e))
swapped a b false e =
    (elim (nat_eq b a) as (λ t. nat_eq b a ≡ t → t ≡ false) [
      | true ↦ λ f. absurd (let g : nat_eq a b ≡ true = eq-eqb a b (sym (eqb-true b a f)) in cc)
      | false ↦ λ f. refl
    ]) refl

none_of : (k : ℕ) (xs : List ℕ) → times k xs ≡ 0 → AllByRecursion (λ y. nat_eq k y ≡ false) xs
none_of k [] h = tt
none_of k (x ∷ xs) h =
    (elim (nat_eq x k) as (λ t. nat_eq x k ≡ t → cond t 1 0 + times k xs ≡ 0 → AllByRecursion (λ y. nat_eq k y ≡ false) (x ∷ xs)) [
      | true ↦ λ e z. absurd (omega (arith, z))
      | false ↦ λ e z. (swapped x k false e, none_of k xs (omega (arith, z)))
    ]) refl (sym (times-cons k x xs) ∙ h)

itself : (x : ℕ) (xs : List ℕ) → times x (x ∷ xs) ≡ 1 + times x xs
itself x xs = times-cons x x xs ∙ ap (λ t. cond t 1 0 + times x xs) (eq-eqb x x refl)

fewer : (k x : ℕ) (xs : List ℕ) → times k xs ≤ times k (x ∷ xs)
fewer k x xs =
    subst (λ n. times k xs ≤ n) (sym (times-cons k x xs))
    (elim (nat_eq x k) as (λ t. times k xs ≤ cond t 1 0 + times k xs) [ true ↦ omega arith | false ↦ omega arith ])

distinct : (xs : List ℕ) → ((k : ℕ) → times k xs ≤ 1) → IsDistinct nat_eq xs
unfolding IsDistinct
distinct [] h = tt
distinct (x ∷ xs) h = (
  none_of x xs (let here = h x in let one = itself x xs in omega (arith, here, one)),
  distinct xs (λ k. let more = fewer k x xs in let here = h k in omega (arith, more, here)),
)

found_in : (k : ℕ) (xs : List ℕ) → list_any (nat_eq k) xs ≡ true → 0 < times k xs
found_in k [] h = absurd cc
found_in k (x ∷ xs) h =
    (elim (nat_eq k x) as (λ t. nat_eq k x ≡ t → 0 < times k (x ∷ xs)) [
      | true ↦ λ e. let one : times k (x ∷ xs) ≡ 1 + times k xs = times-cons k x xs ∙ ap (λ t. cond t 1 0 + times k xs) (swapped k x true e) in omega (arith, one)
      | false ↦ λ e. let rest = found_in k xs (ap (λ t. t || list_any (nat_eq k) xs) (sym e) ∙ h) in let more = fewer k x xs in omega (arith, rest, more)
    ]) refl

-- a number in a list of numbers below n is below n
below_each : (xs : List ℕ) (n k : ℕ) → AllByRecursion (λ x. x < n) xs → 0 < times k xs → k < n
below_each [] n k h some = absurd (omega arith)
below_each (x ∷ xs) n k h some =
    (elim (nat_eq x k) as (λ t. nat_eq x k ≡ t → 0 < cond t 1 0 + times k xs → k < n) [
      | true ↦ λ e z. subst (λ m. m < n) (eqb-true x k e) h.0
      | false ↦ λ e z. below_each xs n k h.1 (omega (arith, z))
    ]) refl (subst (λ m. 0 < m) (times-cons k x xs) some)

pub below_each_time : (xs : List ℕ) (n k : ℕ) → All (λ x. x < n) xs → 0 < times k xs → k < n
below_each_time xs n k h some = below_each xs n k (recursion_from_All (λ x. x < n) xs h) some

-- if the search for a number in a list fails, the list contains it zero times
pub nowhere_in : (k : ℕ) (xs : List ℕ) → list_any (nat_eq k) xs ≡ false → times k xs ≡ 0
nowhere_in k [] h = refl
nowhere_in k (x ∷ xs) h =
    (elim (nat_eq k x) as (λ t. nat_eq k x ≡ t → (t || list_any (nat_eq k) xs) ≡ false → times k (x ∷ xs) ≡ 0) [
      | true ↦ λ e z. absurd cc
      | false ↦ λ e z. times-cons k x xs ∙ ap (λ t. cond t 1 0 + times k xs) (swapped k x false e) ∙ (let rest = nowhere_in k xs z in omega (arith, rest))
    ]) refl h

-- a list of distinct numbers below n has at most n elements
pub few_below : (xs : List ℕ) (n : ℕ) → ((k : ℕ) → times k xs ≤ 1) → ((k : ℕ) → 0 < times k xs → k < n) → length xs ≤ n
few_below xs n once below = length-le_from_distinct_below xs n (distinct xs once) (λ q h. below q (found_in q xs h))

-- if the list lacks a number below n, it has fewer than n elements
pub room_for : (xs : List ℕ) (n x : ℕ) → ((k : ℕ) → times k xs ≤ 1) → ((k : ℕ) → 0 < times k xs → k < n) → times x xs ≡ 0 → x < n → length xs < n
room_for xs n x once below new within =
    let whole : length (x ∷ xs) ≤ n =
    length-le_from_distinct_below (x ∷ xs) n
    (IsDistinct-cons nat_eq x xs (none_of x xs new) (distinct xs once))
    (λ q h. (elim (nat_eq q x) as (λ t. nat_eq q x ≡ t → q < n) [
      | true ↦ λ e. subst (λ k. k < n) (sym (eqb-true q x e)) within
      | false ↦ λ e. below q (found_in q xs (ap (λ t. t || list_any (nat_eq q) xs) (sym e) ∙ h))
    ]) refl) in
    omega (arith, whole)
