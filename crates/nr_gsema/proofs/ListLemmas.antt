-- Lemmas about the ends of lists, elements that are written back, and equal views.
use Rattle.std.proofs.Common.{replicate, ◌≡◌, ◌≢◌, ℕ, zero, suc, ◌+◌, ◌-◌, ◌<◌, List, [], ◌∷◌, ◌++◌, length, set, map, take, drop, Some, refl, sym, ap, ap₂, ◌∙◌, arith}
use Rattle.std.proofs.lemmas.List.{length_push, take_all, take_more}
use Rattle.std.proofs.lemmas.Option.{same_Some, slice_get_within, get_or_from_slice_get}
use Rattle.std.specs.Prelude.{slice_get}
use Rattle.nr_rev.proofs.ListUpdateLemmas.{set_read_back}

-- each index below the length has an element
pub there_is : {X : Type 0} (xs : List X) (i : ℕ) → i < length xs → (x : X) × (slice_get xs i ≡ Some x)
there_is [] i within = absurd (omega arith)
there_is (x ∷ xs) zero within = (x, refl)
there_is (x ∷ xs) (suc i) within = there_is xs i (omega arith)

-- functions that agree on all elements of a list map it to equal lists; functions that agree on all
-- elements but one map it to lists that differ at most in that element
pub map_alike : {X Y : Type 0} (f g : X → Y) (xs : List X) → ((k : ℕ) (x : X) → slice_get xs k ≡ Some x → f x ≡ g x) → map f xs ≡ map g xs
map_alike f g [] alike = refl
map_alike {X} {Y} f g (x ∷ xs) alike = ap₂ (λ (a : Y) (b : List Y). a ∷ b) (alike zero x refl) (map_alike f g xs (λ k z is. alike (suc k) z is))

pub set_map_alike : {X Y : Type 0} (f g : X → Y) (xs : List X) (i : ℕ) (y : Y) → ((k : ℕ) (x : X) → k ≢ i → slice_get xs k ≡ Some x → f x ≡ g x) → set (map f xs) i y ≡ set (map g xs) i y
set_map_alike f g [] i y alike = refl
set_map_alike {X} {Y} f g (x ∷ xs) zero y alike = ap (λ (ys : List Y). y ∷ ys) (map_alike f g xs (λ k z is. alike (suc k) z (λ e. omega arith) is))
set_map_alike {X} {Y} f g (x ∷ xs) (suc i) y alike =
    ap₂ (λ (a : Y) (b : List Y). a ∷ b) (alike zero x (λ e. omega arith) refl) (set_map_alike f g xs i y (λ k z ne is. alike (suc k) z (λ e. ne (omega arith)) is))

-- a list consists of its first element and the rest
pub first_split : (xs : List ℕ) (g : ℕ) → slice_get xs 0 ≡ Some g → xs ≡ g ∷ drop 1 xs
first_split [] g e = cc
first_split (x ∷ xs) g e = ap (λ (k : ℕ). k ∷ xs) (same_Some x g e)

-- a list consists of the elements before the last one and the last one
pub last_split : {X : Type 0} (xs : List X) (g : X) → slice_get xs (length xs - 1) ≡ Some g → xs ≡ take (length xs - 1) xs ++ g ∷ []
last_split {X} xs g e =
    let within = slice_get_within xs (length xs - 1) g e in
    let all : take (length xs - 1 + 1) xs ≡ xs = take_all (length xs - 1 + 1) xs (omega arith) in
    sym all ∙ take_more xs (length xs - 1) g within ∙ ap (λ (k : X). take (length xs - 1) xs ++ k ∷ []) (get_or_from_slice_get xs (length xs - 1) g g e)

-- in a list of copies of x, each element is x
pub each_alike : {X : Type 0} (n : ℕ) (x : X) (s : ℕ) (y : X) → slice_get (replicate n x) s ≡ Some y → y ≡ x
each_alike zero x s y e = cc
each_alike (suc n) x zero y e = sym (same_Some x y e)
each_alike (suc n) x (suc s) y e = each_alike n x s y e

pub map_same : {X Y : Type 0} (f : X → Y) (n : ℕ) (x : X) (y : Y) → f x ≡ y → map f (replicate n x) ≡ replicate n y
map_same f zero x y e = refl
map_same {X} {Y} f (suc n) x y e = ap₂ (λ (a : Y) (b : List Y). a ∷ b) e (map_same f n x y e)

-- writing the old element back restores the list
pub set_back : {X : Type 0} (xs : List X) (i : ℕ) (x y : X) → slice_get xs i ≡ Some x → xs ≡ set (set xs i y) i x
set_back xs i x y e = sym (set_read_back xs i x y (sym (get_or_from_slice_get xs i x x e)))

pub last_pushed : {X : Type 0} (xs : List X) (x : X) → slice_get (xs ++ x ∷ []) (length (xs ++ x ∷ []) - 1) ≡ Some x
last_pushed {X} xs x = ap (slice_get (xs ++ x ∷ [])) (let e = length_push xs x in let s : length (xs ++ x ∷ []) - 1 ≡ length xs = omega arith in s) ∙ there xs
  where
    there : (ys : List X) → slice_get (ys ++ x ∷ []) (length ys) ≡ Some x
    there [] = refl
    there (y ∷ ys) = there ys
