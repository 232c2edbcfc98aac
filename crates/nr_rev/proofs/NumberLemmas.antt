-- Lemmas about comparing numbers, decrementing them, and counting them in a list.
use Rattle.std.proofs.Common.{◌≡◌, ◌≢◌, ℕ, ◌≤◌, ◌<◌, Bool, true, false, List, [], ◌∷◌, ◌++◌, refl, arith, ◌+◌, ◌-◌, cond}
use Rattle.std.specs.Prelude.{◌==◌, nat_le, nat_lt, count_by}
use Rattle.nr_rev.specs.Lock.{bit}
use Rattle.nr_rev.specs.WellFormed.{IsField}
use Rattle.std.proofs.lemmas.List.Sums.{sum_by-append}

pub same_number : (a b : ℕ) → (a == b) ≡ true → a ≡ b
same_number a b e = grind (arith, e)

pub below_of : (a b : ℕ) → nat_lt a b ≡ true → a < b
below_of a b e = grind (arith, e)

pub most_of : (a b : ℕ) → nat_le a b ≡ true → a ≤ b
most_of a b e = grind (arith, e)

cond_bit : (b : Bool) → cond b 1 0 ≡ bit b
cond_bit true = refl
cond_bit false = refl

pub count_push : (g k : ℕ) (q : List ℕ) → count_by (λ h. h == k) (q ++ g ∷ []) ≡ count_by (λ h. h == k) q + bit (g == k)
count_push g k q = let a = sum_by-append (λ h. cond (h == k) 1 0) q (g ∷ []) in let b = cond_bit (g == k) in omega arith

pub count_front : (g k : ℕ) (q : List ℕ) → count_by (λ h. h == k) (g ∷ q) ≡ bit (g == k) + count_by (λ h. h == k) q
count_front g k q = let a = sum_by-append (λ h. cond (h == k) 1 0) (g ∷ []) q in let b = cond_bit (g == k) in omega arith

pub number_same : (a : ℕ) → (a == a) ≡ true
number_same a = grind arith

pub number_apart : (a b : ℕ) → a ≢ b → (a == b) ≡ false
number_apart a b apart = grind arith

pub lowered : (n : ℕ) → IsField n → IsField (n - 1)
lowered n small = omega arith
