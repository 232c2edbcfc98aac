-- The places of deltas in the ring: the step after position k has place k modulo the number of
-- places.
use Rattle.std.proofs.Common.{◌≡◌, ◌≢◌, ℕ, suc, ◌+◌, ◌-◌, ◌*◌, ◌/◌, ◌%◌, ◌<◌, ◌≤◌, ◌⊎◌, inl, inr, List, length, Some, sym, ap, ◌∙◌, subst, arith, add-one}
use Rattle.std.specs.List.{slice_get}
use Rattle.std.proofs.Math.Nat.{add-mul, mod-eq_of_lt, mod_self, mul-le-mul_right, suc-mod}
use Rattle.std.proofs.lemmas.List.{get_or-set_other, length-set}
use Rattle.std.proofs.lemmas.Nat.{div-add-mod', mod_below}
use Rattle.std.proofs.lemmas.Option.{get_or_from_slice_get, slice_get-get_or, slice_get_within}
use Rattle.std.specs.Prelude.{slice_set}

below-or-at : (k n : ℕ) → k < n + 1 → (k < n) ⊎ (k ≡ n)
below-or-at k n h = grind arith

less-or-not : (x y : ℕ) → (x < y) ⊎ (y ≤ x)
less-or-not x y = grind arith

-- two different numbers with the same remainder modulo m differ by at least m
rounds-apart : (k p m x y r : ℕ) → x * m + r ≡ k → y * m + r ≡ p → k < p → k + m ≤ p
rounds-apart k p m x y r low high below =
    elim (less-or-not x y) [
      | inl less ↦
          let more : (x + 1) * m ≤ y * m = mul-le-mul_right m (omega (arith, less)) in
          let round : (x + 1) * m ≡ x * m + 1 * m = add-mul x 1 m in
          omega (arith, more, round, low, high)
      | inr not ↦
          let fewer : y * m ≤ x * m = mul-le-mul_right m not in
          absurd (omega (arith, fewer, low, high, below))
    ]

-- two steps have different places if their positions differ by less than the number of places
pub apart : (k p m : ℕ) → k < p → p < k + m → k % m ≢ p % m
apart k p m below near = λ same.
    let low = div-add-mod' k m in
    let high : p / m * m + k % m ≡ p = subst (λ r. p / m * m + r ≡ p) (sym same) (div-add-mod' p m) in
    let far = rounds-apart k p m (k / m) (p / m) (k % m) low high below in
    omega (arith, far, near)

-- the first place follows the last one
pub wraps : (p d : ℕ) → p % (d + 1) ≡ d → (p + 1) % (d + 1) ≡ 0
wraps p d last =
    ap (λ n. n % (d + 1)) (add-one p) ∙ suc-mod p (d + 1) ∙ ap (λ r. suc r % (d + 1)) last
    ∙ subst (λ m. suc d % m ≡ 0) (sym (add-one d)) (mod_self (suc d))

-- any place but the last is followed by the place above it
pub follows : (p d : ℕ) → p % (d + 1) < d → (p + 1) % (d + 1) ≡ p % (d + 1) + 1
follows p d before =
    ap (λ n. n % (d + 1)) (add-one p) ∙ suc-mod p (d + 1) ∙ mod-eq_of_lt (omega (arith, before)) ∙ sym (add-one (p % (d + 1)))

-- each place is below the number of places
pub place-within : (p d : ℕ) → p % (d + 1) < d + 1
place-within p d = mod_below p (d + 1) (omega arith)

-- the last place precedes the first one
pub wraps-back : (p d : ℕ) → (p + 1) % (d + 1) ≡ 0 → p % (d + 1) ≡ d
wraps-back p d first =
    elim (below-or-at (p % (d + 1)) d (place-within p d)) [
      | inl before ↦ let next = follows p d before in absurd (omega (arith, next, first))
      | inr last ↦ last
    ]

-- any place but the first is preceded by the place below it
pub follows-back : (p d : ℕ) → 0 < (p + 1) % (d + 1) → p % (d + 1) ≡ (p + 1) % (d + 1) - 1
follows-back p d some =
    elim (below-or-at (p % (d + 1)) d (place-within p d)) [
      | inl before ↦ let next = follows p d before in omega (arith, next)
      | inr last ↦ let next = wraps p d last in absurd (omega (arith, next, some))
    ]

-- if a step has the last place, the next step has the first place
pub after-last : (position d place : ℕ) → place ≡ position % (d + 1) → d ≤ place → 0 ≡ (position + 1) % (d + 1)
after-last position d place at last =
    let within = place-within position d in
    sym (wraps position d (omega (arith, at, last, within)))

-- if a step's place isn't the last one, the next step has the place above it
pub after-other : (position d place : ℕ) → place ≡ position % (d + 1) → place < d → place + 1 ≡ (position + 1) % (d + 1)
after-other position d place at other = ap (λ n. n + 1) at ∙ sym (follows position d (omega (arith, at, other)))

-- if a step has the first place, the previous step has the last place
pub before-first : (position d place : ℕ) → 0 < position → place ≡ position % (d + 1) → place ≡ 0 → d ≡ (position - 1) % (d + 1)
before-first position d place some at first =
    let whole : position ≡ position - 1 + 1 = omega (arith, some) in
    sym (wraps-back (position - 1) d (ap (λ n. n % (d + 1)) (sym whole) ∙ sym at ∙ first))

-- if a step's place isn't the first one, the previous step has the place below it
pub before-other : (position d place : ℕ) → 0 < position → place ≡ position % (d + 1) → 0 < place → place - 1 ≡ (position - 1) % (d + 1)
before-other position d place some at other =
    let whole : position ≡ position - 1 + 1 = omega (arith, some) in
    let here : place ≡ (position - 1 + 1) % (d + 1) = at ∙ ap (λ n. n % (d + 1)) whole in
    ap (λ n. n - 1) here ∙ sym (follows-back (position - 1) d (subst (λ n. 0 < n) here other))

-- writing to one place doesn't change another place
pub slice_get-set_other : {X : Type 0} (xs : List X) (i j : ℕ) (new x : X) → j ≢ i → slice_get xs j ≡ Some x → slice_get (slice_set xs i new) j ≡ Some x
slice_get-set_other xs i j new x other there =
    let within : j < length (slice_set xs i new) = let w = slice_get_within xs j x there in let l = length-set xs i new in omega (arith, w, l) in
    slice_get-get_or (slice_set xs i new) j x within ∙ ap (λ y. Some y) (get_or-set_other xs i j new x other ∙ get_or_from_slice_get xs j x x there)
