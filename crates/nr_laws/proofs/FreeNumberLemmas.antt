-- Whether a number is free, how many times the free list contains it, and how long that list can
-- be.
use Rattle.std.proofs.Common.{◌≡◌, ℕ, Bool, true, ◌||◌, refl, false, [], inr, sym, ap, ◌∙◌, arith, true≢false, ◌≢◌, List, ◌∷◌, ◌⊎◌, inl, ap₂, ◌<◌, length, Option, Some, None, Result, Ok, Err}
use Rattle.std.proofs.lemmas.Option.{slice_get_within}
use Rattle.std.specs.Prelude.{◌==◌, OnOk, count_by, slice_get}
use Rattle.nr_rev.specs.declared.descriptor.DescriptorRow.{DescriptorRow}
use Rattle.nr_rev.specs.declared.refusal.Refusal.{Refusal}
use Rattle.nr_rev.specs.declared.refusal.Refusal.TheVariants.{NoSuchDescriptor}
use Rattle.nr_rev.specs.Refusing.{◌>>◌, found_or, refused_if}
use Rattle.nr_rev.specs.Step.{open_row_of}
use Rattle.nr_rev.specs.WellFormed.{WellFormed}
use Rattle.nr_rev.specs.World.{World, is_free_number}
use Rattle.nr_rev.specs.Lock.{bit}
use Rattle.nr_laws.proofs.DistinctNumberLemmas.{below_each_time, nowhere_in, room_for}
use Rattle.nr_laws.proofs.BoolLemmas.{neither_of}
use Rattle.nr_rev.proofs.NumberLemmas.{count_front, number_same, same_number}

swap_equal : (a b : ℕ) → (a == b) ≡ (b == a)
swap_equal a b = grind arith

-- a number that isn't free doesn't occur in the free list
pub uncounted : (d : ℕ) (free : List ℕ) → is_free_number d free ≡ false → count_by (λ f. f == d) free ≡ 0
uncounted d [] e = refl
uncounted d (f ∷ free) e =
    let n = neither_of (d == f) (is_free_number d free) e in
    let a = count_front f d free in
    let b : count_by (λ f. f == d) free ≡ 0 = uncounted d free n.1 in
    let c : bit (f == d) ≡ 0 = ap bit (swap_equal f d ∙ n.0) in
    omega arith

pub unfree : (d : ℕ) (free : List ℕ) → count_by (λ f. f == d) free ≡ 0 → is_free_number d free ≡ false
unfree d [] e = refl
unfree d (f ∷ free) e =
    let a = count_front f d free in
    let b : is_free_number d free ≡ false = unfree d free (omega arith) in
    let c : (d == f) ≡ false = swap_equal d f ∙ no_bit (f == d) (omega arith) in
    ap₂ (λ x y. x || y) c b
  where
    no_bit : (x : Bool) → bit x ≡ 0 → x ≡ false
    no_bit true e = absurd (omega arith)
    no_bit false e = refl

pub free_cases : (k d : ℕ) (free : List ℕ) → is_free_number k (d ∷ free) ≡ true → (k ≡ d) ⊎ ((k ≢ d) × (is_free_number k free ≡ true))
free_cases k d free e = go (k == d) refl e
  where
    go : (b : Bool) → (k == d) ≡ b → (b || is_free_number k free) ≡ true → (k ≡ d) ⊎ ((k ≢ d) × (is_free_number k free ≡ true))
    go true is e = inl (same_number k d is)
    go false is e = inr ((λ same. true≢false (sym (ap (λ n. k == n) (sym same) ∙ number_same k) ∙ is)), e)

pub free_more : (k d : ℕ) (free : List ℕ) → is_free_number k free ≡ true → is_free_number k (d ∷ free) ≡ true
free_more k d free e = go (k == d) e
  where
    go : (b : Bool) → is_free_number k free ≡ true → (b || is_free_number k free) ≡ true
    go true e = refl
    go false e = e

-- while a descriptor is open, the free list has room for one more number
free_room : (w : World) (d : ℕ) (row : DescriptorRow) → WellFormed w → is_free_number d w.free ≡ false → slice_get w.descriptors d ≡ Some row → length w.free < w.limits.descriptors
free_room w d row h not_free at =
    let room : length w.free < length w.descriptors =
    room_for w.free (length w.descriptors) d h.free.once
    (λ k some. below_each_time w.free (length w.descriptors) k h.free.made some)
    (nowhere_in d w.free not_free)
    (slice_get_within w.descriptors d row at) in
    let most = h.descriptors_limited in
    omega (arith, room, most)

by_row : (w : World) (d : ℕ) (row : DescriptorRow) (b : Bool) (o : Option DescriptorRow) → WellFormed w → is_free_number d w.free ≡ b → slice_get w.descriptors d ≡ o
    → (refused_if b NoSuchDescriptor >> found_or o NoSuchDescriptor) ≡ Ok row → length w.free < w.limits.descriptors
by_row w d row true o h free at e = absurd cc
by_row w d row false None h free at e = absurd cc
by_row w d row false (Some found) h free at e = free_room w d found h free at

pub closable_has_room : (w : World) (d : ℕ) → WellFormed w → (r : Result DescriptorRow Refusal) → r ≡ open_row_of d w → OnOk r (length w.free < w.limits.descriptors)
closable_has_room w d h (Ok row) e = by_row w d row (is_free_number d w.free) (slice_get w.descriptors d) h refl refl (sym e)
closable_has_room w d h (Err reason) e = tt
