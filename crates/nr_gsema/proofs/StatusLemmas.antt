-- `same_status` holds if and only if two statuses are equal.
use Rattle.std.proofs.Common.{◌≡◌, ◌↔◌, ℕ, true, ◌&&◌, refl, ap, ap₂, subst, ◌∙◌}
use Rattle.std.specs.Prelude.{◌==◌}
use Rattle.nr_rev.specs.declared.sides.Side.{Side}
use Rattle.nr_rev.specs.declared.status.Status.{Status}
use Rattle.nr_rev.specs.declared.status.Status.TheVariants.{Idle, Acquiring, Queued, Relock, Owing, Entering, Armed, Parking, Parked, Swapping, Checking, Gone}
use Rattle.nr_rev.specs.Sides.{same_side}
use Rattle.nr_rev.proofs.NumberLemmas.{number_same, same_number}
use Rattle.nr_laws.proofs.BoolLemmas.{both_true}
use Rattle.nr_gsema.specs.Step.{same_place, same_status}
use Rattle.nr_gsema.proofs.PlaceLemmas.{place_same, same_side_is}

place_is : (status : ℕ → Side → Status) (n m : ℕ) (side other : Side) → same_place n side m other ≡ true → status n side ≡ status m other
place_is status n m side other e = let p = both_true (n == m) (same_side side other) e in ap₂ status (same_number n m p.0) (same_side_is side other p.1)

status_is : (a b : Status) → same_status a b ≡ true → a ≡ b
status_is Idle Idle e = refl
status_is (Acquiring n side) (Acquiring m other) e = place_is Acquiring n m side other e
status_is (Queued n side) (Queued m other) e = place_is Queued n m side other e
status_is (Relock n side) (Relock m other) e = place_is Relock n m side other e
status_is (Owing s reads writes) (Owing k r w) e =
    let p = both_true (s == k) ((reads == r) && (writes == w)) e in
    let q = both_true (reads == r) (writes == w) p.1 in
    ap (λ n. Owing n reads writes) (same_number s k p.0) ∙ ap₂ (Owing k) (same_number reads r q.0) (same_number writes w q.1)
status_is (Entering n side) (Entering m other) e = place_is Entering n m side other e
status_is (Armed n side) (Armed m other) e = place_is Armed n m side other e
status_is (Parking n side) (Parking m other) e = place_is Parking n m side other e
status_is (Parked n side) (Parked m other) e = place_is Parked n m side other e
status_is (Swapping n side) (Swapping m other) e = place_is Swapping n m side other e
status_is (Checking n side) (Checking m other) e = place_is Checking n m side other e
status_is Gone Gone e = refl
status_is _ _ e = cc

is_itself : (a : Status) → same_status a a ≡ true
is_itself Idle = refl
is_itself (Acquiring n side) = place_same n side
is_itself (Queued n side) = place_same n side
is_itself (Relock n side) = place_same n side
is_itself (Owing s reads writes) =
    ap (λ b. b && ((reads == reads) && (writes == writes))) (number_same s) ∙ ap (λ b. b && (writes == writes)) (number_same reads) ∙ number_same writes
is_itself (Entering n side) = place_same n side
is_itself (Armed n side) = place_same n side
is_itself (Parking n side) = place_same n side
is_itself (Parked n side) = place_same n side
is_itself (Swapping n side) = place_same n side
is_itself (Checking n side) = place_same n side
is_itself Gone = refl

pub just_equals : (a b : Status) → (same_status a b ≡ true) ↔ (a ≡ b)
just_equals a b = (status_is a b, λ e. subst (λ x. same_status a x ≡ true) e (is_itself a))
