-- The results of each lookup in a step.
use Rattle.std.proofs.Common.{◌≡◌, ℕ, true, false, ◌&&◌, List, [], ◌∷◌, Option, Some, None, Result, refl, sym, ap, ◌∙◌, zero, suc, true≢false, eq-eqb, ◌<◌, ◌≤◌}
use Rattle.std.specs.Prelude.{slice_get, nat_lt, nat_le}
use Rattle.nr_rev.specs.declared.sides.Side.{Side}
use Rattle.nr_rev.specs.declared.sides.Side.TheVariants.{Read, Write}
use Rattle.nr_rev.specs.declared.sides.Sides.{Sides}
use Rattle.nr_rev.specs.declared.status.Status.{Status}
use Rattle.nr_rev.specs.declared.status.Status.TheVariants.{Idle, Gone, Acquiring, Owing, Entering, Armed, Parking, Swapping, Checking}
use Rattle.nr_rev.specs.declared.descriptor.DescriptorRow.{DescriptorRow}
use Rattle.nr_rev.specs.Socket.{Socket}
use Rattle.nr_rev.specs.declared.refusal.Refusal.{Refusal}
use Rattle.nr_rev.specs.Refusing.{◌>>=◌, ◌>>◌}
use Rattle.nr_rev.specs.World.{World, is_waited, is_wait_at, is_free_number}
use Rattle.nr_rev.specs.WellFormed.{IsInside}
use Rattle.nr_rev.specs.Step.{alive, status_of, idle, is_idle, socket_of, row_of, open_row_of, sized, acquiring_of, owing_of, entering_of, armed_of, parking_of, swapping_of, checking_of}
use Rattle.nr_laws.proofs.BoolLemmas.{both_true, neither_of}
use Rattle.nr_rev.proofs.NumberLemmas.{below_of, most_of}
use Rattle.nr_rev.proofs.OutcomeLemmas.{Ends, Ends-ok, Ends-refused, Ends-map, Ends-bind, Ends-then, Ends-refused_if, Ends-refused_unless, Ends-found_or}

-- a goroutine that hasn't ended
pub Ends-alive : (o : Option Status) → Ends (λ status. o ≡ Some status) (alive o)
Ends-alive None = Ends-refused refl
Ends-alive (Some Gone) = Ends-refused refl
Ends-alive (Some status) = Ends-ok refl

pub Ends-status_of : (g : ℕ) (w : World) → Ends (λ status. slice_get w.goroutines g ≡ Some status) (status_of g w)
Ends-status_of g w = Ends-alive (slice_get w.goroutines g)

idle_is : (status : Status) → is_idle status ≡ true → status ≡ Idle
idle_is Idle e = refl
idle_is _ e = cc

pub Ends-idle : (g : ℕ) (w : World) → Ends (λ _. slice_get w.goroutines g ≡ Some Idle) (idle g w)
Ends-idle g w =
    Ends-bind (Ends-status_of g w) λ status found.
    Ends-map (Ends-refused_unless (is_idle status) _ refl) λ _ is. found ∙ ap Some (idle_is status is)

pub Ends-socket_of : (s : ℕ) (w : World) → Ends (λ (socket : Socket). slice_get w.sockets s ≡ Some socket) (socket_of s w)
Ends-socket_of s w = Ends-found_or (slice_get w.sockets s) _ refl

pub Ends-row_of : (d : ℕ) (w : World) → Ends (λ (row : DescriptorRow). slice_get w.descriptors d ≡ Some row) (row_of d w)
Ends-row_of d w = Ends-found_or (slice_get w.descriptors d) _ refl

Ends-open_row_of : (d : ℕ) (w : World) → Ends (λ (row : DescriptorRow). (slice_get w.descriptors d ≡ Some row) × (is_free_number d w.free ≡ false)) (open_row_of d w)
Ends-open_row_of d w =
    Ends-then (Ends-refused_if (is_free_number d w.free) _ refl) λ is_open.
    Ends-map (Ends-row_of d w) λ row at. (at, is_open)

-- a step that an idle goroutine makes on an open descriptor
pub Ends-idle_open : {A : Type 0} {P : A → Type 0} (g d : ℕ) (w : World) {rest : DescriptorRow → Result A Refusal}
    → ((row : DescriptorRow) → slice_get w.goroutines g ≡ Some Idle → slice_get w.descriptors d ≡ Some row → is_free_number d w.free ≡ false → Ends P (rest row))
    → Ends P (idle g w >> open_row_of d w >>= rest)
Ends-idle_open g d w next =
    Ends-then (Ends-idle g w) λ at.
    Ends-bind (Ends-open_row_of d w) λ row found. next row at found.0 found.1

pub Ends-sized : (n : ℕ) (w : World) → Ends (λ _. (0 < n) × (n ≤ w.limits.buffer)) (sized n w)
Ends-sized n w =
    Ends-map (Ends-refused_unless (nat_lt 0 n && nat_le n w.limits.buffer) _ refl) λ _ both.
    let p = both_true (nat_lt 0 n) (nat_le n w.limits.buffer) both in
    (below_of 0 n p.0, most_of n w.limits.buffer p.1)

is_place_here : (d : ℕ) (side : Side) → is_wait_at d side (Some (d, side)) ≡ true
is_place_here d Read = ap (λ b. b && true) (eq-eqb d d refl)
is_place_here d Write = ap (λ b. b && true) (eq-eqb d d refl)

-- if the search for a waiter finds none, no goroutine is inside the wait
pub nobody_inside : (gs : List Status) (d : ℕ) (side : Side) (g : ℕ) → is_waited d side gs ≡ false → IsInside gs g d side → ⊥
nobody_inside [] d side g e p = cc
nobody_inside (status ∷ gs) d side zero e p =
    true≢false (sym (ap (is_wait_at d side) p ∙ is_place_here d side) ∙ (neither_of _ _ e).0)
nobody_inside (status ∷ gs) d side (suc g) e p = nobody_inside gs d side g (neither_of _ _ e).1 p

-- the status that a step requires of a goroutine
pub Ends-acquiring_of : (status : Status) → Ends (λ (place : ℕ × Side). status ≡ Acquiring place.0 place.1) (acquiring_of status)
Ends-acquiring_of (Acquiring s side) = Ends-ok refl
Ends-acquiring_of _ = Ends-refused refl

pub Ends-owing_of : (status : Status) → Ends (λ (debt : ℕ × Sides ℕ). status ≡ Owing debt.0 debt.1.read debt.1.write) (owing_of status)
Ends-owing_of (Owing s reads writes) = Ends-ok refl
Ends-owing_of _ = Ends-refused refl

pub Ends-entering_of : (status : Status) → Ends (λ (place : ℕ × Side). status ≡ Entering place.0 place.1) (entering_of status)
Ends-entering_of (Entering d side) = Ends-ok refl
Ends-entering_of _ = Ends-refused refl

pub Ends-armed_of : (status : Status) → Ends (λ (place : ℕ × Side). status ≡ Armed place.0 place.1) (armed_of status)
Ends-armed_of (Armed d side) = Ends-ok refl
Ends-armed_of _ = Ends-refused refl

pub Ends-parking_of : (status : Status) → Ends (λ (place : ℕ × Side). status ≡ Parking place.0 place.1) (parking_of status)
Ends-parking_of (Parking d side) = Ends-ok refl
Ends-parking_of _ = Ends-refused refl

pub Ends-swapping_of : (status : Status) → Ends (λ (place : ℕ × Side). status ≡ Swapping place.0 place.1) (swapping_of status)
Ends-swapping_of (Swapping d side) = Ends-ok refl
Ends-swapping_of _ = Ends-refused refl

pub Ends-checking_of : (status : Status) → Ends (λ (place : ℕ × Side). status ≡ Checking place.0 place.1) (checking_of status)
Ends-checking_of (Checking d side) = Ends-ok refl
Ends-checking_of _ = Ends-refused refl
