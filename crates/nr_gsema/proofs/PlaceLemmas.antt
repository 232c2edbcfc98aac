-- Lemmas about the semaphore at which a goroutine is queued, and how many times the goroutine is
-- counted there.
use Rattle.std.proofs.Common.{◌≡◌, ◌⊎◌, inl, inr, ℕ, ◌≤◌, Bool, true, false, ◌&&◌, Some, refl, sym, ap, ◌∙◌, arith}
use Rattle.std.proofs.lemmas.Bool.{cases_eq}
use Rattle.std.specs.Prelude.{◌==◌}
use Rattle.nr_rev.specs.declared.sides.Side.{Side}
use Rattle.nr_rev.specs.declared.sides.Side.TheVariants.{Read, Write}
use Rattle.nr_rev.specs.declared.status.Status.{Status}
use Rattle.nr_rev.specs.declared.status.Status.TheVariants.{Queued}
use Rattle.nr_rev.specs.Lock.{bit}
use Rattle.nr_rev.specs.Sides.{same_side}
use Rattle.nr_rev.specs.WellFormed.{is_queued}
use Rattle.nr_rev.proofs.SideLemmas.{other_side}
use Rattle.nr_rev.proofs.NumberLemmas.{same_number, number_same}
use Rattle.nr_laws.proofs.BoolLemmas.{both_true, never_true}
use Rattle.nr_gsema.specs.Links.{is_waiting}

-- true if a goroutine with this status is queued at this semaphore, or isn't queued at all
abbrev pub Near : ℕ → Side → Status → Type 0
Near s side status = (status ≡ Queued s side) ⊎ (is_waiting status ≡ false)

-- another semaphore
abbrev pub Apart : ℕ → Side → ℕ → Side → Type 0
Apart s side k other = k ≡ s → other ≡ side → ⊥

pub same_side_is : (a b : Side) → same_side a b ≡ true → a ≡ b
same_side_is Read Read e = refl
same_side_is Read Write e = cc
same_side_is Write Read e = cc
same_side_is Write Write e = refl

pub place_apart : (s : ℕ) (side : Side) (k : ℕ) (other : Side) → Apart s side k other → ((k == s) && same_side other side) ≡ false
place_apart s side k other apart = never_true _ (λ e. let p = both_true (k == s) (same_side other side) e in apart (same_number k s p.0) (same_side_is other side p.1))

pub place_same : (s : ℕ) (side : Side) → ((s == s) && same_side side side) ≡ true
place_same s Read = ap (λ t. t && true) (number_same s)
place_same s Write = ap (λ t. t && true) (number_same s)

pub place_cases : (s : ℕ) (side : Side) (k : ℕ) (other : Side) → ((k ≡ s) × (other ≡ side)) ⊎ Apart s side k other
place_cases s side k other =
    elim (cases_eq k s) [
      | inl same ↦ elim (other_side other side) [ inl e ↦ inl (same, e) | inr ne ↦ inr (λ _ e. ne e) ]
      | inr ne ↦ inr (λ e _. ne e)
    ]

pub unqueued : (status : Status) (k : ℕ) (other : Side) → is_waiting status ≡ false → is_queued k other (Some status) ≡ false
unqueued (Queued s side) k other e = cc
unqueued _ k other e = refl

pub not_elsewhere : (s : ℕ) (side : Side) (k : ℕ) (other : Side) (status : Status) → Near s side status → Apart s side k other → is_queued k other (Some status) ≡ false
not_elsewhere s side k other status (inl e) apart = ap (λ x. is_queued k other (Some x)) e ∙ place_apart s side k other apart
not_elsewhere s side k other status (inr none) apart = unqueued status k other none

pub queued_parts : (s : ℕ) (side : Side) (k : ℕ) (other : Side) → Queued s side ≡ Queued k other → (k ≡ s) × (other ≡ side)
queued_parts s side k other e = (cc, cc)

pub differs : (s : ℕ) (side : Side) (k : ℕ) (other : Side) (status : Status) → Near s side status → Apart s side k other → status ≡ Queued k other → ⊥
differs s side k other status (inl e) apart q = let p = queued_parts s side k other (sym e ∙ q) in apart p.0 p.1
differs s side k other status (inr none) apart q = let t : true ≡ false = ap is_waiting (sym q) ∙ none in absurd cc

pub bit_le : (b : Bool) → bit b ≤ 1
bit_le true = omega arith
bit_le false = omega arith

pub bit_false : (b c : Bool) → b ≡ false → bit (b && c) ≡ 0
bit_false b c e = ap (λ x. bit (x && c)) e

pub bit_true : (b c : Bool) → b ≡ true → bit (b && c) ≡ bit c
bit_true b c e = ap (λ x. bit (x && c)) e

pub queued_here : (s : ℕ) (side : Side) → is_queued s side (Some (Queued s side)) ≡ true
queued_here s side = place_same s side
