-- Lemmas about properties of both sides, and about a pair after one of its values is set.
use Rattle.std.proofs.Common.{◌≡◌, ◌≢◌, ◌⊎◌, inl, inr, refl}
use Rattle.nr_rev.specs.declared.sides.Side.{Side}
use Rattle.nr_rev.specs.declared.sides.Side.TheVariants.{Read, Write}
use Rattle.nr_rev.specs.declared.sides.Sides.{Sides}
use Rattle.nr_rev.specs.Sides.{of_side, with_side, twice}

-- a property that holds for reading and for writing holds for each side
pub each_side : (P : Side → Type 0) → P Read → P Write → (side : Side) → P side
each_side P read write Read = read
each_side P read write Write = write

pub other_side : (s side : Side) → (s ≡ side) ⊎ (s ≢ side)
other_side Read Read = inl refl
other_side Read Write = inr (λ e. cc)
other_side Write Read = inr (λ e. cc)
other_side Write Write = inl refl

pub of_side-with_side_same : {A : Type 0} (side : Side) (new : A) (both : Sides A) → of_side side (with_side side new both) ≡ new
of_side-with_side_same Read new both = refl
of_side-with_side_same Write new both = refl

pub of_side-with_side_other : {A : Type 0} (s side : Side) (new : A) (both : Sides A) → s ≢ side → of_side s (with_side side new both) ≡ of_side s both
of_side-with_side_other Read Read new both apart = absurd (apart refl)
of_side-with_side_other Read Write new both apart = refl
of_side-with_side_other Write Read new both apart = refl
of_side-with_side_other Write Write new both apart = absurd (apart refl)

pub of_side-twice : {A : Type 0} (side : Side) (a : A) → of_side side (twice a) ≡ a
of_side-twice side a = each_side (λ s. of_side s (twice a) ≡ a) refl refl side

-- if both values of a pair and a new value have a property, both values have it after one side is
-- set
pub with_side_all : {A : Type 0} (P : A → Type 0) (side : Side) (new : A) (both : Sides A) → P new → ((s : Side) → P (of_side s both)) → (s : Side) → P (of_side s (with_side side new both))
with_side_all P Read new both p all = each_side _ p (all Write)
with_side_all P Write new both p all = each_side _ (all Read) p
