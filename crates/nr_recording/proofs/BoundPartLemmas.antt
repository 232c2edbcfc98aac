-- If a computation succeeds, so do its parts.
use Rattle.std.proofs.Common.{◌≡◌, ◌⊎◌, Bool, true, false, cond, Option, Some, None, Result, Ok, Err, refl, inl, inr}
use Rattle.std.specs.Prelude.{option_map, option_and_then}
use Rattle.nr_recording.specs.declared.fault.Fault.{Fault}
use Rattle.nr_recording.specs.Faults.{◌>>=◌, or_fault}

abbrev ok : {A E : Type 0} → A → Result A E
ok x = Ok x

pub same_ok : {A E : Type 0} (x y : A) → ok {E = E} x ≡ ok y → x ≡ y
same_ok x y e = cc

-- if two computations in sequence succeed, so does each of them
pub bind_ok : {A B E : Type 0} (r : Result A E) (f : A → Result B E) (y : B) → (r >>= f) ≡ Ok y → (x : A) × (r ≡ Ok x) × (f x ≡ Ok y)
bind_ok (Ok x) f y e = (x, refl, e)
bind_ok (Err d) f y e = absurd cc

-- if a conditional is `Ok` and its true branch is an error, its condition is false
pub guard_ok : {A E : Type 0} (b : Bool) (d : E) (r : Result A E) (y : A) → cond b (Err d) r ≡ Ok y → (b ≡ false) × (r ≡ Ok y)
guard_ok true d r y e = absurd cc
guard_ok false d r y e = (refl, e)

-- if a conditional is `Ok` and its false branch is an error, its condition is true
pub passed_ok : {A E : Type 0} (b : Bool) (d : E) (r : Result A E) (y : A) → cond b r (Err d) ≡ Ok y → (b ≡ true) × (r ≡ Ok y)
passed_ok true d r y e = (refl, e)
passed_ok false d r y e = absurd cc

-- the result of a conditional is the result of one of its branches
pub choice : {A : Type 0} (b : Bool) (x y z : A) → cond b x y ≡ z → ((b ≡ true) × (x ≡ z)) ⊎ ((b ≡ false) × (y ≡ z))
choice true x y z e = inl (refl, e)
choice false x y z e = inr (refl, e)

pub found_ok : {A : Type 0} (f : Fault) (o : Option A) (x : A) → or_fault f o ≡ Ok x → o ≡ Some x
found_ok f (Some y) x e = cc
found_ok f None x e = absurd cc

pub map_some : {A B : Type 0} (f : A → B) (o : Option A) (y : B) → option_map f o ≡ Some y → (x : A) × (o ≡ Some x) × (f x ≡ y)
map_some f (Some x) y e = (x, refl, cc)
map_some f None y e = absurd cc

pub then_some : {A B : Type 0} (f : A → Option B) (o : Option A) (y : B) → option_and_then f o ≡ Some y → (x : A) × (o ≡ Some x) × (f x ≡ Some y)
then_some f (Some x) y e = (x, refl, e)
then_some f None y e = absurd cc

-- if a conditional has a value and its true branch is None, its condition is false, and its false
-- branch has that value
pub kept_some : {A : Type 0} (b : Bool) (o : Option A) (y : A) → cond b None o ≡ Some y → (b ≡ false) × (o ≡ Some y)
kept_some true o y e = absurd cc
kept_some false o y e = (refl, e)
