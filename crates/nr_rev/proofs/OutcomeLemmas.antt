-- Lemmas about the parts of a step's definition in a well-formed world: the properties of the value
-- that a part gives, and the reasons for which a part may refuse the step.
use Rattle.std.specs.Prelude.{◌+◌, ◌-◌, ◌^◌, nat_lt, if◌then◌else◌}
use Rattle.std.proofs.Common.{◌≡◌, ℕ, ◌<◌, Bool, true, false, Option, Some, None, Result, Ok, Err, refl, sym, ap, subst, ◌∙◌, arith}
use Rattle.nr_rev.specs.declared.answer.Answer.{Answer}
use Rattle.nr_rev.specs.declared.refusal.Refusal.{Refusal}
use Rattle.nr_rev.specs.declared.sides.Side.{Side}
use Rattle.nr_rev.specs.declared.sides.Sides.{Sides}
use Rattle.nr_rev.specs.Sides.{of_side}
use Rattle.nr_rev.specs.Refusing.{◌>>=◌, ◌>>◌, refused_if, refused_unless, found_or, raised_sequence}
use Rattle.nr_rev.specs.Descriptor.{both_raised}
use Rattle.nr_rev.specs.World.{World}
use Rattle.nr_rev.specs.WellFormed.{WellFormed}
use Rattle.nr_rev.specs.Step.{Outcome}
use Rattle.nr_rev.proofs.NumberLemmas.{below_of}
use Rattle.nr_rev.proofs.SideLemmas.{each_side}

-- the reasons that never occur in a well-formed world: running out of memory, and a corrupted
-- descriptor
abbrev pub is_never_given : Refusal → Bool
is_never_given Refusal.CorruptedDescriptor = true
is_never_given (Refusal.Memory _) = true
is_never_given _ = false

-- true if the result is a value with this property, or a reason that can occur in a well-formed
-- world
pub record Ends {A : Type 0} (P : A → Type 0) (m : Result A Refusal) : Type 0 where
  pub value : (a : A) → m ≡ Ok a → P a
  pub given : (reason : Refusal) → m ≡ Err reason → is_never_given reason ≡ false

-- true if a step leaves the world well formed, provided that `T` holds
abbrev pub KeepsFor : Type 0 → Outcome → Type 0
KeepsFor T o = Ends (λ (left : Answer × World). T → WellFormed left.1) o

-- true if a step leaves the world well formed
abbrev pub Keeps : Outcome → Type 0
Keeps o = Ends (λ (left : Answer × World). WellFormed left.1) o

same_ok : {A : Type 0} (a b : A) → ◌≡◌ {A = Result A Refusal} (Ok a) (Ok b) → a ≡ b
same_ok a b e = cc

same_err : {A : Type 0} (a b : Refusal) → ◌≡◌ {A = Result A Refusal} (Err a) (Err b) → a ≡ b
same_err a b e = cc

pub Ends-ok : {A : Type 0} {P : A → Type 0} {a : A} → P a → Ends P (Ok a)
Ends-ok {P = P} p = record { value = λ b e. subst P (same_ok _ b e) p; given = λ reason e. cc }

pub Ends-refused : {A : Type 0} {P : A → Type 0} {reason : Refusal} → is_never_given reason ≡ false → Ends P (Err reason)
Ends-refused {A = A} given = record { value = λ a e. cc; given = λ r e. ap is_never_given (sym (same_err {A = A} _ r e)) ∙ given }

-- the property of the value can be replaced by a weaker one
pub Ends-map : {A : Type 0} {P Q : A → Type 0} {m : Result A Refusal} → Ends P m → ((a : A) → P a → Q a) → Ends Q m
Ends-map first less = record { value = λ a e. less a (first.value a e); given = first.given }

pub Ends-bind : {A B : Type 0} {P : A → Type 0} {Q : B → Type 0} {m : Result A Refusal} {rest : A → Result B Refusal} → Ends P m → ((a : A) → P a → Ends Q (rest a)) → Ends Q (◌>>=◌ m rest)
Ends-bind {m = Ok a} first next = next a (first.value a refl)
Ends-bind {m = Err reason} first next = Ends-refused (first.given reason refl)

pub Ends-then : {B : Type 0} {P : Unit {0} → Type 0} {Q : B → Type 0} {m : Result (Unit {0}) Refusal} {rest : Result B Refusal} → Ends P m → (P tt → Ends Q rest) → Ends Q (◌>>◌ m rest)
Ends-then {m = Ok a} first next = next (first.value a refl)
Ends-then {m = Err reason} first next = Ends-refused (first.given reason refl)

pub Ends-either : {A : Type 0} {P : A → Type 0} (c : Bool) {x y : Result A Refusal} → (c ≡ true → Ends P x) → (c ≡ false → Ends P y) → Ends P (if c then x else y)
Ends-either true a b = a refl
Ends-either false a b = b refl

pub Ends-refused_if : (test : Bool) (reason : Refusal) → is_never_given reason ≡ false → Ends (λ _. test ≡ false) (refused_if test reason)
Ends-refused_if true reason given = Ends-refused given
Ends-refused_if false reason given = Ends-ok refl

pub Ends-refused_unless : (test : Bool) (reason : Refusal) → is_never_given reason ≡ false → Ends (λ _. test ≡ true) (refused_unless test reason)
Ends-refused_unless true reason given = Ends-ok refl
Ends-refused_unless false reason given = Ends-refused given

-- if the test is true, `refused_unless` doesn't refuse the step
pub Ends-certain : (test : Bool) (reason : Refusal) → test ≡ true → Ends (λ _. Unit {0}) (refused_unless test reason)
Ends-certain true reason so = Ends-ok tt
Ends-certain false reason so = cc

pub Ends-found_or : {A : Type 0} (o : Option A) (reason : Refusal) → is_never_given reason ≡ false → Ends (λ a. o ≡ Some a) (found_or o reason)
Ends-found_or (Some a) reason given = Ends-ok refl
Ends-found_or None reason given = Ends-refused given

-- true if a sequence was incremented
abbrev pub Raised : ℕ → ℕ → Type 0
Raised n m = (m ≡ n + 1) × (m < 2 ^ 64)

pub Ends-raised_sequence : (n : ℕ) → Ends (Raised n) (raised_sequence n)
Ends-raised_sequence n =
    Ends-then (Ends-refused_unless (nat_lt n (2 ^ 64 - 1)) _ refl) λ below.
    Ends-ok (let b = below_of n (2 ^ 64 - 1) below in (refl, omega arith))

-- true if both sides' sequences were incremented
abbrev pub BothRaised : Sides ℕ → Sides ℕ → Type 0
BothRaised old new = (side : Side) → Raised (of_side side old) (of_side side new)

pub Ends-both_raised : (sequences : Sides ℕ) → Ends (BothRaised sequences) (both_raised sequences)
Ends-both_raised sequences =
    Ends-bind (Ends-raised_sequence sequences.read) λ read read_raised.
    Ends-bind (Ends-raised_sequence sequences.write) λ write write_raised.
    Ends-ok (each_side _ read_raised write_raised)

-- equal results have equal parts
pub same_parts : {A B : Type 0} (a c : A) (b d : B) → ◌≡◌ {A = Result (A × B) Refusal} (Ok (a, b)) (Ok (c, d)) → (a ≡ c) × (b ≡ d)
same_parts {A} {B} a c b d e =
    let pairs : ◌≡◌ {A = A × B} (a, b) (c, d) = cc in
    (ap (λ (p : A × B). p.0) pairs, ap (λ (p : A × B). p.1) pairs)
