-- The entry of a descriptor's side.
use Rattle.std.proofs.Common.{◌≡◌, ◌≢◌, ◌⊎◌, inl, inr, ⊎_elim, ℕ, zero, suc, ◌+◌, ◌*◌, ◌<◌, Bool, true, false, ◌&&◌, List, [], ◌∷◌, length, Option, Some, None, refl, sym, ap, ◌∙◌, subst, arith}
use Rattle.std.specs.Prelude.{◌==◌, cond, find, option_map}
use Rattle.std.proofs.lemmas.Bool.{cases_eq}
use Rattle.std.proofs.lemmas.Bool.Decides.{eqb_tells}
use Rattle.nr_rev.specs.declared.sides.Side.{Side}
use Rattle.nr_rev.specs.declared.sides.Side.TheVariants.{Read, Write}
use Rattle.nr_rev.specs.declared.timer.Entry.{Entry}
use Rattle.nr_rev.specs.declared.timer.Timer.{Timer}
use Rattle.nr_rev.specs.Sides.{same_side}
use Rattle.nr_timers.specs.Order.{at, Apart}
use Rattle.nr_timers.specs.Index.{key, key_of, Absent}
use Rattle.nr_timers.specs.TimersOf.{is_for, timer_of, SetsTimer}
use Rattle.nr_timers.proofs.DrawnLemmas.{Has}

-- each cell belongs to only one descriptor's side
pub one_side : (d e : ℕ) (s t : Side) → key_of d s ≡ key_of e t → (d ≡ e) × (s ≡ t)
one_side d e Read Read h = let is : 2 * d ≡ 2 * e = h in (omega arith, refl)
one_side d e Read Write h = let is : 2 * d ≡ 2 * e + 1 = h in absurd (omega arith)
one_side d e Write Read h = let is : 2 * d + 1 ≡ 2 * e = h in absurd (omega arith)
one_side d e Write Write h = let is : 2 * d + 1 ≡ 2 * e + 1 = h in (omega arith, refl)

pub key_is : (x : Entry) → key x ≡ key_of x.descriptor x.side
unfolding key
key_is x = refl

same_number : (a d : ℕ) → a ≡ d → (a == d) ≡ true
same_number a d is = ⊎_elim (λ h. h.0) (λ h. absurd (h.1 is)) (eqb_tells a d)

other_number : (a d : ℕ) → a ≢ d → (a == d) ≡ false
other_number a d n = ⊎_elim (λ h. absurd (n h.1)) (λ h. h.0) (eqb_tells a d)

and_false : (b : Bool) → b && false ≡ false
and_false true = refl
and_false false = refl

same_side_self : (s : Side) → same_side s s ≡ true
same_side_self Read = refl
same_side_self Write = refl

both : (a d : ℕ) (t s : Side) → a ≡ d → t ≡ s → (a == d) && same_side t s ≡ true
both a d t s is side =
    let sides : same_side t s ≡ true = subst (λ (u : Side). same_side u s ≡ true) (sym side) (same_side_self s) in
    ap (λ b. b && same_side t s) (same_number a d is) ∙ sides

not_both : (a d : ℕ) (t s : Side) → key_of a t ≢ key_of d s → (a == d) && same_side t s ≡ false
not_both a d Read Read n = ap (λ b. b && true) (other_number a d (λ e. n (ap (λ k. 2 * k) e)))
not_both a d Read Write n = and_false (a == d)
not_both a d Write Read n = and_false (a == d)
not_both a d Write Write n = ap (λ b. b && true) (other_number a d (λ e. n (ap (λ k. 2 * k + 1) e)))

for_key : (d : ℕ) (s : Side) (x : Entry) → key x ≡ key_of d s → is_for d s x ≡ true
for_key d s x is =
    let both_same = one_side x.descriptor d x.side s (sym (key_is x) ∙ is) in
    both x.descriptor d x.side s both_same.0 both_same.1

not_for_key : (d : ℕ) (s : Side) (x : Entry) → key x ≢ key_of d s → is_for d s x ≡ false
not_for_key d s x n = not_both x.descriptor d x.side s (λ e. n (key_is x ∙ e))

Absent-cons : (k : ℕ) (y : Entry) (ys : List Entry) → key y ≢ k → Absent k ys → Absent k (y ∷ ys)
Absent-cons k y ys n none zero lt e = n e
Absent-cons k y ys n none (suc p) lt e = none p (let more : suc p < suc (length ys) = lt in omega arith) e

Absent-head : (k : ℕ) (y : Entry) (ys : List Entry) → Absent k (y ∷ ys) → key y ≢ k
Absent-head k y ys none e = none 0 (omega arith) e

Absent-tail : (k : ℕ) (y : Entry) (ys : List Entry) → Absent k (y ∷ ys) → Absent k ys
Absent-tail k y ys none p lt e = none (suc p) (omega arith) e

Has-tail : (y : Entry) (ys : List Entry) (x : Entry) → y ≢ x → Has x (y ∷ ys) → Has x ys
Has-tail y ys x n (zero, lt, is) = absurd (n is)
Has-tail y ys x n (suc p, lt, is) = (p, (let more : suc p < suc (length ys) = lt in omega arith), is)

Has-cons : (y : Entry) (ys : List Entry) (x : Entry) → Has x ys → Has x (y ∷ ys)
Has-cons y ys x h = let lt = h.1 in (suc h.0, omega arith, h.2)

pub Apart-tail : (f : Entry → ℕ) (y : Entry) (ys : List Entry) → Apart f (y ∷ ys) → Apart f ys
Apart-tail f y ys h p q lt lt_q e =
    let same : suc p ≡ suc q = h (suc p) (suc q) (omega arith) (omega arith) e in
    omega arith

-- a cell has an entry or none
pub has_or_absent : (k : ℕ) (xs : List Entry) → Absent k xs ⊎ ((x : Entry) × Has x xs × (key x ≡ k))
has_or_absent k [] = inl (λ p lt e. let no : p < 0 = lt in omega arith)
has_or_absent k (y ∷ ys) =
    ⊎_elim (λ is. inr (y, (0, omega arith, refl), is))
    (λ n. ⊎_elim (λ none. inl (Absent-cons k y ys n none)) (λ h. inr (h.0, Has-cons y ys h.0 h.1, h.2)) (has_or_absent k ys))
    (cases_eq (key y) k)

abbrev first_timer : ℕ → Side → Entry → List Entry → Bool → Option Timer
first_timer d s y ys b = option_map (λ (e : Entry). e.timer) (cond b (Some y) (find (is_for d s) ys))

pub timer_found : (d : ℕ) (s : Side) (xs : List Entry) (x : Entry) → Apart key xs → Has x xs → key x ≡ key_of d s → timer_of xs d s ≡ Some x.timer
timer_found d s [] x apart (p, lt, same) is = let no : p < 0 = lt in absurd (omega arith)
timer_found d s (y ∷ ys) x apart h is =
    ⊎_elim
    (
    λ same.
    let first : h.0 ≡ 0 = apart h.0 0 h.1 (omega arith) (ap key h.2 ∙ is ∙ sym same) in
    let it : y ≡ x = sym (ap (at (y ∷ ys)) first) ∙ h.2 in
    ap (first_timer d s y ys) (for_key d s y same) ∙ ap (λ (e : Entry). Some e.timer) it
    )
    (
    λ n. ap (first_timer d s y ys) (not_for_key d s y n)
    ∙ timer_found d s ys x (Apart-tail key y ys apart) (Has-tail y ys x (λ e. n (ap key e ∙ is)) h) is
    )
    (cases_eq (key y) (key_of d s))

pub timer_none : (d : ℕ) (s : Side) (xs : List Entry) → Absent (key_of d s) xs → timer_of xs d s ≡ None
timer_none d s [] none = refl
timer_none d s (y ∷ ys) none =
    ap (first_timer d s y ys) (not_for_key d s y (Absent-head (key_of d s) y ys none))
    ∙ timer_none d s ys (Absent-tail (key_of d s) y ys none)

-- if a descriptor's side has the same entries in two lists, it has the same timer in both
pub same_timer : (d : ℕ) (s : Side) (xs ys : List Entry) → Apart key xs → Apart key ys → ((x : Entry) → key x ≡ key_of d s → Has x xs → Has x ys)
    → ((x : Entry) → key x ≡ key_of d s → Has x ys → Has x xs) → timer_of xs d s ≡ timer_of ys d s
same_timer d s xs ys apart_x apart_y to from =
    ⊎_elim
    (
    λ none. timer_none d s xs none
    ∙ sym (timer_none d s ys (λ p lt e. let h = from (at ys p) e (p, lt, refl) in none h.0 h.1 (ap key h.2 ∙ e)))
    )
    (λ h. timer_found d s xs h.0 apart_x h.1 h.2 ∙ sym (timer_found d s ys h.0 apart_y (to h.0 h.2 h.1) h.2))
    (has_or_absent (key_of d s) xs)

other_side : (d k : ℕ) (s t : Side) → d ≢ k → key_of d s ≢ key_of k t
other_side d k s t n e = n (one_side d k s t e).0

-- one descriptor's side has this timer, and all others are unchanged
pub sets_timer : (d : ℕ) (side : Side) (timer : Option Timer) (old new : List Entry) → timer_of new d side ≡ timer
    → ((k : ℕ) (s : Side) → key_of k s ≢ key_of d side → timer_of new k s ≡ timer_of old k s) → SetsTimer d side timer old new
sets_timer d Read timer old new here others =
    record {
      here = λ i. record { read = here i; write = others d Write (λ e. let is : 2 * d + 1 ≡ 2 * d = e in omega arith) i };
      others = λ k n i. record { read = others k Read (other_side k d Read Read n) i; write = others k Write (other_side k d Write Read n) i };
    }
sets_timer d Write timer old new here others =
    record {
      here = λ i. record { read = others d Read (λ e. let is : 2 * d ≡ 2 * d + 1 = e in omega arith) i; write = here i };
      others = λ k n i. record { read = others k Read (other_side k d Read Write n) i; write = others k Write (other_side k d Write Write n) i };
    }
