-- A heap has as many entries as the descriptors have timers, and the least of these is at place 0.
use Rattle.std.proofs.Common.{◌≡◌, ◌≢◌, ◌⊎◌, inl, inr, ⊎_elim, ℕ, zero, suc, ◌+◌, ◌<◌, ◌≤◌, Bool, true, false, if◌then◌else◌, List, [], ◌∷◌, ◌++◌, length, Option, Some, None, refl, sym, ap, ◌∙◌, subst, arith}
use Rattle.std.specs.Prelude.{slice_get, slice_index_or}
use Rattle.nr_rev.proofs.SideLemmas.{of_side-twice}
use Rattle.nr_rev.proofs.HeapEntryLemmas.{In, entry_in, in_append, least_in}
use Rattle.std.proofs.lemmas.Option.{none-some, same_Some}
use Rattle.nr_rev.specs.declared.sides.Side.{Side}
use Rattle.nr_rev.specs.declared.sides.Side.TheVariants.{Read, Write}
use Rattle.nr_rev.specs.declared.sides.Sides.{Sides}
use Rattle.nr_rev.specs.declared.timer.Entry.{Entry}
use Rattle.nr_rev.specs.declared.timer.Timer.{Timer}
use Rattle.nr_rev.specs.Sides.{of_side, twice}
use Rattle.nr_rev.specs.Timer.{is_before, earlier_of, least_of, entry_of, entries_at, entries_from}
use Rattle.nr_timers.specs.Order.{at, is_less, Apart}
use Rattle.nr_timers.specs.Index.{key, key_of}
use Rattle.nr_timers.specs.ReversibleLaws.{same_number}
use Rattle.nr_timers.specs.State.{State, IsTimers}
use Rattle.nr_timers.specs.TimersOf.{timer_of}
use Rattle.nr_timers.specs.Auxiliary.TimersOf.{AreTimers}
use Rattle.nr_timers.proofs.OrderLemmas.{least_first, less_once}
use Rattle.nr_timers.proofs.DrawnLemmas.{Has}
use Rattle.nr_timers.proofs.LookupLemmas.{key_is, one_side, timer_found, timer_none, has_or_absent, Apart-tail}

-- an entry that a list contains has a place in the list
in_has : (e : Entry) (xs : List Entry) → In e xs → Has e xs
in_has e [] p = absurd p
in_has e (x ∷ xs) (inl same) = (0, omega arith, same)
in_has e (x ∷ xs) (inr p) = let h = in_has e xs p in let lt = h.1 in (suc h.0, omega arith, h.2)

has_in : (e : Entry) (xs : List Entry) → Has e xs → In e xs
has_in e [] (p, lt, same) = let no : p < 0 = lt in absurd (omega arith)
has_in e (x ∷ xs) (zero, lt, same) = inl same
has_in e (x ∷ xs) (suc p, lt, same) = inr (has_in e xs (p, (let more : suc p < suc (length xs) = lt in omega arith), same))

in_first : (e : Entry) (xs ys : List Entry) → In e xs → In e (xs ++ ys)
in_first e [] ys p = absurd p
in_first e (x ∷ xs) ys (inl p) = inl p
in_first e (x ∷ xs) ys (inr p) = inr (in_first e xs ys p)

in_second : (e : Entry) (xs ys : List Entry) → In e ys → In e (xs ++ ys)
in_second e [] ys p = p
in_second e (x ∷ xs) ys p = inr (in_second e xs ys p)

-- no two entries have the same key
abbrev Once : List Entry → Type 0
Once [] = Unit {0}
Once (x ∷ xs) = ((y : Entry) → In y xs → key y ≢ key x) × Once xs

once_append : (xs ys : List Entry) → Once xs → Once ys → ((x y : Entry) → In x xs → In y ys → key y ≢ key x) → Once (xs ++ ys)
once_append [] ys a b apart = b
once_append (x ∷ xs) ys a b apart = (
  λ y p. ⊎_elim (λ q. a.0 y q) (λ q. apart x y (inl refl) q) (in_append y xs ys p),
  once_append xs ys a.1 b (λ z y p q. apart z y (inr p) q),
)

once_of : (xs : List Entry) → Apart key xs → Once xs
once_of [] apart = tt
once_of (x ∷ xs) apart = (
  λ y p same.
      let h = in_has y xs p in
      let lt = h.1 in
      let clash : suc h.0 ≡ 0 = apart (suc h.0) 0 (omega arith) (omega arith) (ap key h.2 ∙ same) in
      absurd (omega arith),
  once_of xs (Apart-tail key x xs apart),
)

-- a list of distinct entries that are all in another list isn't longer than that list
without : (x : Entry) (ys : List Entry) → In x ys → List Entry
without x [] p = []
without x (y ∷ ys) (inl e) = ys
without x (y ∷ ys) (inr p) = y ∷ without x ys p

length-without : (x : Entry) (ys : List Entry) (p : In x ys) → length ys ≡ suc (length (without x ys p))
unfolding without
length-without x [] p = absurd p
length-without x (y ∷ ys) (inl e) = refl
length-without x (y ∷ ys) (inr p) = ap suc (length-without x ys p)

in_without : (x z : Entry) (ys : List Entry) (p : In x ys) → In z ys → (z ≡ x) ⊎ In z (without x ys p)
unfolding without
in_without x z [] p q = absurd p
in_without x z (y ∷ ys) (inl e) (inl f) = inl (sym f ∙ e)
in_without x z (y ∷ ys) (inl e) (inr q) = inr q
in_without x z (y ∷ ys) (inr p) (inl f) = inr (inl f)
in_without x z (y ∷ ys) (inr p) (inr q) = ⊎_elim (λ e. inl e) (λ r. inr (inr r)) (in_without x z ys p q)

no_more : (xs ys : List Entry) → Once xs → ((x : Entry) → In x xs → In x ys) → length xs ≤ length ys
no_more [] ys once all = omega arith
no_more (x ∷ xs) ys once all =
    let p = all x (inl refl) in
    let size = length-without x ys p in
    let rest : length xs ≤ length (without x ys p) =
    no_more xs (without x ys p) once.1
    (λ z q. ⊎_elim (λ e. absurd (once.0 z q (ap key e))) (λ r. r) (in_without x z ys p (all z (inr q)))) in
    omega arith

-- an entry that is before all others of a list is the least
least_none : (xs : List Entry) → length xs ≡ 0 → least_of xs ≡ None
least_none [] e = refl
least_none (x ∷ xs) e = absurd (omega arith)

-- true if the entry is before all others of the list
abbrev IsFirst : Entry → List Entry → Type 0
IsFirst e xs = (x : Entry) → In x xs → (x ≡ e) ⊎ (is_less e x ≡ true)

either_way : (b : Bool) (x y e : Entry) → x ≡ e → y ≡ e → (if b then x else y) ≡ e
either_way true x y e p q = p
either_way false x y e p q = q

first_stays : (x e : Entry) → (x ≡ e) ⊎ (is_less e x ≡ true) → earlier_of x (Some e) ≡ e
unfolding is_less
first_stays x e (inl same) = either_way (is_before e.timer x.timer) e x e refl same
first_stays x e (inr less) = ap (λ b. if b then e else x) less

first_comes : (x e m : Entry) → x ≡ e → (m ≡ e) ⊎ (is_less e m ≡ true) → earlier_of x (Some m) ≡ e
unfolding is_less
first_comes x e m is (inl same) = either_way (is_before m.timer x.timer) m x e same is
first_comes x e m is (inr less) =
    let later : is_less m x ≡ false = subst (λ (y : Entry). is_less m y ≡ false) (sym is) (less_once e m less) in
    ap (λ b. if b then m else x) later ∙ is

first_least : (xs : List Entry) (e : Entry) → IsFirst e xs → In e xs → least_of xs ≡ Some e
first_least [] e first p = absurd p
first_least (x ∷ xs) e first (inr p) =
    ap (λ (o : Option Entry). Some (earlier_of x o)) (first_least xs e (λ y q. first y (inr q)) p) ∙ ap Some (first_stays x e (first x (inl refl)))
first_least (x ∷ xs) e first (inl is) = ap Some (go (least_of xs) refl)
  where
    go : (o : Option Entry) → least_of xs ≡ o → earlier_of x (least_of xs) ≡ e
    go None none = ap (earlier_of x) none ∙ is
    go (Some m) there = ap (earlier_of x) there ∙ first_comes x e m is (first m (inr (least_in xs m there)))

-- the entries of descriptors
abbrev Timers : Type 0
Timers = List (Sides (Option Timer))

abbrev armed_in : Timers → ℕ → Side → Option Timer
armed_in timers k side = of_side side (slice_index_or timers k (twice None))

-- if an entry belongs to descriptor d, its descriptor number is d, and its timer is the one armed
-- on its side
at_in : (d : ℕ) (sides : Sides (Option Timer)) (e : Entry) → In e (entries_at d sides) → (e.descriptor ≡ d) × (of_side e.side sides ≡ Some e.timer)
at_in d sides e p =
    ⊎_elim (λ q. let r = entry_in d Read sides.read e q in (r.1, ap (λ s. of_side s sides) r.2 ∙ r.0))
    (λ q. let r = entry_in d Write sides.write e q in (r.1, ap (λ s. of_side s sides) r.2 ∙ r.0))
    (in_append e (entry_of d Read sides.read) (entry_of d Write sides.write) p)

from_in : (timers : Timers) (d : ℕ) (e : Entry) → In e (entries_from d timers) → (k : ℕ) × (e.descriptor ≡ d + k) × (armed_in timers k e.side ≡ Some e.timer)
from_in [] d e p = absurd p
from_in (sides ∷ timers) d e p =
    ⊎_elim (λ here. let r = at_in d sides e here in let is = r.0 in (0, omega arith, r.1))
    (λ there. let r = from_in timers (d + 1) e there in let is = r.1 in (suc r.0, omega arith, r.2))
    (in_append e (entries_at d sides) (entries_from (d + 1) timers) p)

-- each timer of the descriptors has an entry
abbrev entry : ℕ → Side → Timer → Entry
entry d side timer = record { descriptor = d; side = side; timer = timer }

in_entry : (d : ℕ) (side : Side) (o : Option Timer) (timer : Timer) → o ≡ Some timer → In (entry d side timer) (entry_of d side o)
in_entry d side None timer is = absurd (none-some timer is)
in_entry d side (Some x) timer is = inl (ap (entry d side) (same_Some x timer is))

in_at : (d : ℕ) (side : Side) (sides : Sides (Option Timer)) (timer : Timer) → of_side side sides ≡ Some timer → In (entry d side timer) (entries_at d sides)
in_at d Read sides timer is = in_first (entry d Read timer) (entry_of d Read sides.read) (entry_of d Write sides.write) (in_entry d Read sides.read timer is)
in_at d Write sides timer is = in_second (entry d Write timer) (entry_of d Read sides.read) (entry_of d Write sides.write) (in_entry d Write sides.write timer is)

in_from : (timers : Timers) (d k : ℕ) (side : Side) (timer : Timer) → armed_in timers k side ≡ Some timer → In (entry (d + k) side timer) (entries_from d timers)
in_from [] d k side timer is = absurd (none-some timer (sym (of_side-twice side None) ∙ is))
in_from (sides ∷ timers) d zero side timer is =
    let same : d ≡ d + 0 = omega arith in
    in_first (entry (d + 0) side timer) (entries_at d sides) (entries_from (d + 1) timers)
    (subst (λ n. In (entry n side timer) (entries_at d sides)) same (in_at d side sides timer is))
in_from (sides ∷ timers) d (suc k) side timer is =
    let same : d + 1 + k ≡ d + suc k = omega arith in
    in_second (entry (d + suc k) side timer) (entries_at d sides) (entries_from (d + 1) timers)
    (subst (λ n. In (entry n side timer) (entries_from (d + 1) timers)) same (in_from timers (d + 1) k side timer is))

-- the entries of descriptors have distinct keys
once_entry : (d : ℕ) (side : Side) (o : Option Timer) → Once (entry_of d side o)
once_entry d side None = tt
once_entry d side (Some timer) = (λ y p. absurd p, tt)

same_place : (x y : Entry) → key y ≡ key x → (y.descriptor ≡ x.descriptor) × (y.side ≡ x.side)
same_place x y same = one_side y.descriptor x.descriptor y.side x.side (sym (key_is y) ∙ same ∙ key_is x)

once_at : (d : ℕ) (sides : Sides (Option Timer)) → Once (entries_at d sides)
once_at d sides =
    once_append (entry_of d Read sides.read) (entry_of d Write sides.write) (once_entry d Read sides.read) (once_entry d Write sides.write)
    (
    λ x y p q same.
    let a = (entry_in d Read sides.read x p).2 in
    let b = (entry_in d Write sides.write y q).2 in
    let sides_same = (same_place x y same).1 in
    cc
    )

once_from : (timers : Timers) (d : ℕ) → Once (entries_from d timers)
once_from [] d = tt
once_from (sides ∷ timers) d =
    once_append (entries_at d sides) (entries_from (d + 1) timers) (once_at d sides) (once_from timers (d + 1))
    (
    λ x y p q same.
    let a = (at_in d sides x p).0 in
    let r = from_in timers (d + 1) y q in
    let b = r.1 in
    let one = (same_place x y same).0 in
    absurd (omega arith)
    )

-- in an ordered heap with distinct numbers, the entry at place 0 is less than every other
pub first_before : (t : State) (k : ℕ) → IsTimers t → 0 < k → k < length t.entries → is_less (at t.entries 0) (at t.entries k) ≡ true
first_before t k well some lt = by (is_less (at t.entries 0) (at t.entries k)) refl
  where
    by : (b : Bool) → is_less (at t.entries 0) (at t.entries k) ≡ b → is_less (at t.entries 0) (at t.entries k) ≡ true
    by true e = e
    by false e =
        let last = least_first t.entries well.ordered k k (omega arith) lt in
        let first : k ≡ 0 = well.numbered.entries_once k 0 lt (omega arith) (same_number (at t.entries k) (at t.entries 0) last e) in
        absurd (omega arith)

module _ (t : State) (timers : Timers) (well : IsTimers t) (are : AreTimers t.entries timers) where
  armed_is : (d : ℕ) (side : Side) → armed_in timers d side ≡ timer_of t.entries d side
  armed_is d Read = ap (of_side Read) (sym (are d))
  armed_is d Write = ap (of_side Write) (sym (are d))

  to_descriptors : (e : Entry) → In e t.entries → In e (entries_from 0 timers)
  to_descriptors e p =
      let found = timer_found e.descriptor e.side t.entries e well.keyed.once (in_has e t.entries p) (key_is e) in
      let same : 0 + e.descriptor ≡ e.descriptor = omega arith in
      subst (λ n. In (entry n e.side e.timer) (entries_from 0 timers)) same
      (in_from timers 0 e.descriptor e.side e.timer (armed_is e.descriptor e.side ∙ found))

  from_descriptors : (e : Entry) → In e (entries_from 0 timers) → In e t.entries
  from_descriptors e p =
      let r = from_in timers 0 e p in
      let zero_more = r.1 in
      let same : r.0 ≡ e.descriptor = omega arith in
      let found : timer_of t.entries e.descriptor e.side ≡ Some e.timer =
      subst (λ k. timer_of t.entries k e.side ≡ Some e.timer) same (sym (armed_is r.0 e.side) ∙ r.2) in
      ⊎_elim (λ none. absurd (none-some e.timer (sym (timer_none e.descriptor e.side t.entries none) ∙ found)))
      (
      λ h.
      let it = same_Some h.0.timer e.timer (sym (timer_found e.descriptor e.side t.entries h.0 well.keyed.once h.1 h.2) ∙ found) in
      let place = one_side h.0.descriptor e.descriptor h.0.side e.side (sym (key_is h.0) ∙ h.2) in
      let is : h.0 ≡ e = λ i. record { descriptor = place.0 i; side = place.1 i; timer = it i } in
      subst (λ (x : Entry). In x t.entries) is (has_in h.0 t.entries h.1)
      )
      (has_or_absent (key_of e.descriptor e.side) t.entries)

  pub as_many : length t.entries ≡ length (entries_from 0 timers)
  as_many =
      let more = no_more t.entries (entries_from 0 timers) (once_of t.entries well.keyed.once) to_descriptors in
      let less = no_more (entries_from 0 timers) t.entries (once_from timers 0) from_descriptors in
      omega arith

  -- the entry at place 0 is before all others
  first_of_all : IsFirst (at t.entries 0) t.entries
  first_of_all x p = by (in_has x t.entries p)
    where
      by : Has x t.entries → (x ≡ at t.entries 0) ⊎ (is_less (at t.entries 0) x ≡ true)
      by (zero, lt, is) = inl (sym is)
      by (suc k, lt, is) = inr (subst (λ (y : Entry). is_less (at t.entries 0) y ≡ true) is (first_before t (suc k) well (omega arith) lt))

  pub first_is_least : slice_get t.entries 0 ≡ least_of (entries_from 0 timers)
  first_is_least = by t.entries refl
    where
      by : (entries : List Entry) → t.entries ≡ entries → slice_get t.entries 0 ≡ least_of (entries_from 0 timers)
      by [] e =
          let none : length (entries_from 0 timers) ≡ 0 = sym as_many ∙ ap length e in
          ap (λ (xs : List Entry). slice_get xs 0) e ∙ sym (least_none (entries_from 0 timers) none)
      by (x ∷ xs) e =
          let some : In (at t.entries 0) t.entries = subst (λ (ys : List Entry). In (at ys 0) ys) (sym e) (inl refl) in
          ap (λ (ys : List Entry). slice_get ys 0) e ∙ ap (λ (ys : List Entry). Some (at ys 0)) (sym e)
          ∙ sym (first_least (entries_from 0 timers) (at t.entries 0) (λ y p. first_of_all y (from_descriptors y p)) (to_descriptors (at t.entries 0) some))
