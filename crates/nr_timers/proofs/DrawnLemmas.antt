-- The entries that two heaps have in common.
use Rattle.std.proofs.Common.{◌≡◌, ◌≢◌, ◌⊎◌, inl, inr, ⊎_elim, ℕ, zero, suc, ◌+◌, ◌-◌, ◌<◌, ◌≤◌, nat_eq, if◌then◌else◌, List, [], ◌∷◌, ◌++◌, length, take, refl, sym, ap, ◌∙◌, subst, arith}
use Rattle.std.specs.List.{swap}
use Rattle.std.proofs.lemmas.List.{length_push, take_all, take_more}
use Rattle.std.proofs.lemmas.List.Edits.{Swapped, length-swap}
use Rattle.std.proofs.lemmas.Bool.{cases_eq, cases_lt}
use Rattle.std.proofs.lemmas.Bool.Decides.{nat_tests}
use Rattle.nr_rev.specs.declared.timer.Entry.{Entry}
use Rattle.nr_timers.specs.Order.{at, blank, Apart}
use Rattle.nr_timers.specs.PathToRoot.{parent}
use Rattle.nr_timers.specs.Auxiliary.PathToRoot.{moved_up, moved_down}
use Rattle.nr_timers.specs.BackLaws.{TakenBack-unique}
use Rattle.nr_timers.specs.Auxiliary.Change.{TakenBack, InsertedBack, RemovedBack}
use Rattle.nr_timers.proofs.PathLemmas.{at-swap, swap-swap, moved_down-moved_up, moved_up-moved_down, length-moved_up, length-moved_down}
use Rattle.nr_timers.proofs.ChangeLemmas.{at_pushed, at_last, at-moved_down, length-TakenBack, TakenBack-none}

-- each entry of the new heap is in the old one, and different entries have different places there
pub record Drawn (whole some : List Entry) : Type 0 where
  pub from : ℕ → ℕ
  pub within : (p : ℕ) → p < length some → from p < length whole
  pub same : (p : ℕ) → p < length some → at some p ≡ at whole (from p)
  pub apart : (p q : ℕ) → p < length some → q < length some → from p ≡ from q → p ≡ q

pub Drawn-all : (xs : List Entry) → Drawn xs xs
Drawn-all xs = record { from = λ p. p; within = λ p lt. lt; same = λ p lt. refl; apart = λ p q a b e. e }

Drawn-trans : (xs ys zs : List Entry) → Drawn xs ys → Drawn ys zs → Drawn xs zs
Drawn-trans xs ys zs g h =
    record {
      from = λ p. g.from (h.from p);
      within = λ p lt. g.within (h.from p) (h.within p lt);
      same = λ p lt. h.same p lt ∙ g.same (h.from p) (h.within p lt);
      apart = λ p q a b e. h.apart p q a b (g.apart (h.from p) (h.from q) (h.within p a) (h.within q b) e);
    }

-- the place that the entry at k had before the entries at a and b were swapped
abbrev exchanged : ℕ → ℕ → ℕ → ℕ
exchanged a b k = if nat_eq k a then b else (if nat_eq k b then a else k)

exchanged-first : (a b k : ℕ) → k ≡ a → exchanged a b k ≡ b
exchanged-first a b k e = grind (arith, nat_tests)

exchanged-second : (a b k : ℕ) → k ≢ a → k ≡ b → exchanged a b k ≡ a
exchanged-second a b k n e = grind (arith, nat_tests)

exchanged-other : (a b k : ℕ) → k ≢ a → k ≢ b → exchanged a b k ≡ k
exchanged-other a b k n m = grind (arith, nat_tests)

exchanged-twice : (a b k : ℕ) → exchanged a b (exchanged a b k) ≡ k
exchanged-twice a b k =
    ⊎_elim
    (
    λ e. ⊎_elim (λ f. ap (exchanged a b) (exchanged-first a b k e) ∙ exchanged-first a b b f ∙ f ∙ sym e)
    (λ n. ap (exchanged a b) (exchanged-first a b k e) ∙ exchanged-second a b b n refl ∙ sym e)
    (cases_eq b a)
    )
    (
    λ n. ⊎_elim (λ e. ap (exchanged a b) (exchanged-second a b k n e) ∙ exchanged-first a b a refl ∙ sym e)
    (λ m. ap (exchanged a b) (exchanged-other a b k n m) ∙ exchanged-other a b k n m)
    (cases_eq k b)
    )
    (cases_eq k a)

pub Drawn-swap : (xs : List Entry) (a b : ℕ) → a < length xs → b < length xs → Drawn xs (swap xs a b)
Drawn-swap xs a b wa wb =
    let s : Swapped (at xs) (at (swap xs a b)) a b = at-swap xs a b wa wb in
    let size = length-swap xs a b in
    record {
      from = exchanged a b;
      within = λ p lt.
          ⊎_elim (λ e. let v = exchanged-first a b p e in omega arith)
          (λ n. ⊎_elim (λ e. let v = exchanged-second a b p n e in omega arith) (λ m. let v = exchanged-other a b p n m in omega arith) (cases_eq p b))
          (cases_eq p a);
      same = λ p lt.
          ⊎_elim (λ e. ap (at (swap xs a b)) e ∙ s.0 ∙ sym (ap (at xs) (exchanged-first a b p e)))
          (
          λ n. ⊎_elim (λ e. ap (at (swap xs a b)) e ∙ s.1 ∙ sym (ap (at xs) (exchanged-second a b p n e)))
          (λ m. s.2 p n m ∙ sym (ap (at xs) (exchanged-other a b p n m)))
          (cases_eq p b)
          )
          (cases_eq p a);
      apart = λ p q lt lt_q e. sym (exchanged-twice a b p) ∙ ap (exchanged a b) e ∙ exchanged-twice a b q;
    }

pub Drawn-swapped : (xs : List Entry) (a b : ℕ) → a < length xs → b < length xs → Drawn (swap xs a b) xs
Drawn-swapped xs a b wa wb =
    let size = length-swap xs a b in
    subst (λ (ys : List Entry). Drawn (swap xs a b) ys) (swap-swap xs a b wa wb) (Drawn-swap (swap xs a b) a b (omega arith) (omega arith))

pub Drawn-pushed : (xs : List Entry) (e : Entry) → Drawn (xs ++ e ∷ []) xs
Drawn-pushed xs e =
    let size = length_push xs e in
    record {
      from = λ p. p;
      within = λ p lt. omega arith;
      same = λ p lt. sym (at_pushed xs e p lt);
      apart = λ p q a b is. is;
    }

Drawn-up : (n : ℕ) (xs : List Entry) (p : ℕ) → p < length xs → Drawn xs (moved_up n xs p)
Drawn-up zero xs p lt = Drawn-all xs
Drawn-up (suc n) xs p lt =
    let size = length-swap xs p (parent p) in
    Drawn-trans xs (swap xs p (parent p)) (moved_up n (swap xs p (parent p)) (parent p))
    (Drawn-swap xs p (parent p) lt (omega arith))
    (Drawn-up n (swap xs p (parent p)) (parent p) (omega arith))

Drawn-down : (n : ℕ) (xs : List Entry) (p : ℕ) → p < length xs → Drawn xs (moved_down n xs p)
Drawn-down zero xs p lt = Drawn-all xs
Drawn-down (suc n) xs p lt =
    let size = length-moved_down n xs (parent p) in
    Drawn-trans xs (moved_down n xs (parent p)) (swap (moved_down n xs (parent p)) p (parent p))
    (Drawn-down n xs (parent p) (omega arith))
    (Drawn-swap (moved_down n xs (parent p)) p (parent p) (omega arith) (omega arith))

-- undoing a move keeps the entries of the heap
pub Drawn-back : (new rest : List Entry) (p q : ℕ) → ((p ≡ length new) × (q ≡ p) ⊎ (p < length new) × (q < length new)) → TakenBack p q new rest → Drawn new rest × Drawn rest new
Drawn-back new rest p q (inl h) back =
    let still : new ≡ rest = TakenBack-unique p p new new rest (TakenBack-none new p) (subst (λ i. TakenBack p i new rest) h.1 back) in
    (subst (λ (ys : List Entry). Drawn new ys) still (Drawn-all new), subst (λ (ys : List Entry). Drawn ys new) still (Drawn-all new))
Drawn-back new rest p q (inr h) (inl back) =
    let size = length-moved_down back.0 new p in (
      subst (λ (ys : List Entry). Drawn new ys) (sym back.2) (Drawn-down back.0 new p h.0),
      subst (λ (ys : List Entry). Drawn ys new) (sym back.2)
          (subst (λ (ys : List Entry). Drawn (moved_down back.0 new p) ys) (moved_up-moved_down back.0 new p h.0) (Drawn-up back.0 (moved_down back.0 new p) p (omega arith))),
    )
Drawn-back new rest p q (inr h) (inr back) =
    let size = length-moved_up back.0 new q in (
      subst (λ (ys : List Entry). Drawn new ys) (sym back.2) (Drawn-up back.0 new q h.1),
      subst (λ (ys : List Entry). Drawn ys new) (sym back.2)
          (subst (λ (ys : List Entry). Drawn (moved_up back.0 new q) ys) (moved_down-moved_up back.0 new q h.1) (Drawn-down back.0 (moved_up back.0 new q) q (omega arith))),
    )

-- true if the list contains the entry
abbrev pub Has : Entry → List Entry → Type 0
Has x xs = (p : ℕ) × (p < length xs) × (at xs p ≡ x)

pub Drawn-has : (xs ys : List Entry) (x : Entry) → Drawn xs ys → Has x ys → Has x xs
Drawn-has xs ys x d h = (d.from h.0, d.within h.0 h.1, sym (d.same h.0 h.1) ∙ h.2)

pub Drawn-apart : (f : Entry → ℕ) (xs ys : List Entry) → Drawn xs ys → Apart f xs → Apart f ys
Drawn-apart f xs ys d h p q lt lt_q e =
    d.apart p q lt lt_q (h (d.from p) (d.from q) (d.within p lt) (d.within q lt_q) (ap f (sym (d.same p lt)) ∙ e ∙ ap f (d.same q lt_q)))

pub Has-pushed : (xs : List Entry) (e x : Entry) → Has x (xs ++ e ∷ []) → Has x xs ⊎ (x ≡ e)
Has-pushed xs e x h =
    let size = length_push xs e in
    let lt = h.1 in
    ⊎_elim (λ before. inl (h.0, before, sym (at_pushed xs e h.0 before) ∙ h.2))
    (λ ge. let last : h.0 ≡ length xs = omega arith in inr (sym h.2 ∙ ap (at (xs ++ e ∷ [])) last ∙ at_last xs e))
    (cases_lt h.0 (length xs))

pub Apart-pushed : (f : Entry → ℕ) (xs : List Entry) (e : Entry) → Apart f xs → ((x : Entry) → Has x xs → f x ≢ f e) → Apart f (xs ++ e ∷ [])
Apart-pushed f xs e h other p q lt lt_q same =
    let size = length_push xs e in
    let last : (k : ℕ) → k ≡ length xs → at (xs ++ e ∷ []) k ≡ e = λ k is. ap (at (xs ++ e ∷ [])) is ∙ at_last xs e in
    ⊎_elim
    (
    λ before. ⊎_elim (λ before_q. h p q before before_q (ap f (sym (at_pushed xs e p before)) ∙ same ∙ ap f (at_pushed xs e q before_q)))
    (λ ge_q. absurd (other (at xs p) (p, before, refl) (ap f (sym (at_pushed xs e p before)) ∙ same ∙ ap f (last q (omega arith)))))
    (cases_lt q (length xs))
    )
    (
    λ ge. ⊎_elim (λ before_q. absurd (other (at xs q) (q, before_q, refl) (ap f (sym (at_pushed xs e q before_q)) ∙ sym same ∙ ap f (last p (omega arith)))))
    (λ ge_q. omega arith)
    (cases_lt q (length xs))
    )
    (cases_lt p (length xs))

-- the entries before and after a removal, according to its undo
module _ (p q : ℕ) (e : Entry) (new old : List Entry) (back : RemovedBack p q e new old) where
  both_ways : Drawn new back.1 × Drawn back.1 new
  both_ways = Drawn-back new back.1 p q back.0 back.2

  size_rest : length back.1 ≡ length new
  size_rest = length-TakenBack new back.1 p q back.2

  le : p ≤ length back.1
  le = let size = size_rest in ⊎_elim (λ x. omega arith) (λ x. omega arith) back.0

  old_is : old ≡ swap (back.1 ++ e ∷ []) p (length new)
  old_is = back.3

  from_old : Drawn old (back.1 ++ e ∷ [])
  from_old =
      let size = length_push back.1 e in
      let more = size_rest in
      let low = le in
      subst (λ (ys : List Entry). Drawn ys (back.1 ++ e ∷ [])) (sym old_is) (Drawn-swapped (back.1 ++ e ∷ []) p (length new) (omega arith) (omega arith))

  to_old : Drawn (back.1 ++ e ∷ []) old
  to_old =
      let size = length_push back.1 e in
      let more = size_rest in
      let low = le in
      subst (λ (ys : List Entry). Drawn (back.1 ++ e ∷ []) ys) (sym old_is) (Drawn-swap (back.1 ++ e ∷ []) p (length new) (omega arith) (omega arith))

  -- each remaining entry was there before
  pub Drawn-removed : Drawn old new
  Drawn-removed = Drawn-trans old back.1 new (Drawn-trans old (back.1 ++ e ∷ []) back.1 from_old (Drawn-pushed back.1 e)) both_ways.1

  -- the removed entry was in the heap before
  pub Has-removed : Has e old
  Has-removed =
      let size = length_push back.1 e in
      Drawn-has old (back.1 ++ e ∷ []) e from_old (length back.1, omega arith, at_last back.1 e)

  -- all other entries remain
  pub Has-left : (x : Entry) → Has x old → Has x new ⊎ (x ≡ e)
  Has-left x h =
      ⊎_elim (λ there. inl (Drawn-has new back.1 x both_ways.0 there)) (λ is. inr is)
      (Has-pushed back.1 e x (Drawn-has (back.1 ++ e ∷ []) old x to_old h))

  -- no remaining entry equals the removed one
  pub removed_apart : (f : Entry → ℕ) → Apart f old → (x : Entry) → Has x new → f x ≢ f e
  removed_apart f h x has same =
      let size = length_push back.1 e in
      let whole : Apart f (back.1 ++ e ∷ []) = Drawn-apart f old (back.1 ++ e ∷ []) from_old h in
      let there : Has x back.1 = Drawn-has back.1 new x both_ways.1 has in
      let lt = there.1 in
      let one = whole there.0 (length back.1) (omega arith) (omega arith)
      (ap f (at_pushed back.1 e there.0 there.1 ∙ there.2) ∙ same ∙ ap f (sym (at_last back.1 e))) in
      omega arith

-- the entries before and after an insertion, according to its undo
module _ (q : ℕ) (new old : List Entry) (back : InsertedBack q new old) where
  mid_is : old ++ at new q ∷ [] ≡ moved_down back.1 new (length new - 1)
  mid_is =
      let some = back.0 in
      let mid : List Entry = moved_down back.1 new (length new - 1) in
      let size : length mid ≡ length new = length-moved_down back.1 new (length new - 1) in
      let last : at mid (length new - 1) ≡ at new q = at-moved_down back.1 new (length new - 1) q (omega arith) back.2 in
      let more : take (length new - 1 + 1) mid ≡ take (length new - 1) mid ++ at mid (length new - 1) ∷ [] = take_more mid (length new - 1) blank (omega arith) in
      let whole : take (length new - 1 + 1) mid ≡ mid = take_all (length new - 1 + 1) mid (omega arith) in
      ap (λ xs. xs ++ at new q ∷ []) back.3 ∙ ap (λ (x : Entry). take (length new - 1) mid ++ x ∷ []) (sym last) ∙ sym more ∙ whole

  pub from_new : Drawn new (old ++ at new q ∷ [])
  from_new =
      let some = back.0 in
      subst (λ (ys : List Entry). Drawn new ys) (sym mid_is) (Drawn-down back.1 new (length new - 1) (omega arith))

  pub to_new : Drawn (old ++ at new q ∷ []) new
  to_new =
      let some = back.0 in
      let size = length-moved_down back.1 new (length new - 1) in
      subst (λ (ys : List Entry). Drawn ys new) (sym mid_is)
      (subst (λ (ys : List Entry). Drawn (moved_down back.1 new (length new - 1)) ys) (moved_up-moved_down back.1 new (length new - 1) (omega arith))
      (Drawn-up back.1 (moved_down back.1 new (length new - 1)) (length new - 1) (omega arith)))

  -- all old entries remain
  pub Has-kept : (x : Entry) → Has x old → Has x new
  Has-kept x h = Drawn-has new old x (Drawn-trans new (old ++ at new q ∷ []) old from_new (Drawn-pushed old (at new q))) h

  pub Has-inserted : Has (at new q) new
  Has-inserted =
      let size = length_push old (at new q) in
      Drawn-has new (old ++ at new q ∷ []) (at new q) from_new (length old, omega arith, at_last old (at new q))

  -- no entry other than the inserted one is new
  pub Has-there : (x : Entry) → Has x new → Has x old ⊎ (x ≡ at new q)
  Has-there x h = Has-pushed old (at new q) x (Drawn-has (old ++ at new q ∷ []) new x to_new h)

  pub inserted_apart : (f : Entry → ℕ) → Apart f old → ((x : Entry) → Has x old → f x ≢ f (at new q)) → Apart f new
  inserted_apart f h other = Drawn-apart f (old ++ at new q ∷ []) new to_new (Apart-pushed f old (at new q) h other)
