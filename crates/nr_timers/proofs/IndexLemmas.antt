-- Lemmas about the index after a swap, a push and a pop.
use Rattle.std.proofs.Common.{◌≡◌, ◌≢◌, ⊎_elim, ℕ, zero, suc, ◌+◌, ◌-◌, ◌<◌, List, [], ◌∷◌, ◌++◌, length, get_or, set, take, refl, sym, ap, ◌∙◌, subst, arith}
use Rattle.std.specs.List.{swap, sum_by}
use Rattle.std.proofs.lemmas.List.{get_or-set_same, get_or-set_other, length-set, get_or_append_left, get_or_push, length_push, get_or-take, length-take-le}
use Rattle.std.proofs.lemmas.List.Sums.{sum_by-set}
use Rattle.std.proofs.lemmas.List.Edits.{Swapped, length-swap}
use Rattle.std.proofs.lemmas.Bool.{cases_eq, cases_lt}
use Rattle.nr_rev.specs.declared.timer.Entry.{Entry}
use Rattle.nr_timers.specs.Order.{at, blank}
use Rattle.nr_timers.specs.Index.{key, Absent, Keyed}
use Rattle.nr_timers.specs.Auxiliary.Index.{free, IsIndexed}
use Rattle.nr_timers.proofs.PathLemmas.{at-swap}

-- entries with an index have distinct keys
pub keyed : (xs : List Entry) (ix : List ℕ) → IsIndexed xs ix → Keyed xs (length ix)
keyed xs ix h = record {
  below = h.below;
  once = λ p q within within_q same. let a = h.found p within in let b = h.found q within_q in let e : get_or ix (key (at xs p)) 0 ≡ get_or ix (key (at xs q)) 0 = ap (λ k. get_or ix k 0) same in
      omega arith;
}

free_positive : (n : ℕ) → 0 < n → free n ≡ 0
free_positive zero h = absurd (omega arith)
free_positive (suc n) h = refl

free_zero : (n : ℕ) → n ≡ 0 → free n ≡ 1
free_zero zero h = refl
free_zero (suc n) h = absurd (omega arith)

same_below : (x y : Entry) (n : ℕ) → x ≡ y → key y < n → key x < n
same_below x y n e h = subst (λ (z : Entry). key z < n) (sym e) h

module _ (xs : List Entry) (ix : List ℕ) (h : IsIndexed xs ix) where
  -- a key that no entry has isn't in the index
  pub absent_free : (k : ℕ) → Absent k xs → get_or ix k 0 ≡ 0
  absent_free k absent = ⊎_elim (λ some. absurd (let w = h.within k some in absent (get_or ix k 0 - 1) (omega arith) (h.kept k some))) (λ none. omega arith) (cases_lt 0 (get_or ix k 0))

  pub free_absent : (k : ℕ) → get_or ix k 0 ≡ 0 → Absent k xs
  free_absent k none p within same = let a = h.found p within in let e : get_or ix (key (at xs p)) 0 ≡ get_or ix k 0 = ap (λ j. get_or ix j 0) same in omega arith

  module _ (a b : ℕ) (wa : a < length xs) (wb : b < length xs) where
    sw : Swapped (at xs) (at (swap xs a b)) a b
    sw = at-swap xs a b wa wb

    ka : ℕ
    ka = key (at xs a)

    kb : ℕ
    kb = key (at xs b)

    ys : List ℕ
    ys = set (set ix (key (at xs a)) (b + 1)) (key (at xs b)) (a + 1)

    at_b : get_or (set (set ix (key (at xs a)) (b + 1)) (key (at xs b)) (a + 1)) (key (at xs b)) 0 ≡ a + 1
    at_b = let size = length-set ix (key (at xs a)) (b + 1) in let lt = h.below b wb in get_or-set_same (set ix (key (at xs a)) (b + 1)) (key (at xs b)) (a + 1) 0 (omega arith)

    at_a : key (at xs a) ≢ key (at xs b) → get_or (set (set ix (key (at xs a)) (b + 1)) (key (at xs b)) (a + 1)) (key (at xs a)) 0 ≡ b + 1
    at_a other = get_or-set_other (set ix (key (at xs a)) (b + 1)) (key (at xs b)) (key (at xs a)) (a + 1) 0 other ∙ get_or-set_same ix (key (at xs a)) (b + 1) 0 (h.below a wa)

    at_other : (k : ℕ) → k ≢ key (at xs a) → k ≢ key (at xs b) → get_or (set (set ix (key (at xs a)) (b + 1)) (key (at xs b)) (a + 1)) k 0 ≡ get_or ix k 0
    at_other k na nb = get_or-set_other (set ix (key (at xs a)) (b + 1)) (key (at xs b)) k (a + 1) 0 nb ∙ get_or-set_other ix (key (at xs a)) k (b + 1) 0 na

    at_a_always : get_or (set (set ix (key (at xs a)) (b + 1)) (key (at xs b)) (a + 1)) (key (at xs a)) 0 ≡ b + 1
    at_a_always = ⊎_elim
        (λ e. ap (λ k. get_or (set (set ix (key (at xs a)) (b + 1)) (key (at xs b)) (a + 1)) k 0) e ∙ at_b ∙ ap (λ x. x + 1) ((keyed xs ix h).once a b wa wb e))
        (λ other. at_a other)
        (cases_eq (key (at xs a)) (key (at xs b)))

    sum_same : sum_by free (set (set ix (key (at xs a)) (b + 1)) (key (at xs b)) (a + 1)) ≡ sum_by free ix
    sum_same =
        let size = length-set ix (key (at xs a)) (b + 1) in
        let one = sum_by-set free ix (key (at xs a)) (b + 1) 0 (h.below a wa) in
        let lt = h.below b wb in
        let two = sum_by-set free (set ix (key (at xs a)) (b + 1)) (key (at xs b)) (a + 1) 0 (omega arith) in
        let mid_b : 0 < get_or (set ix (key (at xs a)) (b + 1)) (key (at xs b)) 0 =
        ⊎_elim (λ e. let s = get_or-set_same ix (key (at xs a)) (b + 1) 0 (h.below a wa) in
        let t : get_or (set ix (key (at xs a)) (b + 1)) (key (at xs b)) 0 ≡ get_or (set ix (key (at xs a)) (b + 1)) (key (at xs a)) 0 = ap (λ k. get_or (set ix (key (at xs a)) (b + 1)) k 0) e in
        omega arith)
        (λ other. let s = get_or-set_other ix (key (at xs a)) (key (at xs b)) (b + 1) 0 other in let f = h.found b wb in omega arith)
        (cases_eq (key (at xs b)) (key (at xs a))) in
        let fa = h.found a wa in
        let z1 = free_positive (get_or ix (key (at xs a)) 0) (omega arith) in
        let z2 = free_positive (b + 1) (omega arith) in
        let z3 = free_positive (get_or (set ix (key (at xs a)) (b + 1)) (key (at xs b)) 0) mid_b in
        let z4 = free_positive (a + 1) (omega arith) in
        omega arith

    -- two entries change places
    pub IsIndexed-swap : IsIndexed (swap xs a b) (set (set ix (key (at xs a)) (b + 1)) (key (at xs b)) (a + 1))
    IsIndexed-swap =
        let size = length-swap xs a b in
        let size_ix : length (set (set ix (key (at xs a)) (b + 1)) (key (at xs b)) (a + 1)) ≡ length ix =
        length-set (set ix (key (at xs a)) (b + 1)) (key (at xs b)) (a + 1) ∙ length-set ix (key (at xs a)) (b + 1) in
        record {
          below = λ p lt.
              ⊎_elim (λ e. same_below _ (at xs b) _ (ap (at (swap xs a b)) e ∙ sw.0) (let x = h.below b wb in omega arith))
              (
              λ na. ⊎_elim (λ e. same_below _ (at xs a) _ (ap (at (swap xs a b)) e ∙ sw.1) (let x = h.below a wa in omega arith))
              (λ nb. same_below _ (at xs p) _ (sw.2 p na nb) (let x = h.below p (omega arith) in omega arith))
              (cases_eq p b)
              )
              (cases_eq p a);
          found = λ p lt.
              ⊎_elim
              (λ e. ap (λ x. get_or (set (set ix (key (at xs a)) (b + 1)) (key (at xs b)) (a + 1)) (key x) 0) (ap (at (swap xs a b)) e ∙ sw.0) ∙ at_b ∙ ap (λ x. x + 1) (sym e))
              (
              λ na. ⊎_elim
              (λ e. ap (λ x. get_or (set (set ix (key (at xs a)) (b + 1)) (key (at xs b)) (a + 1)) (key x) 0) (ap (at (swap xs a b)) e ∙ sw.1) ∙ at_a_always ∙ ap (λ x. x + 1) (sym e))
              (
              λ nb. ap (λ x. get_or (set (set ix (key (at xs a)) (b + 1)) (key (at xs b)) (a + 1)) (key x) 0) (sw.2 p na nb)
              ∙ at_other (key (at xs p)) (λ e. na ((keyed xs ix h).once p a (omega arith) wa e)) (λ e. nb ((keyed xs ix h).once p b (omega arith) wb e))
              ∙ h.found p (omega arith)
              )
              (cases_eq p b)
              )
              (cases_eq p a);
          within = λ k some.
              ⊎_elim (λ e. let v : get_or (set (set ix (key (at xs a)) (b + 1)) (key (at xs b)) (a + 1)) k 0
              ≡ a + 1 = ap (λ j. get_or (set (set ix (key (at xs a)) (b + 1)) (key (at xs b)) (a + 1)) j 0) e ∙ at_b in omega arith)
              (λ nb. ⊎_elim
              (λ e. let v : get_or (set (set ix (key (at xs a)) (b + 1)) (key (at xs b)) (a + 1)) k 0 ≡ b + 1 = ap (λ j. get_or (set (set ix (key (at xs a)) (b + 1)) (key (at xs b)) (a + 1)) j 0) e
              ∙ at_a_always in omega arith)
              (λ na. let v = at_other k na nb in let w = h.within k (omega arith) in omega arith)
              (cases_eq k (key (at xs a))))
              (cases_eq k (key (at xs b)));
          kept = λ k some.
              ⊎_elim
              (λ e. let v : get_or (set (set ix (key (at xs a)) (b + 1)) (key (at xs b)) (a + 1)) k 0 - 1
              ≡ a = ap (λ j. get_or (set (set ix (key (at xs a)) (b + 1)) (key (at xs b)) (a + 1)) j 0 - 1) e ∙ ap (λ x. x - 1) at_b ∙ omega arith in
              ap (λ x. key (at (swap xs a b) x)) v ∙ ap key sw.0 ∙ sym e)
              (λ nb. ⊎_elim
              (λ e. let v : get_or (set (set ix (key (at xs a)) (b + 1)) (key (at xs b)) (a + 1)) k 0 - 1
              ≡ b = ap (λ j. get_or (set (set ix (key (at xs a)) (b + 1)) (key (at xs b)) (a + 1)) j 0 - 1) e ∙ ap (λ x. x - 1) at_a_always ∙ omega arith in
              ap (λ x. key (at (swap xs a b) x)) v ∙ ap key sw.1 ∙ sym e)
              (λ na.
              let v = at_other k na nb in
              let old : key (at xs (get_or ix k 0 - 1)) ≡ k = h.kept k (omega arith) in
              ap (λ x. key (at (swap xs a b) (x - 1))) v
              ∙ ap key (sw.2 (get_or ix k 0 - 1) (λ e. na (sym old ∙ ap (λ x. key (at xs x)) e)) (λ e. nb (sym old ∙ ap (λ x. key (at xs x)) e)))
              ∙ old)
              (cases_eq k (key (at xs a))))
              (cases_eq k (key (at xs b)));
          count = let c = h.count in let s = sum_same in omega arith;
        }

  module _ (e : Entry) (lt_ix : key e < length ix) (absent : Absent (key e) xs) where
    none_yet : get_or ix (key e) 0 ≡ 0
    none_yet = absent_free (key e) absent

    sum_push : sum_by free (set ix (key e) (length xs + 1)) + 1 ≡ sum_by free ix
    sum_push =
        let one = sum_by-set free ix (key e) (length xs + 1) 0 lt_ix in
        let z1 = free_zero (get_or ix (key e) 0) none_yet in
        let z2 = free_positive (length xs + 1) (omega arith) in
        omega arith

    -- there are fewer entries than keys
    pub has_room : length xs < length ix
    has_room = let s = sum_push in let c = h.count in omega arith

    -- an entry is appended
    pub IsIndexed-push : IsIndexed (xs ++ e ∷ []) (set ix (key e) (length xs + 1))
    IsIndexed-push =
        let size = length_push xs e in
        let size_ix = length-set ix (key e) (length xs + 1) in
        let last : at (xs ++ e ∷ []) (length xs) ≡ e = get_or_push xs e blank (length xs) refl in
        let first : (p : ℕ) → p < length xs → at (xs ++ e ∷ []) p ≡ at xs p = λ p lt. get_or_append_left xs (e ∷ []) blank p lt in
        let here : get_or (set ix (key e) (length xs + 1)) (key e) 0 ≡ length xs + 1 = get_or-set_same ix (key e) (length xs + 1) 0 lt_ix in
        let there : (k : ℕ) → k ≢ key e → get_or (set ix (key e) (length xs + 1)) k 0 ≡ get_or ix k 0 = λ k n. get_or-set_other ix (key e) k (length xs + 1) 0 n in
        record {
          below = λ p lt.
              ⊎_elim (λ before. same_below _ (at xs p) _ (first p before) (let x = h.below p before in omega arith))
              (λ ge. let is : p ≡ length xs = omega arith in same_below _ e _ (ap (at (xs ++ e ∷ [])) is ∙ last) (omega arith)) (cases_lt p (length xs));
          found = λ p lt.
              ⊎_elim (λ before. ap (λ x. get_or (set ix (key e) (length xs + 1)) (key x) 0) (first p before) ∙ there (key (at xs p)) (absent p before) ∙ h.found p before)
              (λ ge. let is : p ≡ length xs = omega arith in ap (λ x. get_or (set ix (key e) (length xs + 1)) (key x) 0) (ap (at (xs ++ e ∷ [])) is ∙ last) ∙ here ∙ ap (λ x. x + 1) (sym is))
              (cases_lt p (length xs));
          within = λ k some.
              ⊎_elim (λ is. let v : get_or (set ix (key e) (length xs + 1)) k 0 ≡ length xs + 1 = ap (λ j. get_or (set ix (key e) (length xs + 1)) j 0) is ∙ here in omega arith)
              (λ n. let v = there k n in let w = h.within k (omega arith) in omega arith)
              (cases_eq k (key e));
          kept = λ k some.
              ⊎_elim
              (λ is. let v : get_or (set ix (key e) (length xs + 1)) k 0 - 1 ≡ length xs = ap (λ j. get_or (set ix (key e) (length xs + 1)) j 0 - 1) is ∙ ap (λ x. x - 1) here ∙ omega arith in
              ap (λ x. key (at (xs ++ e ∷ []) x)) v ∙ ap key last ∙ sym is)
              (λ n. let v = there k n in let w = h.within k (omega arith) in
              ap (λ x. key (at (xs ++ e ∷ []) (x - 1))) v ∙ ap key (first (get_or ix k 0 - 1) (omega arith)) ∙ h.kept k (omega arith))
              (cases_eq k (key e));
          count = let s = sum_push in let c = h.count in omega arith;
        }

  module _ (some_entry : 0 < length xs) where
    -- the last entry is removed
    pub IsIndexed-pop : IsIndexed (take (length xs - 1) xs) (set ix (key (at xs (length xs - 1))) 0)
    IsIndexed-pop =
        let size : length (take (length xs - 1) xs) ≡ length xs - 1 = length-take-le (length xs - 1) xs (omega arith) in
        let k0 = h.below (length xs - 1) (omega arith) in
        let f0 = h.found (length xs - 1) (omega arith) in
        let size_ix = length-set ix (key (at xs (length xs - 1))) 0 in
        let here : get_or (set ix (key (at xs (length xs - 1))) 0) (key (at xs (length xs - 1))) 0 ≡ 0 = get_or-set_same ix (key (at xs (length xs - 1))) 0 0 k0 in
        let there : (k : ℕ) → k ≢ key (at xs (length xs - 1)) → get_or (set ix (key (at xs (length xs - 1))) 0) k 0 ≡ get_or ix k 0 =
        λ k n. get_or-set_other ix (key (at xs (length xs - 1))) k 0 0 n in
        let first : (p : ℕ) → p < length xs - 1 → at (take (length xs - 1) xs) p ≡ at xs p = λ p lt. get_or-take (length xs - 1) xs p blank lt in
        record {
          below = λ p lt. same_below _ (at xs p) _ (first p (omega arith)) (let x = h.below p (omega arith) in omega arith);
          found = λ p lt. ap (λ x. get_or (set ix (key (at xs (length xs - 1))) 0) (key x) 0) (first p (omega arith))
              ∙ there (key (at xs p)) (λ same. let eq = (keyed xs ix h).once p (length xs - 1) (omega arith) (omega arith) same in omega arith)
              ∙ h.found p (omega arith);
          within = λ k some.
              ⊎_elim (λ is. let v : get_or (set ix (key (at xs (length xs - 1))) 0) k 0 ≡ 0 = ap (λ j. get_or (set ix (key (at xs (length xs - 1))) 0) j 0) is ∙ here in absurd (omega arith))
              (
              λ n. let v = there k n in let w = h.within k (omega arith) in
              ⊎_elim (λ e. absurd (n (sym (h.kept k (omega arith)) ∙ ap (λ x. key (at xs (x - 1))) e))) (λ other. omega arith) (cases_eq (get_or ix k 0) (length xs))
              )
              (cases_eq k (key (at xs (length xs - 1))));
          kept = λ k some.
              ⊎_elim (λ is. let v : get_or (set ix (key (at xs (length xs - 1))) 0) k 0 ≡ 0 = ap (λ j. get_or (set ix (key (at xs (length xs - 1))) 0) j 0) is ∙ here in absurd (omega arith))
              (
              λ n. let v = there k n in let w = h.within k (omega arith) in
              let lower : get_or ix k 0 - 1 < length xs - 1 =
              ⊎_elim (λ e. absurd (n (sym (h.kept k (omega arith)) ∙ ap (λ x. key (at xs (x - 1))) e))) (λ other. omega arith) (cases_eq (get_or ix k 0) (length xs)) in
              ap (λ x. key (at (take (length xs - 1) xs) (x - 1))) v ∙ ap key (first (get_or ix k 0 - 1) lower) ∙ h.kept k (omega arith)
              )
              (cases_eq k (key (at xs (length xs - 1))));
          count =
              let one = sum_by-set free ix (key (at xs (length xs - 1))) 0 0 k0 in
              let z1 = free_positive (get_or ix (key (at xs (length xs - 1))) 0) (omega arith) in
              let c = h.count in
              omega arith;
        }

-- the index after all steps of the code
pub index_swapped : (xs zs : List Entry) (ix : List ℕ) (a b ka kb : ℕ) → IsIndexed xs ix → a < length xs → b < length xs → zs ≡ swap xs a b → ka ≡ key (at xs a) → kb ≡ key (at xs b)
    → IsIndexed zs (set (set ix ka (b + 1)) kb (a + 1))
index_swapped xs zs ix a b ka kb h wa wb e ea eb =
    subst (λ l. IsIndexed l (set (set ix ka (b + 1)) kb (a + 1))) (sym e)
    (subst (λ k. IsIndexed (swap xs a b) (set (set ix k (b + 1)) kb (a + 1))) (sym ea)
    (subst (λ k. IsIndexed (swap xs a b) (set (set ix (key (at xs a)) (b + 1)) k (a + 1))) (sym eb) (IsIndexed-swap xs ix h a b wa wb)))

pub index_pushed : (xs zs : List Entry) (ix : List ℕ) (e : Entry) (k n : ℕ) → IsIndexed xs ix → key e < length ix → Absent (key e) xs → zs ≡ xs ++ e ∷ [] → k ≡ key e → n ≡ length xs
    → IsIndexed zs (set ix k (n + 1))
index_pushed xs zs ix e k n h lt absent is ek en =
    subst (λ l. IsIndexed l (set ix k (n + 1))) (sym is)
    (subst (λ j. IsIndexed (xs ++ e ∷ []) (set ix j (n + 1))) (sym ek) (subst (λ m. IsIndexed (xs ++ e ∷ []) (set ix (key e) (m + 1))) (sym en) (IsIndexed-push xs ix h e lt absent)))

pub index_popped : (xs zs : List Entry) (ix : List ℕ) (k n : ℕ) → IsIndexed xs ix → 0 < length xs → n ≡ length xs - 1 → zs ≡ take n xs → k ≡ key (at xs n) → IsIndexed zs (set ix k 0)
index_popped xs zs ix k n h some en is ek =
    subst (λ l. IsIndexed l (set ix k 0)) (sym (is ∙ ap (λ m. take m xs) en))
    (subst (λ j. IsIndexed (take (length xs - 1) xs) (set ix j 0)) (sym (ek ∙ ap (λ m. key (at xs m)) en)) (IsIndexed-pop xs ix h some))
