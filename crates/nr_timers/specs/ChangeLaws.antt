-- If no two entries are equal in the order, an insertion or a removal has only one possible
-- resulting heap and place.
use Rattle.std.proofs.Common.{◌≡◌, ◌⊎◌, inl, inr, ⊎_elim, ℕ, zero, suc, ◌-◌, ◌<◌, ◌≤◌, Bool, true, false, true≢false, List, length, refl, sym, ap, ◌∙◌, subst, arith}
use Rattle.std.proofs.lemmas.List.{ext_get_or}
use Rattle.std.proofs.lemmas.Bool.{cases_eq, cases_lt}
use Rattle.nr_rev.specs.declared.timer.Entry.{Entry}
use Rattle.nr_timers.specs.Order.{at, blank, is_less}
use Rattle.nr_timers.specs.PathToRoot.{parent, Leads, OnPath, Raised, Sunk}
use Rattle.nr_timers.specs.PathLaws.{Leads-le, Leads-lt, Leads-more, OnPath-le, OnPath-more, OnPath-ends, on_path_or_not}
use Rattle.nr_timers.specs.Change.{Inserted, Removed}

-- for any two different places, one of the two entries is less than the other
abbrev pub Distinct : List Entry → Type 0
Distinct entries =
    (p q : ℕ) → p < length entries → q < length entries
    → is_less (at entries p) (at entries q) ≡ false
    → is_less (at entries q) (at entries p) ≡ false → p ≡ q

clash : {A : Type 0} (b : Bool) → b ≡ true → b ≡ false → A
clash b on off = absurd (true≢false (sym on ∙ off))

raised_no_lower : (old : List Entry) (p : ℕ) (x : Entry) (q r : ℕ) (a b : List Entry)
    → Raised old p x q a → Raised old p x r b → q < r → ⊥
raised_no_lower old p x q r a b g h lt =
    clash (is_less x (at old (parent r))) (g.greater r h.on_path lt) (h.highest (omega arith))

pub raised_place : (old : List Entry) (p : ℕ) (x : Entry) (q r : ℕ) (a b : List Entry)
    → Raised old p x q a → Raised old p x r b → q ≡ r
raised_place old p x q r a b g h =
    ⊎_elim (λ lt. absurd (raised_no_lower old p x q r a b g h lt))
    (λ ge. ⊎_elim (λ lt. absurd (raised_no_lower old p x r q b a h g lt)) (λ le. omega arith)
    (cases_lt r q))
    (cases_lt q r)

pub raised_same : (old : List Entry) (p : ℕ) (x : Entry) (q : ℕ) (a b : List Entry)
    → length a ≡ length b → Raised old p x q a → Raised old p x q b → a ≡ b
raised_same old p x q a b size g h =
    ext_get_or blank a b size
    (
    λ k lt. let off : (OnPath p k → q ≤ k → ⊥) → at a k ≡ at b k =
    λ away. g.others k lt away ∙ sym (h.others k (omega arith) away) in
    ⊎_elim
    (
    λ on. ⊎_elim (λ below. g.lower k on below ∙ sym (h.lower k on below))
    (λ le. ⊎_elim (λ e. ap (at a) e ∙ g.arrives ∙ sym (ap (at b) e ∙ h.arrives))
    (λ other. off (λ _ ge. other (omega arith))) (cases_eq k q))
    (cases_lt q k)
    )
    (λ away. off (λ on _. away on))
    (on_path_or_not p p k (omega arith))
    )

pub Inserted-unique : (old : List Entry) (x : Entry) (q r : ℕ) (a b : List Entry)
    → Inserted old x q a → Inserted old x r b → a ≡ b
Inserted-unique old x q r a b g h =
    raised_same old (length old) x q a b (g.size ∙ sym h.size) g.raised
    (subst (λ i. Raised old (length old) x i b)
    (sym (raised_place old (length old) x q r a b g.raised h.raised)) h.raised)

module _ (old : List Entry) (p : ℕ) (x : Entry) (distinct : Distinct old) where
  module _ (q r : ℕ) (a b : List Entry) (size : length a ≡ length b)
      (inside : length a ≤ length old) (g : Sunk old p x q a) (h : Sunk old p x r b) where
    -- the least child is unique
    same_child : (k i : ℕ) → OnPath q k → OnPath r i → p < k → p < i → 0 < i → parent i ≡ parent k
        → k ≡ i
    same_child k i on_q on_r lt_k lt_i above e =
        let le_k = OnPath-le q k on_q in
        let le_i = OnPath-le r i on_r in
        let in_q = g.within in
        let in_r = h.within in
        distinct k i (omega arith) (omega arith)
        (h.least i k on_r lt_i (omega arith) (omega arith) (sym e))
        (g.least k i on_q lt_k above (omega arith) e)

    -- of two paths from the same place, one continues where the other ends
    meets : (n s : ℕ) → Leads n s p → OnPath q s → OnPath r s ⊎ OnPath s r
    meets zero s h0 on = inl (subst (λ i. OnPath r i) h0 h.on_path)
    meets (suc n) s leads on =
        let lt = Leads-lt n s p leads in
        let low = Leads-le n (parent s) p leads.1 in
        ⊎_elim
        (
        λ there. ⊎_elim (λ e. inr (1, (leads.0, sym e)))
        (
        λ last. let same : s ≡ last.0 = same_child s last.0 on last.1 lt
        (let e = last.3 in let some = last.2 in omega arith) last.2 last.3 in
        inl (subst (λ i. OnPath r i) (sym same) last.1)
        )
        (OnPath-ends r (parent s) there)
        )
        (λ there. inr (OnPath-more s r leads.0 there))
        (meets n (parent s) leads.1 (let more = Leads-more on.0 q s on.1 leads.0 in
        (suc on.0, more)))

    -- a move down stops at the first place where no child is less than the moved entry
    no_further : OnPath r q → q ≡ r
    no_further on =
        ⊎_elim (λ e. e)
        (
        λ last. let low = OnPath-le q p g.on_path in
        let le = OnPath-le r last.0 last.1 in
        let in_r = h.within in
        let e = last.3 in
        let some = last.2 in
        clash (is_less (at old last.0) x) (h.less last.0 last.1 (omega arith))
        (g.lowest last.0 last.2 (omega arith) last.3)
        )
        (OnPath-ends r q on)

  pub sunk_place : (q r : ℕ) (a b : List Entry) → length a ≡ length b → length a ≤ length old
      → Sunk old p x q a → Sunk old p x r b → q ≡ r
  sunk_place q r a b size inside g h =
      ⊎_elim (λ on. no_further q r a b size inside g h on)
      (λ on. sym (no_further r q b a (sym size) (omega arith) h g on))
      (meets q r a b size inside g h g.on_path.0 q g.on_path.1 (0, refl))

pub sunk_same : (old : List Entry) (p : ℕ) (x : Entry) (q : ℕ) (a b : List Entry)
    → length a ≡ length b → Sunk old p x q a → Sunk old p x q b → a ≡ b
sunk_same old p x q a b size g h =
    ext_get_or blank a b size
    (
    λ k lt. let off : (OnPath q k → p ≤ k → ⊥) → at a k ≡ at b k =
    λ away. g.others k lt away ∙ sym (h.others k (omega arith) away) in
    ⊎_elim
    (
    λ on. ⊎_elim (λ below. off (λ _ ge. omega arith))
    (
    λ le. ⊎_elim (λ e. ap (at a) e ∙ g.arrives ∙ sym (ap (at b) e ∙ h.arrives))
    (
    λ last. let e = last.3 in let some = last.2 in
    let lower : p < last.0 = omega arith in
    ap (at a) (sym last.3) ∙ g.higher last.0 last.1 lower
    ∙ sym (ap (at b) (sym last.3) ∙ h.higher last.0 last.1 lower)
    )
    (OnPath-ends q k on)
    )
    (cases_lt k p)
    )
    (λ away. off (λ on _. away on))
    (on_path_or_not q q k (omega arith))
    )

pub Removed-unique : (old : List Entry) (p q r : ℕ) (a b : List Entry) → Distinct old
    → Removed old p q a → Removed old p r b → (q ≡ r) × (a ≡ b)
Removed-unique old p q r a b distinct (inl g) (inl h) = (g.stays ∙ sym h.stays, g.rest ∙ sym h.rest)
Removed-unique old p q r a b distinct (inl g) (inr (inl h)) =
    let x = g.last in let y = h.size in let z = h.within in absurd (omega arith)
Removed-unique old p q r a b distinct (inl g) (inr (inr h)) =
    let x = g.last in let y = h.size in let z = h.within in absurd (omega arith)
Removed-unique old p q r a b distinct (inr (inl g)) (inl h) =
    let x = h.last in let y = g.size in let z = g.within in absurd (omega arith)
Removed-unique old p q r a b distinct (inr (inr g)) (inl h) =
    let x = h.last in let y = g.size in let z = g.within in absurd (omega arith)
Removed-unique old p q r a b distinct (inr (inl g)) (inr (inl h)) =
    let x = g.size in
    let y = h.size in
    let size : length a ≡ length b = omega arith in
    let place = raised_place old p (at old (length old - 1)) q r a b g.raised h.raised in (
      place,
      raised_same old p (at old (length old - 1)) q a b size g.raised
          (subst (λ i. Raised old p (at old (length old - 1)) i b) (sym place) h.raised),
    )
Removed-unique old p q r a b distinct (inr (inl g)) (inr (inr h)) =
    clash (is_less (at old (length old - 1)) (at old (parent p))) g.less (h.not_less g.below)
Removed-unique old p q r a b distinct (inr (inr g)) (inr (inl h)) =
    clash (is_less (at old (length old - 1)) (at old (parent p))) h.less (g.not_less h.below)
Removed-unique old p q r a b distinct (inr (inr g)) (inr (inr h)) =
    let x = g.size in
    let y = h.size in
    let size : length a ≡ length b = omega arith in
    let place = sunk_place old p (at old (length old - 1)) distinct q r a b size (omega arith)
    g.sunk h.sunk in (
      place,
      sunk_same old p (at old (length old - 1)) q a b size g.sunk
          (subst (λ i. Sunk old p (at old (length old - 1)) i b) (sym place) h.sunk),
    )
