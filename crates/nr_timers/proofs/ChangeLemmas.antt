-- Lemmas that split an insertion or a removal into its parts: a push or a pop, a swap, and a sift
-- up or down.
use Rattle.std.proofs.Common.{◌≡◌, ◌≢◌, ◌⊎◌, inl, inr, ⊎_elim, ℕ, zero, suc, ◌+◌, ◌-◌, ◌<◌, ◌≤◌, Bool, true, false, List, [], ◌∷◌, ◌++◌, length, take, refl, sym, ap, ◌∙◌, subst, arith}
use Rattle.std.specs.List.{swap}
use Rattle.std.proofs.lemmas.List.{ext_get_or, get_or_append_left, get_or_push, length_push, take_at, take_all, take_more, get_or-take, length-take-le}
use Rattle.std.proofs.lemmas.List.Edits.{Swapped, length-swap}
use Rattle.std.proofs.lemmas.Bool.{cases_eq}
use Rattle.nr_rev.specs.declared.timer.Entry.{Entry}
use Rattle.nr_timers.specs.Order.{at, blank, is_less}
use Rattle.nr_timers.specs.PathToRoot.{parent, Leads, OnPath, Ordered, Raised, Sunk}
use Rattle.nr_timers.specs.Auxiliary.PathToRoot.{moved_up, moved_down, OrderedAbove, OrderedBelow, OrderedAround, Sifted}
use Rattle.nr_timers.specs.PathLaws.{Leads-le, Leads-lt, OnPath-le, OnPath-cases}
use Rattle.nr_timers.specs.Change.{Inserted, Removed}
use Rattle.nr_timers.specs.Auxiliary.Change.{refilled, TakenBack, InsertedBack, RemovedBack}
use Rattle.nr_timers.proofs.OrderLemmas.{less_once, not_less-trans, same_less}
use Rattle.nr_timers.proofs.PathLemmas.{Leads-between, at-swap, swap-swap, moved_down-moved_up, moved_up-moved_down, length-moved_up, length-moved_down}
use Rattle.nr_timers.proofs.SiftLemmas.{path_end, size_of, size_of_up}

-- a move up or down gives the same result in a list that differs only at p
module _ (mid old new : List Entry) (p : ℕ) (x : Entry) (within : p < length new) (was_at : x ≡ at mid p) (same : (k : ℕ) → k < length new → k ≢ p → at mid k ≡ at old k) where
  pub Raised-over : (q : ℕ) → Raised mid p (at mid p) q new → Raised old p x q new
  Raised-over q h =
      let low = OnPath-le p q h.on_path in
      record {
        on_path = h.on_path;
        arrives = h.arrives ∙ sym was_at;
        lower = λ k on lt. let le = OnPath-le p k on in h.lower k on lt ∙ same (parent k) (omega arith) (λ e. omega arith);
        greater = λ k on lt. let le = OnPath-le p k on in same_less _ _ _ _ true was_at (sym (same (parent k) (omega arith) (λ e. omega arith))) (h.greater k on lt);
        highest = λ above. same_less _ _ _ _ false was_at (sym (same (parent q) (omega arith) (λ e. omega arith))) (h.highest above);
        others = λ k lt off. h.others k lt off ∙ same k lt (λ e. off (0, e) (omega arith));
      }

  pub Sunk-over : (q : ℕ) → Sunk mid p (at mid p) q new → Sunk old p x q new
  Sunk-over q h =
      let low = OnPath-le q p h.on_path in
      let inside = h.within in
      let below : (k : ℕ) → OnPath q k → p < k → p ≤ parent k =
      λ k on lt. ⊎_elim (λ e. absurd (omega arith)) (λ rest. OnPath-le (parent k) p rest.1)
      (OnPath-cases k p (Leads-between on.0 h.on_path.0 q k p on.1 h.on_path.1 (omega arith))) in
      record {
        on_path = h.on_path;
        within = h.within;
        arrives = h.arrives ∙ sym was_at;
        higher = λ k on lt. let le = OnPath-le q k on in h.higher k on lt ∙ same k (omega arith) (λ e. omega arith);
        less = λ k on lt. let le = OnPath-le q k on in same_less _ _ _ _ true (sym (same k (omega arith) (λ e. omega arith))) was_at (h.less k on lt);
        least = λ k i on lt above i_within beside.
            let le = OnPath-le q k on in
            let lower = below k on lt in
            same_less _ _ _ _ false (sym (same i i_within (λ e. omega arith))) (sym (same k (omega arith) (λ e. omega arith))) (h.least k i on lt above i_within beside);
        lowest = λ i above i_within child. same_less _ _ _ _ false (sym (same i i_within (λ e. omega arith))) was_at (h.lowest i above i_within child);
        others = λ k lt off. h.others k lt off ∙ same k lt (λ e. off (subst (λ j. OnPath q j) (sym e) h.on_path) (omega arith));
      }

-- insertion
module _ (old : List Entry) (entry : Entry) where
  pub at_pushed : (k : ℕ) → k < length old → at (old ++ entry ∷ []) k ≡ at old k
  at_pushed k within = get_or_append_left old (entry ∷ []) blank k within

  pub at_last : at (old ++ entry ∷ []) (length old) ≡ entry
  at_last = get_or_push old entry blank (length old) refl

  module _ (pushed new : List Entry) (p q : ℕ) (e : pushed ≡ old ++ entry ∷ []) (is : p ≡ length old) (moved : (n : ℕ) × Leads n p q × (new ≡ moved_up n pushed p)) where
    size_new : length new ≡ suc (length old)
    size_new = let size : length new ≡ length old + 1 = size_of_up pushed new p q moved ∙ ap length e ∙ length_push old entry in omega arith

    pub inserted : Raised pushed p (at pushed p) q new → Inserted old entry q new
    inserted raised =
        let size = size_new in
        let whole : Raised (old ++ entry ∷ []) (length old) (at (old ++ entry ∷ []) (length old)) q new =
        subst (λ xs. Raised xs (length old) (at xs (length old)) q new) e (subst (λ x. Raised pushed x (at pushed x) q new) is raised) in
        record {
          size = size;
          raised = Raised-over (old ++ entry ∷ []) old new (length old) entry (omega arith) (sym at_last) (λ k lt other. at_pushed k (omega arith)) q whole;
        }

    pub inserted_back : InsertedBack q new old
    inserted_back =
        let size = size_new in
        let before : length new - 1 ≡ length old = omega arith in
        let last : length new - 1 ≡ p = before ∙ sym is in
        let within : p < length pushed = let size2 : length pushed ≡ length old + 1 = ap length e ∙ length_push old entry in omega arith in
        let undone : moved_down moved.0 new (length new - 1) ≡ old ++ entry ∷ [] =
        ap (λ x. moved_down moved.0 new x) last ∙ ap (λ xs. moved_down moved.0 xs p) moved.2 ∙ moved_down-moved_up moved.0 pushed p within ∙ e in (
          omega arith,
          moved.0,
          subst (λ x. Leads moved.0 x q) (sym last) moved.1,
          sym (ap (take (length new - 1)) undone ∙ take_at old (entry ∷ []) (length new - 1) (sym before)),
        )

  pub ordered_pushed : (pushed : List Entry) (p : ℕ) → pushed ≡ old ++ entry ∷ [] → p ≡ length old → Ordered old → OrderedAbove pushed p
  ordered_pushed pushed p e is h =
      let size = length_push old entry in
      let it : OrderedAbove (old ++ entry ∷ []) (length old) = record {
        others = λ i above within other. same_less _ _ _ _ false (at_pushed i (omega arith)) (at_pushed (parent i) (omega arith)) (h i above (omega arith));
        across = λ i above within child some. absurd (omega arith);
      } in
      subst (λ xs. OrderedAbove xs p) (sym e) (subst (λ x. OrderedAbove (old ++ entry ∷ []) x) (sym is) it)

-- after an entry moves down from q to p, the entry at p is the one that was at q
pub at-moved_down : (n : ℕ) (new : List Entry) (p q : ℕ) → p < length new → Leads n p q → at (moved_down n new p) p ≡ at new q
at-moved_down zero new p q lt h = ap (at new) (sym h)
at-moved_down (suc n) new p q lt h =
    let size = length-moved_down n new (parent p) in
    (at-swap (moved_down n new (parent p)) p (parent p) (omega arith) (omega arith)).0 ∙ at-moved_down n new (parent p) q (omega arith) h.1

pub uninserted : (old mid new : List Entry) (q last len : ℕ) (entry : Entry) → 0 < length old → len ≡ length old → last ≡ len - 1 → ((n : ℕ) × Leads n last q × (mid ≡ moved_down n old last))
    → new ≡ take (length mid - 1) mid → InsertedBack q old new
uninserted old mid new q last len entry some size is moved e =
    let last_is : last ≡ length old - 1 = omega arith in
    let size_mid : length mid ≡ length old = size_of old mid last q moved in
    let path : Leads moved.0 (length old - 1) q = subst (λ x. Leads moved.0 x q) last_is moved.1 in
    (some, moved.0, path, e ∙ ap (λ n. take (n - 1) mid) size_mid ∙ ap (take (length old - 1)) (moved.2 ∙ ap (moved_down moved.0 old) last_is))

pub uninserted_entry : (old mid : List Entry) (q last len : ℕ) (entry : Entry) → 0 < length old → len ≡ length old → last ≡ len - 1 → ((n : ℕ) × Leads n last q × (mid ≡ moved_down n old last))
    → entry ≡ at mid (length mid - 1) → entry ≡ at old q
uninserted_entry old mid q last len entry some size is moved e =
    let size_mid : length mid ≡ length old = size_of old mid last q moved in
    let last_is : length mid - 1 ≡ last = omega arith in
    e ∙ ap (at mid) last_is ∙ ap (λ xs. at xs last) moved.2 ∙ at-moved_down moved.0 old last q (omega arith) moved.1

-- the undo of a move
pub TakenBack-up : (rest new : List Entry) (p q : ℕ) → p < length rest → ((n : ℕ) × Leads n p q × (new ≡ moved_up n rest p)) → TakenBack p q new rest
TakenBack-up rest new p q within h = inl (h.0, h.1, sym (ap (λ xs. moved_down h.0 xs p) h.2 ∙ moved_down-moved_up h.0 rest p within))

pub TakenBack-down : (rest new : List Entry) (p q : ℕ) → q < length rest → ((n : ℕ) × Leads n q p × (new ≡ moved_down n rest q)) → TakenBack p q new rest
TakenBack-down rest new p q within h = inr (h.0, h.1, sym (ap (λ xs. moved_up h.0 xs q) h.2 ∙ moved_up-moved_down h.0 rest q within))

pub TakenBack-none : (rest : List Entry) (p : ℕ) → TakenBack p p rest rest
TakenBack-none rest p = inl (0, refl, refl)

pub back_down : (new rest : List Entry) (p q : ℕ) → TakenBack p q new rest → q < p → (n : ℕ) × Leads n p q
back_down new rest p q (inl h) lt = (h.0, h.1)
back_down new rest p q (inr h) lt = let le = Leads-le h.0 q p h.1 in absurd (omega arith)

pub back_up : (new rest : List Entry) (p q : ℕ) → TakenBack p q new rest → p < q → (n : ℕ) × Leads n q p
back_up new rest p q (inr h) lt = (h.0, h.1)
back_up new rest p q (inl h) lt = let le = Leads-le h.0 p q h.1 in absurd (omega arith)

pub length-TakenBack : (new rest : List Entry) (p q : ℕ) → TakenBack p q new rest → length rest ≡ length new
length-TakenBack new rest p q (inl h) = ap length h.2 ∙ length-moved_down h.0 new p
length-TakenBack new rest p q (inr h) = ap length h.2 ∙ length-moved_up h.0 new q

-- a move of length 0
not_moved : (rest new : List Entry) (p q : ℕ) → q ≡ p → ((n : ℕ) × Leads n p q × (new ≡ moved_up n rest p)) → new ≡ rest
not_moved rest new p q e (zero, h, is) = is
not_moved rest new p q e (suc n, h, is) = let lt = Leads-lt n p q h in absurd (omega arith)

-- a move up or down
module _ (old mid : List Entry) (p up : ℕ) (within : p < length old) (raised : Raised old p (at old p) up mid) (moved : (n : ℕ) × Leads n p up × (mid ≡ moved_up n old p)) where
  module _ (lt : up < p) where
    pub sifted_up : Sifted old p up mid
    sifted_up = inl (lt, raised)

    pub around_up : OrderedAround old p → OrderedAbove old p
    around_up h =
        let less : is_less (at old p) (at old (parent p)) ≡ true = raised.greater p (0, refl) lt in
        record {
          others = λ i above i_within other.
              ⊎_elim
              (
              λ child. same_less _ _ _ _ false refl (ap (at old) child)
              (not_less-trans (at old p) (at old (parent p)) (at old i) (less_once _ _ less) (h.across i above i_within child (omega arith)))
              )
              (λ beside. h.others i above i_within other beside)
              (cases_eq (parent i) p);
          across = h.across;
        }

  module _ (ge : p ≤ up) where
    stays : up ≡ p
    stays = path_end p up raised.on_path ge

    pub same_mid : mid ≡ old
    same_mid = not_moved old mid p up stays moved

    pub still_within : p < length mid
    still_within = let size = ap length same_mid in omega arith

    not_less : 0 < p → is_less (at old p) (at old (parent p)) ≡ false
    not_less some = let e = stays in subst (λ x. is_less (at old p) (at old (parent x)) ≡ false) e (raised.highest (omega arith))

    pub sifted_down : (new : List Entry) (q : ℕ) → Sunk mid p (at mid p) q new → Sifted old p q new
    sifted_down new q sunk = inr (not_less, subst (λ xs. Sunk xs p (at xs p) q new) same_mid sunk)

    pub around_down : OrderedAround old p → OrderedBelow mid p
    around_down h =
        subst (λ xs. OrderedBelow xs p) (sym same_mid)
        (
        record {
          others = λ i above i_within beside.
              ⊎_elim (λ e. same_less _ _ _ _ false (ap (at old) e) (ap (λ j. at old (parent j)) e) (not_less (omega arith)))
              (λ other. h.others i above i_within other beside)
              (cases_eq i p);
          across = h.across;
        }
        )

    pub back_of_down : (new : List Entry) (q : ℕ) → q < length mid → ((n : ℕ) × Leads n q p × (new ≡ moved_down n mid q)) → TakenBack p q new old
    back_of_down new q lt down = subst (TakenBack p q new) same_mid (TakenBack-down mid new p q lt down)

    pub size_of_down : (new : List Entry) (q : ℕ) → ((n : ℕ) × Leads n q p × (new ≡ moved_down n mid q)) → length new ≡ length old
    size_of_down new q down = size_of mid new q p down ∙ ap length same_mid

-- removal
module _ (old : List Entry) (p : ℕ) (within : p < length old) where
  moved : Swapped (at old) (at (swap old p (length old - 1))) p (length old - 1)
  moved = at-swap old p (length old - 1) within (omega arith)

  pub length-refilled : length (refilled old p) ≡ length old - 1
  length-refilled = let size = length-swap old p (length old - 1) in length-take-le (length old - 1) (swap old p (length old - 1)) (omega arith)

  -- moving the last entry to p leaves the entries at all other places unchanged
  pub at_refilled : (k : ℕ) → k < length old - 1 → (k ≡ p → ⊥) → at (refilled old p) k ≡ at old k
  at_refilled k lt other = get_or-take (length old - 1) (swap old p (length old - 1)) k blank lt ∙ moved.2 k other (λ e. omega arith)

  at_place : p < length old - 1 → at (refilled old p) p ≡ at old (length old - 1)
  at_place lt = get_or-take (length old - 1) (swap old p (length old - 1)) p blank lt ∙ moved.0

  -- the entry that is removed
  pub taken_out : at (swap old p (length old - 1)) (length old - 1) ≡ at old p
  taken_out = moved.1

  -- the removed entry, restored
  pub refilled_back : swap (refilled old p ++ at old p ∷ []) p (length old - 1) ≡ old
  refilled_back =
      let mid : List Entry = swap old p (length old - 1) in
      let size : length mid ≡ length old = length-swap old p (length old - 1) in
      let whole : take (length old - 1 + 1) mid ≡ mid = take_all (length old - 1 + 1) mid (omega arith) in
      let more : take (length old - 1 + 1) mid ≡ take (length old - 1) mid ++ at mid (length old - 1) ∷ [] = take_more mid (length old - 1) blank (omega arith) in
      let again : take (length old - 1) mid ++ at old p ∷ [] ≡ mid = ap (λ (x : Entry). take (length old - 1) mid ++ x ∷ []) (sym taken_out) ∙ sym more ∙ whole in
      ap (λ xs. swap xs p (length old - 1)) again ∙ swap-swap old p (length old - 1) within (omega arith)

  pub OrderedAround-refilled : Ordered old → p < length old - 1 → OrderedAround (refilled old p) p
  OrderedAround-refilled h inside =
      let size = length-refilled in
      record {
        others = λ i above lt other beside. same_less _ _ _ _ false (at_refilled i (omega arith) other) (at_refilled (parent i) (omega arith) beside) (h i above (omega arith));
        across = λ i above lt child top. same_less _ _ _ _ false (at_refilled i (omega arith) (λ e. omega arith)) (at_refilled (parent p) (omega arith) (λ e. omega arith))
            (not_less-trans (at old (parent p)) (at old p) (at old i) (h p top within) (same_less _ _ _ _ false refl (ap (at old) (sym child)) (h i above (omega arith))));
      }

  Ordered-refilled_last : Ordered old → p ≡ length old - 1 → Ordered (refilled old p)
  Ordered-refilled_last h last i above lt =
      let size = length-refilled in
      same_less _ _ _ _ false (at_refilled i (omega arith) (λ e. omega arith)) (at_refilled (parent i) (omega arith) (λ e. omega arith)) (h i above (omega arith))

  refilled_last : p ≡ length old - 1 → refilled old p ≡ take p old
  refilled_last last =
      let size = length-refilled in
      let size2 : length (take p old) ≡ p = length-take-le p old (omega arith) in
      ext_get_or blank (refilled old p) (take p old) (omega arith) (λ i lt. at_refilled i (omega arith) (λ e. omega arith) ∙ sym (get_or-take p old i blank (omega arith)))

  removed_back : (rest new : List Entry) (q : ℕ) (entry : Entry) → rest ≡ refilled old p → entry ≡ at old p → length new ≡ length old - 1
      → ((p ≡ length new) × (q ≡ p) ⊎ (p < length new) × (q < length new)) → TakenBack p q new rest → RemovedBack p q entry new old
  removed_back rest new q entry e is size places back = (
    places,
    rest,
    back,
    sym (ap (λ n. swap (rest ++ entry ∷ []) p n) size ∙ ap (λ xs. swap (xs ++ entry ∷ []) p (length old - 1)) e ∙ ap (λ (x : Entry). swap (refilled old p ++ x ∷ []) p (length old - 1)) is
        ∙ refilled_back),
  )

  -- the two ends of the move
  module _ (rest : List Entry) (entry : Entry) (is : rest ≡ refilled old p) (entry_is : entry ≡ at old p) where
    size_rest : length rest ≡ length old - 1
    size_rest = ap length is ∙ length-refilled

    module _ (last : p ≡ length rest) where
      last_place : p ≡ length old - 1
      last_place = last ∙ size_rest

      pub last_removed : Removed old p p rest
      last_removed = let e = last_place in inl (record { last = omega arith; stays = refl; rest = is ∙ refilled_last last_place })

      pub last_back : RemovedBack p p entry rest old
      last_back = removed_back rest rest p entry is entry_is size_rest (inl (last, refl)) (TakenBack-none rest p)

      pub last_ordered : Ordered old → Ordered rest
      last_ordered h = subst (λ (xs : List Entry). Ordered xs) (sym is) (Ordered-refilled_last h last_place)

    module _ (other : p ≢ length rest) where
      inside : p < length old - 1
      inside = let size = size_rest in omega arith

      pub inside_rest : p < length rest
      inside_rest = let size = size_rest in omega arith

      pub around_rest : Ordered old → OrderedAround rest p
      around_rest h = subst (λ xs. OrderedAround xs p) (sym is) (OrderedAround-refilled h inside)

      module _ (new : List Entry) (q : ℕ) (size : length new ≡ length rest) (q_within : q < length rest) where
        same_but : (k : ℕ) → k < length new → k ≢ p → at rest k ≡ at old k
        same_but k lt away = let more = size_rest in ap (λ xs. at xs k) is ∙ at_refilled k (omega arith) away

        was_at : at old (length old - 1) ≡ at rest p
        was_at = sym (ap (λ xs. at xs p) is ∙ at_place inside)

        less_moved : 0 < p → (v : Bool) → is_less (at rest p) (at rest (parent p)) ≡ v → is_less (at old (length old - 1)) (at old (parent p)) ≡ v
        less_moved some v h = let more = size_rest in let there = inside in same_less _ _ _ _ v was_at (sym (same_but (parent p) (omega arith) (λ e. omega arith))) h

        pub sifted_removed : Sifted rest p q new → Removed old p q new
        sifted_removed (inl (lt, raised)) =
            let more = size_rest in
            let there = inside in
            inr (inl (record {
              size = omega arith;
              within = omega arith;
              below = omega arith;
              less = less_moved (omega arith) true (raised.greater p (0, refl) lt);
              raised = Raised-over rest old new p (at old (length old - 1)) (omega arith) was_at same_but q raised;
            }))
        sifted_removed (inr (not_less, sunk)) =
            let more = size_rest in
            let there = inside in
            inr (inr (record {
              size = omega arith;
              within = omega arith;
              not_less = λ some. less_moved some false (not_less some);
              sunk = Sunk-over rest old new p (at old (length old - 1)) (omega arith) was_at same_but q sunk;
            }))

        pub sifted_back : TakenBack p q new rest → RemovedBack p q entry new old
        sifted_back back = let more = size_rest in let there = inside in removed_back rest new q entry is entry_is (omega arith) (inr (omega arith, omega arith)) back

-- the list without its last place, after the last entry was moved to p
pub refilled_is : (old mid rest : List Entry) (p n : ℕ) → n ≡ length old → mid ≡ swap old p (n - 1) → rest ≡ take (length mid - 1) mid → rest ≡ refilled old p
refilled_is old mid rest p n e1 e2 e3 =
    let e : mid ≡ swap old p (length old - 1) = e2 ∙ ap (λ x. swap old p (x - 1)) e1 in
    let size : length mid ≡ length old = ap length e ∙ length-swap old p (length old - 1) in
    e3 ∙ ap (λ x. take (x - 1) mid) size ∙ ap (take (length old - 1)) e

pub taken_out_is : (old mid : List Entry) (entry : Entry) (p n : ℕ) → p < length old → n ≡ length old → mid ≡ swap old p (n - 1) → entry ≡ at mid (length mid - 1) → entry ≡ at old p
taken_out_is old mid entry p n within e1 e2 e3 =
    let e : mid ≡ swap old p (length old - 1) = e2 ∙ ap (λ x. swap old p (x - 1)) e1 in
    let size : length mid ≡ length old = ap length e ∙ length-swap old p (length old - 1) in
    e3 ∙ ap (λ x. at mid (x - 1)) size ∙ ap (λ xs. at xs (length old - 1)) e ∙ taken_out old p within
