-- Lemmas about `LeadsBack` and `Applied`: adding an operation at the end, and undoing it.
use Rattle.std.proofs.Common.{◌≡◌, ℕ, suc, ◌+◌, ◌<◌, length, get_or, take, drop, List, [], ◌∷◌, ◌++◌, refl, sym, ap, ◌∙◌, subst, inr, take-append-drop, drop-cons}
use Rattle.std.proofs.lemmas.List.{take_more}
use Rattle.nr_rev.specs.Transaction.{Applied, LeadsBack, FirstRefused}

module _ {State Delta : Type 0} (back : Delta → State → State → Type 0) where
  -- if some deltas undo a sequence of steps and another delta undoes the next step, all the deltas
  -- together undo all the steps
  pub LeadsBack-push : (deltas : List Delta) (delta : Delta) (new mid old : State) → LeadsBack back deltas mid old → back delta new mid → LeadsBack back (deltas ++ delta ∷ []) new old
  LeadsBack-push [] delta new mid old rest last = (new, refl, subst (λ s. back delta new s) rest last)
  LeadsBack-push (first ∷ deltas) delta new mid old rest last =
      (rest.0, LeadsBack-push deltas delta new mid rest.0 rest.1 last, rest.2)

  -- the last delta is undone first
  pub LeadsBack-last : (deltas : List Delta) (delta : Delta) (new old : State) → LeadsBack back (deltas ++ delta ∷ []) new old → (mid : State) × back delta new mid × LeadsBack back deltas mid old
  LeadsBack-last [] delta new old h = (old, subst (λ s. back delta s old) (sym h.1) h.2, refl)
  LeadsBack-last (first ∷ deltas) delta new old h =
      let rest = LeadsBack-last deltas delta new h.0 h.1 in
      (rest.0, rest.1, (h.0, rest.2, h.2))

module _ {State Op Answer Delta : Type 0} (steps : State → Op → Answer → State → Type 0) (back : Delta → State → State → Type 0) (light : Op → Answer → Delta → Type 0) where
  -- one more operation
  pub Applied-push : (ops : List Op) (deltas : List Delta) (op : Op) (delta : Delta) (answer : Answer) (old mid new : State) → Applied steps back light old ops deltas mid → steps mid op answer new
      → back delta new mid → light op answer delta → Applied steps back light old (ops ++ op ∷ []) (deltas ++ delta ∷ []) new
  Applied-push [] deltas op delta answer old mid new h step last weighs =
      (answer, new, delta, [], ap (λ ds. ds ++ delta ∷ []) h.0, subst (λ s. steps s op answer new) h.1 step, subst (λ s. back delta new s) h.1 last, weighs, (refl, refl))
  Applied-push (o ∷ ops) deltas op delta answer old mid new h step last weighs =
      (h.0, h.1, h.2, h.3 ++ delta ∷ [], ap (λ ds. ds ++ delta ∷ []) h.4, h.5, h.6, h.7, Applied-push ops h.3 op delta answer h.1 mid new h.8 step last weighs)

  -- each operation has a delta
  pub length-Applied : (ops : List Op) (deltas : List Delta) (old new : State) → Applied steps back light old ops deltas new → length deltas ≡ length ops
  length-Applied [] deltas old new h = ap length h.0
  length-Applied (o ∷ ops) deltas old new h = ap length h.4 ∙ ap suc (length-Applied ops h.3 h.1 new h.8)

  -- undoing the deltas of applied operations restores the old state
  pub LeadsBack-Applied : (ops : List Op) (deltas : List Delta) (old new : State) → Applied steps back light old ops deltas new → LeadsBack back deltas new old
  LeadsBack-Applied [] deltas old new h = subst (λ ds. LeadsBack back ds new old) (sym h.0) h.1
  LeadsBack-Applied (o ∷ ops) deltas old new h =
      subst (λ ds. LeadsBack back ds new old) (sym h.4) (h.1, LeadsBack-Applied ops h.3 h.1 new h.8, h.6)

  -- undoing the deltas also restores the old state from any state that equals the new one
  pub LeadsBack-unchanged : (ops : List Op) (deltas : List Delta) (old mid new : State) → Applied steps back light old ops deltas mid → new ≡ mid → LeadsBack back deltas new old
  LeadsBack-unchanged ops deltas old mid new h same = subst (λ s. LeadsBack back deltas s old) (sym same) (LeadsBack-Applied ops deltas old mid h)

  -- if some operations apply, the first refusal after them is the first refusal of the whole list
  pub FirstRefused-after : {Reason : Type 0} (refuses : State → Op → Reason → Type 0) (ops : List Op) (deltas : List Delta) (rest : List Op) (reason : Reason) (old mid : State)
      → Applied steps back light old ops deltas mid → FirstRefused steps refuses mid rest reason → FirstRefused steps refuses old (ops ++ rest) reason
  FirstRefused-after refuses [] deltas rest reason old mid run h = subst (λ s. FirstRefused steps refuses s rest reason) run.1 h
  FirstRefused-after refuses (o ∷ ops) deltas rest reason old mid run h =
      inr (run.0, run.1, run.5, FirstRefused-after refuses ops run.3 rest reason run.1 mid run.8 h)

module _ {State Delta : Type 0} (back : Delta → State → State → Type 0) where
  -- undoing the last delta gives a state from which undoing the other deltas restores the old state
  pub LeadsBack-undone : (unique : (delta : Delta) (new a b : State) → back delta new a → back delta new b → a ≡ b) → (deltas rest : List Delta) (delta : Delta) (new mid old : State)
      → deltas ≡ rest ++ delta ∷ [] → back delta new mid → LeadsBack back deltas new old → LeadsBack back rest mid old
  LeadsBack-undone unique deltas rest delta new mid old last undone h =
      let split = LeadsBack-last back rest delta new old (subst (λ ds. LeadsBack back ds new old) last h) in
      subst (λ s. LeadsBack back rest s old) (unique delta new split.0 mid split.1 undone) split.2

module _ {X : Type 0} where
  -- the first i + 1 items are the first i items and the next one
  pub take-next : (xs : List X) (i : ℕ) (x : X) → i < length xs → x ≡ get_or xs i x → take (i + 1) xs ≡ take i xs ++ x ∷ []
  take-next xs i x within read = take_more xs i x within ∙ ap (λ y. take i xs ++ y ∷ []) (sym read)

  -- the first i items, the next one and the rest are the whole list
  pub append-next : (xs : List X) (i : ℕ) (x : X) → i < length xs → x ≡ get_or xs i x → take i xs ++ (x ∷ drop (suc i) xs) ≡ xs
  append-next xs i x within read =
      ap (λ y. take i xs ++ (y ∷ drop (suc i) xs)) read ∙ ap (λ ys. take i xs ++ ys) (sym (drop-cons xs i x within)) ∙ take-append-drop i xs

-- if a delta and the new state determine the old state, so do a list of deltas and the new state
pub LeadsBack-unique : {State Delta : Type 0} (back : Delta → State → State → Type 0) → ((delta : Delta) (new a b : State) → back delta new a → back delta new b → a ≡ b)
    → (deltas : List Delta) (new a b : State) → LeadsBack back deltas new a → LeadsBack back deltas new b → a ≡ b
LeadsBack-unique back unique [] new a b p q = sym p ∙ q
LeadsBack-unique {State} back unique (delta ∷ deltas) new a b p q =
    let same = LeadsBack-unique back unique deltas new p.0 q.0 p.1 q.1 in
    unique delta q.0 a b (subst (λ (s : State). back delta s a) same p.2) q.2
