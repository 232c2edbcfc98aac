-- After an insertion or a removal, the undo and the new heap determine the old heap.
use Rattle.std.proofs.Common.{◌≡◌, inl, inr, ℕ, zero, suc, ◌-◌, List, [], ◌∷◌, ◌++◌, length, take, sym, ap, ◌∙◌, arith}
use Rattle.std.specs.List.{swap}
use Rattle.nr_rev.specs.declared.timer.Entry.{Entry}
use Rattle.nr_timers.specs.PathToRoot.{Leads}
use Rattle.nr_timers.specs.Auxiliary.PathToRoot.{moved_up, moved_down}
use Rattle.nr_timers.specs.PathLaws.{Leads-le, Leads-lt, Leads-unique}
use Rattle.nr_timers.specs.Auxiliary.Change.{TakenBack, InsertedBack, RemovedBack}

still_down : (n : ℕ) (new a : List Entry) (p q : ℕ) → q ≡ p → Leads n p q → a ≡ moved_down n new p
    → a ≡ new
still_down zero new a p q e h is = is
still_down (suc n) new a p q e h is = let lt = Leads-lt n p q h in absurd (omega arith)

still_up : (n : ℕ) (new a : List Entry) (p q : ℕ) → q ≡ p → Leads n p q → a ≡ moved_up n new p
    → a ≡ new
still_up zero new a p q e h is = is
still_up (suc n) new a p q e h is = let lt = Leads-lt n p q h in absurd (omega arith)

pub TakenBack-unique : (p q : ℕ) (new a b : List Entry) → TakenBack p q new a → TakenBack p q new b
    → a ≡ b
TakenBack-unique p q new a b (inl x) (inl y) =
    x.2 ∙ ap (λ n. moved_down n new p) (Leads-unique x.0 y.0 p q x.1 y.1) ∙ sym y.2
TakenBack-unique p q new a b (inr x) (inr y) =
    x.2 ∙ ap (λ n. moved_up n new q) (Leads-unique x.0 y.0 q p x.1 y.1) ∙ sym y.2
TakenBack-unique p q new a b (inl x) (inr y) =
    let le = Leads-le x.0 p q x.1 in
    let ge = Leads-le y.0 q p y.1 in
    let same : q ≡ p = omega arith in
    still_down x.0 new a p q same x.1 x.2 ∙ sym (still_up y.0 new b q p (sym same) y.1 y.2)
TakenBack-unique p q new a b (inr x) (inl y) =
    let le = Leads-le y.0 p q y.1 in
    let ge = Leads-le x.0 q p x.1 in
    let same : q ≡ p = omega arith in
    still_up x.0 new a q p (sym same) x.1 x.2 ∙ sym (still_down y.0 new b p q same y.1 y.2)

pub InsertedBack-unique : (q : ℕ) (new a b : List Entry) → InsertedBack q new a
    → InsertedBack q new b → a ≡ b
InsertedBack-unique q new a b x y =
    x.3 ∙ ap (λ n. take (length new - 1) (moved_down n new (length new - 1)))
    (Leads-unique x.1 y.1 (length new - 1) q x.2 y.2) ∙ sym y.3

pub RemovedBack-unique : (p q : ℕ) (entry : Entry) (new a b : List Entry)
    → RemovedBack p q entry new a → RemovedBack p q entry new b → a ≡ b
RemovedBack-unique p q entry new a b x y =
    x.3 ∙ ap (λ xs. swap (xs ++ entry ∷ []) p (length new))
    (TakenBack-unique p q new x.1 y.1 x.2 y.2) ∙ sym y.3
