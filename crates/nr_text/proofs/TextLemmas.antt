-- Lemmas about texts that consist of several parts.
use Rattle.std.proofs.Common.{◌≡◌, ℕ, suc, ◌<◌, ◌≤◌, List, [], ◌∷◌, ◌++◌, length, get_or, take, drop, flat_map, Result, Ok, Err, refl, sym, ap, subst, ◌∙◌, append-nil, take-append-drop, take_all, drop-cons}
use Rattle.std.proofs.lemmas.Grind.{flat_map-append, get_or_default_zero}
use Rattle.std.specs.Result.{IsErr}
use Rattle.nr_text.specs.Buffered.{Buffering, Writes}
use Rattle.nr_text.specs.Auxiliary.Text.{text_of_parts}
use Rattle.nr_text.specs.declared.buffered.WriteFailed.{WriteFailed}
use Rattle.nr_text.proofs.BufferedLemmas.{writes_cut, writes_then}

pub text_of_parts_is : {X : Type 0} (f : X → List ℕ) (xs : List X) → text_of_parts f xs ≡ flat_map f xs
text_of_parts_is f [] = refl
text_of_parts_is f (x ∷ []) = sym (append-nil (f x))
text_of_parts_is f (x ∷ y ∷ xs) = ap (λ t. f x ++ t) (text_of_parts_is f (y ∷ xs))

-- a text is split into the parts before the i-th, the i-th part, and the parts after it
parts_at : {X : Type 0} (f : X → List ℕ) (xs : List X) (i : ℕ) (d : X) → i < length xs
    → flat_map f xs ≡ flat_map f (take i xs) ++ (f (get_or xs i d) ++ flat_map f (drop (suc i) xs))
parts_at f xs i d h =
    ap (flat_map f) (sym (take-append-drop i xs)) ∙ flat_map-append f (take i xs) (drop i xs)
    ∙ ap (λ ys. flat_map f (take i xs) ++ flat_map f ys) (drop-cons xs i d h)

-- sending the whole text fails if the parts before the i-th are sent and a write fails in the i-th
pub all_cut : {X : Type 0} (f : X → List ℕ) (xs : List X) (i : ℕ) (x : X) (u v w : Buffering) (e : WriteFailed) (result : Result (Unit {0}) WriteFailed)
    → i < length xs → x ≡ get_or xs i x → IsErr result → Writes u v (flat_map f (take i xs)) (Ok tt) → Writes v w (f x) (Err e) → Writes u w (flat_map f xs) result
all_cut f xs i x u v w e result within is fails sent cut =
    let part = writes_cut v w (f (get_or xs i x)) (flat_map f (drop (suc i) xs)) e result fails (subst (λ y. Writes v w (f y) (Err e)) is cut) in
    subst (λ t. Writes u w t result) (sym (parts_at f xs i x within)) (writes_then u v w (flat_map f (take i xs)) _ result sent part)

-- the lemma `all_cut` for parts that are texts of numbers
pub all_numbers_cut : (f : ℕ → List ℕ) (xs : List ℕ) (i : ℕ) (u v w : Buffering) (e : WriteFailed) (result : Result (Unit {0}) WriteFailed)
    → i < length xs → IsErr result → Writes u v (flat_map f (take i xs)) (Ok tt) → Writes v w (f (get_or xs i 0)) (Err e) → Writes u w (flat_map f xs) result
all_numbers_cut f xs i u v w e result within =
    let x = get_or xs i 0 in
    all_cut f xs i x u v w e result within (sym (get_or_default_zero xs i x within))

-- if no part is left, the whole text is sent
pub all_sent : {X : Type 0} (f : X → List ℕ) (xs : List X) (i : ℕ) (u v : Buffering) → length xs ≤ i → Writes u v (flat_map f (take i xs)) (Ok tt) → Writes u v (flat_map f xs) (Ok tt)
all_sent f xs i u v all sent = subst (λ t. Writes u v t (Ok tt)) (ap (flat_map f) (take_all i xs all)) sent
