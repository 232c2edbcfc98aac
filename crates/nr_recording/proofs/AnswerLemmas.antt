-- A value that is neither a word nor a word with a number isn't an answer.
use Rattle.std.proofs.Common.{◌≡◌, List, [], ◌∷◌, length, None, refl, ◌≤◌, ◌<◌, ◌+◌, ℕ, get_or, drop, ap₂, ◌∙◌}
use Rattle.std.proofs.lemmas.List.{drop_all, drop_more}
use Rattle.serde_json.specs.View.{items_view}
use Rattle.serde_json.specs.declared.value.Value.{Value}
use Rattle.nr_recording.specs.Answer.{counted_of}

pub not_two : (parts : List Value) → ¬ (length parts ≡ 2) → None ≡ counted_of (items_view parts)
not_two [] other = refl
not_two (x ∷ []) other = refl
not_two (x ∷ y ∷ []) other = absurd (other refl)
not_two (x ∷ y ∷ z ∷ rest) other = refl

-- true if the word has these bytes from index i to its end
abbrev AreAt : List ℕ → ℕ → List ℕ → Type 0
AreAt word i [] = length word ≤ i
AreAt word i (x ∷ xs) = (i < length word) × (get_or word i 0 ≡ x) × AreAt word (i + 1) xs

spelled_from : (word : List ℕ) (i : ℕ) (xs : List ℕ) → AreAt word i xs → drop i word ≡ xs
spelled_from word i [] at = drop_all i word at
spelled_from word i (x ∷ xs) at = drop_more word i 0 at.0 ∙ ap₂ (λ y ys. y ∷ ys) at.1 (spelled_from word (i + 1) xs at.2)

-- if the bytes of a word from index 0 on are xs, the word is xs
pub spelled : (word xs : List ℕ) → AreAt word 0 xs → word ≡ xs
spelled word xs at = spelled_from word 0 xs at
