-- What is known about each segment, by its number.
use Rattle.std.proofs.Common.{◌≡◌, ◌⊎◌, inl, inr, ℕ, ◌+◌, ◌<◌, ◌≤◌, false, List, [], refl, subst, arith}
use Rattle.nr_search.specs.Known.{Agrees, AreTrue, IsFoundIn, has_hit, slot_of}
use Rattle.nr_search.specs.Search.{is_hit}
use Rattle.nr_search.specs.declared.found.Found.{Found}
use Rattle.nr_search.specs.declared.segments.Span.{Span}
use Rattle.nr_search.specs.declared.slot.Slot.{Slot}
use Rattle.nr_search.specs.declared.slot.Slot.TheVariants.{Unknown, Refused, Searched}

-- if the slot of a segment contains a search result, this is the result of searching the segment
pub searched-is_found : {span : Span} {hits : ℕ → List ℕ} {known : ℕ → Slot} (s : ℕ) {found : Found} → AreTrue span hits known → known s ≡ Searched found → IsFoundIn span hits s found
searched-is_found s {found = found} true said = (true.each s).found found said

-- an empty table is right about each segment
pub none-true : (span : Span) (hits : ℕ → List ℕ) → AreTrue span hits (slot_of [])
none-true span hits = record { each = λ s. record { found = λ found said. absurd (grind (arith, said)) } }

-- if the result isn't a hit, a slot that agrees with it contains no hit
agrees-no_hit : (slot : Slot) (found : Found) → Agrees slot found → is_hit found ≡ false → has_hit slot ≡ false
agrees-no_hit (Searched known) found is none = subst (λ f. is_hit f ≡ false) is none
agrees-no_hit (Refused _) found is none = refl
agrees-no_hit Unknown found is none = refl

split : (a b : ℕ) → (a < b) ⊎ (b ≤ a)
split a b = grind arith

-- if the first k segments in search order have no known hit and the next one has no hit, the first
-- k + 1 have no known hit
pub nearer-next : (known : ℕ → Slot) (nth : ℕ → ℕ) (k : ℕ) (found : Found) → ((j : ℕ) → j < k → has_hit (known (nth j)) ≡ false) → Agrees (known (nth k)) found → is_hit found ≡ false → (j : ℕ)
    → j < k + 1 → has_hit (known (nth j)) ≡ false
nearer-next known nth k found before is none j below =
    elim (split j k) [
      | inl less ↦ before j less
      | inr more ↦ subst (λ i. has_hit (known (nth i)) ≡ false) (omega (arith, more, below)) (agrees-no_hit (known (nth k)) found is none)
    ]
