-- The nearest hit in a growing range of positions.
use Rattle.std.proofs.Common.{◌≡◌, ◌⊎◌, inl, inr, ℕ, zero, suc, ◌+◌, ◌<◌, ◌≤◌, true, false, List, [], ◌∷◌, length, refl, sym, ap, ◌∙◌, subst, arith}
use Rattle.nr_search.specs.Nearest.{first_hit_of, found_after, last_hit_below}
use Rattle.nr_search.specs.Auxiliary.Nearest.{NoneHits, IsFound}
use Rattle.nr_search.specs.Search.{is_hit, is_decided}
use Rattle.nr_search.specs.declared.direction.Direction.{Direction}
use Rattle.nr_search.specs.declared.direction.Direction.TheVariants.{Forward, Backward}
use Rattle.nr_search.specs.declared.found.Found.{Found}
use Rattle.nr_search.specs.declared.found.Found.TheVariants.{Hit, Nothing}
use Rattle.nr_search.specs.declared.found.Hit as at

split : (a b : ℕ) → (a < b) ⊎ (b ≤ a)
split a b = grind arith

last-or-before : (q b : ℕ) → q < b + 1 → (q < b) ⊎ (q ≡ b)
last-or-before q b h = grind arith

first-or-behind : (p q : ℕ) → p ≤ q → (p + 1 ≤ q) ⊎ (q ≡ p)
first-or-behind p q h = grind arith

-- a list with at least one mark isn't empty
not-none : (marks ms : List ℕ) → marks ≡ ms → ms ≡ [] → 0 < length marks → ⊥
not-none marks ms reported none some = let e : 0 < length {A = ℕ} [] = subst (λ ns. 0 < length ns) (reported ∙ none) some in omega (arith, e)

-- hits with equal positions and equal marks are equal
hit-is : (h : at.Hit) (p : ℕ) (ms : List ℕ) → h.position ≡ p → h.marks.items ≡ ms → Hit h ≡ Hit (record { position = p; marks = record { items = ms } })
hit-is h p ms place marks =
    ap (λ q. Hit (record { position = q; marks = h.marks })) place ∙ ap (λ ns. Hit (record { position = p; marks = record { items = ns } })) marks

module _ (hits : ℕ → List ℕ) where
  at-once : (a b : ℕ) (ms : List ℕ) → a ≡ b → hits b ≡ ms → hits a ≡ ms
  at-once a b ms same is = ap hits same ∙ is

  -- the result for an empty range is Nothing
  pub found-first : (direction : Direction) (low : ℕ) → IsFound direction hits low low Nothing
  found-first direction low = record { none = λ q a b. absurd (omega arith) }

  -- extending the range by a position at which marks hit
  found-hit : (direction : Direction) (low b m : ℕ) (ms : List ℕ) (found : Found) → is_decided direction found ≡ false → low ≤ b → m ∷ ms ≡ hits b → IsFound direction hits low b found
      → IsFound direction hits low (b + 1) (found_after found b (m ∷ ms))
  found-hit Forward low b m ms Nothing undecided a is rest = record { above = a; below = omega arith; reported = is; some = omega arith; nearest = λ q c d e. rest.none q c e }
  found-hit Forward low b m ms (Hit h) undecided a is rest = cc
  found-hit Backward low b m ms found undecided a is rest = record { above = a; below = omega arith; reported = is; some = omega arith; nearest = λ q c d e. absurd (omega arith) }

  -- extending the range by a position at which no mark hits
  found-miss : (direction : Direction) (low b : ℕ) (found : Found) → hits b ≡ [] → IsFound direction hits low b found → IsFound direction hits low (b + 1) found
  found-miss direction low b Nothing h rest =
      record { none = λ q c d. elim (last-or-before q b d) [ inl less ↦ rest.none q c less | inr same ↦ at-once q b [] same h ] }
  found-miss direction low b (Hit p) h rest =
      record {
        above = rest.above;
        below = omega (arith, rest.below);
        reported = rest.reported;
        some = rest.some;
        nearest = λ q c d e. elim (last-or-before q b d) [ inl less ↦ rest.nearest q c less e | inr same ↦ at-once q b [] same h ];
      }

  -- one position more
  found-next : (direction : Direction) (low b : ℕ) (found : Found) (here : List ℕ) → is_decided direction found ≡ false → low ≤ b → here ≡ hits b → IsFound direction hits low b found
      → IsFound direction hits low (b + 1) (found_after found b here)
  found-next direction low b found (m ∷ ms) undecided a is rest = found-hit direction low b m ms found undecided a is rest
  found-next direction low b found [] undecided a is rest = found-miss direction low b found (sym is) rest

  -- the result after the range is extended by a position
  pub found-then : (direction : Direction) (low b : ℕ) (found found' : Found) (here : List ℕ) → is_decided direction found ≡ false → low ≤ b → here ≡ hits b → IsFound direction hits low b found
      → found' ≡ found_after found b here → IsFound direction hits low (b + 1) found'
  found-then direction low b found found' here undecided a is rest then' =
      subst (IsFound direction hits low (b + 1)) (sym then') (found-next direction low b found here undecided a is rest)

  -- extending the range doesn't change a decided result
  pub found-decided : (direction : Direction) (low b high : ℕ) (found : Found) → is_decided direction found ≡ true → b ≤ high → IsFound direction hits low b found
      → IsFound direction hits low high found
  found-decided Forward low b high (Hit p) decided more rest =
      record { above = rest.above; below = omega (arith, rest.below); reported = rest.reported; some = rest.some; nearest = λ q c d e. rest.nearest q c (omega (arith, e, rest.below)) e }
  found-decided Forward low b high Nothing decided more rest = cc
  found-decided Backward low b high found decided more rest = cc

  -- the result when the range is complete
  pub found-whole : (direction : Direction) (low b high : ℕ) (found : Found) → b ≡ high → IsFound direction hits low b found → IsFound direction hits low high found
  found-whole direction low b high found same rest = subst (λ k. IsFound direction hits low k found) same rest

  -- extending the range by position 0, the last one that a backward search visits, if no later
  -- position has a hit
  found-start : (n : ℕ) (here : List ℕ) → 0 < n → here ≡ hits 0 → NoneHits hits 1 n → IsFound Backward hits 0 n (found_after Nothing 0 here)
  found-start n (m ∷ ms) some is none =
      record { above = omega arith; below = some; reported = is; some = omega arith; nearest = λ q a b c. none.none q c b }
  found-start n [] some is none =
      record { none = λ q a b. elim (first-or-behind 0 q a) [ inl behind ↦ none.none q behind b | inr same ↦ at-once q 0 [] same (sym is) ] }

  pub found-to-start : (n : ℕ) (found : Found) (here : List ℕ) → is_hit found ≡ false → 0 < n → here ≡ hits 0 → IsFound Backward hits 1 n found → IsFound Backward hits 0 n (found_after found 0 here)
  found-to-start n Nothing here miss some is none = found-start n here some is none
  found-to-start n (Hit h) here miss some is found = cc

  -- extending the range by position 0 if a later position has a hit
  pub found-before-start : (n : ℕ) (found : Found) → is_hit found ≡ true → IsFound Backward hits 1 n found → IsFound Backward hits 0 n found
  found-before-start n Nothing hit none = cc
  found-before-start n (Hit h) hit found =
      record { above = omega arith; below = found.below; reported = found.reported; some = found.some; nearest = λ q a b c. found.nearest q (omega (arith, found.above, c)) b c }

  -- ---- the nearest hit is the result that the definition computes

  -- the result of the forward computation, given the marks that hit at the first position
  found-at-first : (count p : ℕ) (here : List ℕ) (found : Found) → hits p ≡ here → IsFound Forward hits p (p + suc count) found
      → (IsFound Forward hits (p + 1) (p + 1 + count) found → found ≡ first_hit_of hits count (p + 1)) → found ≡ found_after (first_hit_of hits count (p + 1)) p here
  found-at-first count p (m ∷ ms) Nothing is found rest = let none = found.none p (omega arith) (omega arith) in cc
  found-at-first count p (m ∷ ms) (Hit h) is found rest =
      elim (first-or-behind p h.position found.above) [
        | inl behind ↦ let none = found.nearest p (omega arith) (omega arith) (omega arith) in cc
        | inr same ↦ hit-is h p (m ∷ ms) same (found.reported ∙ at-once h.position p (m ∷ ms) same is)
      ]
  found-at-first count p [] Nothing is found rest =
      rest (record { none = λ q a b. found.none q (omega arith) (omega arith) })
  found-at-first count p [] (Hit h) is found rest =
      elim (first-or-behind p h.position found.above) [
        | inl behind ↦
            rest (record { above = behind; below = omega (arith, found.below); reported = found.reported; some = found.some; nearest = λ k a b c. found.nearest k (omega arith) (omega arith) c })
        | inr same ↦ absurd (not-none h.marks.items (hits h.position) found.reported (at-once h.position p [] same is) found.some)
      ]

  pub first_hit_of-found : (count p : ℕ) (found : Found) → IsFound Forward hits p (p + count) found → found ≡ first_hit_of hits count p
  first_hit_of-found zero p Nothing found = refl
  first_hit_of-found zero p (Hit h) found = absurd (omega (arith, found.above, found.below))
  first_hit_of-found (suc count) p found is = found-at-first count p (hits p) found refl is (first_hit_of-found count (p + 1) found)

  -- the result of the backward computation, given the marks that hit at the last position
  found-at-last : (n : ℕ) (here : List ℕ) (found : Found) → hits n ≡ here → IsFound Backward hits 0 (suc n) found → (IsFound Backward hits 0 n found → found ≡ last_hit_below hits n)
      → found ≡ found_after (last_hit_below hits n) n here
  found-at-last n (m ∷ ms) Nothing is found rest = let none = found.none n (omega arith) (omega arith) in cc
  found-at-last n (m ∷ ms) (Hit h) is found rest =
      elim (split h.position n) [
        | inl before ↦ let none = found.nearest n (omega arith) (omega arith) before in cc
        | inr last ↦ let same : h.position ≡ n = omega (arith, found.below) in hit-is h n (m ∷ ms) same (found.reported ∙ at-once h.position n (m ∷ ms) same is)
      ]
  found-at-last n [] Nothing is found rest = rest (record { none = λ q a b. found.none q (omega arith) (omega arith) })
  found-at-last n [] (Hit h) is found rest =
      elim (split h.position n) [
        | inl before ↦
            rest (record { above = omega arith; below = before; reported = found.reported; some = found.some; nearest = λ k a b c. found.nearest k a (omega arith) c })
        | inr last ↦
            let same : h.position ≡ n = omega (arith, found.below) in
            absurd (not-none h.marks.items (hits h.position) found.reported (at-once h.position n [] same is) found.some)
      ]

  pub last_hit_below-found : (n : ℕ) (found : Found) → IsFound Backward hits 0 n found → found ≡ last_hit_below hits n
  last_hit_below-found zero Nothing found = refl
  last_hit_below-found zero (Hit h) found = absurd (omega (arith, found.below))
  last_hit_below-found (suc n) found is = found-at-last n (hits n) found refl is (last_hit_below-found n found)

  -- ---- the computed result is the nearest hit

  first-is : (count p : ℕ) (here : List ℕ) (found : Found) → hits p ≡ here → IsFound Forward hits (p + 1) (p + 1 + count) found → IsFound Forward hits p (p + suc count) (found_after found p here)
  first-is count p (m ∷ ms) found is rest = record { above = omega arith; below = omega arith; reported = sym is; some = omega arith; nearest = λ q a b c. absurd (omega arith) }
  first-is count p [] Nothing is rest =
      record { none = λ q a b. elim (first-or-behind p q a) [ inl behind ↦ rest.none q behind (omega arith) | inr same ↦ at-once q p [] same is ] }
  first-is count p [] (Hit h) is rest =
      record {
        above = omega (arith, rest.above);
        below = omega (arith, rest.below);
        reported = rest.reported;
        some = rest.some;
        nearest = λ k a b c. elim (first-or-behind p k a) [ inl behind ↦ rest.nearest k behind (omega arith) c | inr same ↦ at-once k p [] same is ];
      }

  pub first_hit_of-is : (count p : ℕ) → IsFound Forward hits p (p + count) (first_hit_of hits count p)
  first_hit_of-is zero p = record { none = λ q a b. absurd (omega arith) }
  first_hit_of-is (suc count) p = first-is count p (hits p) (first_hit_of hits count (p + 1)) refl (first_hit_of-is count (p + 1))

  last-is : (n : ℕ) (here : List ℕ) (found : Found) → hits n ≡ here → IsFound Backward hits 0 n found → IsFound Backward hits 0 (suc n) (found_after found n here)
  last-is n (m ∷ ms) found is rest = record { above = omega arith; below = omega arith; reported = sym is; some = omega arith; nearest = λ q a b c. absurd (omega arith) }
  last-is n [] Nothing is rest =
      record { none = λ q a b. elim (split q n) [ inl before ↦ rest.none q a before | inr last ↦ at-once q n [] (omega arith) is ] }
  last-is n [] (Hit h) is rest =
      record {
        above = rest.above;
        below = omega (arith, rest.below);
        reported = rest.reported;
        some = rest.some;
        nearest = λ k a b c. elim (split k n) [ inl before ↦ rest.nearest k a before c | inr last ↦ at-once k n [] (omega arith) is ];
      }

  pub last_hit_below-is : (n : ℕ) → IsFound Backward hits 0 n (last_hit_below hits n)
  last_hit_below-is zero = record { none = λ q a b. absurd (omega arith) }
  last_hit_below-is (suc n) = last-is n (hits n) (last_hit_below hits n) refl (last_hit_below-is n)
