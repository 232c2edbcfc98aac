-- Going from one segment to the next.
use Rattle.std.proofs.Common.{◌≡◌, ◌⊎◌, inl, inr, ℕ, ◌+◌, ◌-◌, ◌*◌, ◌<◌, ◌≤◌, true, false, List, [], subst, arith}
use Rattle.std.proofs.Math.Nat.{mul-le-mul_right}
use Rattle.nr_search.specs.Auxiliary.Nearest.{IsNearest, NoneHits, IsFound}
use Rattle.nr_search.specs.Segments.{from_of, to_of}
use Rattle.nr_search.specs.Known.{IsFoundIn}
use Rattle.nr_search.specs.Search.{is_hit, nth_on_way}
use Rattle.nr_search.specs.declared.direction.Direction.{Direction}
use Rattle.nr_search.specs.declared.direction.Direction.TheVariants.{Forward, Backward}
use Rattle.nr_search.specs.declared.found.Found.{Found}
use Rattle.nr_search.specs.declared.found.Found.TheVariants.{Hit, Nothing}
use Rattle.nr_search.specs.declared.segments.Span.{Span}

-- each segment contains a position of the search
pub some-between : (after last every first count s : ℕ) → after < last → first * every ≤ after → after < (first + 1) * every → (first + count) * every < last + every → first ≤ s → s < first + count
    → from_of after every s < to_of last every s
some-between after last every first count s some begins enters needed low high =
    let below : (first + 1) * every ≤ (s + 1) * every = mul-le-mul_right every (omega arith) in
    let above : (s + 1) * every ≤ (first + count) * every = mul-le-mul_right every (omega arith) in
    omega (arith, some, begins, enters, needed, below, above)

split : (a b : ℕ) → (a < b) ⊎ (b ≤ a)
split a b = grind arith

-- The segment number at which the first k segments in search order end. In a forward search, their
-- numbers are all below it. In a backward search, none of their numbers is below it.
abbrev pub border : Direction → ℕ → ℕ → ℕ → ℕ
border Forward first count k = first + k
border Backward first count k = first + (count - k)

-- True if no mark hits at the positions of the search that come before a copy in search order. In a
-- forward search, these are the positions up to `copy`; in a backward search, those above it.
abbrev pub Passed : Direction → (ℕ → List ℕ) → ℕ → ℕ → ℕ → Type 0
Passed Forward hits after last copy = (q : ℕ) → after < q → q ≤ last → q ≤ copy → hits q ≡ []
Passed Backward hits after last copy = (q : ℕ) → after < q → q ≤ last → copy < q → hits q ≡ []

-- true if no mark hits in the first k segments in search order
abbrev pub ArePassed : Span → (ℕ → List ℕ) → ℕ → Type 0
ArePassed span hits k = Passed span.direction hits span.after span.last (border span.direction span.first span.count k * span.every)

pub nth-within : (direction : Direction) (first count k : ℕ) → k < count → (first ≤ nth_on_way direction first count k) × (nth_on_way direction first count k < first + count)
nth-within Forward first count k below = (omega arith, omega arith)
nth-within Backward first count k below = (omega arith, omega arith)

module _ (hits : ℕ → List ℕ) (after last every : ℕ) where
  -- passing a segment without a hit, forwards and backwards
  past-forward : (s : ℕ) → Passed Forward hits after last (s * every) → NoneHits hits (from_of after every s + 1) (to_of last every s + 1) → Passed Forward hits after last ((s + 1) * every)
  past-forward s passed none q a b c =
      elim (split (s * every) q) [ inl behind ↦ none.none q (omega arith) (omega arith) | inr before ↦ passed q a b before ]

  past-backward : (s : ℕ) → Passed Backward hits after last ((s + 1) * every) → NoneHits hits (from_of after every s + 1) (to_of last every s + 1) → Passed Backward hits after last (s * every)
  past-backward s passed none q a b c =
      elim (split ((s + 1) * every) q) [ inl behind ↦ passed q a b behind | inr before ↦ none.none q (omega arith) (omega arith) ]

  -- the nearest hit of the first segment that has a hit is the nearest of all
  hit-forward : (s p : ℕ) (ms : List ℕ) → Passed Forward hits after last (s * every) → IsNearest Forward hits (from_of after every s + 1) (to_of last every s + 1) p ms
      → IsNearest Forward hits (after + 1) (last + 1) p ms
  hit-forward s p ms passed found =
      record {
        above = omega (arith, found.above);
        below = omega (arith, found.below);
        reported = found.reported;
        some = found.some;
        nearest = λ q a b c. elim (split (s * every) q) [
          | inl behind ↦ found.nearest q (omega arith) (omega (arith, found.below, c)) c
          | inr before ↦ passed q (omega arith) (omega arith) before
        ];
      }

  hit-backward : (s p : ℕ) (ms : List ℕ) → Passed Backward hits after last ((s + 1) * every) → IsNearest Backward hits (from_of after every s + 1) (to_of last every s + 1) p ms
      → IsNearest Backward hits (after + 1) (last + 1) p ms
  hit-backward s p ms passed found =
      record {
        above = omega (arith, found.above);
        below = omega (arith, found.below);
        reported = found.reported;
        some = found.some;
        nearest = λ q a b c. elim (split ((s + 1) * every) q) [
          | inl behind ↦ passed q (omega arith) (omega arith) behind
          | inr before ↦ found.nearest q (omega (arith, found.above, c)) (omega arith) c
        ];
      }

module _ (hits : ℕ → List ℕ) where
  next-passed : (direction : Direction) (after last every first count k : ℕ) → k < count → Passed direction hits after last (border direction first count k * every)
      → NoneHits hits (from_of after every (nth_on_way direction first count k) + 1) (to_of last every (nth_on_way direction first count k) + 1)
      → Passed direction hits after last (border direction first count (k + 1) * every)
  next-passed Forward after last every first count k below passed none =
      let next : first + k + 1 ≡ first + (k + 1) = omega arith in
      subst (λ b. Passed Forward hits after last (b * every)) next (past-forward hits after last every (first + k) passed none)
  next-passed Backward after last every first count k below passed none =
      let now : first + (count - k) ≡ first + (count - 1 - k) + 1 = omega arith in
      let next : first + (count - 1 - k) ≡ first + (count - (k + 1)) = omega arith in
      subst (λ b. Passed Backward hits after last (b * every)) next
      (past-backward hits after last every (first + (count - 1 - k)) (subst (λ b. Passed Backward hits after last (b * every)) now passed) none)

  next-hit : (direction : Direction) (after last every first count k p : ℕ) (ms : List ℕ) → k < count → Passed direction hits after last (border direction first count k * every)
      → IsNearest direction hits (from_of after every (nth_on_way direction first count k) + 1) (to_of last every (nth_on_way direction first count k) + 1) p ms
      → IsNearest direction hits (after + 1) (last + 1) p ms
  next-hit Forward after last every first count k p ms below passed found = hit-forward hits after last every (first + k) p ms passed found
  next-hit Backward after last every first count k p ms below passed found =
      let now : first + (count - k) ≡ first + (count - 1 - k) + 1 = omega arith in
      hit-backward hits after last every (first + (count - 1 - k)) p ms (subst (λ b. Passed Backward hits after last (b * every)) now passed) found

  none-first : (direction : Direction) (after last every first count : ℕ) → first * every ≤ after → last ≤ (first + count) * every
      → Passed direction hits after last (border direction first count 0 * every)
  none-first Forward after last every first count begins ends = λ q a b c.
      let same : first + 0 ≡ first = omega arith in
      let low : q ≤ first * every = subst (λ s. q ≤ s * every) same c in
      absurd (omega arith)
  none-first Backward after last every first count begins ends = λ q a b c.
      let same : first + (count - 0) ≡ first + count = omega arith in
      let high : (first + count) * every < q = subst (λ s. s * every < q) same c in
      absurd (omega arith)

  none-last : (direction : Direction) (after last every first count : ℕ) → first * every ≤ after → last ≤ (first + count) * every
      → Passed direction hits after last (border direction first count count * every) → NoneHits hits (after + 1) (last + 1)
  none-last Forward after last every first count begins ends passed =
      record { none = λ q a b. passed q (omega arith) (omega arith) (omega arith) }
  none-last Backward after last every first count begins ends passed =
      let same : first ≡ first + (count - count) = omega arith in
      record { none = λ q a b. passed q (omega arith) (omega arith) (subst (λ s. s * every < q) same (omega arith)) }

  -- before the first segment, no position has been passed
  pub passed-first : (span : Span) → ArePassed span hits 0
  passed-first span = none-first span.direction span.after span.last span.every span.first span.count span.begins span.ends

  -- passing the next segment, which has no hit
  pub passed-next : (span : Span) (k : ℕ) (found : Found) → k < span.count → is_hit found ≡ false → ArePassed span hits k
      → IsFoundIn span hits (nth_on_way span.direction span.first span.count k) found → ArePassed span hits (k + 1)
  passed-next span k Nothing below miss passed found = next-passed span.direction span.after span.last span.every span.first span.count k below passed found
  passed-next span k (Hit p) below miss passed found = cc

  -- reaching a segment that has a hit
  pub passed-hit : (span : Span) (k : ℕ) (found : Found) → k < span.count → is_hit found ≡ true → ArePassed span hits k → IsFoundIn span hits (nth_on_way span.direction span.first span.count k) found
      → IsFound span.direction hits (span.after + 1) (span.last + 1) found
  passed-hit span k Nothing below hit passed found = cc
  passed-hit span k (Hit h) below hit passed found = next-hit span.direction span.after span.last span.every span.first span.count k h.position h.marks.items below passed found

  -- if all segments are passed, the search finds nothing
  pub passed-all : (span : Span) (k : ℕ) → k ≡ span.count → ArePassed span hits k → IsFound span.direction hits (span.after + 1) (span.last + 1) Nothing
  passed-all span k all passed =
      none-last span.direction span.after span.last span.every span.first span.count span.begins span.ends (subst (ArePassed span hits) all passed)
