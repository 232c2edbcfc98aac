-- Lemmas about swaps along paths to the root.
use Rattle.std.proofs.Common.{◌≡◌, ⊎_elim, ℕ, zero, suc, ◌<◌, ◌≤◌, List, length, refl, sym, ap, ◌∙◌, subst, arith}
use Rattle.std.specs.List.{swap}
use Rattle.std.proofs.lemmas.List.{ext_get_or}
use Rattle.std.proofs.lemmas.List.Edits.{Swapped, swapped_from_swap, length-swap}
use Rattle.std.proofs.lemmas.Bool.{cases_eq}
use Rattle.nr_rev.specs.declared.timer.Entry.{Entry}
use Rattle.nr_timers.specs.Order.{at, blank}
use Rattle.nr_timers.specs.PathToRoot.{parent, Leads, OnPath}
use Rattle.nr_timers.specs.Auxiliary.PathToRoot.{moved_up, moved_down}
use Rattle.nr_timers.specs.PathLaws.{Leads-lt}

-- of two places on a path, the one with the lower number is on the path of the other
pub Leads-between : (n m p q k : ℕ) → Leads n p q → Leads m p k → k ≤ q → OnPath q k
Leads-between zero m p q k a b le = (m, subst (λ x. Leads m x k) (sym a) b)
Leads-between (suc n) zero p q k a b le = let below = Leads-lt n p q a in absurd (omega arith)
Leads-between (suc n) (suc m) p q k a b le = Leads-between n m (parent p) q k a.1 b.1 le

-- the entries after a swap
pub at-swap : (places : List Entry) (a b : ℕ) → a < length places → b < length places → Swapped (at places) (at (swap places a b)) a b
at-swap places a b p q = swapped_from_swap places (swap places a b) a b blank p q refl

-- a swap made twice changes nothing
pub swap-swap : (places : List Entry) (a b : ℕ) → a < length places → b < length places → swap (swap places a b) a b ≡ places
swap-swap places a b p q =
    let once = at-swap places a b p q in
    let size = length-swap places a b in
    let twice = at-swap (swap places a b) a b (omega arith) (omega arith) in
    ext_get_or blank (swap (swap places a b) a b) places (length-swap (swap places a b) a b ∙ size)
    (
    λ i within. ⊎_elim (λ e. rw e (twice.0 ∙ once.1))
    (λ not_a. ⊎_elim (λ e. rw e (twice.1 ∙ once.0)) (λ not_b. twice.2 i not_a not_b ∙ once.2 i not_a not_b) (cases_eq i b))
    (cases_eq i a)
    )

pub length-moved_up : (n : ℕ) (places : List Entry) (p : ℕ) → length (moved_up n places p) ≡ length places
length-moved_up zero places p = refl
length-moved_up (suc n) places p = length-moved_up n (swap places p (parent p)) (parent p) ∙ length-swap places p (parent p)

pub length-moved_down : (n : ℕ) (places : List Entry) (p : ℕ) → length (moved_down n places p) ≡ length places
length-moved_down zero places p = refl
length-moved_down (suc n) places p = length-swap (moved_down n places (parent p)) p (parent p) ∙ length-moved_down n places (parent p)

-- a move up followed by a move down changes nothing
pub moved_down-moved_up : (n : ℕ) (places : List Entry) (p : ℕ) → p < length places → moved_down n (moved_up n places p) p ≡ places
moved_down-moved_up zero places p h = refl
moved_down-moved_up (suc n) places p h =
    let size = length-swap places p (parent p) in
    ap (λ xs. swap xs p (parent p)) (moved_down-moved_up n (swap places p (parent p)) (parent p) (omega arith)) ∙ swap-swap places p (parent p) h (omega arith)

-- a move down followed by a move up changes nothing
pub moved_up-moved_down : (n : ℕ) (places : List Entry) (p : ℕ) → p < length places → moved_up n (moved_down n places p) p ≡ places
moved_up-moved_down zero places p h = refl
moved_up-moved_down (suc n) places p h =
    let size = length-moved_down n places (parent p) in
    ap (λ xs. moved_up n xs (parent p)) (swap-swap (moved_down n places (parent p)) p (parent p) (omega arith) (omega arith))
    ∙ moved_up-moved_down n places (parent p) (omega arith)

-- a sift down makes its topmost swap first
pub moved_down-more : (n : ℕ) (places : List Entry) (q c : ℕ) → Leads n q c → moved_down (suc n) places q ≡ moved_down n (swap places c (parent c)) q
moved_down-more zero places q c h = rw h refl
moved_down-more (suc n) places q c h = ap (λ xs. swap xs q (parent q)) (moved_down-more n places (parent q) c h.1)
