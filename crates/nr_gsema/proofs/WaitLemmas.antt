-- The counts of waits are correct after each change of a goroutine's status.
use Rattle.std.proofs.Common.{◌≡◌, inl, inr, ℕ, zero, suc, ◌+◌, ◌-◌, ◌^◌, ◌<◌, ◌≤◌, Bool, true, false, ◌||◌, List, [], ◌∷◌, ◌++◌, length, length-set, set, replicate, cond, Option, Some, None, refl, sym, ap, subst, ◌∙◌, arith}
use Rattle.std.proofs.lemmas.List.Sums.{count_by-le-length, sum_by-append}
use Rattle.std.proofs.lemmas.Option.{same_Some, none-some}
use Rattle.std.specs.List.{list_any}
use Rattle.std.specs.Prelude.{slice_get, count_by, nat_lt, if◌then◌else◌, option_map}
use Rattle.nr_rev.specs.declared.sides.Side.{Side}
use Rattle.nr_rev.specs.declared.sides.Side.TheVariants.{Read, Write}
use Rattle.nr_rev.specs.declared.sides.Sides.{Sides}
use Rattle.nr_rev.specs.declared.status.Status.{Status}
use Rattle.nr_rev.specs.Sides.{of_side, twice, with_side}
use Rattle.nr_rev.specs.World.{is_wait_at, is_waited, wait_of}
use Rattle.nr_rev.proofs.ListUpdateLemmas.{slice_get-set_cases}
use Rattle.nr_rev.proofs.SideLemmas.{of_side-with_side_same, of_side-with_side_other}
use Rattle.nr_gsema.specs.declared.node.GoroutineNode.{GoroutineNode}
use Rattle.nr_gsema.specs.declared.node.SemaphoreHead.{SemaphoreHead}
use Rattle.nr_rev.specs.Semaphore.{Semaphore}
use Rattle.nr_gsema.specs.Links.{statuses}
use Rattle.nr_gsema.specs.Table.{GoroutineTable}
use Rattle.nr_gsema.specs.Auxiliary.Table.{on_found, on_semaphore, with_status}
use Rattle.nr_gsema.specs.Waits.{AreCounts, CanJoin, waiting_of, left, moved_between, on_count, on_wait, waiting_at}
use Rattle.nr_gsema.proofs.ListLemmas.{each_alike}
use Rattle.nr_gsema.proofs.PlaceLemmas.{Apart, place_apart, place_cases, place_same}
use Rattle.nr_gsema.proofs.TableLemmas.{AreTable}

-- 1 if an element passes a test, otherwise 0
abbrev counting : Bool → ℕ
counting b = cond b 1 0

count_more : {X : Type 0} (p : X → Bool) (x : X) (xs : List X) → count_by p (x ∷ xs) ≡ counting (p x) + count_by p xs
count_more {X} p x xs = let all = sum_by-append (λ (y : X). counting (p y)) (x ∷ []) xs in omega arith

-- the number of elements that pass a test, after one element is replaced
count_set : {X : Type 0} (p : X → Bool) (xs : List X) (i : ℕ) (old new : X) → slice_get xs i ≡ Some old → count_by p (set xs i new) + counting (p old) ≡ count_by p xs + counting (p new)
count_set p [] i old new at = cc
count_set {X} p (x ∷ xs) zero old new at =
    let same : counting (p x) ≡ counting (p old) = ap (λ (y : X). counting (p y)) (same_Some x old at) in
    let a = count_more p x xs in
    let b = count_more p new xs in
    omega arith
count_set p (x ∷ xs) (suc i) old new at =
    let rest = count_set p xs i old new at in
    let a = count_more p x xs in
    let b = count_more p x (set xs i new) in
    omega arith

count_there : {X : Type 0} (p : X → Bool) (xs : List X) (i : ℕ) (old : X) → slice_get xs i ≡ Some old → counting (p old) ≤ count_by p xs
count_there p [] i old at = cc
count_there {X} p (x ∷ xs) zero old at =
    let same : counting (p x) ≡ counting (p old) = ap (λ (y : X). counting (p y)) (same_Some x old at) in
    let a = count_more p x xs in
    omega arith
count_there p (x ∷ xs) (suc i) old at =
    let rest = count_there p xs i old at in
    let a = count_more p x xs in
    omega arith

-- some element passes a test if and only if the number of elements that pass it isn't 0
any_counted : {X : Type 0} (p : X → Bool) (xs : List X) → list_any p xs ≡ nat_lt 0 (count_by p xs)
any_counted p [] = refl
any_counted p (x ∷ xs) = go (p x) (any_counted p xs) ∙ ap (nat_lt 0) (sym (count_more p x xs))
  where
    go : (b : Bool) → list_any p xs ≡ nat_lt 0 (count_by p xs) → (b || list_any p xs) ≡ nat_lt 0 (counting b + count_by p xs)
    go true rest = above (count_by p xs)
      where
        above : (n : ℕ) → true ≡ nat_lt 0 (1 + n)
        above n = grind arith
    go false rest = rest ∙ ap (nat_lt 0) (let n : count_by p xs ≡ 0 + count_by p xs = omega arith in n)

-- the counts at a descriptor after a change to one wait's count: no other count changes
abbrev Changed : (ℕ → ℕ) → Option (ℕ × Side) → List (Sides ℕ) → ℕ → Side → Sides ℕ → Type 0
Changed change place counts d side both =
    (was : Sides ℕ) × (slice_get counts d ≡ Some was) × (of_side side both ≡ (if is_wait_at d side place then change (of_side side was) else of_side side was))

elsewhere : (change : ℕ → ℕ) (e d : ℕ) (other side : Side) (counts : List (Sides ℕ)) (both was : Sides ℕ) → slice_get counts d ≡ Some was → of_side side both ≡ of_side side was → Apart e other d side
    → Changed change (Some (e, other)) counts d side both
elsewhere change e d other side counts both was at same apart =
    (was, at, same ∙ ap (λ (b : Bool). if b then change (of_side side was) else of_side side was) (sym (place_apart e other d side apart)))

changed_at : (change : ℕ → ℕ) (place : Option (ℕ × Side)) (counts : List (Sides ℕ)) (d : ℕ) (side : Side) (both : Sides ℕ) → slice_get (on_wait change place counts) d ≡ Some both
    → Changed change place counts d side both
changed_at change None counts d side both at = (both, at, refl)
changed_at change (Some (e, other)) counts d side both at = go (slice_get counts e) refl
  where
    in_one : (x : Sides ℕ) → slice_get counts e ≡ Some x → slice_get (set counts e (with_side other (change (of_side other x)) x)) d ≡ Some both → Changed change (Some (e, other)) counts d side both
    in_one x there found =
        let new = with_side other (change (of_side other x)) x in
        elim (slice_get-set_cases counts e x new d there) [
          | inl here ↦
              let is : both ≡ new = same_Some both new (sym found ∙ here.1) in
              let was : slice_get counts d ≡ Some x = ap (slice_get counts) here.0 ∙ there in
              elim (place_cases e other d side) [
                | inl same ↦ (
                  x,
                  was,
                  ap (of_side side) is ∙ ap (λ (s : Side). of_side s new) same.1 ∙ of_side-with_side_same other (change (of_side other x)) x
                      ∙ ap (λ (s : Side). change (of_side s x)) (sym same.1)
                      ∙ ap (λ (b : Bool). if b then change (of_side side x) else of_side side x)
                      (sym (place_same d side)
                      ∙ ap (λ (n : ℕ). is_wait_at d side (Some (n, side))) same.0 ∙ ap (λ (s : Side). is_wait_at d side (Some (e, s))) same.1),
                )
                | inr apart ↦
                    elsewhere change e d other side counts both x was (ap (of_side side) is ∙ of_side-with_side_other side other (change (of_side other x)) x (λ s. apart here.0 s)) apart
              ]
          | inr beyond ↦ elsewhere change e d other side counts both both (sym beyond.1 ∙ found) refl (λ n s. beyond.0 n)
        ]

    go : (o : Option (Sides ℕ)) → slice_get counts e ≡ o → Changed change (Some (e, other)) counts d side both
    go None none =
        let found : slice_get counts d ≡ Some both = ap (λ (q : Option (Sides ℕ)). slice_get (on_count e other change q counts) d) (sym none) ∙ at in
        elsewhere change e d other side counts both both found refl (λ n s. none-some both (sym none ∙ ap (slice_get counts) (sym n) ∙ found))
    go (Some x) there = in_one x there (ap (λ (q : Option (Sides ℕ)). slice_get (on_count e other change q counts) d) (sym there) ∙ at)

-- a correct count is still correct after at most one goroutine left and at most one joined
recount : (was is : Bool) (n left_n new_n count new_count : ℕ) → left_n ≡ (if was then n - 1 else n) → new_n ≡ (if is then left_n + 1 else left_n) → n ≡ count → counting was ≤ count
    → new_count + counting was ≡ count + counting is → new_n ≡ new_count
recount true true n left_n new_n count new_count a b c d e = omega arith
recount true false n left_n new_n count new_count a b c d e = omega arith
recount false true n left_n new_n count new_count a b c d e = omega arith
recount false false n left_n new_n count new_count a b c d e = omega arith

-- the counts are correct after a goroutine's status changed
pub counts_moved : (counts : List (Sides ℕ)) (gs : List Status) (g : ℕ) (before after : Status) → AreCounts counts gs → slice_get gs g ≡ Some before
    → AreCounts (moved_between before after counts) (set gs g after)
counts_moved counts gs g before after counted at d side both found =
    let more = changed_at (λ n. n + 1) (wait_of after) (left (wait_of before) counts) d side both found in
    let fewer = changed_at (λ n. n - 1) (wait_of before) counts d side more.0 more.1 in
    let p : Status → Bool = λ status. is_wait_at d side (wait_of status) in
    recount (p before) (p after) (of_side side fewer.0) (of_side side more.0) (of_side side both) (count_by p gs) (count_by p (set gs g after)) fewer.2 more.2 (counted d side fewer.0 fewer.1)
    (count_there p gs g before at) (count_set p gs g before after at)

-- a count can grow by one, because there are few goroutines
fewer_than : (was : Bool) (n left_n count new_count size : ℕ) → left_n ≡ (if was then n - 1 else n) → n ≡ count → counting was ≤ count → new_count + counting was ≡ count + 1 → new_count ≤ size
    → size < 2 ^ 32 → left_n + 1 < 2 ^ 32
fewer_than true n left_n count new_count size a b c d e f = omega arith
fewer_than false n left_n count new_count size a b c d e f = omega arith

pub room_for : (counts : List (Sides ℕ)) (gs : List Status) (g : ℕ) (before after : Status) → AreCounts counts gs → slice_get gs g ≡ Some before → length gs < 2 ^ 32
    → CanJoin (wait_of after) (left (wait_of before) counts)
room_for counts gs g before after counted at few = go (wait_of after) refl
  where
    go : (place : Option (ℕ × Side)) → wait_of after ≡ place → CanJoin place (left (wait_of before) counts)
    go None e = tt
    go (Some (d, side)) e = λ both found.
        let p : Status → Bool = λ status. is_wait_at d side (wait_of status) in
        let fewer = changed_at (λ n. n - 1) (wait_of before) counts d side both found in
        let counts_it : p after ≡ true = ap (is_wait_at d side) e ∙ place_same d side in
        let moves : count_by p (set gs g after) + counting (p before) ≡ count_by p gs + 1 =
        count_set p gs g before after at ∙ ap (λ (b : Bool). count_by p gs + counting b) counts_it in
        let size : count_by p (set gs g after) ≤ length gs = let a = count_by-le-length p (set gs g after) in let b = length-set gs g after in omega arith in
        fewer_than (p before) (of_side side fewer.0) (of_side side both) (count_by p gs) (count_by p (set gs g after)) (length gs) fewer.2 (counted d side fewer.0 fewer.1)
        (count_there p gs g before at) moves size few

-- the counts are still correct after a goroutine outside every wait is added
waiting_pushed : (d : ℕ) (side : Side) (gs : List Status) (status : Status) → wait_of status ≡ None → waiting_at d side (gs ++ status ∷ []) ≡ waiting_at d side gs
waiting_pushed d side gs status none =
    let a = sum_by-append (λ (x : Status). counting (is_wait_at d side (wait_of x))) gs (status ∷ []) in
    let b : counting (is_wait_at d side (wait_of status)) ≡ 0 = ap (λ (o : Option (ℕ × Side)). counting (is_wait_at d side o)) none in
    omega arith

pub counts_pushed : (counts : List (Sides ℕ)) (gs : List Status) (status : Status) → wait_of status ≡ None → AreCounts counts gs → AreCounts counts (gs ++ status ∷ [])
counts_pushed counts gs status none counted d side both found = counted d side both found ∙ sym (waiting_pushed d side gs status none)

pub counts_popped : (counts : List (Sides ℕ)) (gs : List Status) (status : Status) → wait_of status ≡ None → AreCounts counts (gs ++ status ∷ []) → AreCounts counts gs
counts_popped counts gs status none counted d side both found = counted d side both found ∙ waiting_pushed d side gs status none

-- without goroutines, all counts are 0
pub none_counted : (n : ℕ) → AreCounts (replicate n (twice 0)) []
none_counted n d side both found = ap (of_side side) (each_alike n (twice 0) d both found) ∙ zero_at side
  where
    zero_at : (s : Side) → of_side {A = ℕ} s (twice 0) ≡ 0
    zero_at Read = refl
    zero_at Write = refl

-- the count says whether a goroutine is inside the wait
pub waited_by_count : (counts : List (Sides ℕ)) (gs : List Status) (d : ℕ) (side : Side) (count : ℕ) → AreCounts counts gs → waiting_of d side counts ≡ Some count → nat_lt 0 count ≡ is_waited d side gs
waited_by_count counts gs d side count counted is = go (slice_get counts d) refl is
  where
    go : (o : Option (Sides ℕ)) → slice_get counts d ≡ o → option_map (of_side side) o ≡ Some count → nat_lt 0 count ≡ is_waited d side gs
    go None none e = absurd (none-some count e)
    go (Some both) found e =
        ap (nat_lt 0) (sym (same_Some (of_side side both) count e) ∙ counted d side both found) ∙ sym (any_counted (λ (status : Status). is_wait_at d side (wait_of status)) gs)

-- a change to a semaphore leaves the goroutines' statuses unchanged
on_semaphore_leaves : (s : ℕ) (side : Side) (change : Semaphore → Semaphore) (t : GoroutineTable) → (on_semaphore s side change t).goroutines ≡ t.goroutines
on_semaphore_leaves s side change t = go (slice_get t.semaphores s)
  where
    go : (o : Option (Sides Semaphore)) → (on_found s side change o t).goroutines ≡ t.goroutines
    go None = refl
    go (Some both) = refl

-- the statuses of the nodes after a change to a queue
pub statuses_requeued : (nodes new : List GoroutineNode) (semaphores zs : List (Sides SemaphoreHead)) (limit g s : ℕ) (after : Status) (side : Side) (change : Semaphore → Semaphore) (t : GoroutineTable)
    → AreTable nodes semaphores limit t → AreTable new zs limit (with_status g after (on_semaphore s side change t)) → statuses new ≡ set (statuses nodes) g after
statuses_requeued nodes new semaphores zs limit g s after side change t is becomes =
    ap (λ (u : GoroutineTable). u.goroutines) becomes.view ∙ ap (λ (gs : List Status). set gs g after) (on_semaphore_leaves s side change t ∙ ap (λ (u : GoroutineTable). u.goroutines) (sym is.view))

-- the counts are correct for the nodes after a change of status
pub counts_kept : (counts now : List (Sides ℕ)) (nodes new : List GoroutineNode) (g : ℕ) (before after : Status) → AreCounts counts (statuses nodes) → slice_get (statuses nodes) g ≡ Some before
    → statuses new ≡ set (statuses nodes) g after → now ≡ moved_between before after counts → AreCounts now (statuses new)
counts_kept counts now nodes new g before after counted at becomes now_is =
    subst (λ (gs : List Status). AreCounts now gs) (sym becomes) (subst (λ (ns : List (Sides ℕ)). AreCounts ns (set (statuses nodes) g after)) (sym now_is) (counts_moved counts (statuses nodes) g before after counted at))
