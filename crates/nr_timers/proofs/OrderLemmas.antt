-- The order of entries is total.
use Rattle.std.proofs.Common.{◌≡◌, ℕ, zero, suc, ◌<◌, ◌≤◌, List, length, Bool, true, false, arith}
use Rattle.std.proofs.lemmas.Bool.Decides.{nat_tests}
use Rattle.std.proofs.lemmas.Int.{ints}
use Rattle.nr_rev.specs.declared.timer.Entry.{Entry}
use Rattle.nr_timers.specs.Order.{is_less, at}
use Rattle.nr_timers.specs.PathToRoot.{parent, Ordered}

pub less_once : (a b : Entry) → is_less a b ≡ true → is_less b a ≡ false
unfolding is_less
less_once a b h = grind (arith, ints, nat_tests)

pub not_less-trans : (a b c : Entry) → is_less b a ≡ false → is_less c b ≡ false → is_less c a ≡ false
unfolding is_less
not_less-trans a b c p q = grind (arith, ints, nat_tests)

pub less_self : (a : Entry) → is_less a a ≡ false
unfolding is_less
less_self a = grind (arith, ints, nat_tests)

-- comparing two entries has the same result as comparing entries that are equal to them
pub same_less : (a b c d : Entry) (v : Bool) → a ≡ c → b ≡ d → is_less c d ≡ v → is_less a b ≡ v
same_less a b c d v p q h = rw (p, q) h

-- in an ordered heap no entry is less than the one at place 0
pub least_first : (xs : List Entry) → Ordered xs → (n i : ℕ) → i ≤ n → i < length xs → is_less (at xs i) (at xs 0) ≡ false
least_first xs h n zero le lt = less_self (at xs 0)
least_first xs h zero (suc i) le lt = absurd (omega arith)
least_first xs h (suc n) (suc i) le lt =
    not_less-trans (at xs 0) (at xs (parent (suc i))) (at xs (suc i)) (least_first xs h n (parent (suc i)) (omega arith) (omega arith)) (h (suc i) (omega arith) lt)
