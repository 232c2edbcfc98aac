-- How changes to a status or to a descriptor's row concern the goroutines that sleep.
use Rattle.std.proofs.Common.{◌≡◌, ℕ, zero, suc, Bool, true, false, List, [], ◌∷◌, Some, None, refl, sym, ◌∙◌, set, get_or}
use Rattle.std.proofs.lemmas.Option.{none-some}
use Rattle.std.specs.Prelude.{if◌then◌else◌, ◌==◌}
use Rattle.nr_rev.specs.declared.sides.Side.{Side}
use Rattle.nr_rev.specs.declared.descriptor.WaitWord.{WaitWord}
use Rattle.nr_rev.specs.declared.descriptor.WaitWord.TheVariants.{Nil, Ready, Held}
use Rattle.nr_rev.specs.declared.status.Status.{Status}
use Rattle.nr_rev.specs.declared.status.Status.TheVariants.{Idle, Parked}
use Rattle.nr_rev.specs.Descriptor.{unblock}
use Rattle.nr_rev.specs.Step.{after_wake}
use Rattle.nr_rev.specs.WellFormed.{HasView}
use Rattle.nr_protocol.specs.Sleep.{sleeping_of, is_waited_on}

-- a status outside of sleep makes no new sleeper
pub set_fewer : (gs : List Status) (g k : ℕ) (new : Status) (place : ℕ × Side) → sleeping_of new ≡ None → HasView sleeping_of (set gs g new) k place → HasView sleeping_of gs k place
set_fewer [] g k new place none shows = shows
set_fewer (s ∷ gs) zero zero new place none shows = absurd (none-some _ (sym none ∙ shows))
set_fewer (s ∷ gs) zero (suc k) new place none shows = shows
set_fewer (s ∷ gs) (suc g) zero new place none shows = shows
set_fewer (s ∷ gs) (suc g) (suc k) new place none shows = set_fewer gs g k new place none shows

-- a woken goroutine doesn't sleep any more
wake_one : (s : Status) (place : ℕ × Side) → sleeping_of (after_wake s) ≡ Some place → sleeping_of s ≡ Some place
wake_one (Parked d side) place e = cc
wake_one s place e = e

pub wake_fewer : (gs : List Status) (g k : ℕ) (place : ℕ × Side) → HasView sleeping_of (set gs g (after_wake (get_or gs g Idle))) k place → HasView sleeping_of gs k place
wake_fewer [] g k place shows = shows
wake_fewer (s ∷ gs) zero zero place shows = wake_one s place shows
wake_fewer (s ∷ gs) zero (suc k) place shows = shows
wake_fewer (s ∷ gs) (suc g) zero place shows = shows
wake_fewer (s ∷ gs) (suc g) (suc k) place shows = wake_fewer gs g k place shows

pub unblock_wakes : (word : WaitWord) (ioready : Bool) → is_waited_on (unblock word ioready).0 ≡ false
unblock_wakes Ready ioready = refl
unblock_wakes Nil true = refl
unblock_wakes Nil false = refl
unblock_wakes WaitWord.Wait true = refl
unblock_wakes WaitWord.Wait false = refl
unblock_wakes (Held g) true = refl
unblock_wakes (Held g) false = refl

abbrev pub code_of : Bool → Bool → Bool → ℕ
code_of closing expired error = if closing then 1 else (if expired then 2 else (if error then 3 else 0))

pub zero_means : (closing expired error : Bool) → (code_of closing expired error == 0) ≡ true → (closing ≡ false) × (expired ≡ false) × (error ≡ false)
zero_means true expired error e = cc
zero_means false true error e = cc
zero_means false false true e = cc
zero_means false false false e = (refl, refl, refl)
