-- The accounts of all descriptors, which are updated with each step of a recording.
use Rattle.std.specs.Prelude.{◌≡◌, ◌≢◌, ℕ, ◌<◌, List, length, slice_get, Option, Some, option_and_then}
use Rattle.nr_rev.specs.Run.{Recording}
use Rattle.nr_suspects.specs.declared.account.Account.{Account}
use Rattle.nr_rev.specs.declared.sides.Side.{Side}
use Rattle.nr_suspects.specs.declared.notice.Notice.{Notice}
use Rattle.nr_suspects.specs.declared.notice.Notice.TheVariants.{Tried}
use Rattle.nr_suspects.specs.Debts.{account, account_after}

-- the account of descriptor d, if it has a place
abbrev pub kept_of : List (Option Account) → ℕ → Option Account
kept_of accounts d = option_and_then (λ a. a) (slice_get accounts d)

-- each place was updated with the notice of this step
pub record IsNoted (n : ℕ) (notice : Notice) (old new : List (Option Account)) : Type 0 where
  pub places : length new ≡ length old
  pub each : (d : ℕ) (a : Option Account) → slice_get old d ≡ Some a
      → slice_get new d ≡ Some (account_after n d notice a)

-- the place of descriptor d, if it has one, was updated
pub record IsNotedAt (d n : ℕ) (notice : Notice) (old new : List (Option Account)) : Type 0 where
  pub places : length new ≡ length old
  pub here : (a : Option Account) → slice_get old d ≡ Some a
      → slice_get new d ≡ Some (account_after n d notice a)
  pub elsewhere : (e : ℕ) → e ≢ d → slice_get new e ≡ slice_get old e

-- each place was updated with the notice that a read or a write of socket s was answered `Again`
pub record IsTryNoted (s : ℕ) (side : Side) (old new : List (Option Account)) : Type 0 where
  pub places : length new ≡ length old
  pub each : (d : ℕ) (a : Option Account) → slice_get old d ≡ Some a
      → slice_get new d ≡ Some (account_after 0 0 (Tried s side) a)

-- each place holds the account of its descriptor at position n of a recording
pub record AreAccounts (r : Recording) (n : ℕ) (accounts : List (Option Account)) : Type 0 where
  pub places : length accounts ≡ r.limits.descriptors
  pub each : (d : ℕ) → d < r.limits.descriptors → slice_get accounts d ≡ Some (account r d n)
