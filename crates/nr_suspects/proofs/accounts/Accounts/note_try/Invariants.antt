-- The places below the loop's index are updated, and the other places are unchanged.
use Rattle.std.proofs.Common.{◌≡◌, ◌<◌, ◌≤◌, ℕ, Option, Some, length}
use Rattle.std.specs.Prelude.{slice_get}
use Rattle.nr_suspects.specs.declared.account.Account.{Account}
use Rattle.nr_suspects.specs.declared.notice.Notice.TheVariants.{Tried}
use Rattle.nr_suspects.specs.Debts.{account_after}
use Rattle.nr_suspects.proofs.accounts.Accounts.note_try.Given as goal

abbrev pub invariant-loop-account : goal.invariant-loop-account
invariant-loop-account l =
    record {
      places : length l.account-items ≡ length l.fn.self;
      done : (d : ℕ) (a : Option Account) → d < l.account-index → slice_get l.fn.self d ≡ Some a → slice_get l.account-items d ≡ Some (account_after 0 0 (Tried l.socket l.side) a);
      left : (d : ℕ) → l.account-index ≤ d → slice_get l.account-items d ≡ slice_get l.fn.self d;
    }
