-- The line that `serve` prints matches the end of the session.
use Rattle.std.proofs.Common.{◌≡◌, Bool, List, ℕ, inl, inr, Option, Some, None, Result, Ok, Err}
use Rattle.std.specs.Prelude.{IfOk, OnErr}
use Rattle.nr_rev.specs.Run.{Recording}
use Rattle.nr_text.specs.Streams.{Outgoing}
use Rattle.nr_serving.specs.Conversations.{FrontsLog}
use Rattle.nr_serving.specs.Auxiliary.Session.{words_of}
use Rattle.nr_serving.specs.declared.session.Ended.{Ended}
use Rattle.nr_rev.specs.declared.memory.Memory.{Memory}
use Rattle.nr_programs.specs.Serving.{Shares, SharesAll, PrintsHistory}
use Rattle.nr_programs.specs.Auxiliary.Serving.{PrintsSession}
use Rattle.nr_programs.specs.declared.sharing.Sharing.{Sharing}
use Rattle.nr_programs.specs.declared.run.ExitStatus.{ExitStatus}

shares_history : (r : Recording) (sharing : Sharing) (before after : FrontsLog) (history : Option (List ℕ)) (failed : Bool) (old new : Outgoing) (status : ExitStatus)
    → SharesAll r sharing before after history failed → PrintsHistory history failed old new status → Shares r sharing before after old new status
shares_history r sharing before after (Some history) failed old new status shared prints_it = inl (history, failed, shared, prints_it)
shares_history r sharing before after None failed old new status shared prints_it = inr (inl (failed, shared, prints_it))

pub shares : (r : Recording) (sharing : Sharing) (before after : FrontsLog) (shared : Result Ended Memory) (old new : Outgoing) (status : ExitStatus)
    → IfOk shared (λ ended. SharesAll r sharing before after (words_of ended.history) ended.failed) → OnErr shared (after ≡ before) → PrintsSession shared old new status
    → Shares r sharing before after old new status
shares r sharing before after (Ok ended) old new status is untouched prints_it = shares_history r sharing before after (words_of ended.history) ended.failed old new status is prints_it
shares r sharing before after (Err fault) old new status is untouched prints_it = inr (inr (untouched, prints_it))
