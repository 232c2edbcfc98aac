-- A session whose replies are written together.
use Rattle.std.proofs.Common.{◌≡◌, ◌∙◌, Ok, Err, Result, refl, ap, sym, subst}
use Rattle.atomic_table.specs.Seated.{TableId}
use Rattle.nr_rev.specs.Run.{Recording}
use Rattle.nr_text.specs.Streams.{Incoming, Outgoing}
use Rattle.nr_journal.specs.Rule.{journal_room}
use Rattle.nr_journal.specs.Auxiliary.Rule.{entering_alone}
use Rattle.nr_front.specs.FrontState.{FrontState}
use Rattle.nr_front.specs.Auxiliary.FrontState.{opened_front}
use Rattle.nr_front.specs.Auxiliary.Replica.{at_start}
use Rattle.nr_lines.specs.Auxiliary.Engine.{AnswersLines, AnswersTogether, without_counts}
use Rattle.nr_lines.specs.declared.ending.End.{End}
use Rattle.nr_lines.specs.declared.ending.LineEnd.{LineEnd}
use Rattle.nr_lines.specs.declared.ending.LineEnd.TheVariants.{Read, Write}
use Rattle.nr_lines.specs.declared.ending.StreamFailure.{StreamFailure}
use Rattle.nr_programs.specs.Auxiliary.Run.{Walks, status_after}
use Rattle.nr_programs.specs.declared.opening.TheConstants.{COPY_EVERY}
use Rattle.nr_programs.specs.declared.run.ExitStatus.{ExitStatus}
use Rattle.nr_programs.specs.declared.run.ExitStatus.TheVariants.{Done, StreamFailed}
use Rattle.nr_programs.specs.declared.run.TheConstants.{DELTAS_KEPT, JOURNAL_ROOM}

-- the exit status of a session, given the result of serving its lines
abbrev pub status_behind : Result End StreamFailure → ExitStatus
status_behind (Ok ending) = Done
status_behind (Err failure) = StreamFailed

same_status : (ending : Result End LineEnd) → status_behind (without_counts ending) ≡ status_after ending
same_status (Ok ending) = refl
same_status (Err Read) = refl
same_status (Err (Write whole part)) = refl

pub walks : (from left : Incoming) (old new : Outgoing) (r : Recording) (status : ExitStatus) (table : TableId) (d d' : FrontState) (result : Result End StreamFailure) → journal_room table ≡ JOURNAL_ROOM
    → d ≡ opened_front (record { table = table; pass_state = entering_alone }) r 1 (at_start COPY_EVERY DELTAS_KEPT) → AnswersTogether from left old new d d' result → status ≡ status_behind result
    → Walks from left old new r status
walks from left old new r status table d d' result room first together ends = record {
  table = table;
  room_is = room;
  last = together.last;
  ending = together.ending;
  serves = subst (λ (f : FrontState). AnswersLines from left old new f together.last together.ending) first together.answers;
  ends = ends ∙ ap status_behind together.reported ∙ same_status together.ending;
  read_failed = together.reader;
  write_failed = together.writer;
}
