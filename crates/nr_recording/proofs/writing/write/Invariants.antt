use Rattle.std.proofs.Common.{◌≡◌, ◌+◌, take, All}
use Rattle.std.specs.List.{concat}
use Rattle.nr_text.specs.Streams.{Sends}
use Rattle.nr_recording.specs.Writing.{line_texts, HasTypedArguments}
use Rattle.nr_recording.proofs.writing.write.Given as goal

abbrev pub invariant-loop-n : goal.invariant-loop-n
invariant-loop-n g l = record {
  so_far : Sends l.fn.out l.out (concat (take (l.n + 1) (line_texts l.fn.recording)));
  calm : l.out.failed ≡ l.fn.out.failed;
  typed : All HasTypedArguments (take l.n l.fn.recording.steps);
}
