-- the first `sent` bytes are written, and none of them is counted yet
use Rattle.std.proofs.Common.{◌≡◌, ◌≤◌, ◌-◌, length, take}
use Rattle.nr_text.specs.Streams.{Sends}
use Rattle.nr_text.proofs.buffered.put_out.Given as goal

abbrev pub invariant-loop-sent : goal.invariant-loop-sent
invariant-loop-sent g l = record {
  within : l.sent ≤ length l.bytes;
  so_far : Sends l.initial.writer.taken l.writer.taken (take l.sent l.bytes);
  calm : l.writer.taken.failed ≡ l.initial.writer.taken.failed;
  uncounted : l.out ≡ l.initial.out;
}

abbrev pub decreases-loop-sent : goal.decreases-loop-sent
decreases-loop-sent g l = length l.bytes - l.sent
