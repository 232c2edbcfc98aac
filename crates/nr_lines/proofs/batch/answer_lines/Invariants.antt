-- After the bytes of earlier reads, the bytes below the loop's index were processed.
use Rattle.std.proofs.Common.{◌≡◌, List, ◌++◌, ℕ, take}
use Rattle.nr_lines.specs.LoopInvariant.{unfinished_line}
use Rattle.nr_lines.specs.Outbox.{held_bytes, is_at_once}
use Rattle.nr_lines.proofs.BytesLemmas.{GoneOver}
use Rattle.nr_lines.proofs.batch.answer_lines.Given as goal

abbrev pub invariant-loop-byte : goal.invariant-loop-byte
invariant-loop-byte g l = record {
  table : l.front.table ≡ l.journal;
  kind : is_at_once l.outbox ≡ is_at_once l.fn.outbox;
  writer : l.w.failed ≡ l.fn.w.failed;
  over : (before : List ℕ) → l.fn.line.items ≡ take 257 (unfinished_line before)
      → GoneOver before (before ++ take l.byte-index l.bytes) l.fn.front l.front l.fn.w l.w
      (held_bytes l.outbox) l.line.items l.fn.whole l.whole;
}
