-- All lines from the source are answered, except for the kept line. No bytes are held, and no read
-- and no write has failed. No read has found the end, and the loop has made at least one read in
-- each iteration.
use Rattle.std.proofs.Common.{◌≡◌, ◌≤◌, ℕ, List, [], length, false}
use Rattle.nr_lines.proofs.EngineLemmas.{StaysOpen}
use Rattle.nr_lines.specs.LoopInvariant.{LoopInvariant}
use Rattle.nr_lines.specs.Outbox.{held_bytes, is_at_once}
use Rattle.nr_lines.proofs.engine.answer_by.Given as goal

abbrev pub invariant-loop : goal.invariant-loop
invariant-loop g l = record {
  table : l.front.table ≡ l.journal;
  reader : l.r.failed ≡ false;
  writer : l.w.failed ≡ false;
  empty : held_bytes l.outbox ≡ [];
  kind : is_at_once l.outbox ≡ is_at_once l.fn.outbox;
  unended : StaysOpen l.fn.r l.r;
  reads : l.counter ≤ length l.r.moments;
  read : List ℕ;
  invariant_holds : LoopInvariant l.fn.r l.r l.fn.w l.w l.fn.front l.front
      read read l.line.items l.whole;
}
