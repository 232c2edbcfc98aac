use Rattle.std.proofs.Common.{◌≡◌, length, take, vec_len, vec_capacity}
use Rattle.nr_rev.proofs.kept.KeptBytes.copy_of.Given as goal

abbrev pub invariant-loop-byte : goal.invariant-loop-byte
invariant-loop-byte l =
    record {
      copied : l.items.items ≡ take l.byte-index l.bytes;
      counted : vec_len l.items ≡ l.byte-index;
      room : vec_capacity l.items ≡ length l.bytes;
    }
