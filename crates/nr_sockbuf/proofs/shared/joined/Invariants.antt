use Rattle.std.proofs.Common.{◌≡◌, ◌+◌, ◌++◌, length, take, vec_len, vec_capacity}
use Rattle.nr_sockbuf.proofs.shared.joined.Given as goal

abbrev pub invariant-loop-first : goal.invariant-loop-first
invariant-loop-first l =
    record {
      copied : l.bytes.items ≡ take l.first-index l.front;
      counted : vec_len l.bytes ≡ l.first-index;
      room : vec_capacity l.bytes ≡ l.len;
    }

abbrev pub invariant-loop-second : goal.invariant-loop-second
invariant-loop-second l =
    record {
      copied : l.bytes.items ≡ l.front ++ take l.second-index l.back;
      counted : vec_len l.bytes ≡ length l.front + l.second-index;
      room : vec_capacity l.bytes ≡ l.len;
    }
