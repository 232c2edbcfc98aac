use Rattle.std.proofs.Common.{◌≡◌, ◌++◌, ◌≤◌, length, vec_len, vec_capacity}
use Rattle.std.specs.Vec.Iter.{into_iter_items, into_iter_len}
use Rattle.nr_serving.proofs.SessionLemmas.{dones_of, passed_of}
use Rattle.nr_serving.proofs.session.end_ports.Given as goal

-- the callers of the fronts visited so far have ended
abbrev pub invariant-loop-one : goal.invariant-loop-one
invariant-loop-one g l = record {
  rest : l.yielded ++ into_iter_items l.one-iterator ≡ into_iter_items l.initial.one-iterator;
  lengths : into_iter_len l.one-iterator ≡ length (into_iter_items l.one-iterator);
  done : l.done.items ≡ dones_of l.yielded;
  held : vec_len l.done ≡ length l.yielded;
  room : length (into_iter_items l.initial.one-iterator) ≤ vec_capacity l.done;
  ended : l.ports ≡ record l.initial.ports { ended = l.initial.ports.ended ++ passed_of l.yielded };
}
