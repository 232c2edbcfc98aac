use Rattle.std.proofs.Common.{◌≡◌, ◌++◌, ◌≤◌, length, vec_len, vec_capacity}
use Rattle.std.specs.List.{All}
use Rattle.std.specs.Vec.Iter.{into_iter_items, into_iter_len}
use Rattle.nr_serving.specs.Auxiliary.Fronts.{none_passed}
use Rattle.nr_serving.specs.Session.{numbers_below}
use Rattle.nr_serving.proofs.SessionLemmas.{fronts_of}
use Rattle.nr_serving.proofs.session.open_ports.Given as goal

-- the ports of the fronts visited so far are opened
abbrev pub invariant-loop-front : goal.invariant-loop-front
invariant-loop-front g l = record {
  rest : l.yielded ++ into_iter_items l.front-iterator ≡ into_iter_items l.initial.front-iterator;
  lengths : into_iter_len l.front-iterator ≡ length (into_iter_items l.front-iterator);
  fronts : fronts_of l.opened.items ≡ l.yielded;
  none : All (λ f. f.1 ≡ none_passed) l.opened.items;
  count : l.number ≡ length l.yielded;
  held : vec_len l.opened ≡ length l.yielded;
  room : length (into_iter_items l.initial.front-iterator) ≤ vec_capacity l.opened;
  opened : l.ports ≡ record l.initial.ports { opened = l.initial.ports.opened ++ numbers_below l.number };
}
