use Rattle.std.proofs.Common.{◌≡◌, ◌≤◌, ◌<◌, ℕ, take, slice_get, Some, length}
use Rattle.nr_rev.specs.World.{World}
use Rattle.nr_marks.specs.Hit.{hits_between, watched}
use Rattle.nr_marks.specs.Marks.{NumberedMark}
use Rattle.nr_search.specs.Search.{Remembers}
use Rattle.nr_search.proofs.watched.find_hits.Given as goal

-- the marks visited so far have been compared, and their values replaced by the current values
abbrev pub invariant-loop-i : goal.invariant-loop-i
invariant-loop-i g l =
    let now = g.W.Worlds.world l.world in
    record {
      hits : (before : World) → Remembers before l.marks l.fn.values → l.hits.items ≡ hits_between before now l.next (take l.i l.marks);
      few : length l.hits.items ≤ l.i;
      new : (k : ℕ) (m : NumberedMark) → k < l.i → slice_get l.marks k ≡ Some m → slice_get l.values k ≡ Some (watched now m.item);
      old : (k : ℕ) → l.i ≤ k → slice_get l.values k ≡ slice_get l.fn.values k;
    }
