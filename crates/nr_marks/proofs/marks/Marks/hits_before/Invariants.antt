use Rattle.std.proofs.Common.{◌≡◌, ◌≤◌, length, take}
use Rattle.nr_marks.specs.Hit.{hits_between}
use Rattle.nr_marks.proofs.marks.Marks.hits_before.Given as goal

-- of the marks that the loop has checked so far, the list has those that hit
abbrev pub invariant-loop-numbered : goal.invariant-loop-numbered
invariant-loop-numbered g l =
    record {
      so_far : l.hits.items ≡ hits_between (g.W.Worlds.world l.before) (g.W.Worlds.world l.after) l.next (take l.numbered-index l.self.present);
      few : length l.hits.items ≤ l.numbered-index;
    }
