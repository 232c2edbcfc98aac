use Rattle.std.proofs.Common.{◌≡◌, ◌≤◌, filter, length, map, take}
use Rattle.nr_rev.specs.declared.cell_value.CellValue.TheVariants.{Absent}
use Rattle.nr_marks.specs.Hit.{hits_by}
use Rattle.nr_search.proofs.steps.look_at_step.Given as goal

-- the result contains the numbers of the breaks that hit among those checked so far
abbrev pub invariant-loop-numbered : goal.invariant-loop-numbered
invariant-loop-numbered g l =
    record {
      so_far : l.hits.items ≡ map (λ m. m.number) (filter (λ m. hits_by Absent Absent l.next m.item) (take l.numbered-index l.marks));
      few : length l.hits.items ≤ l.numbered-index;
    }
