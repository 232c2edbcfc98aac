use Rattle.std.proofs.Common.{All}
use Rattle.std.specs.Prelude.{IfSome}
use Rattle.nr_marks.specs.Hit.{hits_at}
use Rattle.nr_search.specs.Reports.{IsReport}
use Rattle.nr_snaps.specs.Film.{IsFrame}
use Rattle.nr_search.proofs.workers.work.Given as goal

-- the reports made so far are right, and the held world is at its position
abbrev pub invariant-loop : goal.invariant-loop
invariant-loop g l =
    record {
      reports : All (IsReport l.search.span (hits_at l.search.film.now.recording l.search.marks.now.present)) l.reports.items;
      held : IfSome l.held (λ h. IsFrame g.W.Reversible.is_well_formed g.W.Worlds.world g.W.Reversible.steps l.search.film.now h.position h.world);
    }
