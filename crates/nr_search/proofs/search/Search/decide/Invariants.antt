use Rattle.std.proofs.Common.{◌≡◌, ◌<◌, ℕ, false}
use Rattle.std.specs.Prelude.{IfSome}
use Rattle.nr_marks.specs.Hit.{hits_at}
use Rattle.nr_search.specs.Known.{has_hit, slot_of}
use Rattle.nr_search.specs.Search.{nth_on_way}
use Rattle.nr_snaps.specs.Film.{IsFrame}
use Rattle.nr_search.proofs.SegmentLemmas.{ArePassed}
use Rattle.nr_search.proofs.search.Search.decide.Given as goal

-- In the segments visited so far, no mark hits, and none of their slots in `known` has a hit. If a
-- world is held, it is the replay's world at the position stored with it.
abbrev pub invariant-loop-k : goal.invariant-loop-k
invariant-loop-k g l =
    record {
      passed : ArePassed l.self.span (hits_at l.self.film.now.recording l.self.marks.now.present) l.k;
      nearer : (k : ℕ) → k < l.k → has_hit (slot_of l.known (nth_on_way l.self.span.direction l.self.span.first l.self.span.count k)) ≡ false;
      held : IfSome l.held (λ h. IsFrame g.W.Reversible.is_well_formed g.W.Worlds.world g.W.Reversible.steps l.self.film.now h.position h.world);
    }
