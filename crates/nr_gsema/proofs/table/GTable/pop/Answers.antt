use Rattle.std.proofs.Common.{◌≡◌, ◌-◌, length, take, refl, sym, ap, subst, ◌∙◌, arith}
use Rattle.nr_rev.specs.declared.status.Status.TheVariants.{Idle}
use Rattle.nr_gsema.specs.Table.{GoroutineTable}
use Rattle.nr_gsema.specs.Waits.{AreCounts}
use Rattle.nr_gsema.proofs.ListLemmas.{last_split}
use Rattle.nr_gsema.proofs.TableLemmas.{AreTable, AreTable-same, last_gone}
use Rattle.nr_gsema.proofs.WaitLemmas.{counts_popped}
use Rattle.nr_gsema.proofs.table.GTable.pop.Goals as goal
use Rattle.nr_gsema.proofs.table.GTable.pop.Goals.{After-pop}

fewer : (c : goal.After-pop) → AreTable c.pop.new.self.items c.self.inside.semaphores.items c.self.inside.limit
    (record c.args.self.now { goroutines = take (length c.args.self.now.goroutines - 1) c.args.self.now.goroutines })
fewer c =
    AreTable-same _ _ (last_gone (record { queues = c.self.invariant.queues; view = c.self.view_is }) c.requires)
    (c.pop.ensures.rest ∙ ap (λ n. take (n - 1) c.self.inside.nodes.items) c.self.inside.nodes.ok.0) refl

statuses_are : {t u : GoroutineTable} → t ≡ u → t.goroutines ≡ u.goroutines
statuses_are same = ap (λ (v : GoroutineTable). v.goroutines) same

pub invariant_of-self : goal.invariant_of-self
invariant_of-self c =
    let a = c.pop.ensures.len in
    let b = c.pop.ensures.capacity in
    let few = c.self.invariant.few in
    let room = c.self.invariant.room in
    let p = (goal.at.invariant_of-self c).After-pop in
    let gs = c.args.self.now.goroutines in
    let waits = c.self.inside.waits in
    record {
      queues = (fewer p).queues;
      few = omega arith;
      room = omega arith;
      counted =
          subst (AreCounts waits) (sym (statuses_are (fewer p).view))
          (counts_popped waits (take (length gs - 1) gs) Idle refl (subst (AreCounts waits) (statuses_are c.self.view_is ∙ last_split gs Idle c.requires) c.self.invariant.counted));
    }

pub returns : goal.returns
returns c = (fewer (goal.at.returns c).After-pop).view
