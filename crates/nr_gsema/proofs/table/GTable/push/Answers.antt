use Rattle.std.proofs.Common.{◌≡◌, ◌++◌, [], ◌∷◌, length, refl, sym, ap, subst, ◌∙◌, arith}
use Rattle.std.proofs.lemmas.List.{length-map}
use Rattle.nr_rev.specs.declared.status.Status.TheVariants.{Idle}
use Rattle.nr_gsema.specs.declared.node.GoroutineNode.{GoroutineNode}
use Rattle.nr_gsema.specs.Links.{statuses}
use Rattle.nr_gsema.specs.Table.{GoroutineTable}
use Rattle.nr_gsema.specs.Waits.{AreCounts}
use Rattle.nr_gsema.proofs.TableLemmas.{AreTable, AreTable-same, idle_node, one_more}
use Rattle.nr_gsema.proofs.UnqueuedLemmas.{statuses_push}
use Rattle.nr_gsema.proofs.WaitLemmas.{counts_pushed}
use Rattle.nr_gsema.proofs.table.GTable.push.Goals as goal
use Rattle.nr_gsema.proofs.table.GTable.push.Goals.{After-push_reserved}

pushed : (c : goal.After-push_reserved) → c.push_reserved.new.self.items ≡ c.self.inside.nodes.items ++ idle_node ∷ []
pushed c = c.push_reserved.ensures.items ∙ ap (λ (x : GoroutineNode). c.self.inside.nodes.items ++ x ∷ []) c.alone.ensures

more : (c : goal.After-push_reserved) → AreTable c.push_reserved.new.self.items c.self.inside.semaphores.items c.self.inside.limit
    (record c.args.self.now { goroutines = c.args.self.now.goroutines ++ Idle ∷ [] })
more c = AreTable-same _ _ (one_more (record { queues = c.self.invariant.queues; view = c.self.view_is })) (pushed c) refl

pub invariant_of-self : goal.invariant_of-self
invariant_of-self c =
    let p = (goal.at.invariant_of-self c).After-push_reserved in
    let nodes = c.self.inside.nodes.items in
    let a = c.push_reserved.ensures.len in
    let b = c.push_reserved.ensures.capacity in
    let room = c.self.invariant.room in
    let made : length (statuses nodes) ≡ length c.args.self.now.goroutines = ap (λ (u : GoroutineTable). length u.goroutines) c.self.view_is in
    let sizes = length-map nodes (λ (x : GoroutineNode). x.status) in
    let limit : c.self.inside.limit ≡ c.args.self.now.limit = ap (λ (u : GoroutineTable). u.limit) c.self.view_is in
    let less = c.requires in
    let len = c.self.inside.nodes.ok.0 in
    record {
      queues = (more p).queues;
      few = omega arith;
      room = omega arith;
      counted =
          subst (AreCounts c.self.inside.waits) (sym (statuses_push nodes idle_node) ∙ ap statuses (sym (pushed p)))
          (counts_pushed c.self.inside.waits (statuses nodes) Idle refl c.self.invariant.counted);
    }

pub returns : goal.returns
returns c = (more (goal.at.returns c).After-push_reserved).view
