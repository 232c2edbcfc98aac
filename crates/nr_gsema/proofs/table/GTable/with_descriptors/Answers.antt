use Rattle.std.proofs.Common.{ℕ, List, [], replicate, sym, ap, ap₂, subst, ◌∙◌, arith}
use Rattle.nr_rev.specs.declared.sides.Sides.{Sides}
use Rattle.nr_rev.specs.Semaphore.{new_semaphore}
use Rattle.nr_rev.specs.Sides.{twice}
use Rattle.nr_gsema.specs.declared.node.SemaphoreHead.{SemaphoreHead}
use Rattle.nr_gsema.specs.declared.node.GoroutineNode.{GoroutineNode}
use Rattle.nr_gsema.specs.Links.{statuses}
use Rattle.nr_gsema.specs.Waits.{AreCounts}
use Rattle.nr_gsema.proofs.TableLemmas.{AreTable, AreTable-same, none_made}
use Rattle.nr_gsema.proofs.WaitLemmas.{none_counted}
use Rattle.nr_gsema.proofs.table.GTable.with_descriptors.Goals as goal
use Rattle.nr_gsema.proofs.table.GTable.with_descriptors.Goals.{In_ok-semaphores}

abbrev sides : SemaphoreHead → SemaphoreHead → Sides SemaphoreHead
sides a b = record { read = a; write = b }

none : (c : goal.In_ok-semaphores) → AreTable c.in_ok-nodes.nodes.items c.in_ok-semaphores.semaphores.items c.args.goroutines
    (record { goroutines = []; semaphores = replicate c.args.sockets (twice new_semaphore); limit = c.args.goroutines })
none c =
    AreTable-same _ _ (none_made c.args.sockets c.args.goroutines) c.in_ok-nodes.ensures.items
    (c.in_ok-semaphores.ensures.items_if_clones_equal (λ y e. ap₂ sides e.0 e.1) ∙ ap (replicate c.args.sockets) c.twice.ensures)

pub invariant_of-table : goal.invariant_of-table
invariant_of-table c =
    let a = c.in_ok-nodes.ensures.len in
    let b = c.in_ok-nodes.ensures.exact in
    record {
      queues = (none (goal.at.invariant_of-table c).In_ok-semaphores).queues;
      few = omega arith;
      room = omega arith;
      counted =
          subst (λ (ns : List GoroutineNode). AreCounts c.in_ok-waits.waits (statuses ns)) (sym c.in_ok-nodes.ensures.items)
          (subst (λ (ns : List (Sides ℕ)). AreCounts ns []) (sym c.in_ok-waits.ensures) (none_counted c.args.descriptors));
    }

pub returns-clause-empty : goal.returns-clause-empty
returns-clause-empty c = (none (goal.at.returns-clause-empty c).In_ok-semaphores).view
