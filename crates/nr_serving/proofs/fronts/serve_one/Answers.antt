use Rattle.std.proofs.Common.{◌≡◌, ◌||◌, ◌∙◌, ◌∷◌, ◌++◌, [], false, true, sym, ap, subst, rules}
use Rattle.std.specs.List.{list_any}
use Rattle.std.proofs.Common.{List, length, length-append, arith}
use Rattle.nr_serving.specs.declared.conversations.Arrival.{Arrival}
use Rattle.std.specs.Prelude.{is_err}
use Rattle.nr_front.specs.Auxiliary.FrontState.{pass_of}
use Rattle.nr_serving.specs.Conversations.{Passed}
use Rattle.nr_serving.specs.Fronts.{came, is_failure}
use Rattle.nr_serving.specs.Auxiliary.Fronts.{ServesCallers}
use Rattle.nr_serving.specs.declared.conversations.Arrival.TheVariants as arrivals
use Rattle.nr_serving.proofs.ServingLemmas.{came_more, ended_with, reported_more, serving_more}
use Rattle.nr_serving.proofs.fronts.serve_one.Goals as goal

-- another caller was served
pub loop-preserved : goal.loop-preserved
loop-preserved g c =
    let i = c.loop.invariant in
    let w = c.in-Served.ensures.waits in
    let one = w.0 in
    let now = c.serve_next.new.self in
    let callers : now.callers ≡ c.loop.callers.callers ++ one ∷ [] = ap (λ (p : Passed). p.callers) w.1 in
    let arrived : now.arrivals ≡ c.loop.callers.arrivals ++ arrivals.Came ∷ [] = ap (λ (p : Passed). p.arrivals) w.1 in
    let failed = c.is_err-failed.ensures.value ∙ ap is_err (sym w.2) in
    let more = length-append c.loop.callers.arrivals (arrivals.Came ∷ []) in
    let same = ap (λ (l : List Arrival). length l) arrived in (
      c.in-Served.ensures.table ∙ i.0,
      came_more c.loop.callers.callers now.callers one c.loop.callers.arrivals now.arrivals callers i.1 arrived ∙ ap came (sym callers),
      subst (λ l. ServesCallers l c.args.front c.serve_next.new.front) (sym callers)
          (serving_more c.loop.callers.callers c.args.front c.loop.front c.serve_next.new.front one i.2 w.3),
      reported_more c.loop.callers.callers one c.loop.failed _ i.3 (ap (λ b. c.loop.failed || b) failed) ∙ ap (list_any is_failure) (sym callers),
      (omega (arith, same, more, i.4)),
    )

-- no further caller will come
pub returns-in-Ended : goal.returns-in-Ended
returns-in-Ended g c =
    let i = c.loop.invariant in
    let w = c.in-Ended.ensures.waits in
    record {
      course = record { callers = c.loop.callers.callers; cut_off = false; last = c.loop.front };
      passed_is = w.0 ∙ ended_with arrivals.Ended c.loop.callers i.1;
      serving = i.2;
      failed = i.3;
      pass = c.end.ensures ∙ ap pass_of w.1;
      same = i.0 ∙ sym c.requires.table;
    }

-- waiting for a caller failed
pub returns-in-Failed : goal.returns-in-Failed
returns-in-Failed g c =
    let i = c.loop.invariant in
    let w = c.in-Failed.ensures.waits in
    record {
      course = record { callers = c.loop.callers.callers; cut_off = true; last = c.loop.front };
      passed_is = w.0 ∙ ended_with arrivals.Failed c.loop.callers i.1;
      serving = i.2;
      failed = search rules;
      pass = c.end-in-Failed.ensures ∙ ap pass_of w.1;
      same = i.0 ∙ sym c.requires.table;
    }

-- the front gave up waiting for callers
pub returns : goal.returns
returns g c =
    let i = c.loop.invariant in
    record {
      course = record { callers = c.loop.callers.callers; cut_off = true; last = c.loop.front };
      passed_is = c.give_up.ensures ∙ ended_with arrivals.Failed c.loop.callers i.1;
      serving = i.2;
      failed = search rules;
      pass = search rules;
      same = i.0 ∙ sym c.requires.table;
    }
