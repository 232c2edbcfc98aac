use Rattle.std.proofs.Common.{◌≡◌, ◌∙◌, ◌+◌, ◌∷◌, ◌++◌, [], ℕ, ap, append_assoc, arith, length, length-append, rules, sym}
use Rattle.std.specs.Vec.Iter.{into_iter_items}
use Rattle.nr_serving.specs.Session.{numbers_below}
use Rattle.nr_serving.proofs.SessionLemmas.{fronts_more, none_more, port_more}
use Rattle.nr_serving.proofs.session.open_ports.Goals as goal

-- the port of the next front was opened
pub loop-front-preserved : goal.loop-front-preserved
loop-front-preserved g c =
    let at = c.loop-front in
    let i = at.invariant in
    let x = c.in-Some.front in
    let steps : into_iter_items at.front-iterator ≡ x ∷ into_iter_items c.next.new.self = c.in-Some.ensures.steps.0 in
    let more : length (at.yielded ++ x ∷ []) ≡ length at.yielded + 1 = length-append at.yielded (x ∷ []) in
    record {
      rest = append_assoc at.yielded (x ∷ []) _ ∙ rw (← steps) i.rest;
      lengths = (let was = i.lengths in let gone = c.in-Some.ensures.steps.1 in let short = ap length steps in omega arith);
      fronts = fronts_more _ _ _ _ c.push_reserved.ensures.items i.fronts;
      none = none_more _ _ _ c.push_reserved.ensures.items i.none c.open.ensures.none;
      count = (let was = i.count in omega (arith, more));
      held = (let was = i.held in let len = c.push_reserved.ensures.len in omega (arith, more));
      room = search rules;
      opened = port_more _ _ _ at.number c.open.ensures.opened i.opened;
    }

-- as many ports were opened as there are fronts
pub returns-clause-opened : goal.returns-clause-opened
returns-clause-opened g c =
    let at = c.loop-front in
    let i = at.invariant in
    i.opened ∙ ap (λ (n : ℕ). record { opened = c.args.ports.now.opened ++ numbers_below n; ended = c.args.ports.now.ended }) (i.count ∙ sym i.held)
