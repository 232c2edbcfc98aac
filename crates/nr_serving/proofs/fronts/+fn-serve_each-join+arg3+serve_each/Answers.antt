use Rattle.std.proofs.Common.{ap, map, rules}
use denote.Param.Send.{sendable}
use Rattle.nr_serving.proofs.ServingLemmas.{adds_none, adds_one, behind_ten, ten_before}
use Rattle.nr_serving.proofs.fronts.+fn-serve_each-join+arg3+serve_each.Goals as goal

pub returns-clause-served : goal.returns-clause-served
returns-clause-served g t c =
    adds_one _ _ _ _ _ _ _ c.in-Some.ensures.last c.join-one.ensures.second.0 c.join-one.ensures.first c.push_reserved.ensures.items

pub returns-in_default-clause-served : goal.returns-in_default-clause-served
returns-in_default-clause-served g t c = adds_none _ _ (ap (map (λ f. f.0)) c.in_default.ensures.none)

pub fn::serve_each::join+arg3+FnOnce::call_once-join+arg3-requires : goal.fn::serve_each::join+arg3+FnOnce::call_once-join+arg3-requires
fn::serve_each::join+arg3+FnOnce::call_once-join+arg3-requires g t c κs within =
    let r = behind_ten c.requires in
    let s = r.1 in
    (search rules, ten_before within (s.0, (s.1, (s.2, (s.3, (s.4, (s.5, (s.6, (s.7, (s.8, (s.9, (s.10, r.0))))))))))))

-- The parts are selected by position: if they had names, the kernel's check would exceed its step
-- limit.
pub join-one-requires-after_bounds : goal.join-one-requires-after_bounds
join-one-requires-after_bounds g t c κs within =
    let b = c.requires-raw.1.1.1.1.1.1.1.1.1.1.1 in
    let world_sent = b.0 in
    let finder_sent = b.1.0 in
    let callers_sent = b.1.1.0 in
    let deltas_sent = b.1.1.1.0 in
    let reader_sent = b.1.1.1.1.0 in
    let writer_sent = b.1.1.1.1.1.0 in
    let runtime_shared = b.1.1.1.1.1.1.0 in
    let world_shared = b.1.1.1.1.1.1.1.0 in
    let snapshots_shared = b.1.1.1.1.1.1.1.1.0 in
    let starter_shared = b.1.1.1.1.1.1.1.1.1.0 in
    let gate_shared = b.1.1.1.1.1.1.1.1.1.1.0 in (
      (
        (search sendable depth 20, search sendable depth 20, search sendable depth 20, search sendable depth 20, c.in-Some.ensures.some.0, c.in-Some.ensures.some.1),
        (
          search sendable depth 20,
          search sendable depth 20,
          search sendable depth 20,
          search sendable depth 20,
          search sendable depth 20,
          search sendable depth 20,
          search sendable depth 20,
          search sendable depth 20,
          search sendable depth 20,
          search sendable depth 20,
        ),
      ),
      (
        search rules,
        (
          λ a m. m,
          (
            λ a m. m,
            (
              λ a m. m,
              (
                λ a m. m,
                (
                  λ a m. m,
                  (
                    λ a m. m,
                    (
                      λ a m. m,
                      (
                        λ a m. m,
                        (
                          λ a m. m,
                          (
                            λ a m. m,
                            (
                              (runtime_shared, world_sent, world_shared, deltas_sent, snapshots_shared, finder_sent, starter_shared, gate_shared, callers_sent, reader_sent, writer_sent, c.in-Some.ensures.rest, search rules),
                              (world_sent, finder_sent, callers_sent, deltas_sent, reader_sent, writer_sent, runtime_shared, world_shared, snapshots_shared, starter_shared, gate_shared),
                            ),
                          ),
                        ),
                      ),
                    ),
                  ),
                ),
              ),
            ),
          ),
        ),
      ),
    )
