use Rattle.std.proofs.Common.{refl, rules, List, [], ◌++◌, length, length-append, arith, take, sym, ap, ◌∙◌}
use Rattle.nr_text.specs.Moments.{Moment}
use Rattle.std.proofs.lemmas.Result.{err_from_is_err_and}
use Rattle.nr_lines.proofs.EngineLemmas.{bytes_cut, bytes_go_on, bytes_quit, came_more, closed, invariant_at_first, last_closes, last_cut, last_invariant, last_quits, none_now, some_left, stopped, uncut}
use Rattle.nr_lines.proofs.engine.answer_by.Goals.{else-not-is_empty-via-then-not-is_empty+in_ok-answer_last+else-branch, else-not-is_empty-via-else-not-is_empty}
use Rattle.nr_lines.proofs.engine.answer_by.Goals as goal

pub loop-init : goal.loop-init
loop-init g c = record {
  table = c.requires.table;
  reader = c.requires.reader;
  writer = c.requires.writer;
  empty = c.requires.empty;
  kind = refl;
  unended = λ none. none;
  reads = search rules;
  read = [];
  invariant_holds = invariant_at_first _ _ _ _ c.new-line.ensures;
}

pub returns-in_err-answer_last-clause-serves : goal.returns-in_err-answer_last-clause-serves
returns-in_err-answer_last-clause-serves g c =
    let none = c.if-count-eq0.true in
    let ended = c.in-Ok.ensures.reads.3 none (search rules) in
    let st = last_invariant _ _ _ _ _ _ _ _ _ _ _ _ _ c.loop.invariant.invariant_holds c.loop.invariant.unended c.in-Ok.ensures.reads.1 c.in-Ok.ensures.moments.0 c.in-Ok.ensures.moments.1 none c.as_slice.ensures.value in
    let some = some_left _ _ _ c.is_empty.ensures c.if-not-is_empty.true c.as_slice.ensures.value in
    let p = err_from_is_err_and c.from_residual.result c.from_residual.ensures.1 in
    rw (p.1, p.2, sym c.loop.invariant.kind) (last_cut _ _ _ _ _ _ _ _ _ _ _ _ _ st ended some (c.in_err-answer_last.ensures.answers _ st.kept))

pub returns-then-branch-clause-serves : goal.returns-then-branch-clause-serves
returns-then-branch-clause-serves g c =
    let none = c.if-count-eq0.true in
    let ended = c.in-Ok.ensures.reads.3 none (search rules) in
    let st = last_invariant _ _ _ _ _ _ _ _ _ _ _ _ _ c.loop.invariant.invariant_holds c.loop.invariant.unended c.in-Ok.ensures.reads.1 c.in-Ok.ensures.moments.0 c.in-Ok.ensures.moments.1 none c.as_slice.ensures.value in
    let some = some_left _ _ _ c.is_empty.ensures c.if-not-is_empty.true c.as_slice.ensures.value in
    rw (sym c.loop.invariant.kind) (last_quits _ _ _ _ _ _ _ _ _ _ _ _ _ _ st ended some (c.in_ok-answer_last.ensures.answers _ st.kept) c.if-branch.true)

pub returns-then-count-eq0-clause-serves : goal.returns-then-count-eq0-clause-serves
returns-then-count-eq0-clause-serves g c =
    let none = c.if-count-eq0.true in
    let ended = c.in-Ok.ensures.reads.3 none (search rules) in
    elim c.else-not-is_empty.branch [
      | else-not-is_empty-via-then-not-is_empty+in_ok-answer_last+else-branch w ↦
          let st = last_invariant _ _ _ _ _ _ _ _ _ _ _ _ _ c.loop.invariant.invariant_holds c.loop.invariant.unended c.in-Ok.ensures.reads.1 c.in-Ok.ensures.moments.0 c.in-Ok.ensures.moments.1 none w.as_slice.ensures.value in
          let some = some_left _ _ _ c.is_empty.ensures w.if-not-is_empty.true w.as_slice.ensures.value in
          rw (w.w-is, w.front-is, sym c.loop.invariant.kind) (last_closes _ _ _ _ _ _ _ _ _ _ _ _ _ _ st ended some (w.in_ok-answer_last.ensures.answers _ st.kept) w.if-branch.false)
      | else-not-is_empty-via-else-not-is_empty w ↦
          rw (w.w-is, w.front-is)
          (uncut _ _ _ _ _ _ _ _ (closed _ _ _ _ _ _ _ _ _ (last_invariant _ _ _ _ _ _ _ _ _ _ _ _ _ c.loop.invariant.invariant_holds c.loop.invariant.unended c.in-Ok.ensures.reads.1 c.in-Ok.ensures.moments.0 c.in-Ok.ensures.moments.1 none refl) ended (search rules)))
    ]

pub returns-in_err-answer_bytes-clause-serves : goal.returns-in_err-answer_bytes-clause-serves
returns-in_err-answer_bytes-clause-serves g c =
    let st = came_more _ _ _ _ _ _ _ _ _ (take c.in-Ok.count c.read.new.buf) _ c.loop.invariant.invariant_holds c.loop.invariant.unended c.in-Ok.ensures.reads.1 c.in-Ok.ensures.moments.0 c.in-Ok.ensures.moments.1 in
    let p = err_from_is_err_and c.from_residual-in_err-answer_bytes.result c.from_residual-in_err-answer_bytes.ensures.1 in
    rw (p.1, p.2, sym c.loop.invariant.kind) (bytes_cut _ _ _ _ _ _ _ _ _ _ _ _ _ _ _ _ st (c.in_err-answer_bytes.ensures.answers _ st.kept))

pub returns-then-branch-2-clause-serves : goal.returns-then-branch-2-clause-serves
returns-then-branch-2-clause-serves g c =
    let st = came_more _ _ _ _ _ _ _ _ _ (take c.in-Ok.count c.read.new.buf) _ c.loop.invariant.invariant_holds c.loop.invariant.unended c.in-Ok.ensures.reads.1 c.in-Ok.ensures.moments.0 c.in-Ok.ensures.moments.1 in
    rw (sym c.loop.invariant.kind) (bytes_quit _ _ _ _ _ _ _ _ _ _ _ _ _ _ _ _ st (c.in_ok-answer_bytes.ensures.answers _ st.kept) c.if-branch-2.true)

pub loop-preserved : goal.loop-preserved
loop-preserved g c =
    let bytes = take c.in-Ok.count c.read.new.buf in
    let st = came_more _ _ _ _ _ _ _ _ _ bytes _ c.loop.invariant.invariant_holds c.loop.invariant.unended c.in-Ok.ensures.reads.1 c.in-Ok.ensures.moments.0 c.in-Ok.ensures.moments.1 in
    record {
      table = c.in_ok-answer_bytes.ensures.table ∙ c.loop.invariant.table;
      reader = c.in-Ok.ensures.reads.2 ∙ c.loop.invariant.reader;
      writer = c.in_ok-answer_bytes.ensures.calm ∙ c.loop.invariant.writer;
      empty = c.in_ok-answer_bytes.ensures.empty;
      kind = c.in_ok-answer_bytes.ensures.kind ∙ c.loop.invariant.kind;
      unended = λ none. c.in-Ok.ensures.reads.4 (search rules);
      reads =
          let more = length-append c.loop.r.moments c.in-Ok.ensures.moments.0 in
          let same = ap (λ (l : List Moment). length l) c.in-Ok.ensures.moments.1.0 in
          omega (arith, more, same, c.in-Ok.ensures.moments.2, c.loop.invariant.reads);
      read = c.loop.invariant.read ++ bytes;
      invariant_holds = bytes_go_on _ _ _ _ _ _ _ _ _ _ _ _ _ _ _ _ st (c.in_ok-answer_bytes.ensures.answers _ st.kept) c.if-branch-2.false;
    }

pub returns-in_default-clause-serves : goal.returns-in_default-clause-serves
returns-in_default-clause-serves g c =
    uncut _ _ _ _ _ _ _ _ (stopped _ _ _ _ _ _ _ _ _ _ c.loop.invariant.invariant_holds c.loop.invariant.unended c.in_default.ensures.reads.0 c.in_default.ensures.moments.0 c.in_default.ensures.moments.1)

pub returns-clause-serves : goal.returns-clause-serves
returns-clause-serves g c =
    uncut _ _ _ _ _ _ _ _
    (stopped _ _ _ _ _ _ _ _ _ _ c.loop.invariant.invariant_holds c.loop.invariant.unended c.give_up.ensures.failed.0 [] (none_now c.loop.r c.give_up.new.self c.loop.w c.give_up.ensures.moments))
