use Rattle.std.proofs.Common.{◌+◌, ◌++◌, ◌≤◌, List, length, Result, Ok, Err, sym, ap, subst, arith}
use Rattle.nr_snaps.specs.Fault.{load_fault_line}
use Rattle.nr_text.specs.Auxiliary.Streams.{Prints}
use Rattle.nr_text.specs.declared.sink.Part.{Part}
use Rattle.nr_programs.specs.Run.{EndsPrinting, accepted_line}
use Rattle.nr_programs.specs.declared.changes.ChangeLine.{ChangeLine}
use Rattle.nr_programs.specs.declared.run.ExitStatus.TheVariants.{Done, Refused}
use Rattle.nr_programs.proofs.ChangesLemmas.{Progress, begins, broken, ended, faulted, flushed, stepped, texts_of}
use Rattle.nr_programs.proofs.changes.print_changes.Goals as goal
use Rattle.nr_programs.proofs.changes.print_changes.Goals.{then-len-gt-LINES_AT_ONCE+in-Ok-print, else-len-gt-LINES_AT_ONCE}

pub loop-n-init : goal.loop-n-init
loop-n-init g c =
    let r = c.args.recording.now in
    let w = g.W.Worlds.world c.args.world.now in
    let out = c.args.output.now in
    let none = ap length c.new-lines.ensures in
    record {
      world = c.requires.world;
      room = omega (arith, none);
      progress = subst (λ (lines : List ChangeLine). Progress r 0 w lines out out) (sym c.new-lines.ensures) (begins r w out c.requires.start);
    }

-- a step has a fault
pub returns-in-Err : goal.returns-in-Err
returns-in-Err g c =
    let after = c.step_on.new.lines.items in
    let printed = subst (λ (lines : List ChangeLine). EndsPrinting (texts_of lines ++ load_fault_line c.in-Err.fault) Refused c.loop-n.output c.end.new.output c.end.result) c.as_slice.ensures.value c.end.ensures in
    faulted c.args.recording.now c.loop-n.n (g.W.Worlds.world c.loop-n.world) c.in-Err.fault c.loop-n.lines.items after c.args.output.now c.loop-n.output c.end.new.output c.end.result
    c.loop-n.invariant.progress c.in-Err.ensures.fault printed

-- a write failed while the lines were written
pub returns-in-Err-print : goal.returns-in-Err-print
returns-in-Err-print g c =
    let r = c.args.recording.now in
    let w = g.W.Worlds.world c.loop-n.world in
    let next = g.W.Worlds.world c.step_on.new.world in
    let lines = c.step_on.new.lines.items in
    let old = c.args.output.now in
    let mid = c.loop-n.output in
    let new = c.print.new.self in
    let further = stepped r c.loop-n.n w next c.loop-n.lines.items lines old mid c.loop-n.invariant.progress c.in-Ok.ensures.steps in
    let cut = subst (λ (x : Result Unit Part). Prints mid new (texts_of c.as_slice-then-len-gt-LINES_AT_ONCE.result.now) x) c.in-Err-print.is c.print.ensures in
    broken r (c.loop-n.n + 1) next lines old mid new c.in-Err-print.field-0.0 further
    (subst (λ (x : List ChangeLine). Prints mid new (texts_of x) (Err c.in-Err-print.field-0)) c.as_slice-then-len-gt-LINES_AT_ONCE.ensures.value cut)

-- a step was applied, and the waiting lines were written if another step's lines might not fit
pub loop-n-preserved : goal.loop-n-preserved
loop-n-preserved g c =
    let r = c.args.recording.now in
    let w = g.W.Worlds.world c.loop-n.world in
    let next = g.W.Worlds.world c.step_on.new.world in
    let lines = c.step_on.new.lines.items in
    let old = c.args.output.now in
    let mid = c.loop-n.output in
    let further = stepped r c.loop-n.n w next c.loop-n.lines.items lines old mid c.loop-n.invariant.progress c.in-Ok.ensures.steps in
    elim c.if-len-gt-LINES_AT_ONCE.branch [
      | then-len-gt-LINES_AT_ONCE+in-Ok-print branch ↦ (let new = branch.print.new.self in
          let sliced = branch.as_slice-then-len-gt-LINES_AT_ONCE in
          let went = subst (λ (x : Result Unit Part). Prints mid new (texts_of sliced.result.now) x) branch.in-Ok-print.is branch.print.ensures in
          let none = ap length branch.clear.ensures in
          record {
            world = c.step_on.ensures.well_formed;
            room = rw branch.lines-is (omega (arith, none));
            progress = rw (branch.lines-is, branch.output-is, branch.clear.ensures) (flushed r (c.loop-n.n + 1) next lines old mid new further
                (subst (λ (x : List ChangeLine). Prints mid new (texts_of x) (Ok tt)) sliced.ensures.value went));
          })
      | else-len-gt-LINES_AT_ONCE branch ↦ record {
        world = c.step_on.ensures.well_formed;
        room = rw branch.lines-is (omega (arith, c.len.ensures.value, branch.if-len-gt-LINES_AT_ONCE.false));
        progress = rw (branch.lines-is, branch.output-is) further;
      }
    ]

-- all steps were applied
pub returns : goal.returns
returns g c =
    let r = c.args.recording.now in
    let last : length r.steps ≤ c.loop-n.n = omega (arith, c.len-n-end.ensures.value, c.loop-n.auto.n-end, c.loop-n-test.false) in
    let printed = subst (λ (lines : List ChangeLine). EndsPrinting (texts_of lines ++ accepted_line c.len-2.result) Done c.loop-n.output c.end-2.new.output c.end-2.result) c.as_slice-2.ensures.value c.end-2.ensures in
    ended r c.loop-n.n (g.W.Worlds.world c.loop-n.world) c.loop-n.lines.items c.args.output.now c.loop-n.output c.end-2.new.output c.end-2.result last c.loop-n.invariant.progress
    (subst (λ n. EndsPrinting (texts_of c.loop-n.lines.items ++ accepted_line n) Done c.loop-n.output c.end-2.new.output c.end-2.result) c.len-2.ensures.value printed)
