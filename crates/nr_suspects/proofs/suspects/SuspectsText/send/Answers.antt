use Rattle.std.proofs.Common.{◌++◌, List, subst}
use Rattle.nr_text.proofs.BufferedLemmas.{writes_cut, writes_then}
use Rattle.nr_text.specs.Buffered.{Writes}
use Rattle.nr_suspects.specs.DeadlineFindings.{deadline_lines}
use Rattle.nr_suspects.specs.HeldReferences.{held_lines}
use Rattle.nr_suspects.specs.LostWakeUps.{lost_lines}
use Rattle.nr_suspects.specs.Sleepers.{sleeper_lines}
use Rattle.nr_suspects.specs.declared.deadline_finding.DeadlineFinding.{DeadlineFinding}
use Rattle.nr_suspects.specs.declared.held_reference.HeldReference.{HeldReference}
use Rattle.nr_suspects.specs.declared.lost_wake_up.LostWakeUp.{LostWakeUp}
use Rattle.nr_suspects.specs.declared.sleeper.Sleeper.{Sleeper}
use Rattle.nr_suspects.proofs.suspects.SuspectsText.send.Goals as goal

-- the write of the lines about deadlines failed
pub returns-in_err-send : goal.returns-in_err-send
returns-in_err-send g c =
    let found = c.args.self.now in
    let later = lost_lines found.lost.items ++ (sleeper_lines found.asleep.items ++ held_lines found.held.items) in
    subst (λ (xs : List DeadlineFinding). Writes c.args.w.now c.send.new.w (deadline_lines xs ++ later) c.from_residual.result) c.as_slice.ensures.value
    (writes_cut c.args.w.now c.send.new.w (deadline_lines c.as_slice.result.now) later c.in_err-send.field-0.0 c.from_residual.result c.from_residual.ensures.0
    c.in_err-send.ensures)

-- the write of the lines about lost wake-ups failed
pub returns-in_err-send-2 : goal.returns-in_err-send-2
returns-in_err-send-2 g c =
    let found = c.args.self.now in
    let result = c.from_residual-in_err-send-2.result in
    let later = sleeper_lines found.asleep.items ++ held_lines found.held.items in
    subst (λ (xs : List DeadlineFinding). Writes c.args.w.now c.send-2.new.w (deadline_lines xs ++ (lost_lines found.lost.items ++ later)) result) c.as_slice.ensures.value
    (subst (λ (xs : List LostWakeUp). Writes c.args.w.now c.send-2.new.w (deadline_lines c.as_slice.result.now ++ (lost_lines xs ++ later)) result) c.as_slice-2.ensures.value
    (writes_then c.args.w.now c.send.new.w c.send-2.new.w (deadline_lines c.as_slice.result.now) (lost_lines c.as_slice-2.result.now ++ later) result c.in_ok-send.ensures
    (writes_cut c.send.new.w c.send-2.new.w (lost_lines c.as_slice-2.result.now) later c.in_err-send-2.field-0.0 result c.from_residual-in_err-send-2.ensures.0 c.in_err-send-2.ensures)))

-- the write of the lines about sleepers failed
pub returns-in_err-send-3 : goal.returns-in_err-send-3
returns-in_err-send-3 g c =
    let found = c.args.self.now in
    let result = c.from_residual-in_err-send-3.result in
    let held = held_lines found.held.items in
    subst (λ (xs : List DeadlineFinding). Writes c.args.w.now c.send-3.new.w (deadline_lines xs ++ (lost_lines found.lost.items ++ (sleeper_lines found.asleep.items ++ held))) result) c.as_slice.ensures.value
    (subst (λ (xs : List LostWakeUp). Writes c.args.w.now c.send-3.new.w (deadline_lines c.as_slice.result.now ++ (lost_lines xs ++ (sleeper_lines found.asleep.items ++ held))) result) c.as_slice-2.ensures.value
    (subst (λ (xs : List Sleeper). Writes c.args.w.now c.send-3.new.w (deadline_lines c.as_slice.result.now ++ (lost_lines c.as_slice-2.result.now ++ (sleeper_lines xs ++ held))) result) c.as_slice-3.ensures.value
    (writes_then c.args.w.now c.send.new.w c.send-3.new.w (deadline_lines c.as_slice.result.now) (lost_lines c.as_slice-2.result.now ++ (sleeper_lines c.as_slice-3.result.now ++ held)) result c.in_ok-send.ensures
    (writes_then c.send.new.w c.send-2.new.w c.send-3.new.w (lost_lines c.as_slice-2.result.now) (sleeper_lines c.as_slice-3.result.now ++ held) result c.in_ok-send-2.ensures
    (writes_cut c.send-2.new.w c.send-3.new.w (sleeper_lines c.as_slice-3.result.now) held c.in_err-send-3.field-0.0 result c.from_residual-in_err-send-3.ensures.0 c.in_err-send-3.ensures)))))

-- the held references are written last
pub returns : goal.returns
returns g c =
    let found = c.args.self.now in
    let result = c.send-4.result in
    subst (λ (xs : List DeadlineFinding). Writes c.args.w.now c.send-4.new.w (deadline_lines xs ++ (lost_lines found.lost.items ++ (sleeper_lines found.asleep.items ++ held_lines found.held.items))) result) c.as_slice.ensures.value
    (subst (λ (xs : List LostWakeUp). Writes c.args.w.now c.send-4.new.w (deadline_lines c.as_slice.result.now ++ (lost_lines xs ++ (sleeper_lines found.asleep.items ++ held_lines found.held.items))) result) c.as_slice-2.ensures.value
    (subst (λ (xs : List Sleeper). Writes c.args.w.now c.send-4.new.w (deadline_lines c.as_slice.result.now ++ (lost_lines c.as_slice-2.result.now ++ (sleeper_lines xs ++ held_lines found.held.items))) result) c.as_slice-3.ensures.value
    (subst (λ (ys : List HeldReference). Writes c.args.w.now c.send-4.new.w (deadline_lines c.as_slice.result.now ++ (lost_lines c.as_slice-2.result.now ++ (sleeper_lines c.as_slice-3.result.now ++ held_lines ys))) result) c.as_slice-4.ensures.value
    (writes_then c.args.w.now c.send.new.w c.send-4.new.w (deadline_lines c.as_slice.result.now) (lost_lines c.as_slice-2.result.now ++ (sleeper_lines c.as_slice-3.result.now ++ held_lines c.as_slice-4.result.now)) result c.in_ok-send.ensures
    (writes_then c.send.new.w c.send-2.new.w c.send-4.new.w (lost_lines c.as_slice-2.result.now) (sleeper_lines c.as_slice-3.result.now ++ held_lines c.as_slice-4.result.now) result c.in_ok-send-2.ensures
    (writes_then c.send-2.new.w c.send-3.new.w c.send-4.new.w (sleeper_lines c.as_slice-3.result.now) (held_lines c.as_slice-4.result.now) result c.in_ok-send-3.ensures c.send-4.ensures))))))
