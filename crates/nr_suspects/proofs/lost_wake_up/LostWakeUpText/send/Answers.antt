use Rattle.std.proofs.Common.{◌++◌, codes}
use Rattle.nr_text.proofs.BufferedLemmas.{writes_cut, writes_then}
use Rattle.nr_suspects.specs.LostWakeUps.{event_text, taken_text}
use Rattle.nr_suspects.proofs.lost_wake_up.LostWakeUpText.send.Goals as goal

-- the write of the line's first part, up to the event, failed
pub returns-in_err-send_event : goal.returns-in_err-send_event
returns-in_err-send_event g c =
    let lost = c.args.self.now in
    writes_cut c.args.w.now c.send_event.new.w (event_text lost) (taken_text lost.taken ++ codes "\n") c.in_err-send_event.field-0.0 c.from_residual.result c.from_residual.ensures.0 c.in_err-send_event.ensures

-- the write of the part ` taken ..` failed
pub returns-in_err-send_taken : goal.returns-in_err-send_taken
returns-in_err-send_taken g c =
    let lost = c.args.self.now in
    let result = c.from_residual-in_err-send_taken.result in
    writes_then c.args.w.now c.send_event.new.w c.send_taken.new.w (event_text lost) (taken_text lost.taken ++ codes "\n") result c.in_ok-send_event.ensures
    (writes_cut c.send_event.new.w c.send_taken.new.w (taken_text lost.taken) (codes "\n") c.in_err-send_taken.field-0.0 result c.from_residual-in_err-send_taken.ensures.0 c.in_err-send_taken.ensures)

-- the line feed is written last
pub returns : goal.returns
returns g c =
    let lost = c.args.self.now in
    writes_then c.args.w.now c.send_event.new.w c.send.new.self (event_text lost) (taken_text lost.taken ++ codes "\n") c.send.result c.in_ok-send_event.ensures
    (writes_then c.send_event.new.w c.send_taken.new.w c.send.new.self (taken_text lost.taken) (codes "\n") c.send.result c.in_ok-send_taken.ensures c.send.ensures)
