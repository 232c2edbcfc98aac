use Rattle.std.proofs.Common.{◌++◌, codes}
use Rattle.nr_text.proofs.BufferedLemmas.{writes_cut, writes_then}
use Rattle.nr_suspects.specs.DeadlineFindings.{consequence_text, goroutine_of, goroutine_text, moved_text, setting_text}
use Rattle.nr_suspects.proofs.deadline_finding.DeadlineFindingText.send.Goals as goal

pub returns-in_err-send_consequence : goal.returns-in_err-send_consequence
returns-in_err-send_consequence g c =
    let found = c.args.self.now in
    let result = c.from_residual.result in
    (writes_cut c.args.w.now c.send_consequence.new.w (consequence_text found) (goroutine_text (goroutine_of found.consequence) ++ (setting_text found ++ (moved_text found.setting.moved ++ codes "\n"))) c.in_err-send_consequence.field-0.0 result c.from_residual.ensures.0 c.in_err-send_consequence.ensures)

pub returns-in_err-send_goroutine : goal.returns-in_err-send_goroutine
returns-in_err-send_goroutine g c =
    let found = c.args.self.now in
    let result = c.from_residual-in_err-send_goroutine.result in
    rw (← c.goroutine_of.ensures) (writes_then c.args.w.now c.send_consequence.new.w c.send_goroutine.new.w (consequence_text found) (goroutine_text c.goroutine_of.result ++ (setting_text found ++ (moved_text found.setting.moved ++ codes "\n"))) result c.in_ok-send_consequence.ensures
    (writes_cut c.send_consequence.new.w c.send_goroutine.new.w (goroutine_text c.goroutine_of.result) (setting_text found ++ (moved_text found.setting.moved ++ codes "\n")) c.in_err-send_goroutine.field-0.0 result c.from_residual-in_err-send_goroutine.ensures.0 c.in_err-send_goroutine.ensures))

pub returns-in_err-send_setting : goal.returns-in_err-send_setting
returns-in_err-send_setting g c =
    let found = c.args.self.now in
    let result = c.from_residual-in_err-send_setting.result in
    rw (← c.goroutine_of.ensures) (writes_then c.args.w.now c.send_consequence.new.w c.send_setting.new.w (consequence_text found) (goroutine_text c.goroutine_of.result ++ (setting_text found ++ (moved_text found.setting.moved ++ codes "\n"))) result c.in_ok-send_consequence.ensures
    (writes_then c.send_consequence.new.w c.send_goroutine.new.w c.send_setting.new.w (goroutine_text c.goroutine_of.result) (setting_text found ++ (moved_text found.setting.moved ++ codes "\n")) result c.in_ok-send_goroutine.ensures
    (writes_cut c.send_goroutine.new.w c.send_setting.new.w (setting_text found) (moved_text found.setting.moved ++ codes "\n") c.in_err-send_setting.field-0.0 result c.from_residual-in_err-send_setting.ensures.0 c.in_err-send_setting.ensures)))

pub returns-in_err-send_moved : goal.returns-in_err-send_moved
returns-in_err-send_moved g c =
    let found = c.args.self.now in
    let result = c.from_residual-in_err-send_moved.result in
    rw (← c.goroutine_of.ensures) (writes_then c.args.w.now c.send_consequence.new.w c.send_moved.new.w (consequence_text found) (goroutine_text c.goroutine_of.result ++ (setting_text found ++ (moved_text found.setting.moved ++ codes "\n"))) result c.in_ok-send_consequence.ensures
    (writes_then c.send_consequence.new.w c.send_goroutine.new.w c.send_moved.new.w (goroutine_text c.goroutine_of.result) (setting_text found ++ (moved_text found.setting.moved ++ codes "\n")) result c.in_ok-send_goroutine.ensures
    (writes_then c.send_goroutine.new.w c.send_setting.new.w c.send_moved.new.w (setting_text found) (moved_text found.setting.moved ++ codes "\n") result c.in_ok-send_setting.ensures
    (writes_cut c.send_setting.new.w c.send_moved.new.w (moved_text found.setting.moved) (codes "\n") c.in_err-send_moved.field-0.0 result c.from_residual-in_err-send_moved.ensures.0 c.in_err-send_moved.ensures))))

pub returns : goal.returns
returns g c =
    let found = c.args.self.now in
    rw (← c.goroutine_of.ensures) (writes_then c.args.w.now c.send_consequence.new.w c.send.new.self (consequence_text found) (goroutine_text c.goroutine_of.result ++ (setting_text found ++ (moved_text found.setting.moved ++ codes "\n"))) c.send.result c.in_ok-send_consequence.ensures
    (writes_then c.send_consequence.new.w c.send_goroutine.new.w c.send.new.self (goroutine_text c.goroutine_of.result) (setting_text found ++ (moved_text found.setting.moved ++ codes "\n")) c.send.result c.in_ok-send_goroutine.ensures
    (writes_then c.send_goroutine.new.w c.send_setting.new.w c.send.new.self (setting_text found) (moved_text found.setting.moved ++ codes "\n") c.send.result c.in_ok-send_setting.ensures
    (writes_then c.send_setting.new.w c.send_moved.new.w c.send.new.self (moved_text found.setting.moved) (codes "\n") c.send.result c.in_ok-send_moved.ensures
    c.send.ensures))))
