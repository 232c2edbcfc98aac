use Rattle.std.proofs.Common.{rules}
use Rattle.nr_front.proofs.FrontLemmas.{exec_answers, exec_failed, exec_late}
use Rattle.nr_front.proofs.front.Front.exec.Goals as goal

pub returns-in-Err-clause-executes : goal.returns-in-Err-clause-executes
returns-in-Err-clause-executes g c = exec_failed _ _ _ _ _ c.in_ok-catch_up.ensures.ok c.in-Err.ensures

pub returns-in-Ok-clause-executes : goal.returns-in-Ok-clause-executes
returns-in-Ok-clause-executes g c = exec_answers _ _ _ _ _ _ c.in_ok-catch_up.ensures.ok c.in_default.ensures c.in-Ok.ensures.without_pending c.in-Ok.ensures.reply

pub returns-in-Err-run-clause-executes : goal.returns-in-Err-run-clause-executes
returns-in-Err-run-clause-executes g c =
    exec_late _ _ _ _ _ _ c.in_ok-catch_up.ensures.ok c.in_default.ensures c.in-Err-run.ensures.unchanged c.in-Err-run.ensures.memory (search rules)
