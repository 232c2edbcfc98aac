use Rattle.nr_arguments.proofs.ArgumentsLemmas.{run_asks, check_asks, upgrade_asks, changes_asks, suspects_asks}
use Rattle.nr_arguments.proofs.arguments.plain_arguments_ask.Goals as goal

pub returns-clause-run : goal.returns-clause-run
returns-clause-run c = run_asks

pub returns-clause-check : goal.returns-clause-check
returns-clause-check c = check_asks

pub returns-clause-upgrade : goal.returns-clause-upgrade
returns-clause-upgrade c = upgrade_asks

pub returns-clause-changes : goal.returns-clause-changes
returns-clause-changes c = changes_asks

pub returns-clause-suspects : goal.returns-clause-suspects
returns-clause-suspects c = suspects_asks
