use Rattle.nr_snaps.proofs.RefusedLemmas.{fault_is_bad, one_fault}
use Rattle.nr_snaps.proofs.laws.a_recording_has_one_fault.Goals as goal

pub returns-clause-bad : goal.returns-clause-bad
returns-clause-bad c = fault_is_bad

pub returns-clause-exact : goal.returns-clause-exact
returns-clause-exact c = one_fault
