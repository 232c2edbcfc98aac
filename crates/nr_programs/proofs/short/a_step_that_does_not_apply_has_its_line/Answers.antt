-- Each is computed.
use Rattle.std.proofs.Common.{refl}
use Rattle.std.specs.Fmt.{digits}
use Rattle.nr_programs.proofs.short.a_step_that_does_not_apply_has_its_line.Goals as goal

pub returns-clause-early_swap : goal.returns-clause-early_swap
unfolding digits
returns-clause-early_swap c = refl

pub returns-clause-three_firings : goal.returns-clause-three_firings
unfolding digits
returns-clause-three_firings c = refl
