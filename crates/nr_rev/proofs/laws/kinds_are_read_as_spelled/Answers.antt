use Rattle.nr_rev.specs.Kind.{kind_name, kind_number, kinds}
use Rattle.nr_rev.proofs.NameLookupLemmas.{found_named, found_numbered, kind_again, kind_counted, kind_placed}
use Rattle.nr_rev.proofs.laws.kinds_are_read_as_spelled.Goals as goal

pub returns-clause-read : goal.returns-clause-read
returns-clause-read c = kind_again

pub returns-clause-spelled : goal.returns-clause-spelled
returns-clause-spelled c = found_named kind_name kinds

pub returns-clause-counted : goal.returns-clause-counted
returns-clause-counted c = kind_counted

pub returns-clause-number : goal.returns-clause-number
returns-clause-number c = found_numbered kind_number kinds

pub returns-clause-numbered : goal.returns-clause-numbered
returns-clause-numbered c = kind_placed
