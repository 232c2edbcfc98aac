use Rattle.nr_rev.specs.CellName.{cell_name, cell_number, cells_at}
use Rattle.nr_rev.proofs.NameLookupLemmas.{found_named, found_numbered, found_at}
use Rattle.nr_rev.proofs.laws.cells_are_read_as_spelled.Goals as goal

pub returns-clause-spelled : goal.returns-clause-spelled
returns-clause-spelled c = λ name index cell e. (found_named cell_name (cells_at index) name cell e, found_at _ index cell e)

pub returns-clause-number : goal.returns-clause-number
returns-clause-number c = λ n index cell e. (found_numbered cell_number (cells_at index) n cell e, found_at _ index cell e)
