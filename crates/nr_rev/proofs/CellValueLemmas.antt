-- Cell values that compare as equal are the same.
use Rattle.std.proofs.Common.{◌≡◌, true, rules}
use Rattle.nr_rev.specs.declared.cell_value.CellValue.{CellValue}
use Rattle.nr_rev.specs.Cell.{same_value}

pub same_value-equal : (a b : CellValue) → same_value a b ≡ true → a ≡ b
same_value-equal a b is = search rules

pub same_value-self : (a : CellValue) → same_value a a ≡ true
same_value-self a = search rules
