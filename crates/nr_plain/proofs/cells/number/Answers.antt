use Rattle.std.proofs.Common.{arith, rules}
use Rattle.nr_plain.proofs.LockLemmas.{read_waiters_small, write_waiters_small}
use Rattle.nr_plain.proofs.cells.number.Goals as goal

pub overflow_mul-result-5 : goal.overflow_mul-result-5
overflow_mul-result-5 c = omega (arith, c.from-3.ensures, write_waiters_small c.args.lock c.requires)

pub overflow_add-result-5 : goal.overflow_add-result-5
overflow_add-result-5 c = omega (
  arith,
  c.bit.ensures.small,
  c.bit-2.ensures.small,
  c.bit-3.ensures.small,
  c.from.ensures,
  c.from-2.ensures,
  c.from-3.ensures,
  c.requires.references,
  read_waiters_small c.args.lock c.requires,
  write_waiters_small c.args.lock c.requires,
)

pub returns : goal.returns
returns c = search rules
