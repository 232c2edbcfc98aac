use Rattle.std.proofs.Common.{◌≡◌, length}
use Rattle.nr_search.proofs.QuietLemmas.{AreChangingBelow}
use Rattle.nr_search.proofs.quiet.changing_kinds.Given as goal

-- the table is right about the kinds with numbers below `number`
abbrev pub invariant-loop-number : goal.invariant-loop-number
invariant-loop-number l = record { sized : length l.changing ≡ 32; known : AreChangingBelow l.marks l.number l.changing }
