-- Helper definitions for `Descriptor`. The laws in THEOREM.md don't use them.
use Rattle.std.specs.Prelude.{Result, Ok}
use Rattle.nr_rev.specs.declared.sides.Side.TheVariants.{Read, Write}
use Rattle.nr_rev.specs.declared.refusal.Refusal.{Refusal}
use Rattle.nr_rev.specs.Refusing.{◌>>=◌}
use Rattle.nr_rev.specs.declared.descriptor.Descriptor.{Descriptor}
use Rattle.nr_rev.specs.Descriptor.{Change, and_then, timer_follows}

-- adjusts both sides' timers, the read side's first, to the deadlines of d; `old` is the descriptor
-- before they were set
abbrev pub both_follow : Descriptor → Descriptor → Result Change Refusal
both_follow old d = do
  read ← timer_follows Read old d
  write ← timer_follows Write old read.descriptor
  Ok (and_then read (λ _. write))
