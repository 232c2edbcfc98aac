-- Helper definitions for `Version`. The laws in THEOREM.md don't use them.
use Rattle.std.specs.Prelude.{ℕ, Bool, true, false, Option, Some, None}
use Rattle.nr_rev.specs.declared.answer.Answer.{Answer}
use Rattle.nr_recording.specs.declared.version.Version.{Version}
use Rattle.nr_recording.specs.declared.version.Version.TheVariants.{One, Two}

-- the number in the header
abbrev pub version_number : Version → ℕ
version_number One = 1
version_number Two = 2

-- the number of answers for this many steps: one for each in version 2, none in version 1
abbrev pub answer_count : Version → ℕ → ℕ
answer_count One steps = 0
answer_count Two steps = steps

-- true if a step of the version may have this answer: none in version 1, some answer in version 2
abbrev pub may_have : Version → Option Answer → Bool
may_have One None = true
may_have One (Some answer) = false
may_have Two None = false
may_have Two (Some answer) = true
