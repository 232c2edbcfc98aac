-- Helper definitions for `Desc`. The laws in THEOREM.md don't use them.
use Rattle.std.specs.Prelude.{ℕ}
use Rattle.nr_rev.specs.declared.descriptor.Descriptor.{Descriptor}
use Rattle.nr_desc.specs.Marks.{marks_number}

-- the byte with the descriptor's marks
abbrev pub marks_number_of : Descriptor → ℕ
marks_number_of d =
    marks_number (record { closing = d.closing; event_error = d.event_error; running = d.running })
