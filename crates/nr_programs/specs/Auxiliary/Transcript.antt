-- Helper definitions for `Transcript`. The laws in THEOREM.md don't use them.
use Rattle.std.specs.Prelude.{ℕ, true, List, []}
use Rattle.nr_programs.specs.Transcript.{transcript_by}

-- The transcript for a recording's bytes and for commands, if there is enough memory and journal
-- room.
abbrev pub transcript : List ℕ → List ℕ → List ℕ
transcript recording commands = transcript_by recording true commands []
