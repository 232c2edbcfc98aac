-- The text of a reply, and the line `quit`.
use Rattle.std.specs.Prelude.{ℕ, Bool, true, false, List, [], Option, Some, None, Result, Ok}
use Rattle.nr_command.specs.Reply.{text_of}
use Rattle.nr_command.specs.declared.command.Line.{Line}
use Rattle.nr_command.specs.declared.command.Line.TheVariants.{Quit}
use Rattle.nr_command.specs.declared.command.LineFault.{LineFault}
use Rattle.nr_command.specs.declared.reply.Reply.{Reply}

-- The text of a reply, or the empty text if there is no reply.
abbrev pub text_or_none : Option Reply → List ℕ
text_or_none None = []
text_or_none (Some reply) = text_of reply

-- true if the line is `quit`
abbrev pub is_quit : Result Line LineFault → Bool
is_quit (Ok Quit) = true
is_quit asked = false
