-- Queries about the world.
use Rattle.std.specs.Prelude.{Bool, true, false}
use Rattle.nr_command.specs.declared.command.Query.{Query}
use Rattle.nr_command.specs.declared.command.Query.TheVariants as queries

-- true if the query is about the world, and false if it is about the debugger itself
abbrev pub is_at_world : Query → Bool
is_at_world (queries.Print c) = true
is_at_world (queries.DumpBytes side s) = true
is_at_world (queries.DumpQueue side s) = true
is_at_world queries.Position = false
is_at_world queries.Breakpoints = false
is_at_world queries.Checkpoints = false
