-- The parameters of a shared session.
use Rattle.std.specs.Prelude.{◌+◌, ◌-◌, ◌&&◌, not, nat_lt, Bool}
use Rattle.nr_programs.specs.declared.sharing.TheConstants.{MOST_FRONTS, MOST_JOURNAL, MOST_PORT, MOST_WORKERS}
use Rattle.nr_programs.specs.declared.sharing.Sharing.{Sharing}

-- true if each number is in its range, and so is the port of every front
abbrev pub is_in_range : Sharing → Bool
is_in_range s =
    not (nat_lt s.port 1) && not (nat_lt s.fronts 1) && not (nat_lt MOST_FRONTS s.fronts)
    && not (nat_lt MOST_PORT s.port) && not (nat_lt MOST_PORT (s.port + s.fronts - 1))
    && not (nat_lt s.workers 1) && not (nat_lt MOST_WORKERS s.workers)
    && not (nat_lt s.journal 1) && not (nat_lt MOST_JOURNAL s.journal)
