-- Helper definitions for `Limits`. The laws in THEOREM.md don't use them.
use Rattle.std.specs.Prelude.{Bool, ◌&&◌}
use Rattle.nr_rev.specs.declared.limits.TheConstants.{MOST_GOROUTINES, MOST_SOCKETS, MOST_DESCRIPTORS, MOST_BUFFER}
use Rattle.nr_rev.specs.declared.limits.Limits.{Limits}
use Rattle.nr_rev.specs.Limits.{is_limit}

-- true if each limit is in its range
abbrev pub are_in_range : Limits → Bool
are_in_range l =
    is_limit MOST_GOROUTINES l.goroutines && is_limit MOST_SOCKETS l.sockets
    && is_limit MOST_DESCRIPTORS l.descriptors
    && is_limit MOST_BUFFER l.buffer
