-- The ranges of a recording's limits.
use Rattle.std.specs.Prelude.{ℕ, ◌<◌, ◌≤◌, Bool, ◌&&◌, nat_lt, nat_le}
use Rattle.nr_rev.specs.declared.limits.TheConstants.{MOST_GOROUTINES, MOST_SOCKETS, MOST_DESCRIPTORS, MOST_BUFFER}
use Rattle.nr_rev.specs.declared.limits.Limits.{Limits}

-- true if a limit is from 1 to `most`
abbrev pub is_limit : ℕ → ℕ → Bool
is_limit most n = nat_lt 0 n && nat_le n most

-- each limit is in its range, as a proposition
pub record AreInRange (l : Limits) : Type 0 where
  pub goroutines : 0 < l.goroutines
  pub goroutines_most : l.goroutines ≤ MOST_GOROUTINES
  pub sockets : 0 < l.sockets
  pub sockets_most : l.sockets ≤ MOST_SOCKETS
  pub descriptors : 0 < l.descriptors
  pub descriptors_most : l.descriptors ≤ MOST_DESCRIPTORS
  pub buffer : 0 < l.buffer
  pub buffer_most : l.buffer ≤ MOST_BUFFER
