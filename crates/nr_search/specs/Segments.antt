-- The segments of a film, which lie between neighbouring copies, and from the last copy to the end.
-- Their numbers begin at 0.
use Rattle.std.specs.Prelude.{ℕ, ◌+◌, ◌*◌, max, min}

-- A search visits each position p with `after` < p ≤ `last`. Those with `from_of` < p ≤ `to_of` are
-- in segment s.
abbrev pub from_of : ℕ → ℕ → ℕ → ℕ
from_of after every s = max after (s * every)

-- the last position of a segment, which is at the next copy or at `last`
abbrev pub to_of : ℕ → ℕ → ℕ → ℕ
to_of last every s = min last ((s + 1) * every)
