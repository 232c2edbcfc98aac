-- Helper definitions for `Kind`. The laws in THEOREM.md don't use them.
use Rattle.std.specs.Prelude.{ℕ, ◌==◌, List, filter, length}
use Rattle.nr_rev.specs.declared.kind.Kind.{Kind}
use Rattle.nr_rev.specs.Kind.{kind_name, kinds}

-- the kinds whose names have this length
abbrev pub kinds_of_length : ℕ → List Kind
kinds_of_length n = filter (λ kind. length (kind_name kind) == n) kinds
