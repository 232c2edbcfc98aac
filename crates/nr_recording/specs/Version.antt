-- The versions of the format, their numbers, and what each allows.
use Rattle.std.specs.Prelude.{ℕ, ◌==◌, List, Bool, true, false, Option, Some, None, option_and_then, if◌then◌else◌}
use Rattle.nr_rev.specs.Kind.{kind_named}
use Rattle.nr_rev.specs.declared.kind.Kind.{Kind}
use Rattle.nr_rev.specs.declared.limits.TheConstants.{MOST_BUFFER}
use Rattle.nr_recording.specs.declared.version.TheConstants.{MOST_BUFFER_IN_ONE}
use Rattle.nr_recording.specs.declared.version.Version.{Version}
use Rattle.nr_recording.specs.declared.version.Version.TheVariants.{One, Two}

-- the version with this number
abbrev pub version_numbered : ℕ → Option Version
version_numbered n = if n == 1 then Some One else (if n == 2 then Some Two else None)

-- the maximum `buf` in a version
abbrev pub most_buffer : Version → ℕ
most_buffer One = MOST_BUFFER_IN_ONE
most_buffer Two = MOST_BUFFER

-- true if the version has steps of this kind; version 1 has no step that shuts a write side
abbrev pub has_kind : Version → Kind → Bool
has_kind One Kind.CloseWrite = false
has_kind _ _ = true

-- the kind, if the version has steps of this kind
abbrev pub kept_kind : Version → Kind → Option Kind
kept_kind version kind = if has_kind version kind then Some kind else None

-- the kind with this name, if the version has it
unfoldable pub kind_in : Version → List ℕ → Option Kind
kind_in version name = option_and_then (kept_kind version) (kind_named name)
