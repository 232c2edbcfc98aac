-- The version and the limits in the JSON value of the header line.
use Rattle.std.specs.Prelude.{ℕ, suc, ◌==◌, List, option_map, Option, option_and_then, Result, Ok, Err, if◌then◌else◌, codes}
use Rattle.serde_json.specs.Data.{Data, Members, no_members, member}
use Rattle.serde_json.specs.Find.{get, as_number, as_u64, as_object}
use Rattle.nr_rev.specs.declared.limits.Limits.{Limits}
use Rattle.nr_recording.specs.declared.fault.Fault.{Fault}
use Rattle.nr_recording.specs.declared.fault.Fault.TheVariants as fault
use Rattle.nr_recording.specs.declared.version.Version.{Version}
use Rattle.nr_recording.specs.Faults.{◌>>=◌, or_fault}
use Rattle.nr_recording.specs.Version.{version_numbered, most_buffer}
use Rattle.nr_rev.specs.Limits.{is_limit}
use Rattle.nr_rev.specs.declared.limits.TheConstants.{MOST_GOROUTINES, MOST_SOCKETS, MOST_DESCRIPTORS}

-- the unsigned number at a key of an object
abbrev pub unsigned_at : List ℕ → Data → Result ℕ Fault
unsigned_at key d =
    or_fault fault.Header (option_and_then as_u64 (option_and_then as_number (get key d)))

-- the number of members
abbrev pub members_len : Members → ℕ
members_len no_members = 0
members_len (member k d ms) = suc (members_len ms)

-- the number of members of an object
abbrev pub member_count : Data → Option ℕ
member_count d = option_map members_len (as_object d)

-- the version whose number the object names
abbrev pub version_of : Data → Result Version Fault
version_of d = do
  number ← unsigned_at (codes "netrev") d
  or_fault fault.Header (version_numbered number)

-- the limit, if it is from 1 to its maximum
abbrev pub limit_of : ℕ → ℕ → Result ℕ Fault
limit_of most n = if is_limit most n then Ok n else Err fault.Limit

-- the four limits
unfoldable pub limits_of : Version → ℕ → ℕ → ℕ → ℕ → Result Limits Fault
limits_of version gor sock desc buf = do
  goroutines ← limit_of MOST_GOROUTINES gor
  sockets ← limit_of MOST_SOCKETS sock
  descriptors ← limit_of MOST_DESCRIPTORS desc
  buffer ← limit_of (most_buffer version) buf
  Ok (record {
    goroutines = goroutines;
    sockets = sockets;
    descriptors = descriptors;
    buffer = buffer;
  })

-- the limits in an object of this version with exactly the five keys; the form is checked before
-- the ranges
unfoldable pub header_of : Version → Data → Result Limits Fault
header_of version d = do
  count ← or_fault fault.Header (member_count d)
  gor ← unsigned_at (codes "gor") d
  sock ← unsigned_at (codes "sock") d
  desc ← unsigned_at (codes "desc") d
  buf ← unsigned_at (codes "buf") d
  if count == 5 then limits_of version gor sock desc buf else Err fault.Header
