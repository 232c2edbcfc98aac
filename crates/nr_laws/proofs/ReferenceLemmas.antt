-- In a well-formed world, statuses, entries and firings name only descriptors and sockets that exist.
use Rattle.std.proofs.Common.{◌≡◌, ℕ, Some, ap, ◌∙◌, get_or}
use Rattle.std.specs.Prelude.{slice_get}
use Rattle.nr_rev.specs.declared.sides.Side.{Side}
use Rattle.nr_rev.specs.declared.descriptor.DescriptorRow.{DescriptorRow}
use Rattle.nr_rev.specs.World.{World}
use Rattle.nr_rev.specs.Socket.{Socket}
use Rattle.nr_rev.specs.WellFormed.{WellFormed, IsInside, HasView, socket_named}
use Rattle.nr_rev.specs.declared.timer.Entry.{Entry}
use Rattle.std.proofs.lemmas.Option.{slice_get-get_or}
use Rattle.nr_rev.specs.Socket.{new_socket}
use Rattle.nr_rev.specs.Step.{new_row}
use Rattle.nr_rev.specs.WellFormed.{TimerPlace, ArmedAt, FiringAt, timer_at}
use Rattle.nr_laws.proofs.TimersFitChangeLemmas.{armed_names}

pub place_made : (w : World) (g d : ℕ) (side : Side) → WellFormed w → IsInside w.goroutines g d side → (row : DescriptorRow) × (slice_get w.descriptors d ≡ Some row)
place_made w g d side h inside = (get_or w.descriptors d new_row, slice_get-get_or w.descriptors d new_row (h.goroutines.inside_open g d side inside).0)

pub socket_made : (w : World) (g s : ℕ) → WellFormed w → HasView socket_named w.goroutines g s → (socket : Socket) × (slice_get w.sockets s ≡ Some socket)
socket_made w g s h named = (get_or w.sockets s (new_socket 0 0), slice_get-get_or w.sockets s (new_socket 0 0) (h.goroutines.sockets_named g s named))

pub entry_made : (w : World) (p : TimerPlace) (e : Entry) → WellFormed w → timer_at w.descriptors w.firings p ≡ Some e → (row : DescriptorRow) × (slice_get w.descriptors e.descriptor ≡ Some row)
entry_made w (ArmedAt k side) e h is = let a = armed_names w.descriptors w.firings k side e is in (a.0, ap (slice_get w.descriptors) a.3 ∙ a.1)
entry_made w (FiringAt i) e h is = let f = h.timers.firings_fit i e is in (f.0, f.1)
