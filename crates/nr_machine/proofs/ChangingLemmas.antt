-- Operations on the core that change nothing.
use Rattle.std.proofs.Common.{◌≡◌, ℕ, List, Some, None, refl, sym, ap, ◌∙◌, lit≤}
use Rattle.std.proofs.lemmas.List.{set-set}
use Rattle.std.specs.Prelude.{slice_get}
use Rattle.nr_rev.specs.declared.descriptor.Descriptor.{Descriptor}
use Rattle.nr_rev.specs.declared.lock.Lock.{Lock}
use Rattle.nr_rev.specs.declared.status.Status.{Status}
use Rattle.nr_machine.specs.declared.world_core.Core.{Core}
use Rattle.nr_machine.specs.Auxiliary.Changing.{CanMove, MovesOn, with_descriptor, with_lock, with_status}
use Rattle.nr_machine.proofs.ListLemmas.{set_nowhere, set_same}

-- overwriting a status with the same status changes nothing
pub status_same : (core : Core) (g : ℕ) (status : Status) → slice_get core.goroutines.goroutines g ≡ Some status → with_status g status core ≡ core
status_same core g status at =
    ap (λ (xs : List Status). record core { goroutines = record core.goroutines { goroutines = xs } }) (set_same core.goroutines.goroutines g status at)

-- moving a goroutine to its current status changes nothing
pub stays : (core : Core) (g : ℕ) (from to : Status) → CanMove core g from to → from ≡ to → MovesOn core g to None core
stays core g from to can same =
    record {
      rest = sym (rw (← same) (status_same core g from can.there));
      queued = can.queued;
      back = refl;
      light = lit≤ tt;
    }

-- writing a lock that doesn't exist changes nothing
pub lock_nowhere : (core : Core) (s : ℕ) (lock : Lock) → slice_get core.locks.items s ≡ None → core ≡ with_lock s lock core
lock_nowhere core s lock at =
    ap (λ (xs : List Lock). record core { locks = record core.locks { items = xs } }) (sym (set_nowhere core.locks.items s lock at))

-- writing a descriptor that doesn't exist changes nothing
pub descriptor_nowhere : (core : Core) (d : ℕ) (x : Descriptor) → slice_get core.descriptors.items d ≡ None → core ≡ with_descriptor d x core
descriptor_nowhere core d x at =
    ap (λ (xs : List Descriptor). record core { descriptors = record core.descriptors { items = xs } }) (sym (set_nowhere core.descriptors.items d x at))

-- restoring a changed descriptor undoes the change
pub described_back : (core new : Core) (d : ℕ) (x before : Descriptor) → slice_get core.descriptors.items d ≡ Some before → new ≡ with_descriptor d x core
    → core ≡ with_descriptor d before new
described_back core new d x before at is =
    sym (ap (with_descriptor d before) is
    ∙ ap (λ (xs : List Descriptor). record core { descriptors = record core.descriptors { items = xs } })
    (set-set core.descriptors.items d x before ∙ set_same core.descriptors.items d before at))
