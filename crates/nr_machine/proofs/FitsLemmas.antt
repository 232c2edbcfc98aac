-- The parts still fit after changes to the core.
use Rattle.std.proofs.Common.{◌≡◌, ◌≢◌, ℕ, ◌<◌, ◌≤◌, List, length, Some, None, ℤ, refl, sym, ap, subst, ◌∙◌, length-set, arith}
use Rattle.std.specs.Prelude.{slice_get}
use Rattle.nr_rev.specs.declared.descriptor.Descriptor.{Descriptor}
use Rattle.nr_rev.specs.declared.lock.Lock.{Lock}
use Rattle.nr_rev.specs.declared.sides.Sides.{Sides}
use Rattle.nr_rev.specs.declared.status.Status.{Status}
use Rattle.nr_rev.specs.RoomedList.{Roomed}
use Rattle.nr_rev.specs.Semaphore.{Semaphore}
use Rattle.nr_rev.specs.Sides.{twice}
use Rattle.nr_rev.specs.WellFormed.{LockFits}
use Rattle.nr_rev.proofs.ListUpdateLemmas.{slice_get-set_all}
use Rattle.nr_desc.specs.Desc.{DescFits}
use Rattle.nr_gsema.specs.Applying.{IsQueuedUp}
use Rattle.nr_gsema.specs.Table.{GoroutineTable}
use Rattle.nr_timers.specs.State.{IsTimers, State}
use Rattle.nr_timers.specs.TimersOf.{timers_of}
use Rattle.nr_machine.specs.declared.world_core.Core.{Core}
use Rattle.nr_machine.specs.Auxiliary.Changing.{with_descriptor, with_lock, with_status}
use Rattle.nr_machine.specs.Fits.{CoreFits, PartsFit}
use Rattle.nr_machine.specs.World.{WorldParts}

-- True if both cores have the same limits, number of locks and unused semaphores. Also, if each
-- armed timer of the core `old` belongs to a descriptor, each armed timer of the core `new` does
-- too.
pub record IsTiedAs (old new : Core) : Type 0 where
  pub limits : new.limits ≡ old.limits
  pub locks : length new.locks.items ≡ length old.locks.items
  pub semaphores : (s : ℕ) (both : Sides Semaphore) → length old.locks.items ≤ s → slice_get new.goroutines.semaphores s ≡ Some both
      → slice_get old.goroutines.semaphores s ≡ Some both
  pub unarmed : ((d : ℕ) → length old.descriptors.items ≤ d → timers_of old.timers.entries d ≡ twice None)
      → (d : ℕ) → length new.descriptors.items ≤ d → timers_of new.timers.entries d ≡ twice None

-- the parts still fit together with a new core if `CoreFits` holds for the new core and `IsTiedAs`
-- holds for the old and the new core
pub retied : (m : WorldParts) (core : Core) → PartsFit m → CoreFits core → IsTiedAs m.core core → PartsFit (record m { core = core })
retied m core h fits tied =
    record {
      core = fits;
      socks_made = h.socks_made ∙ ap (λ limits. limits.sockets) (sym tied.limits);
      socks = λ s sock at.
          let was = h.socks s sock at in
          record {
            limit = was.limit ∙ ap (λ limits. limits.buffer) (sym tied.limits);
            opened = λ below. was.opened (subst (λ (n : ℕ). s < n) tied.locks below);
            closed = λ past. was.closed (subst (λ (n : ℕ). n ≤ s) tied.locks past);
          };
      unopened = λ s both at past.
          let from = subst (λ (n : ℕ). n ≤ s) tied.locks past in
          h.unopened s both (tied.semaphores s both from at) from;
      unarmed = tied.unarmed h.unarmed;
    }

-- `CoreFits` still holds after a change to the goroutine table, free list, clock and number of
-- waiters, if the new table is well formed and the capacities stay the same
pub counted_fits : (core : Core) (table : GoroutineTable) (free : Roomed ℕ) (clock : ℤ) (waiters : ℕ) → CoreFits core → IsQueuedUp table → table.limit ≡ core.goroutines.limit
    → length table.semaphores ≡ length core.goroutines.semaphores → free.room ≡ core.free.room
    → CoreFits (record core { goroutines = table; free = free; clock = clock; waiters = waiters })
counted_fits core table free clock waiters h queued limit many room =
    record {
      in_range = h.in_range;
      queued = queued;
      goroutines = limit ∙ h.goroutines;
      semaphores = many ∙ h.semaphores;
      locks = h.locks;
      locks_room = h.locks_room;
      descriptors = h.descriptors;
      descriptors_room = h.descriptors_room;
      free_room = room ∙ h.free_room;
      timers = h.timers;
      timers_room = h.timers_room;
    }

-- `CoreFits` still holds after a change to the locks, if `LockFits` holds for each of them
pub locks_fit : (core : Core) (items : List Lock) → CoreFits core → ((s : ℕ) (lock : Lock) → slice_get items s ≡ Some lock → LockFits lock)
    → CoreFits (record core { locks = record core.locks { items = items } })
locks_fit core items h fit =
    record {
      in_range = h.in_range;
      queued = h.queued;
      goroutines = h.goroutines;
      semaphores = h.semaphores;
      locks = fit;
      locks_room = h.locks_room;
      descriptors = h.descriptors;
      descriptors_room = h.descriptors_room;
      free_room = h.free_room;
      timers = h.timers;
      timers_room = h.timers_room;
    }

-- `CoreFits` still holds after a change to the descriptors, if `DescFits` holds for each of them
pub descriptors_fit : (core : Core) (items : List Descriptor) → CoreFits core → ((d : ℕ) (x : Descriptor) → slice_get items d ≡ Some x → DescFits x)
    → CoreFits (record core { descriptors = record core.descriptors { items = items } })
descriptors_fit core items h fit =
    record {
      in_range = h.in_range;
      queued = h.queued;
      goroutines = h.goroutines;
      semaphores = h.semaphores;
      locks = h.locks;
      locks_room = h.locks_room;
      descriptors = fit;
      descriptors_room = h.descriptors_room;
      free_room = h.free_room;
      timers = h.timers;
      timers_room = h.timers_room;
    }

-- a goroutine's status changes
pub status_fits : (core : Core) (g : ℕ) (status : Status) → CoreFits core → IsQueuedUp (with_status g status core).goroutines → CoreFits (with_status g status core)
status_fits core g status h queued = counted_fits core (with_status g status core).goroutines core.free core.clock core.waiters h queued refl refl refl

pub status_tied : (core : Core) (g : ℕ) (status : Status) → IsTiedAs core (with_status g status core)
status_tied core g status = record { limits = refl; locks = refl; semaphores = λ s both past at. at; unarmed = λ h d past. h d past }

-- a lock changes
pub lock_fits : (core : Core) (s : ℕ) (before after : Lock) → CoreFits core → slice_get core.locks.items s ≡ Some before → LockFits after → CoreFits (with_lock s after core)
lock_fits core s before after h there fits =
    locks_fit core (with_lock s after core).locks.items h (slice_get-set_all LockFits core.locks.items s before after there fits h.locks)

pub lock_tied : (core : Core) (s : ℕ) (lock : Lock) → IsTiedAs core (with_lock s lock core)
lock_tied core s lock =
    record { limits = refl; locks = length-set core.locks.items s lock; semaphores = λ s both past at. at; unarmed = λ h d past. h d past }

-- a descriptor changes
pub descriptor_fits : (core : Core) (d : ℕ) (before after : Descriptor) → CoreFits core → slice_get core.descriptors.items d ≡ Some before → DescFits after
    → CoreFits (with_descriptor d after core)
descriptor_fits core d before after h there fits =
    descriptors_fit core (with_descriptor d after core).descriptors.items h (slice_get-set_all DescFits core.descriptors.items d before after there fits h.descriptors)

pub descriptor_tied : (core : Core) (d : ℕ) (x : Descriptor) → IsTiedAs core (with_descriptor d x core)
descriptor_tied core d x =
    record {
      limits = refl;
      locks = refl;
      semaphores = λ s both past at. at;
      unarmed = λ h k past. h k (subst (λ (n : ℕ). n ≤ k) (length-set core.descriptors.items d x) past);
    }

-- `CoreFits` still holds after a change to the timers, if the new timers are well formed and have
-- the same capacity
pub timed_fits : (core : Core) (t : State) → CoreFits core → IsTimers t → t.descriptors ≡ core.timers.descriptors → CoreFits (record core { timers = t })
timed_fits core t h fits room =
    record {
      in_range = h.in_range;
      queued = h.queued;
      goroutines = h.goroutines;
      semaphores = h.semaphores;
      locks = h.locks;
      locks_room = h.locks_room;
      descriptors = h.descriptors;
      descriptors_room = h.descriptors_room;
      free_room = h.free_room;
      timers = fits;
      timers_room = room ∙ h.timers_room;
    }

pub timed_tied : (core : Core) (t : State) (d : ℕ) → d < length core.descriptors.items → ((k : ℕ) → k ≢ d → timers_of t.entries k ≡ timers_of core.timers.entries k)
    → IsTiedAs core (record core { timers = t })
timed_tied core t d within others =
    record {
      limits = refl;
      locks = refl;
      semaphores = λ s both past at. at;
      unarmed = λ all k past. others k (λ same. omega (arith, within, past, same)) ∙ all k past;
    }

-- being tied is transitive
pub tied_then : (a b c : Core) → IsTiedAs a b → IsTiedAs b c → IsTiedAs a c
tied_then a b c p q =
    record {
      limits = q.limits ∙ p.limits;
      locks = q.locks ∙ p.locks;
      semaphores = λ s both past at. p.semaphores s both past (q.semaphores s both (subst (λ (n : ℕ). n ≤ s) (sym p.locks) past) at);
      unarmed = λ h. q.unarmed (p.unarmed h);
    }
