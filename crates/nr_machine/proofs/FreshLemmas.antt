-- The parts of the packed world before the first step fit together.
use Rattle.std.proofs.Common.{◌≡◌, ℕ, List, ◌<◌, replicate, Some, refl, sym, ap, subst, ◌∙◌, arith}
use Rattle.std.proofs.lemmas.List.{get_or-replicate, length-replicate}
use Rattle.std.proofs.lemmas.Option.{get_or_from_slice_get, slice_get_within}
use Rattle.std.specs.Prelude.{slice_get}
use Rattle.nr_rev.specs.declared.limits.Limits.{Limits}
use Rattle.nr_rev.specs.Limits.{AreInRange}
use Rattle.nr_rev.specs.Semaphore.{new_semaphore}
use Rattle.nr_rev.specs.Sides.{twice}
use Rattle.nr_laws.proofs.EmptyWorldLemmas.{empty_world_fits}
use Rattle.nr_gsema.specs.Applying.{IsQueuedUp}
use Rattle.nr_sockbuf.specs.Sock.{SockParts, never_opened}
use Rattle.nr_timers.specs.State.{IsTimers}
use Rattle.nr_machine.specs.declared.world_core.Core.{Core}
use Rattle.nr_machine.specs.Fits.{CoreFits, IsWorld, PartsFit, SockFits}
use Rattle.nr_machine.specs.Fresh.{empty_core, empty_parts}

-- ---- the core

empty_fits : (limits : Limits) → AreInRange limits → IsQueuedUp (empty_core limits).goroutines → IsTimers (empty_core limits).timers → CoreFits (empty_core limits)
empty_fits limits range queued timers =
    record {
      in_range = range;
      queued = queued;
      goroutines = refl;
      semaphores = length-replicate limits.sockets (twice new_semaphore);
      locks = λ s lock at. absurd cc;
      locks_room = refl;
      descriptors = λ d x at. absurd cc;
      descriptors_room = refl;
      free_room = refl;
      timers = timers;
      timers_room = refl;
    }

-- a core equal to the empty one fits if its queues and its timers are well formed
pub fresh_fits : (limits : Limits) (core : Core) → core ≡ empty_core limits → AreInRange limits → IsQueuedUp core.goroutines → IsTimers core.timers → CoreFits core
fresh_fits limits core is range queued timers =
    subst CoreFits (sym is)
    (empty_fits limits range (subst (λ (c : Core). IsQueuedUp c.goroutines) is queued) (subst (λ (c : Core). IsTimers c.timers) is timers))

-- ---- the whole

same_each : {A : Type 0} (n i : ℕ) (a x : A) → slice_get (replicate n a) i ≡ Some x → x ≡ a
same_each n i a x at =
    let within : i < n = let some = slice_get_within (replicate n a) i x at in let size = length-replicate n a in omega arith in
    sym (get_or_from_slice_get (replicate n a) i x a at) ∙ get_or-replicate n i a a within

empty_sock : (limits : Limits) (s : ℕ) (sock : SockParts) → slice_get (empty_parts limits).socks s ≡ Some sock → SockFits (empty_core limits) s sock
empty_sock limits s sock at =
    let is : sock ≡ never_opened limits.buffer = same_each limits.sockets s (never_opened limits.buffer) sock at in
    record {
      limit = ap (λ (x : SockParts). x.limit) is;
      opened = λ below. absurd (omega arith);
      closed = λ past. ap (λ (x : SockParts). x.opened) is;
    }

-- the parts of the empty world fit if its core does
empty_parts_fit : (limits : Limits) → CoreFits (empty_core limits) → PartsFit (empty_parts limits)
empty_parts_fit limits core =
    record {
      core = core;
      socks_made = length-replicate limits.sockets (never_opened limits.buffer);
      socks = empty_sock limits;
      unopened = λ s both at past. same_each limits.sockets s (twice new_semaphore) both at;
      unarmed = λ d past. refl;
    }

-- a core and buffers equal to those of the empty world are a packed world
pub empty_is_world : (limits : Limits) (core : Core) (socks : List SockParts) → core ≡ empty_core limits → CoreFits core
    → socks ≡ replicate limits.sockets (never_opened limits.buffer) → IsWorld (record { core = core; socks = socks })
empty_is_world limits core socks is fits closed =
    let empty : CoreFits (empty_core limits) = subst CoreFits is fits in
    subst (λ (c : Core). IsWorld (record { core = c; socks = socks })) (sym is)
    (subst (λ (xs : List SockParts). IsWorld (record { core = empty_core limits; socks = xs })) (sym closed)
    (record {
      meaning = empty_world_fits limits empty.in_range.goroutines;
      parts = empty_parts_fit limits empty;
    }))
