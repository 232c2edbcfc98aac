-- What a step touches in a world, by number.
use Rattle.std.specs.Prelude.{ℕ, nat_lt, if◌then◌else◌, List, [], ◌∷◌, ◌++◌, length, slice_get}
use Rattle.std.specs.Prelude.{Option, Some, None, option_map, option_and_then}
use Rattle.std.specs.Option.{option_map_or, option_to_list}
use Rattle.nr_rev.specs.declared.descriptor.Descriptor.{Descriptor}
use Rattle.nr_rev.specs.declared.descriptor.DescriptorRow.{DescriptorRow}
use Rattle.nr_rev.specs.declared.descriptor.WaitWord.{WaitWord}
use Rattle.nr_rev.specs.declared.descriptor.WaitWord.TheVariants.{Held}
use Rattle.nr_rev.specs.declared.sides.Side.{Side}
use Rattle.nr_rev.specs.declared.sides.Side.TheVariants.{Read, Write}
use Rattle.nr_rev.specs.declared.status.Status.{Status}
use Rattle.nr_rev.specs.declared.status.Status.TheVariants.{Owing}
use Rattle.nr_rev.specs.declared.step.Step.{Step}
use Rattle.nr_rev.specs.declared.timer.Entry.{Entry}
use Rattle.nr_rev.specs.Semaphore.{front_of}
use Rattle.nr_rev.specs.Sides.{of_side}
use Rattle.nr_rev.specs.Socket.{Socket}
use Rattle.nr_rev.specs.WellFormed.{socket_named}
use Rattle.nr_rev.specs.World.{World, wait_of}

-- What a step touches. The cells of all other goroutines, sockets and descriptors keep their
-- values.
pub record Touched : Type 0 where
  -- the goroutine that makes the step, those that it wakes, or the one that it creates
  pub goroutines : List ℕ
  -- the socket on which the step acts, or that it creates
  pub socket : Option ℕ
  -- the descriptor on which the step acts, or that it opens
  pub descriptor : Option ℕ

-- only goroutines
abbrev pub goroutines_alone : List ℕ → Touched
goroutines_alone gs = record { goroutines = gs; socket = None; descriptor = None }

-- a socket and goroutines
abbrev pub socket_and : Option ℕ → List ℕ → Touched
socket_and s gs = record (goroutines_alone gs) { socket = s }

-- a descriptor and goroutines
abbrev pub descriptor_and : Option ℕ → List ℕ → Touched
descriptor_and d gs = record (goroutines_alone gs) { descriptor = d }

-- the socket whose semaphore goroutine g uses
abbrev pub socket_at : ℕ → World → Option ℕ
socket_at g w = option_and_then socket_named (slice_get w.goroutines g)

-- the descriptor at which goroutine g is inside a wait
abbrev pub descriptor_at : ℕ → World → Option ℕ
descriptor_at g w =
    option_map (λ place. place.0) (option_and_then wait_of (slice_get w.goroutines g))

-- for a goroutine that owes releases: the first goroutine in the queue of the next semaphore, if
-- any
abbrev pub front_for : Status → World → Option ℕ
front_for (Owing s reads writes) w =
    let side : Side = if nat_lt 0 reads then Read else Write in
    option_and_then (λ (socket : Socket). front_of (of_side side socket.semaphores))
    (slice_get w.sockets s)
front_for _ w = None

-- the goroutine that tries again after goroutine g releases a semaphore
abbrev pub released_by : ℕ → World → List ℕ
released_by g w =
    option_to_list (option_and_then (λ status. front_for status w) (slice_get w.goroutines g))

-- the goroutine that a word holds
abbrev pub held_by : WaitWord → List ℕ
held_by (Held g) = g ∷ []
held_by _ = []

-- the goroutines that the words of a descriptor hold
abbrev pub held_of : Descriptor → List ℕ
held_of descriptor = held_by descriptor.words.read ++ held_by descriptor.words.write

-- the goroutines that the words of descriptor d hold
abbrev pub held_at : ℕ → World → List ℕ
held_at d w =
    option_map_or (λ (row : DescriptorRow). held_of row.descriptor) (slice_get w.descriptors d) []

-- the number of the next descriptor to be opened
abbrev pub next_descriptor : World → ℕ
next_descriptor w = option_map_or (λ d. d) (slice_get w.free 0) (length w.descriptors)

-- what a firing touches: the descriptor of its timer, and the goroutines that its words hold
abbrev pub touched_by_firing : Option Entry → World → Touched
touched_by_firing None w = goroutines_alone []
touched_by_firing (Some entry) w =
    descriptor_and (Some entry.descriptor) (held_at entry.descriptor w)

-- what a step touches in a world
abbrev pub touched : World → Step → Touched
touched w Step.Spawn = goroutines_alone (length w.goroutines ∷ [])
touched w (Step.Exit g) = goroutines_alone (g ∷ [])
touched w (Step.SockOpen rc wc) = socket_and (Some (length w.sockets)) []
touched w (Step.Arrive s bytes) = socket_and (Some s) []
touched w (Step.PeerClose s) = socket_and (Some s) []
touched w (Step.SysRead g s n) = socket_and (Some s) (g ∷ [])
touched w (Step.SysWrite g s bytes) = socket_and (Some s) (g ∷ [])
touched w (Step.Drain s n) = socket_and (Some s) []
touched w (Step.Incref g s) = socket_and (Some s) (g ∷ [])
touched w (Step.IncrefClose g s) = socket_and (Some s) (g ∷ [])
touched w (Step.Decref g s) = socket_and (Some s) (g ∷ [])
touched w (Step.RwLock g s side) = socket_and (Some s) (g ∷ [])
touched w (Step.RwUnlock g s side) = socket_and (Some s) (g ∷ [])
touched w (Step.Acquire g) = socket_and (socket_at g w) (g ∷ [])
touched w (Step.Release g) = socket_and (socket_at g w) (g ∷ released_by g w)
touched w (Step.PollOpen g s) = descriptor_and (Some (next_descriptor w)) (g ∷ [])
touched w (Step.PollClose g d) = descriptor_and (Some d) (g ∷ [])
touched w (Step.PollReset g d side) = descriptor_and (Some d) (g ∷ [])
touched w (Step.WaitBegin g d side) = descriptor_and (Some d) (g ∷ [])
touched w (Step.BlockArm g) = descriptor_and (descriptor_at g w) (g ∷ [])
touched w (Step.BlockCheck g) = descriptor_and (descriptor_at g w) (g ∷ [])
touched w (Step.ParkCommit g) = descriptor_and (descriptor_at g w) (g ∷ [])
touched w (Step.BlockSwap g) = descriptor_and (descriptor_at g w) (g ∷ [])
touched w (Step.WaitCheck g) = descriptor_and (descriptor_at g w) (g ∷ [])
touched w (Step.SetDeadline g d mode t) = descriptor_and (Some d) (g ∷ held_at d w)
touched w (Step.Evict g d) = descriptor_and (Some d) (g ∷ held_at d w)
touched w (Step.PollEvent d tag mode error) = descriptor_and (Some d) (held_at d w)
touched w (Step.Tick t) = goroutines_alone []
touched w Step.Pop = goroutines_alone []
touched w (Step.Fire i) = touched_by_firing (slice_get w.firings i) w
touched w (Step.CloseWrite g s) = socket_and (Some s) (g ∷ [])
