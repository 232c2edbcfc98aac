-- The aspect of a world that a cell shows, and the aspects that a kind of step may change.
use Rattle.std.specs.Prelude.{Bool, List, [], ◌∷◌}
use Rattle.std.specs.List.{list_any}
use Rattle.nr_rev.specs.declared.cell.Cell.{Cell}
use Rattle.nr_rev.specs.declared.kind.Kind.{Kind}
use Rattle.nr_rev.specs.declared.aspect.Aspect.{Aspect}
use Rattle.nr_rev.specs.declared.aspect.Aspect.TheVariants.{Clock, Waiters, Timers, Firings, Goroutines, Locks, Semaphores, Inputs, Outputs, ShutMarks, WaitWords, Deadlines, Sequences, Tags, Summaries}
use Rattle.nr_rev.specs.contracts.aspect.AspectPartialEq.TheImpl as aspect_eq

-- `==` of two aspects
abbrev pub same_aspect : Aspect → Aspect → Bool
same_aspect = (aspect_eq.ghosts).eq

-- the aspect that a cell shows
abbrev pub aspect_of : Cell → Aspect
aspect_of Cell.Clock = Clock
aspect_of Cell.Waiters = Waiters
aspect_of Cell.Timers = Timers
aspect_of Cell.Firings = Firings
aspect_of Cell.Least = Timers
aspect_of (Cell.Goroutine g) = Goroutines
aspect_of (Cell.Lock s) = Locks
aspect_of (Cell.ReadSemaphore s) = Semaphores
aspect_of (Cell.WriteSemaphore s) = Semaphores
aspect_of (Cell.Input s) = Inputs
aspect_of (Cell.Output s) = Outputs
aspect_of (Cell.ReadWord d) = WaitWords
aspect_of (Cell.WriteWord d) = WaitWords
aspect_of (Cell.ReadDeadline d) = Deadlines
aspect_of (Cell.WriteDeadline d) = Deadlines
aspect_of (Cell.ReadSequence d) = Sequences
aspect_of (Cell.WriteSequence d) = Sequences
aspect_of (Cell.DescriptorSequence d) = Tags
aspect_of (Cell.Info d) = Summaries
aspect_of (Cell.Shut s) = ShutMarks

-- the aspects that a step of a kind may change
abbrev pub changed_aspects : Kind → List Aspect
changed_aspects Kind.Spawn = Goroutines ∷ []
changed_aspects Kind.Exit = Goroutines ∷ []
changed_aspects Kind.SockOpen = Locks ∷ Semaphores ∷ Inputs ∷ Outputs ∷ ShutMarks ∷ []
changed_aspects Kind.Arrive = Inputs ∷ []
changed_aspects Kind.PeerClose = []
changed_aspects Kind.SysRead = Inputs ∷ []
changed_aspects Kind.SysWrite = Outputs ∷ []
changed_aspects Kind.Drain = Outputs ∷ []
changed_aspects Kind.Incref = Locks ∷ []
changed_aspects Kind.IncrefClose = Goroutines ∷ Locks ∷ []
changed_aspects Kind.Decref = Locks ∷ []
changed_aspects Kind.RwLock = Goroutines ∷ Locks ∷ []
changed_aspects Kind.RwUnlock = Goroutines ∷ Locks ∷ []
changed_aspects Kind.Acquire = Goroutines ∷ Semaphores ∷ []
changed_aspects Kind.Release = Goroutines ∷ Semaphores ∷ []
changed_aspects Kind.PollOpen = WaitWords ∷ Deadlines ∷ Sequences ∷ Tags ∷ Summaries ∷ []
changed_aspects Kind.PollClose = Tags ∷ []
changed_aspects Kind.PollReset = WaitWords ∷ []
changed_aspects Kind.WaitBegin = Goroutines ∷ []
changed_aspects Kind.BlockArm = Goroutines ∷ WaitWords ∷ []
changed_aspects Kind.BlockCheck = Goroutines ∷ []
changed_aspects Kind.ParkCommit = Goroutines ∷ WaitWords ∷ Waiters ∷ []
changed_aspects Kind.BlockSwap = Goroutines ∷ WaitWords ∷ []
changed_aspects Kind.WaitCheck = Goroutines ∷ []
changed_aspects Kind.SetDeadline =
    Goroutines ∷ WaitWords ∷ Waiters ∷ Deadlines ∷ Sequences ∷ Summaries ∷ Timers ∷ []
changed_aspects Kind.Evict = Goroutines ∷ WaitWords ∷ Waiters ∷ Sequences ∷ Summaries ∷ Timers ∷ []
changed_aspects Kind.PollEvent = Goroutines ∷ WaitWords ∷ Waiters ∷ Summaries ∷ []
changed_aspects Kind.Tick = Clock ∷ []
changed_aspects Kind.Pop = Timers ∷ Firings ∷ []
changed_aspects Kind.Fire = Goroutines ∷ WaitWords ∷ Waiters ∷ Deadlines ∷ Summaries ∷ Firings ∷ []
changed_aspects Kind.CloseWrite = ShutMarks ∷ []

-- true if a list of aspects contains an aspect
abbrev pub is_among : List Aspect → Aspect → Bool
is_among aspects aspect = list_any (λ one. same_aspect one aspect) aspects

-- true if a step of this kind may change the cell: it may change the aspect that the cell shows
abbrev pub can_change : Kind → Cell → Bool
can_change kind cell = is_among (changed_aspects kind) (aspect_of cell)
