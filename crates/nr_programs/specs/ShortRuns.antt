-- Short runs: those of scripts/recordings/, and some without a file.
use Rattle.std.specs.Prelude.{[], ◌∷◌, map, None, pos, false}
use Rattle.nr_recording.specs.Recording.{Recorded}
use Rattle.nr_recording.specs.declared.version.Version.TheVariants.{One}
use Rattle.nr_rev.specs.Run.{Recording}
use Rattle.nr_rev.specs.declared.sides.Mode.TheVariants as modes
use Rattle.nr_rev.specs.declared.sides.Side.TheVariants as sides
use Rattle.nr_rev.specs.declared.step.Step.TheVariants.{Spawn, SockOpen, Arrive, SysRead, RwLock, RwUnlock, Acquire, Release, PollOpen, PollClose, WaitBegin, BlockArm, BlockCheck, ParkCommit, BlockSwap, SetDeadline, Evict, PollEvent, Tick, Pop, Fire}

-- the run of scripts/recordings/woken-by-an-event.jsonl
abbrev pub woken_run : Recording
woken_run = record {
  limits = record { goroutines = 4; sockets = 2; descriptors = 2; buffer = 16 };
  steps =
      SockOpen 16 16 ∷ PollOpen 0 0 ∷ RwLock 0 0 sides.Read ∷ WaitBegin 0 0 sides.Read
      ∷ BlockArm 0 ∷ BlockCheck 0 ∷ ParkCommit 0 ∷ Arrive 0 (104 ∷ 105 ∷ [])
      ∷ PollEvent 0 1 modes.Read false ∷ BlockSwap 0 ∷ SysRead 0 0 8 ∷ RwUnlock 0 0 sides.Read ∷ [];
}

-- the run of scripts/recordings/deadline-set-between-pop-and-fire.jsonl
abbrev pub overtaken_run : Recording
overtaken_run = record {
  limits = record { goroutines = 4; sockets = 2; descriptors = 2; buffer = 16 };
  steps =
      SockOpen 16 16 ∷ PollOpen 0 0 ∷ SetDeadline 0 0 modes.Both (pos 100) ∷ Tick (pos 100)
      ∷ Pop ∷ SetDeadline 0 0 modes.Read (pos 50) ∷ Fire 0 ∷ Pop ∷ Fire 0 ∷ [];
}

-- the run of scripts/recordings/event-before-the-goroutine-parks.jsonl
abbrev pub early_run : Recording
early_run = record {
  limits = record { goroutines = 4; sockets = 2; descriptors = 2; buffer = 16 };
  steps =
      SockOpen 16 16 ∷ PollOpen 0 0 ∷ RwLock 0 0 sides.Read ∷ WaitBegin 0 0 sides.Read
      ∷ BlockArm 0 ∷ BlockCheck 0 ∷ PollEvent 0 1 modes.Read false ∷ ParkCommit 0
      ∷ BlockSwap 0 ∷ [];
}

-- the run of scripts/recordings/lock-taken-from-a-woken-goroutine.jsonl
abbrev pub taken_run : Recording
taken_run = record {
  limits = record { goroutines = 4; sockets = 2; descriptors = 2; buffer = 16 };
  steps =
      Spawn ∷ SockOpen 16 16 ∷ RwLock 0 0 sides.Read ∷ RwLock 1 0 sides.Read ∷ Acquire 1
      ∷ RwUnlock 0 0 sides.Read ∷ Release 0 ∷ RwLock 0 0 sides.Read ∷ Acquire 1
      ∷ RwLock 1 0 sides.Read ∷ [];
}

-- a run without steps
abbrev pub empty_run : Recording
empty_run = record {
  limits = record { goroutines = 4; sockets = 2; descriptors = 2; buffer = 16 };
  steps = [];
}

-- a run with a deadline at the last possible time
abbrev pub last_moment_run : Recording
last_moment_run = record {
  limits = record { goroutines = 4; sockets = 2; descriptors = 2; buffer = 16 };
  steps =
      SockOpen 1 1 ∷ PollOpen 0 0 ∷ Tick (pos 5)
      ∷ SetDeadline 0 0 modes.Read (pos 9223372036854775807) ∷ [];
}

-- a run that reopens a descriptor, followed by an event with the tag of the first opening
abbrev pub reopened_run : Recording
reopened_run = record {
  limits = record { goroutines = 4; sockets = 2; descriptors = 2; buffer = 16 };
  steps =
      SockOpen 16 16 ∷ PollOpen 0 0 ∷ Evict 0 0 ∷ PollClose 0 0 ∷ PollOpen 0 0
      ∷ PollEvent 0 1 modes.Read false ∷ [];
}

-- a run in which a goroutine swaps its wait word too early, before it parks
abbrev pub early_swap_run : Recording
early_swap_run = record {
  limits = record { goroutines = 4; sockets = 2; descriptors = 2; buffer = 16 };
  steps =
      SockOpen 16 16 ∷ PollOpen 0 0 ∷ RwLock 0 0 sides.Read ∷ WaitBegin 0 0 sides.Read
      ∷ BlockSwap 0 ∷ BlockArm 0 ∷ BlockCheck 0 ∷ ParkCommit 0 ∷ Arrive 0 (104 ∷ 105 ∷ [])
      ∷ PollEvent 0 1 modes.Read false ∷ BlockSwap 0 ∷ SysRead 0 0 8 ∷ RwUnlock 0 0 sides.Read ∷ [];
}

-- a run with three firings of a descriptor that has room for two
abbrev pub three_firings_run : Recording
three_firings_run = record {
  limits = record { goroutines = 1; sockets = 1; descriptors = 1; buffer = 1 };
  steps =
      SockOpen 1 1 ∷ PollOpen 0 0 ∷ SetDeadline 0 0 modes.Read (pos 1) ∷ Tick (pos 1) ∷ Pop
      ∷ SetDeadline 0 0 modes.Read (pos 1) ∷ Tick (pos 2) ∷ Pop
      ∷ SetDeadline 0 0 modes.Read (pos 1) ∷ Tick (pos 3) ∷ Pop ∷ [];
}

-- a run from a recording in version 1, which contains no answers
abbrev pub of_version_one : Recording → Recorded
of_version_one r = record {
  version = One;
  limits = r.limits;
  steps = map (λ step. record { step = step; answer = None }) r.steps;
}
