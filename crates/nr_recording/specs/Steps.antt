-- The step that a line denotes, with a row for each kind of step.
use Rattle.std.specs.Prelude.{Bool, true, false, Option, Some, None, option_and_then, Result, Ok, Err, if◌then◌else◌}
use Rattle.serde_json.specs.Data.{Data, Items, no_items, item}
use Rattle.serde_json.specs.Find.{as_str, as_array}
use Rattle.nr_rev.specs.declared.answer.Answer.{Answer}
use Rattle.nr_rev.specs.declared.kind.Kind.{Kind}
use Rattle.nr_rev.specs.declared.step.Step.{Step}
use Rattle.nr_recording.specs.declared.fault.Fault.{Fault}
use Rattle.nr_recording.specs.declared.fault.Fault.TheVariants as fault
use Rattle.nr_recording.specs.declared.version.Version.{Version}
use Rattle.nr_recording.specs.declared.version.Version.TheVariants.{One, Two}
use Rattle.nr_recording.specs.Faults.{◌>>=◌, or_fault}
use Rattle.nr_recording.specs.Arguments.{answer as answer_at}
use Rattle.nr_recording.specs.Shapes.{bare, one, pair, triple, sided, arrival, transfer, deadline, event, timed}
use Rattle.nr_recording.specs.Version.{kind_in}
use Rattle.nr_recording.specs.declared.recording.RecordedStep.{RecordedStep}

-- ---- the kinds

-- the step of this kind with the arguments at the front of a list, and the rest of the list
abbrev pub step_in : Kind → Items → Result (Step × Items) Fault
step_in Kind.Spawn = bare Step.Spawn
step_in Kind.Exit = one Step.Exit
step_in Kind.SockOpen = pair Step.SockOpen
step_in Kind.Arrive = arrival Step.Arrive
step_in Kind.PeerClose = one Step.PeerClose
step_in Kind.SysRead = triple Step.SysRead
step_in Kind.SysWrite = transfer Step.SysWrite
step_in Kind.Drain = pair Step.Drain
step_in Kind.Incref = pair Step.Incref
step_in Kind.IncrefClose = pair Step.IncrefClose
step_in Kind.Decref = pair Step.Decref
step_in Kind.RwLock = sided Step.RwLock
step_in Kind.RwUnlock = sided Step.RwUnlock
step_in Kind.Acquire = one Step.Acquire
step_in Kind.Release = one Step.Release
step_in Kind.PollOpen = pair Step.PollOpen
step_in Kind.PollClose = pair Step.PollClose
step_in Kind.PollReset = sided Step.PollReset
step_in Kind.WaitBegin = sided Step.WaitBegin
step_in Kind.BlockArm = one Step.BlockArm
step_in Kind.BlockCheck = one Step.BlockCheck
step_in Kind.ParkCommit = one Step.ParkCommit
step_in Kind.BlockSwap = one Step.BlockSwap
step_in Kind.WaitCheck = one Step.WaitCheck
step_in Kind.SetDeadline = deadline Step.SetDeadline
step_in Kind.Evict = pair Step.Evict
step_in Kind.PollEvent = event Step.PollEvent
step_in Kind.Tick = timed Step.Tick
step_in Kind.Pop = bare Step.Pop
step_in Kind.Fire = one Step.Fire
step_in Kind.CloseWrite = pair Step.CloseWrite

-- the first value and the other values
abbrev pub first_of : Items → Option (Data × Items)
first_of no_items = None
first_of (item d ds) = Some (d, ds)

-- the answer that follows a step's arguments in version 2
abbrev pub answer_in : Version → Items → Result (Option Answer × Items) Fault
answer_in One ds = Ok (None, ds)
answer_in Two ds = do
  found ← answer_at ds
  Ok (Some found.0, found.1)

-- true if the list has no more values
abbrev pub ends : Items → Bool
ends no_items = true
ends (item d ds) = false

-- The step that a line's value denotes. The value is an array. It contains the name of a kind, then
-- the arguments, then the answer if the version has answers, and nothing else.
unfoldable pub step_of : Version → Data → Result RecordedStep Fault
step_of version d = do
  parts ← or_fault fault.UnknownStep (option_and_then first_of (as_array d))
  name ← or_fault fault.UnknownStep (as_str parts.0)
  kind ← or_fault fault.UnknownStep (kind_in version name)
  found ← step_in kind parts.1
  answered ← answer_in version found.1
  if ends answered.1 then Ok (record { step = found.0; answer = answered.0 })
      else Err fault.Arguments
