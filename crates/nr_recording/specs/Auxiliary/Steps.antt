-- Helper definitions for `Steps`. The laws in THEOREM.md don't use them.
use Rattle.std.specs.Prelude.{ℕ, List, [], ◌∷◌, ◌++◌, Bool, false, Option, Some, None, option_and_then}
use Rattle.std.specs.Option.{option_map_or}
use Rattle.serde_json.specs.Data.{Data, Items}
use Rattle.serde_json.specs.Find.{as_str, as_array}
use Rattle.nr_rev.specs.declared.answer.Answer.{Answer}
use Rattle.nr_rev.specs.declared.kind.Kind.{Kind}
use Rattle.nr_rev.specs.declared.step.Step.{Step}
use Rattle.nr_rev.specs.Kind.{kind_name, kind_of}
use Rattle.nr_recording.specs.declared.version.Version.{Version}
use Rattle.nr_recording.specs.Arguments.{◌and◌, number}
use Rattle.nr_recording.specs.Auxiliary.Arguments.{next_takes_memory}
use Rattle.nr_recording.specs.Spelling.{Argument, numeral, tag, time, side, mode, bit, digits, answer}
use Rattle.nr_recording.specs.Version.{kind_in}
use Rattle.nr_recording.specs.declared.recording.RecordedStep.{RecordedStep}
use Rattle.nr_recording.specs.Steps.{first_of}

-- the arguments of a step, in their order in the line
abbrev pub arguments_of : Step → List Argument
arguments_of Step.Spawn = []
arguments_of (Step.Exit g) = numeral g ∷ []
arguments_of (Step.SockOpen r w) = numeral r ∷ numeral w ∷ []
arguments_of (Step.Arrive s bytes) = numeral s ∷ digits bytes ∷ []
arguments_of (Step.PeerClose s) = numeral s ∷ []
arguments_of (Step.SysRead g s n) = numeral g ∷ numeral s ∷ numeral n ∷ []
arguments_of (Step.SysWrite g s bytes) = numeral g ∷ numeral s ∷ digits bytes ∷ []
arguments_of (Step.Drain s n) = numeral s ∷ numeral n ∷ []
arguments_of (Step.Incref g s) = numeral g ∷ numeral s ∷ []
arguments_of (Step.IncrefClose g s) = numeral g ∷ numeral s ∷ []
arguments_of (Step.Decref g s) = numeral g ∷ numeral s ∷ []
arguments_of (Step.RwLock g s way) = numeral g ∷ numeral s ∷ side way ∷ []
arguments_of (Step.RwUnlock g s way) = numeral g ∷ numeral s ∷ side way ∷ []
arguments_of (Step.Acquire g) = numeral g ∷ []
arguments_of (Step.Release g) = numeral g ∷ []
arguments_of (Step.PollOpen g s) = numeral g ∷ numeral s ∷ []
arguments_of (Step.PollClose g d) = numeral g ∷ numeral d ∷ []
arguments_of (Step.PollReset g d way) = numeral g ∷ numeral d ∷ side way ∷ []
arguments_of (Step.WaitBegin g d way) = numeral g ∷ numeral d ∷ side way ∷ []
arguments_of (Step.BlockArm g) = numeral g ∷ []
arguments_of (Step.BlockCheck g) = numeral g ∷ []
arguments_of (Step.ParkCommit g) = numeral g ∷ []
arguments_of (Step.BlockSwap g) = numeral g ∷ []
arguments_of (Step.WaitCheck g) = numeral g ∷ []
arguments_of (Step.SetDeadline g d ways t) = numeral g ∷ numeral d ∷ mode ways ∷ time t ∷ []
arguments_of (Step.Evict g d) = numeral g ∷ numeral d ∷ []
arguments_of (Step.PollEvent d t ways err) = numeral d ∷ tag t ∷ mode ways ∷ bit err ∷ []
arguments_of (Step.Tick t) = time t ∷ []
arguments_of Step.Pop = []
arguments_of (Step.Fire i) = numeral i ∷ []
arguments_of (Step.CloseWrite g s) = numeral g ∷ numeral s ∷ []

-- true if reading the arguments of this kind allocates memory; only bytes need memory
abbrev pub kind_takes_memory : Kind → Items → Bool
kind_takes_memory Kind.Arrive ds = next_takes_memory (number ds)
kind_takes_memory Kind.SysWrite ds = next_takes_memory ((number and number) ds)
kind_takes_memory _ ds = false

-- ---- lines

-- the name of a step's kind, and the step's arguments
abbrev pub step_spelling : Step → List ℕ × List Argument
step_spelling step = (kind_name (kind_of step), arguments_of step)

-- the answer, if one is recorded
abbrev pub answer_arguments : Option Answer → List Argument
answer_arguments None = []
answer_arguments (Some a) = answer a ∷ []

-- the name of the kind, and then the arguments and the answer
abbrev pub spelling_of : RecordedStep → List ℕ × List Argument
spelling_of recorded = (
  kind_name (kind_of recorded.step),
  arguments_of recorded.step ++ answer_arguments recorded.answer,
)

-- true if reading a line with this name and these arguments allocates memory
abbrev pub named_takes_memory : Version → List ℕ → Items → Bool
named_takes_memory version name ds =
    option_map_or (λ kind. kind_takes_memory kind ds) (kind_in version name) false

-- true if reading the value of a line allocates memory
unfoldable pub step_takes_memory : Version → Data → Bool
step_takes_memory version d =
    option_map_or (λ parts. option_map_or (λ name. named_takes_memory version name parts.1)
    (as_str parts.0) false) (option_and_then first_of (as_array d)) false
