-- What a program does with its file, and what is printed if no program runs.
use Rattle.std.specs.Prelude.{◌≡◌, ◌⊎◌, ℕ, List, ◌++◌, codes}
use Rattle.std.specs.declared.io.ErrorKind.{ErrorKind}
use Rattle.std.specs.declared.io.ErrorKind.TheVariants as kind
use Rattle.nr_rev.specs.Refusing.{refused_memory}
use Rattle.nr_text.specs.Streams.{Incoming, Outgoing, WritesAll, WritesPrefix}
use Rattle.nr_recording.specs.Faults.{memory_line}
use Rattle.nr_serving.specs.Conversations.{FrontsLog}
use Rattle.nr_programs.specs.Changes.{Changes}
use Rattle.nr_programs.specs.Run.{EndsPrinting}
use Rattle.nr_programs.specs.Auxiliary.Run.{Checks}
use Rattle.nr_programs.specs.Serving.{ServesAll}
use Rattle.nr_programs.specs.Suspects.{ShowsSuspects}
use Rattle.nr_programs.specs.Transcript.{RunsTranscript}
use Rattle.nr_programs.specs.Upgrade.{Upgrades}
use Rattle.nr_programs.specs.declared.run.ExitStatus.{ExitStatus}
use Rattle.nr_programs.specs.declared.run.ExitStatus.TheVariants as statuses
use Rattle.netrev.specs.declared.starting.Unstarted.{Unstarted}
use Rattle.netrev.specs.declared.starting.Unstarted.TheVariants as unstarted
use Rattle.nr_arguments.specs.declared.arguments.Program.{Program}
use Rattle.nr_arguments.specs.declared.arguments.Program.TheVariants as program
use Rattle.nr_arguments.specs.declared.arguments.ArgumentsFault.{ArgumentsFault}
use Rattle.nr_arguments.specs.declared.arguments.ArgumentsFault.TheVariants as arguments

-- why no program ran, for each fault that parsing the arguments can give
abbrev pub unstarted_of_arguments : ArgumentsFault → Unstarted
unstarted_of_arguments arguments.Usage = unstarted.Usage
unstarted_of_arguments (arguments.Memory refused) = unstarted.Memory refused

-- `Memory` if the error says that memory ran out, and otherwise the given reason
abbrev pub unstarted_by : ErrorKind → Unstarted → Unstarted
unstarted_by kind.OutOfMemory other = unstarted.Memory refused_memory
unstarted_by _ other = other

-- the usage text
abbrev pub usage_text : List ℕ
usage_text =
    codes "usage: netrev run FILE\n"
    ++ codes "       netrev check FILE\n"
    ++ codes "       netrev upgrade FILE\n"
    ++ codes "       netrev changes FILE\n"
    ++ codes "       netrev suspects FILE\n"
    ++ codes "       netrev serve FILE --port P [--fronts N] [--workers W] [--journal H]"
    ++ codes " [--connections C]\n"

-- What a program does with the bytes of its file. Only `run` reads input, and it writes the
-- transcript of the commands in that input. Only `serve` opens ports.
abbrev pub Plays : Program → List ℕ → Incoming → Incoming → FrontsLog → FrontsLog → Outgoing
    → Outgoing → ExitStatus → Type 0
Plays (program.Run file) bytes input left before after old new status =
    (after ≡ before) × RunsTranscript bytes input left old new status
Plays (program.Check file) bytes input left before after old new status =
    (left ≡ input) × (after ≡ before) × Checks bytes old new status
Plays (program.Upgrade file) bytes input left before after old new status =
    (left ≡ input) × (after ≡ before) × Upgrades bytes old new status
Plays (program.Changes file) bytes input left before after old new status =
    (left ≡ input) × (after ≡ before) × Changes bytes old new status
Plays (program.Suspects file) bytes input left before after old new status =
    (left ≡ input) × (after ≡ before) × ShowsSuspects bytes old new status
Plays (program.Serve file sharing) bytes input left before after old new status =
    (left ≡ input) × ServesAll bytes sharing before after old new status

-- What is printed if no program runs. After a usage error, the usage text is printed on standard
-- error, in full unless a write failed. If memory ran out, `fault 108 memory` is printed on
-- standard output. Otherwise nothing is printed.
abbrev pub PrintsUnstarted : Unstarted → Outgoing → Outgoing → Outgoing → Outgoing → ExitStatus
    → Type 0
PrintsUnstarted unstarted.Usage old new before after status =
    (status ≡ statuses.Usage) × (new ≡ old)
    × (WritesAll before after usage_text
    ⊎ ((count : ℕ) × WritesPrefix before after usage_text count))
PrintsUnstarted (unstarted.Memory refused) old new before after status =
    EndsPrinting memory_line statuses.Refused old new status × (after ≡ before)
PrintsUnstarted unstarted.File old new before after status =
    (status ≡ statuses.StreamFailed) × (new ≡ old) × (after ≡ before)
