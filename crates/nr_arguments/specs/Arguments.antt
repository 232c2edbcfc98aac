-- The command line, and the program that the arguments select.
use Rattle.std.specs.Prelude.{◌≡◌, ℕ, ◌==◌, List, [], ◌∷◌, Option, Some, None, codes, option_map, option_and_then, true, false, if◌then◌else◌}
use Rattle.std.specs.Result.{result_ok}
use Rattle.std.specs.Str.{bytes_eq}
use Rattle.clap.specs.Words.{App, Row, Rule, Text, fault_of, first_of, new_app, new_rule, subcommand_of, with_rule, with_subcommand}
use Rattle.clap.specs.Simple.{on_top}
use Rattle.clap.specs.declared.error.kind.ErrorKind.{ErrorKind}
use Rattle.clap.specs.declared.error.kind.ErrorKind.TheVariants as kind
use Rattle.nr_rev.specs.Refusing.{refused_memory}
use Rattle.nr_command.specs.Command.{number_of}
use Rattle.nr_command.specs.Count.{from_one}
use Rattle.nr_programs.specs.Sharing.{is_in_range}
use Rattle.nr_programs.specs.declared.sharing.Sharing.{Sharing}
use Rattle.nr_arguments.specs.declared.arguments.TheConstants.{USUAL_JOURNAL}
use Rattle.nr_arguments.specs.declared.arguments.Program.{Program}
use Rattle.nr_arguments.specs.declared.arguments.Program.TheVariants as program
use Rattle.nr_arguments.specs.declared.arguments.ArgumentsFault.{ArgumentsFault}
use Rattle.nr_arguments.specs.declared.arguments.ArgumentsFault.TheVariants as fault

-- the argument FILE, which is required
abbrev pub file_rule : Rule
file_rule = record (new_rule (codes "file")) { required = true }

-- the subcommand with this name, and its argument FILE
abbrev pub file_program : Text → App
file_program name = with_rule (new_app name) file_rule

-- an optional argument `--NAME` with this name
abbrev pub option_rule : Text → Rule
option_rule name = record (new_rule name) { long = Some name }

-- the subcommand `serve`, with its argument FILE and its options
abbrev pub serve_program : App
serve_program =
    with_rule (with_rule (with_rule (with_rule (with_rule (file_program (codes "serve"))
    (option_rule (codes "port"))) (option_rule (codes "fronts"))) (option_rule (codes "workers")))
    (option_rule (codes "journal"))) (option_rule (codes "connections"))

-- the command line of netrev, which has the subcommands `netrev run FILE`, `netrev check FILE`,
-- `netrev upgrade FILE`, `netrev changes FILE`, `netrev suspects FILE` and `netrev serve FILE
-- --port P ..`
abbrev pub netrev : App
netrev =
    with_subcommand (with_subcommand (with_subcommand (with_subcommand (with_subcommand
    (with_subcommand (on_top (λ s. record s {
      disable_help_flag = true;
      disable_help_subcommand = true;
      subcommand_required = true;
    }) (new_app (codes "netrev"))) (file_program (codes "run")).top)
    (file_program (codes "check")).top) (file_program (codes "upgrade")).top)
    (file_program (codes "changes")).top) (file_program (codes "suspects")).top) serve_program.top

-- the number in an option's text, or the default if the option isn't given
abbrev pub number_or : Option ℕ → Option Text → Option ℕ
number_or usual None = usual
number_or usual (Some text) = result_ok (number_of text)

-- the number that the rows have for an option, or the default if they don't contain the option
abbrev pub number_in : Text → Option ℕ → List Row → Option ℕ
number_in name usual rows = number_or usual (first_of name rows)

-- the parameters of a session, or `None` if one of the numbers is out of range
abbrev pub if_in_range : Sharing → Option Sharing
if_in_range s = if is_in_range s then Some s else None

-- the parameters of a session, from the options
abbrev pub sharing_in : List Row → Option Sharing
sharing_in rows =
    option_and_then (λ port.
    option_and_then (λ fronts.
    option_and_then (λ workers.
    option_and_then (λ journal.
    option_and_then (λ connections. if_in_range (record {
      port = port;
      fronts = fronts;
      workers = workers;
      journal = journal;
      connections = from_one connections;
    }))
    (number_in (codes "connections") (Some 0) rows))
    (number_in (codes "journal") (Some USUAL_JOURNAL) rows))
    (number_in (codes "workers") (Some 1) rows))
    (number_in (codes "fronts") (Some 1) rows))
    (number_in (codes "port") None rows)

-- what the arguments select: a subcommand's name, its file, and for `serve` its parameters
abbrev pub Asked : Type 0
Asked = Text × Text × Option Sharing

-- what a subcommand and its file select; for `serve`, the parameters in the rows must be in range
abbrev pub asked_on : Text → List Row → Text → Option Asked
asked_on name rows file =
    if bytes_eq name (codes "serve") then option_map (λ sharing. (name, file, Some sharing))
    (sharing_in rows) else Some (name, file, None)

-- what a subcommand's name and its arguments select
abbrev pub asked_in : Option (Text × List Row) → Option Asked
asked_in = option_and_then (λ p. option_and_then (asked_on p.0 p.1) (first_of (codes "file") p.1))

-- the selection that corresponds to a program
abbrev pub asked_of : Program → Asked
asked_of (program.Run file) = (codes "run", file.now, None)
asked_of (program.Check file) = (codes "check", file.now, None)
asked_of (program.Upgrade file) = (codes "upgrade", file.now, None)
asked_of (program.Changes file) = (codes "changes", file.now, None)
asked_of (program.Suspects file) = (codes "suspects", file.now, None)
asked_of (program.Serve file sharing) = (codes "serve", file.now, Some sharing)

-- the arguments, which start with the program's own name, are a command line with this selection
pub record Ask (arguments : List Text) (asked : Asked) : Type 0 where
  pub faultless : fault_of netrev arguments ≡ []
  pub is_asked : asked_in (subcommand_of netrev arguments) ≡ Some asked

-- the arguments select this program
abbrev pub Asks : List Text → Program → Type 0
Asks arguments program = Ask arguments (asked_of program)

-- the file of a program
abbrev pub file_of : Program → Text
file_of (program.Run file) = file.now
file_of (program.Check file) = file.now
file_of (program.Upgrade file) = file.now
file_of (program.Changes file) = file.now
file_of (program.Suspects file) = file.now
file_of (program.Serve file sharing) = file.now

-- `Memory` if the error says that memory ran out, and otherwise `Usage`
abbrev pub fault_of_kind : ErrorKind → ArgumentsFault
fault_of_kind kind.OutOfMemory = fault.Memory refused_memory
fault_of_kind _ = fault.Usage

-- a usage error is reported only if the arguments select no program
abbrev pub IsArgumentsFault : List Text → ArgumentsFault → Type 0
IsArgumentsFault arguments fault.Usage = (program : Program) → ¬ Asks arguments program
IsArgumentsFault arguments (fault.Memory refused) = Unit {0}

-- the subcommand that was found selects this program, or selects no program
abbrev pub IsNamed : Option (Text × List Row) → Option Program → Type 0
IsNamed found None = (program : Program) → ¬ (asked_in found ≡ Some (asked_of program))
IsNamed found (Some program) = asked_in found ≡ Some (asked_of program)

-- the text doesn't begin with a hyphen
abbrev pub IsPlain : Text → Type 0
IsPlain [] = Unit {0}
IsPlain (x ∷ xs) = (x == 45) ≡ false

-- the program's numbers are in their ranges
abbrev pub IsInRange : Program → Type 0
IsInRange (program.Run file) = Unit {0}
IsInRange (program.Check file) = Unit {0}
IsInRange (program.Upgrade file) = Unit {0}
IsInRange (program.Changes file) = Unit {0}
IsInRange (program.Suspects file) = Unit {0}
IsInRange (program.Serve file sharing) = is_in_range sharing ≡ true
