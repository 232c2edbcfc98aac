use Rattle.std.proofs.Common.{ap, ◌∙◌}
use Rattle.std.specs.Result.{result_ok}
use Rattle.clap.specs.Words.{Text, found_of}
use Rattle.clap.proofs.WalkLemmas.{first_value-rows}
use Rattle.nr_command.specs.Command.{number_of}
use Rattle.nr_arguments.specs.Arguments.{number_or}
use Rattle.nr_arguments.proofs.arguments.number_in.Goals as goal

pub returns-in-Some : goal.returns-in-Some
returns-in-Some c =
    c.ok.ensures.value ∙ ap result_ok c.number.ensures ∙ ap (λ (t : Text). result_ok (number_of t)) c.as_bytes.ensures.value
    ∙ ap (number_or c.args.usual) (c.in-Some.ensures ∙ first_value-rows (found_of c.args.matches.now) c.args.name.now)

pub returns-in-None : goal.returns-in-None
returns-in-None c =
    ap (number_or c.args.usual) (c.in-None.ensures ∙ first_value-rows (found_of c.args.matches.now) c.args.name.now)
