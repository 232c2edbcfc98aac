use Rattle.std.proofs.Common.{◌≡◌, ap, refl, sym, true, map, ◌∙◌}
use Rattle.clap.specs.Words.{App, app_of, fault_of, is_simple, is_simple_and_free, subcommand_of, subcommand_rows_of}
use Rattle.clap.proofs.OnLiterals.{clap_on_literals}
use Rattle.nr_arguments.specs.Arguments.{asked_in, netrev}
use Rattle.nr_arguments.proofs.arguments.read_words.Goals as goal

netrev_is_simple : is_simple netrev ≡ true
unfolding clap_on_literals
netrev_is_simple = refl

netrev_is_free : is_simple_and_free netrev ≡ true
unfolding clap_on_literals
netrev_is_free = refl

-- the command line has no fault, and the matches select a program
pub returns-in-Some-clause-ok : goal.returns-in-Some-clause-ok
returns-in-Some-clause-ok c =
    let is : app_of c.in_ok-command.command ≡ netrev = c.in_ok-command.ensures in
    let arguments = map (λ argument. argument.now) c.args.arguments.now in
    let found : subcommand_rows_of c.in_ok-matches.matches ≡ subcommand_of netrev arguments =
    (c.in_ok-matches.ensures.matches (ap is_simple is ∙ netrev_is_simple)).1 ∙ ap (λ (a : App). subcommand_of a arguments) is in
    let faultless = c.in_ok-matches.ensures.kinds (ap is_simple_and_free is ∙ netrev_is_free) in
    record {
      faultless = ap (λ (a : App). fault_of a arguments) (sym is) ∙ faultless;
      is_asked = ap asked_in (sym found) ∙ c.in-Some.ensures.named;
    }

-- the matches select no program
pub returns-clause-err : goal.returns-clause-err
returns-clause-err c =
    let is : app_of c.in_ok-command.command ≡ netrev = c.in_ok-command.ensures in
    let arguments = map (λ argument. argument.now) c.args.arguments.now in
    let found : subcommand_rows_of c.in_ok-matches.matches ≡ subcommand_of netrev arguments =
    (c.in_ok-matches.ensures.matches (ap is_simple is ∙ netrev_is_simple)).1 ∙ ap (λ (a : App). subcommand_of a arguments) is in
    λ program ask. c.in-None.ensures.named program (ap asked_in found ∙ ask.is_asked)
