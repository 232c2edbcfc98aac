use Rattle.std.proofs.Common.{◌≡◌, ◌+◌, ◌*◌, rules, ap, ◌∙◌}
use Rattle.nr_command.specs.Word.{command_of, word_of}
use Rattle.nr_command.proofs.WordLemmas.{read_again}
use Rattle.nr_command.proofs.command.Command.to_word.Goals as goal

pub returns-clause-back : goal.returns-clause-back
returns-clause-back c =
    let same : c.from.result + 256 * c.from-2.result + 65536 * c.argument.result ≡ word_of c.args.tag c.args.self.now = search rules in
    ap command_of same ∙ read_again c.args.tag c.args.self.now c.ranges.tag.fits c.argument.ensures.typed
