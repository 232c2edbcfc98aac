use Rattle.std.proofs.Common.{◌≡◌, get_or, ap, ◌∙◌, arith}
use Rattle.std.proofs.lemmas.Str.{IsUtf8-from_ascii}
use Rattle.std.specs.Str.{IsUtf8}
use Rattle.serde_json.specs.Read.{read}
use Rattle.nr_recording.proofs.LineValueLemmas.{value_of_valid}
use Rattle.nr_recording.proofs.PlainLemmas.{split_front}
use Rattle.nr_recording.proofs.plain.gather_plain.Goals as goal

pub returns : goal.returns
returns c =
    let line = c.args.line.now in
    let text : IsUtf8 line = IsUtf8-from_ascii line (grind arith) in
    let opening : get_or line 0 0 ≡ 91 = grind arith in
    value_of_valid line _ (text, ap read (split_front 91 line c.in-91.len_at_least opening) ∙ c.in_ok-gather.ensures)
