use Rattle.std.proofs.Common.{◌<◌, ◌^◌, rules}
use Rattle.nr_recording.proofs.PlainLemmas.{number_back}
use Rattle.nr_recording.proofs.plain.part.Goals as goal

pub returns-in_ok-count-in_default-clause-reads_back : goal.returns-in_ok-count-in_default-clause-reads_back
returns-in_ok-count-in_default-clause-reads_back c =
    let n = c.in_ok-count-in_default.count in
    let small : n < 2 ^ 64 = search rules in
    number_back n small
