use Rattle.std.proofs.Common.{refl, subst, rules}
use Rattle.nr_text.specs.Auxiliary.Streams.{Prints}
use Rattle.netrev.specs.Starting.{usage_text}
use Rattle.netrev.proofs.StartingLemmas.{prints_whole_or_part}
use Rattle.netrev.proofs.starting.Unstarted.tell.Goals as goal

-- the text that is printed is the usage text
pub returns-in-Usage : goal.returns-in-Usage
returns-in-Usage g c =
    let went = subst (λ text. Prints c.args.errors.now c.print-printed.new.self text c.print-printed.result) c.as_bytes.ensures.value c.print-printed.ensures in
    rw c.in-Usage.is (refl, refl, prints_whole_or_part c.args.errors.now c.print-printed.new.self usage_text c.print-printed.result went)

pub returns-in-File : goal.returns-in-File
returns-in-File g c = search rules
