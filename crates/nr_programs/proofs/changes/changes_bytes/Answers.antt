use Rattle.std.proofs.Common.{Result, subst}
use Rattle.nr_recording.specs.Auxiliary.Reading.{IsUnlessMemory}
use Rattle.nr_recording.specs.Reading.{reading}
use Rattle.nr_recording.specs.Recording.{Recorded}
use Rattle.nr_recording.specs.declared.fault.ReadFault.{ReadFault}
use Rattle.nr_programs.proofs.ChangesLemmas.{refused_to_read}
use Rattle.nr_programs.proofs.changes.changes_bytes.Goals as goal

-- the text isn't a recording, or memory ran out while reading it
pub returns-in-Err : goal.returns-in-Err
returns-in-Err g c =
    let exact = subst (λ (x : Result Recorded ReadFault). IsUnlessMemory x (reading c.args.bytes.now)) c.in-Err.is c.read.ensures.exact in
    refused_to_read c.args.bytes.now c.in-Err.fault c.args.output.now c.refuse.new.output c.refuse.result exact c.refuse.ensures
