use Rattle.std.proofs.Common.{Result, subst}
use Rattle.nr_recording.proofs.TextLaws.{reading_again}
use Rattle.nr_recording.specs.Auxiliary.Reading.{IsUnlessMemory}
use Rattle.nr_recording.specs.Reading.{reading}
use Rattle.nr_recording.specs.Recording.{Recorded}
use Rattle.nr_recording.specs.declared.fault.ReadFault.{ReadFault}
use Rattle.nr_programs.proofs.SuspectsLemmas.{refused_to_load, refused_to_read}
use Rattle.nr_programs.proofs.suspects.suspects_bytes.Goals as goal

-- the text isn't a recording, or memory ran out while reading it
pub returns-in-Err : goal.returns-in-Err
returns-in-Err g c =
    let exact = subst (λ (x : Result Recorded ReadFault). IsUnlessMemory x (reading c.args.bytes.now)) c.in-Err.is c.read.ensures.exact in
    refused_to_read c.args.bytes.now c.in-Err.fault c.args.output.now c.refuse.new.output c.refuse.result exact c.refuse.ensures

-- a step has a fault, or memory ran out
pub returns : goal.returns
returns g c =
    refused_to_load c.args.bytes.now c.in-Ok.recording c.in-Err-find_suspects.fault c.args.output.now c.refuse-in-Err-find_suspects.new.output c.refuse-in-Err-find_suspects.result
    (reading_again c.args.bytes.now c.in-Ok.recording c.in-Ok.ensures.found) c.in-Err-find_suspects.ensures.fault c.refuse-in-Err-find_suspects.ensures
