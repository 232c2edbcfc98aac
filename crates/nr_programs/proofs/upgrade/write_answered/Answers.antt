use Rattle.std.proofs.Common.{◌≡◌, ◌||◌, take, Result, Err, inl, inr, subst, rules}
use Rattle.std.specs.List.{concat}
use Rattle.nr_rev.specs.Refusing.{refused_memory}
use Rattle.nr_recording.specs.Faults.{memory_line}
use Rattle.nr_recording.specs.Recording.{Recorded}
use Rattle.nr_recording.specs.Writing.{line_texts, text, is_device_failure, SendsPart, SendsLines}
use Rattle.nr_recording.specs.declared.fault.WriteFault.{WriteFault}
use Rattle.nr_recording.specs.declared.fault.WriteFault.TheVariants as faults
use Rattle.nr_snaps.specs.Auxiliary.Answers.{answered}
use Rattle.nr_programs.specs.declared.run.ExitStatus.TheVariants as statuses
use Rattle.nr_programs.proofs.UpgradeLemmas.{behind, wrote_part}
use Rattle.nr_programs.proofs.upgrade.write_answered.Goals as goal

-- some lines were written, followed by the line `fault 108 memory`
pub returns-in-Err-Memory : goal.returns-in-Err-Memory
returns-in-Err-Memory g c =
    let old = c.args.output.now in
    let mid = c.write.new.out in
    let lines = line_texts (answered c.args.film.now.recording) in
    let refused : c.write.result ≡ Err (faults.Memory refused_memory) = search rules in
    let part = subst (λ (r : Recorded). SendsLines old mid (line_texts r)) c.in-Ok.ensures (c.write.ensures.memory refused) in
    let calm = subst (λ (r : Result Unit WriteFault). mid.failed ≡ (old.failed || is_device_failure r)) refused c.write.ensures.failed in
    inr (part.0, part.1, behind (concat (take part.0 lines)) memory_line statuses.Refused _ old mid _ part.2 calm c.refuse-in-Err-Memory.ensures)

-- a part of the text was written
pub returns : goal.returns
returns g c =
    let old = c.args.output.now in
    let new = c.write.new.out in
    let cut : c.write.result ≡ Err faults.Device = search rules in
    let part = subst (λ (r : Recorded). SendsPart old new (text r)) c.in-Ok.ensures (c.write.ensures.device cut) in
    let failed = subst (λ (r : Result Unit WriteFault). new.failed ≡ (old.failed || is_device_failure r)) cut c.write.ensures.failed in
    inl (wrote_part (text (answered c.args.film.now.recording)) statuses.Done old new part failed)
