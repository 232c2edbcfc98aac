use Rattle.std.proofs.Common.{◌≡◌, inl, inr, refl}
use Rattle.nr_rev.specs.Refusing.{refused_memory}
use Rattle.nr_snaps.specs.declared.fault.LoadFault.TheVariants.{Memory}
use Rattle.nr_programs.specs.Auxiliary.Run.{Runs}
use Rattle.nr_programs.specs.Transcript.{RunsTranscript}
use Rattle.nr_programs.specs.declared.opening.OpenFault.TheVariants.{Load}
use Rattle.nr_programs.proofs.OpeningLemmas.{one_recording, prints_memory}
use Rattle.nr_programs.proofs.RepliesLemmas.{refused_transcribes, walks_transcribe}
use Rattle.nr_programs.proofs.run.run_bytes.Goals as goal

-- either the session runs, or memory ran out while the recording was loaded and the program reports
-- that fault
pub returns-in-Ok-clause-runs : goal.returns-in-Ok-clause-runs
returns-in-Ok-clause-runs g c =
    elim c.walk.ensures as (λ _. Runs c.args.text.items c.args.input.now c.walk.new.input c.args.output.now c.walk.new.output c.walk.result) [
      | inl walks ↦ inl (c.in-Ok.film.recording, c.in-Ok.ensures.film, walks)
      | inr prints_it ↦ inr (Load (Memory refused_memory), tt, prints_it)
    ]

pub returns-in-Ok-clause-good : goal.returns-in-Ok-clause-good
returns-in-Ok-clause-good g c = λ r is.
    let same : c.in-Ok.film.recording ≡ r = one_recording c.args.text.items c.in-Ok.film.recording r c.in-Ok.ensures.film is in
    rw (← same) c.walk.ensures

pub returns-in-Err-clause-good : goal.returns-in-Err-clause-good
returns-in-Err-clause-good g c = λ r is.
    inr (record {
      unread = refl;
      printed = prints_memory _ _ _ _ _ _ c.in-Err.ensures.fault is c.refuse.ensures;
    })

pub returns-in-Ok-clause-transcript : goal.returns-in-Ok-clause-transcript
returns-in-Ok-clause-transcript g c =
    elim c.walk.ensures as (λ _. RunsTranscript c.args.text.items c.args.input.now c.walk.new.input c.args.output.now c.walk.new.output c.walk.result) [
      | inl walks ↦ inl (walks_transcribe c.args.text.items c.in-Ok.film.recording _ _ _ _ _ c.in-Ok.ensures.film walks)
      | inr prints_it ↦ inr prints_it
    ]

pub returns-in-Err-clause-transcript : goal.returns-in-Err-clause-transcript
returns-in-Err-clause-transcript g c =
    refused_transcribes c.args.text.items _ _ _ _ _ _ c.in-Err.ensures.fault c.requires.output (record { unread = refl; printed = c.refuse.ensures })
