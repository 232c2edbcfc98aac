-- The output for a recording, and the line that may follow it.
use Rattle.std.proofs.Common.{◌≡◌, ℕ, ◌+◌, Bool, true, false, ◌||◌, List, ◌++◌, length, take, inl, inr, refl, sym, subst, ◌∙◌, length-append, arith}
use Rattle.nr_text.proofs.StreamLemmas.{sends_then}
use Rattle.std.proofs.Math.Seq.{take-append-add}
use Rattle.nr_recording.specs.Writing.{SendsPart}
use Rattle.nr_text.specs.Streams.{Outgoing, Sends, WritesPrefix, saturating_count}
use Rattle.nr_programs.specs.Run.{EndsPrinting}
use Rattle.nr_programs.specs.declared.run.ExitStatus.{ExitStatus}
use Rattle.nr_programs.specs.declared.run.ExitStatus.TheVariants.{StreamFailed}

pub unfailed : (a b : Bool) → b ≡ (a || false) → b ≡ a
unfailed true b e = e
unfailed false b e = e

-- the whole text was written, and no write failed
pub wrote_all : (text : List ℕ) (wanted : ExitStatus) (old new : Outgoing) → Sends old new text → new.failed ≡ (old.failed || false) → EndsPrinting text wanted old new wanted
wrote_all text wanted old new out calm = inl (refl, (out, unfailed old.failed new.failed calm))

failed_at : (a b : Bool) → b ≡ (a || true) → b ≡ true
failed_at true b e = e
failed_at false b e = e

-- a part of a text was written after some lines
prefix_behind : (lines text : List ℕ) (old mid new : Outgoing) (count : ℕ) → Sends old mid lines → (part : WritesPrefix mid new text count)
    → WritesPrefix old new (lines ++ text) (saturating_count (length lines + part.n))
prefix_behind lines text old mid new count before part =
    let front : take (length lines + part.n) (lines ++ text) ≡ lines ++ take part.n text = take-append-add lines text part.n in
    record {
      n = length lines + part.n;
      within = omega (arith, part.within, length-append lines text);
      count_is = refl;
      out = subst (Sends old new) (sym front) (sends_then old mid new lines (take part.n text) before part.out);
      failed = part.failed;
    }

-- a part of the text was written, and then a write failed
pub wrote_part : (text : List ℕ) (wanted : ExitStatus) (old new : Outgoing) → SendsPart old new text → new.failed ≡ (old.failed || true) → EndsPrinting text wanted old new StreamFailed
wrote_part text wanted old new part failed =
    let prefix : WritesPrefix old new text (saturating_count part.0) = record {
      n = part.0;
      within = part.1;
      count_is = refl;
      out = part.2;
      failed = failed_at old.failed new.failed failed;
    } in
    inr (refl, (saturating_count part.0, prefix))

-- a text was printed after some lines
pub behind : (lines text : List ℕ) (wanted status : ExitStatus) (old mid new : Outgoing) → Sends old mid lines → mid.failed ≡ (old.failed || false)
    → EndsPrinting text wanted mid new status → EndsPrinting (lines ++ text) wanted old new status
behind lines text wanted status old mid new before calm prints =
    elim prints [
      | inl all ↦ inl (all.0, (sends_then old mid new lines text before all.1.0, all.1.1 ∙ unfailed old.failed mid.failed calm))
      | inr part ↦ (let prefix = prefix_behind lines text old mid new part.1.0 before part.1.1 in inr (part.0, (saturating_count (length lines + part.1.1.n), prefix)))
    ]
