-- Conversations and runs that violate the definitions.
use Rattle.std.proofs.Common.{◌≡◌, inl, inr, ◌∙◌, ℕ, codes, false, true, List, [], ◌∷◌, None, Ok, refl, sym, ap}
use Rattle.std.proofs.lemmas.List.Elements.{All-head}
use Rattle.nr_rev.specs.Run.{Recording}
use Rattle.nr_text.specs.Auxiliary.Streams.{unread, unwritten}
use Rattle.nr_lines.specs.declared.ending.End.TheVariants.{Closed, Quit}
use Rattle.nr_programs.specs.Opening.{opened}
use Rattle.nr_programs.specs.Shared.{HeardOut, IsAnswered}
use Rattle.nr_programs.specs.Transcript.{JournalSize, Transcribes, replies_over, start, transcript_by}
use Rattle.nr_programs.specs.declared.run.ExitStatus.TheVariants.{Done}

pub lie_refused : (r : Recording) (journal : JournalSize) (tag : ℕ) → ¬ (IsAnswered r journal tag (record {
  input = unread None;
  output = record { contents = None; sent = 65 ∷ []; failed = false };
  ending = Ok Closed;
}) start)
lie_refused r journal tag a = absurd (let same : 65 ∷ [] ≡ [] = a.whole refl in cc)

pub unread_refused : (r : Recording) (journal : JournalSize) (tag : ℕ) → ¬ (IsAnswered r journal tag (record {
  input = unread None;
  output = unwritten None;
  ending = Ok Closed;
}) start)
unread_refused r journal tag a = absurd (elim (a.complete refl) as (λ _. ⊥) [ inl over ↦ (let same : false ≡ true = over.0 in cc) | inr quit ↦ (let same : false ≡ true = quit in cc) ])

pub late_refused : (r : Recording) (journal : JournalSize) (tag : ℕ) → ¬ (IsAnswered r journal tag (record {
  input = record { remaining = None; received = codes "quit\n"; ended = false; failed = false; moments = record { received = codes "quit\n"; sent = []; ended = false } ∷ [] };
  output = record { contents = None; sent = codes "bye\n"; failed = false };
  ending = Ok Quit;
}) start)
late_refused r journal tag a =
    let heard : [] ≡ codes "bye\n" = (All-head (HeardOut r start a.met) (record { received = codes "quit\n"; sent = []; ended = false }) [] a.prompt).0 in
    absurd cc

pub asked_again_refused : (r : Recording) (journal : JournalSize) (tag : ℕ) → ¬ (IsAnswered r journal tag (record {
  input = record { remaining = None; received = codes "quit"; ended = true; failed = false; moments = record { received = codes "quit"; sent = []; ended = true } ∷ [] };
  output = record { contents = None; sent = codes "bye\n"; failed = false };
  ending = Ok Quit;
}) start)
asked_again_refused r journal tag a =
    let again : true ≡ false = (All-head (HeardOut r start a.met) (record { received = codes "quit"; sent = []; ended = true }) [] a.prompt).1 in
    absurd cc

pub lie_no_run : (recording : List ℕ) (r : Recording) → opened recording ≡ Ok r → ¬ (Transcribes recording (unread None)
    (record { remaining = None; received = []; ended = true; failed = false; moments = [] }) (unwritten None)
    (record { contents = None; sent = 65 ∷ []; failed = false }) Done)
lie_no_run recording r is t =
    let w : 65 ∷ [] ≡ transcript_by recording true t.commands t.supplies = t.writes.sent ∙ t.whole refl in
    let e : transcript_by recording true t.commands t.supplies ≡ transcript_by recording true [] t.supplies =
    ap (λ c. transcript_by recording true c t.supplies) (sym t.reads.received) in
    let f : transcript_by recording true [] t.supplies ≡ [] = ap (λ o. replies_over o true [] t.supplies) is in
    absurd (let same : 65 ∷ [] ≡ [] = w ∙ e ∙ f in cc)
