-- The bytes of replies that were written, and those that are held.
use Rattle.std.proofs.Common.{◌≡◌, ℕ, ◌+◌, ◌-◌, ◌≤◌, List, [], ◌++◌, Option, Some, arith, length, take, refl, sym, ap, ◌∙◌, subst, append-nil, length-append, Ok, Err, Result}
use Rattle.std.specs.Io.KnownBytes.{Appends}
use Rattle.std.proofs.lemmas.List.{length-take-le, take-append-le}
use Rattle.std.proofs.Math.Seq.{take-append-add, take-append_seam}
use Rattle.nr_text.specs.Streams.{Outgoing, Sends, WritesAll, WritesPrefix, saturating_count}
use Rattle.nr_text.specs.Auxiliary.Streams.{Prints}
use Rattle.nr_text.specs.declared.sink.Part.{Part}
use Rattle.nr_text.proofs.StreamLemmas.{sends_none, sends_then}
use Rattle.nr_lines.specs.Page.{CutBehind, GoesBehind, PrintsBehind}

-- the text is held
pub held_behind : (w : Outgoing) (held text : List ℕ) → GoesBehind w held text w (held ++ text)
held_behind w held text = record { out = []; split = refl; sends = sends_none w; calm = refl }

-- the text is empty, and nothing changes
pub nothing_printed : (old new : Outgoing) (held still : List ℕ) → new ≡ old → still ≡ held → GoesBehind old held [] new still
nothing_printed old new held still same kept =
    subst (λ (w : Outgoing). GoesBehind old held [] w still) (sym same)
    (subst (λ (h : List ℕ). GoesBehind old held [] old h) (append-nil held ∙ sym kept) (held_behind old held []))

-- no bytes were held when the text was printed
pub goes_alone : (old new : Outgoing) (text : List ℕ) (result : Result (Unit {0}) Part) → Prints old new text result → PrintsBehind old [] new [] text result
goes_alone old new text (Ok _) prints = record { out = text; split = sym (append-nil text); sends = prints.0; calm = prints.1 }
goes_alone old new text (Err part) prints = record { n = prints.n; within = prints.within; sends = prints.out; failed = prints.failed; count_is = λ _. prints.count_is }

-- the held bytes were written before the text was printed
pub goes_then : (old mid new : Outgoing) (held text : List ℕ) (result : Result (Unit {0}) Part) → WritesAll old mid held → Prints mid new text result → PrintsBehind old held new [] text result
goes_then old mid new held text (Ok _) first then = record {
  out = held ++ text;
  split = sym (append-nil (held ++ text));
  sends = sends_then old mid new held text first.0 then.0;
  calm = then.1 ∙ first.1;
}
goes_then old mid new held text (Err part) first then = record {
  n = length held + then.n;
  within = omega (arith, then.within, length-append held text);
  sends = subst (Sends old new) (sym (take-append-add held text then.n)) (sends_then old mid new held (take then.n text) first.0 then.out);
  failed = then.failed;
  count_is = λ none. let zero : length held ≡ 0 = ap length none in omega (arith, zero, then.count_is);
}

-- a write of the held bytes failed
pub cut_before : (old new : Outgoing) (held text : List ℕ) (count reported : ℕ) → WritesPrefix old new held count → CutBehind old held text new reported
cut_before old new held text count reported cut = record {
  n = cut.n;
  within = omega (arith, cut.within, length-append held text);
  sends = subst (Sends old new) (sym (take-append-le cut.n held text (omega (arith, cut.within)))) cut.out;
  failed = cut.failed;
  count_is = λ none. absurd (let zero : length held ≡ 0 = ap length none in omega (arith, zero, cut.within));
}

-- if only a prefix of a text was appended to the page, removing that prefix leaves the bytes that
-- were held before
pub part_taken_back : (old new : Outgoing) (text held bytes still : List ℕ) (count : ℕ) → old.contents ≡ Some held → new.contents ≡ Some bytes → WritesPrefix old new text count
    → ((n : ℕ) → count ≡ saturating_count n → n ≤ length bytes → still ≡ take (length bytes - n) bytes) → still ≡ held
part_taken_back old new text held bytes still count before after cut taken =
    let n = cut.n in
    let known = subst (λ (o : Option (List ℕ)). Appends old.contents o (take n text)) after cut.out.appended in
    let grown : bytes ≡ held ++ take n text = subst (λ (o : Option (List ℕ)). Appends o (Some bytes) (take n text)) before known in
    let is_n : length (take n text) ≡ n = length-take-le n text (omega (arith, cut.within)) in
    let lengths : length bytes ≡ length held + length (take n text) = ap length grown ∙ length-append held (take n text) in
    let rest : length bytes - n ≡ length held = omega (arith, lengths, is_n) in
    taken n cut.count_is (omega (arith, lengths, is_n)) ∙ ap (λ k. take k bytes) rest ∙ ap (take (length held)) grown ∙ take-append_seam held (take n text)
