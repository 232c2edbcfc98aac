-- How much of a text is written and how much is held while the text is sent in pieces.
use Rattle.std.proofs.Common.{◌≡◌, ℕ, ◌<◌, ◌≤◌, List, [], ◌++◌, arith, length, take, drop, refl, sym, ap, subst, ◌∙◌, append-nil, append_assoc, take-append-drop, length-append, length-drop, true, Ok, Err, Result}
use Rattle.std.proofs.lemmas.List.{length-take-le}
use Rattle.std.proofs.Math.Seq.{take-length}
use Rattle.std.specs.Prelude.{OnErr, OnOk}
use Rattle.std.specs.Result.{IsErr}
use Rattle.nr_text.specs.Buffered.{Buffering, HasSent, IsCut, IsOut, PutsOut, PutsOutSome, SentOrCut, Writes}
use Rattle.nr_text.specs.Streams.{Outgoing, Sends, saturating_count}
use Rattle.nr_text.proofs.StreamLemmas.{sends_none, sends_then}
use Rattle.nr_text.specs.declared.buffered.WriteFailed.{WriteFailed}

-- a new piece is held after the bytes already held
pub holds : (start : Outgoing) (sent piece : List ℕ) (b : Buffering) → HasSent start sent b → HasSent start (sent ++ piece) (record b { held = b.held ++ piece })
holds start sent piece b has = record {
  out = has.out;
  split = ap (λ s. s ++ piece) has.split ∙ append_assoc has.out b.held piece;
  written = has.written;
  count = has.count;
  calm = has.calm;
}

-- more bytes are written after the earlier ones, and counted
behind : (start c c' : Outgoing) (out bytes : List ℕ) (n o o' : ℕ) → n ≤ length bytes → Sends start c out → o ≡ saturating_count (length out) → IsOut bytes n c c' o o'
    → Sends start c' (out ++ take n bytes) × (o' ≡ saturating_count (length (out ++ take n bytes)))
behind start c c' out bytes n o o' within before count more =
    (sends_then start c c' out (take n bytes) before more.written, omega (arith, count, more.count, length-append out (take n bytes), length-take-le n bytes within))

-- all held bytes are written
puts_all : (start c' : Outgoing) (sent : List ℕ) (b : Buffering) (o' : ℕ) → HasSent start sent b → PutsOut b.held b.taken c' b.out o'
    → HasSent start (sent ++ []) (record { taken = c'; held = []; out = o' })
puts_all start c' sent b o' has all =
    let more = behind start b.taken c' has.out b.held (length b.held) b.out o' (omega arith) has.written has.count all.0 in
    let whole = take-length b.held in
    record {
      out = has.out ++ take (length b.held) b.held;
      split = ap (λ s. s ++ []) (has.split ∙ ap (λ t. has.out ++ t) (sym whole));
      written = more.0;
      count = more.1;
      calm = all.1 ∙ has.calm;
    }

-- some held bytes are written, and then a write fails
puts_some : (start c' : Outgoing) (sent : List ℕ) (b : Buffering) (n o' : ℕ) → HasSent start sent b → n < length b.held → IsOut b.held n b.taken c' b.out o' → c'.failed ≡ true
    → IsCut start (sent ++ []) (record { taken = c'; held = []; out = o' })
puts_some start c' sent b n o' has within some failed =
    let more = behind start b.taken c' has.out b.held n b.out o' (omega (arith, within)) has.written has.count some in
    record {
      out = has.out ++ take n b.held;
      left = drop n b.held;
      split = append-nil sent ∙ has.split ∙ ap (λ t. has.out ++ t) (sym (take-append-drop n b.held)) ∙ sym (append_assoc has.out (take n b.held) (drop n b.held));
      short = omega (arith, within, length-drop n b.held);
      written = more.0;
      count = more.1;
      failed = failed;
      dropped = refl;
    }

-- if a failed write cut a text short, the text with more bytes appended is also cut short
cut_before : (start : Outgoing) (sent more : List ℕ) (b : Buffering) → IsCut start sent b → IsCut start (sent ++ more) b
cut_before start sent more b cut = record {
  out = cut.out;
  left = cut.left ++ more;
  split = ap (λ s. s ++ more) cut.split ∙ append_assoc cut.out cut.left more;
  short = omega (arith, cut.short, length-append cut.left more);
  written = cut.written;
  count = cut.count;
  failed = cut.failed;
  dropped = cut.dropped;
}

-- sending two pieces in a row sends their concatenation
pub writes_then : (u v w : Buffering) (one two : List ℕ) (result : Result Unit WriteFailed) → Writes u v one (Ok tt) → Writes v w two result → Writes u w (one ++ two) result
writes_then u v w one two result first then = record {
  behind = λ start sent has. subst (λ s. SentOrCut start s w result) (append_assoc sent one two) (then.behind start (sent ++ one) (first.behind start sent has));
}

-- if a write fails in a piece, it fails in every longer piece that begins with it
pub writes_cut : (u v : Buffering) (one two : List ℕ) (e : WriteFailed) (result : Result Unit WriteFailed) → IsErr result → Writes u v one (Err e) → Writes u v (one ++ two) result
writes_cut u v one two e (Ok _) fails cut = absurd (grind (arith, fails))
writes_cut u v one two e (Err _) fails cut = record {
  behind = λ start sent has. subst (λ s. IsCut start s v) (append_assoc sent one two) (cut_before start (sent ++ one) two v (cut.behind start sent has));
}

-- the held bytes are written, or a write fails
pub puts : (start c' : Outgoing) (sent : List ℕ) (b : Buffering) (o' : ℕ) (result : Result Unit WriteFailed) → HasSent start sent b
    → OnOk result (PutsOut b.held b.taken c' b.out o') → OnErr result (PutsOutSome b.held b.taken c' b.out o')
    → SentOrCut start (sent ++ []) (record { taken = c'; held = []; out = o' }) result
puts start c' sent b o' (Ok _) has ok err = puts_all start c' sent b o' has ok
puts start c' sent b o' (Err _) has ok err = puts_some start c' sent b err.0 o' has err.1 err.2 err.3

-- if nothing is held, a piece is written directly, or a write fails
pub puts_directly : (start c' : Outgoing) (sent piece held : List ℕ) (b : Buffering) (o' : ℕ) (result : Result Unit WriteFailed) → b.held ≡ [] → held ≡ [] → HasSent start sent b
    → OnOk result (PutsOut piece b.taken c' b.out o') → OnErr result (PutsOutSome piece b.taken c' b.out o')
    → SentOrCut start (sent ++ piece) (record { taken = c'; held = held; out = o' }) result
puts_directly start c' sent piece held b o' result none still has ok err =
    let behind = subst (λ h. HasSent start (sent ++ piece) (record b { held = h })) (ap (λ h. h ++ piece) none) (holds start sent piece b has) in
    let done = puts start c' (sent ++ piece) (record b { held = piece }) o' result behind ok err in
    subst (λ h. SentOrCut start (sent ++ piece) (record { taken = c'; held = h; out = o' }) result) (sym still)
    (subst (λ s. SentOrCut start s (record { taken = c'; held = []; out = o' }) result) (append-nil (sent ++ piece)) done)

-- if the buffer is empty and its count is 0, nothing has been sent since this state
begins : (b : Buffering) → b.held ≡ [] → b.out ≡ 0 → HasSent b.taken [] b
begins b none no_count = record {
  out = [];
  split = sym none;
  written = sends_none b.taken;
  count = no_count;
  calm = refl;
}

-- a text that was cut short satisfies `SentOrCut` with any error
pub cut_is_counted : (start : Outgoing) (sent : List ℕ) (b : Buffering) (result : Result Unit WriteFailed) → IsErr result → IsCut start sent b → SentOrCut start sent b result
cut_is_counted start sent b (Ok _) fails cut = absurd (grind (arith, fails))
cut_is_counted start sent b (Err _) fails cut = cut

-- the state after a writer that held nothing was sent the first piece of a text
pub from_begun : (b b' begun : Buffering) (piece : List ℕ) (result : Result Unit WriteFailed) → begun ≡ record b { out = 0 } → b.held ≡ [] → Writes begun b' piece result
    → SentOrCut b.taken piece b' result
from_begun b b' begun piece result is none writes =
    writes.behind b.taken [] (subst (HasSent b.taken []) (sym is) (begins (record b { out = 0 }) none refl))
