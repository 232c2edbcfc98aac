-- The lines of a text, one by one.
use Rattle.std.proofs.Common.{◌≡◌, ℕ, ◌-◌, ◌<◌, ◌==◌, false, List, [], ◌∷◌, ◌++◌, length, take, drop, get_or, refl, ap, sym, ◌∙◌, arith}
use Rattle.std.proofs.lemmas.Bool.{eqb-true, false_from_ne_true}
use Rattle.std.proofs.lemmas.List.{get_or_default}
use Rattle.std.proofs.lemmas.List.Splits.{slice_split_at, slice_split_none}
use Rattle.std.specs.List.{All}
use Rattle.memchr.specs.Find.{Nowhere, Passes, is_byte}
use Rattle.nr_recording.specs.Reading.{lines}
use Rattle.nr_recording.proofs.PlainLemmas.{split_front}

-- true if none of the bytes is a line feed
abbrev HasNoLineFeed : List ℕ → Type 0
HasNoLineFeed line = All (λ b. (b == 10) ≡ false) line

-- if a search finds no line feed before an index, the text before the index contains none
no_line_feed : (text line : List ℕ) (end : ℕ) → Nowhere (Passes (is_byte 10) text) 0 end → length line ≡ end → ((k : ℕ) → k < end → get_or line k 0 ≡ get_or text k 0) → HasNoLineFeed line
no_line_feed text line end nowhere long front k d below =
    let inside : k < end = omega (arith, below, long) in
    let here : get_or line k d ≡ get_or text k 0 = get_or_default line k d 0 below ∙ front k inside in
    false_from_ne_true (get_or line k d == 10) (λ is. nowhere k (omega arith) inside (ap (λ b. b == 10) (sym here) ∙ is))

-- a text without a line feed is one line
pub one_line : (text : List ℕ) → Nowhere (Passes (is_byte 10) text) 0 (length text) → lines text ≡ text ∷ []
one_line text nowhere = slice_split_none (λ b. b == 10) text (no_line_feed text text (length text) nowhere refl (λ k below. refl))

-- the lines of a text are the text up to the first line feed, and the lines of the rest
pub line_then : (text line rest : List ℕ) (end : ℕ) → Nowhere (Passes (is_byte 10) text) 0 end → Passes (is_byte 10) text end → text ≡ line ++ rest → length line ≡ end
    → ((k : ℕ) → k < end → get_or line k 0 ≡ get_or text k 0) → get_or rest 0 0 ≡ get_or text end 0 → 0 < length rest
    → lines text ≡ line ∷ lines (take (length rest - 1) (drop 1 rest))
line_then text line rest end nowhere feed is long front same some =
    let behind = take (length rest - 1) (drop 1 rest) in
    let opening : get_or rest 0 0 ≡ 10 = same ∙ eqb-true (get_or text end 0) 10 feed in
    let whole : text ≡ line ++ 10 ∷ behind = is ∙ ap (λ xs. line ++ xs) (split_front 10 rest some opening) in
    ap lines whole ∙ slice_split_at (λ b. b == 10) line 10 behind (no_line_feed text line end nowhere long front) refl
