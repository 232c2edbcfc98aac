-- The answers to a growing list of lines.
use Rattle.std.proofs.Common.{◌≡◌, ℕ, suc, ◌+◌, Bool, true, false, cond, ◌||◌, List, [], ◌∷◌, ◌++◌, arith, length, filter, refl, ap, ◌∙◌, subst, nat_lt, append-nil, length-append}
use Rattle.std.specs.List.{concat}
use Rattle.std.proofs.lemmas.List.Folds.{concat-append}
use Rattle.std.proofs.lemmas.List.Elements.{filter-append}
use Rattle.nr_command.specs.Command.{meaning_of}
use Rattle.nr_front.specs.FrontState.{FrontState}
use Rattle.nr_text.specs.Streams.{saturating_count}
use Rattle.nr_lines.specs.Turn.{is_quit}
use Rattle.nr_lines.specs.Auxiliary.Turn.{MayReply, Turn, count_with}
use Rattle.nr_lines.specs.Engine.{has_quit}
use Rattle.nr_lines.specs.Auxiliary.Engine.{Turns, some_count}

abbrev some : List ℕ → Bool
some text = nat_lt 0 (length text)

pub counted_text : (whole n : ℕ) (text : List ℕ) → whole ≡ saturating_count n → count_with whole text ≡ saturating_count (n + some_count (text ∷ []))
counted_text whole n text h =
    elim (nat_lt 0 (length text)) as (λ t. cond t (saturating_count (whole + 1)) whole ≡ saturating_count (n + length (cond t (text ∷ []) [])))
    [ true ↦ omega (arith, h) | false ↦ omega (arith, h) ]

-- a concatenation has as many nonempty texts as the two lists together
pub some_count-append : (xs ys : List (List ℕ)) → some_count (xs ++ ys) ≡ some_count xs + some_count ys
some_count-append xs ys = ap length (filter-append some xs ys) ∙ length-append (filter some xs) (filter some ys)

pub has_quit-append : (xs ys : List (List ℕ)) → has_quit xs ≡ false → has_quit (xs ++ ys) ≡ has_quit ys
has_quit-append [] ys = λ h. refl
has_quit-append (x ∷ xs) ys =
    elim (is_quit (meaning_of x)) as (λ t. (t || has_quit xs) ≡ false → (t || has_quit (xs ++ ys)) ≡ has_quit ys) [ true ↦ λ h. cc | false ↦ has_quit-append xs ys ]

pub concat_more : (texts : List (List ℕ)) (text : List ℕ) → concat (texts ++ text ∷ []) ≡ concat texts ++ text
concat_more texts text = concat-append texts (text ∷ []) ∙ ap (λ t. concat texts ++ t) (append-nil text)

pub turns_more : (p : FrontState) (lines texts : List (List ℕ)) (mid : FrontState) (line text : List ℕ) (p' : FrontState) → Turns p lines texts mid → Turn mid line text p'
    → Turns p (lines ++ line ∷ []) (texts ++ text ∷ []) p'
turns_more p [] [] mid line text p' here turn = (p', subst (λ m. Turn m line text p') here turn, refl)
turns_more p [] (t ∷ ts) mid line text p' here turn = absurd here
turns_more p (l ∷ ls) [] mid line text p' here turn = absurd here
turns_more p (l ∷ ls) (t ∷ ts) mid line text p' here turn = (here.0, here.1, turns_more here.0 ls ts mid line text p' here.2 turn)

pub turns_append : (p : FrontState) (lines texts : List (List ℕ)) (mid : FrontState) (later more : List (List ℕ)) (p' : FrontState) → Turns p lines texts mid → Turns mid later more p'
    → Turns p (lines ++ later) (texts ++ more) p'
turns_append p [] [] mid later more p' here then = subst (λ m. Turns m later more p') here then
turns_append p [] (t ∷ ts) mid later more p' here then = absurd here
turns_append p (l ∷ ls) [] mid later more p' here then = absurd here
turns_append p (l ∷ ls) (t ∷ ts) mid later more p' here then = (here.0, here.1, turns_append here.0 ls ts mid later more p' here.2 then)

-- each line has one text
pub one_text_each : (p : FrontState) (lines texts : List (List ℕ)) (p' : FrontState) → Turns p lines texts p' → length texts ≡ length lines
one_text_each p [] [] p' turns = refl
one_text_each p [] (t ∷ ts) p' turns = absurd turns
one_text_each p (l ∷ ls) [] p' turns = absurd turns
one_text_each p (l ∷ ls) (t ∷ ts) p' turns = ap suc (one_text_each turns.0 ls ts p' turns.2)

-- lines with the same meaning have the same answers
pub turn_asks : (a b text : List ℕ) (p p' : FrontState) → meaning_of a ≡ meaning_of b → Turn p a text p' → Turn p b text p'
turn_asks a b text p p' e turn = (turn.0, subst (λ asked. MayReply asked p turn.0 p') e turn.1, turn.2)
