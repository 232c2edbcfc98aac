use Rattle.std.proofs.Common.{◌≡◌, ◌∷◌, ◌++◌, true, length}
use Rattle.json.specs.Token.{Token}
use Rattle.json.specs.Lex.{Place, between, lex, may_begin, punctuate, tokens}
use Rattle.nr_recording.proofs.PlainLemmas.{AllReadBack, parts_tokens}
use Rattle.nr_recording.proofs.plain.gather.Given as goal

-- the line's tokens are those of the parts so far, followed by those of the rest, and an item may
-- begin at the start of the rest
abbrev pub invariant-loop-part : goal.invariant-loop-part
invariant-loop-part l =
    (place : Place) × (may_begin place ≡ true) × AllReadBack l.parts.items
    × (tokens (91 ∷ l.inside) ≡ Token.begin_array ∷ (parts_tokens l.parts.items ++ punctuate place (lex between l.left)))

abbrev pub decreases-loop-part : goal.decreases-loop-part
decreases-loop-part l = length l.left
