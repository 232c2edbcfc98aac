-- All calls of a front leave its tag and its number of passes unchanged.
use Rattle.std.proofs.Common.{◌≡◌, ℕ, Bool, ap, ◌∙◌, List, [], ◌∷◌, Result, Ok, Err}
use Rattle.nr_journal.specs.declared.view.PassState.{PassState}
use Rattle.nr_command.specs.Command.{meaning_of}
use Rattle.nr_front.specs.FrontState.{FrontState}
use Rattle.nr_lines.specs.Auxiliary.Engine.{Ends}
use Rattle.nr_lines.specs.declared.ending.End.{End}
use Rattle.nr_lines.specs.declared.ending.End.TheVariants as ends
use Rattle.nr_lines.specs.declared.ending.LineEnd.{LineEnd}
use Rattle.nr_lines.specs.declared.ending.LineEnd.TheVariants.{Read, Write}
use Rattle.nr_lines.proofs.KeptLemmas.{IsKept, turn_keeps, turns_keep}
use Rattle.nr_serving.specs.Auxiliary.Fronts.{ServesCallers}
use Rattle.nr_serving.specs.Conversations.{Conversation}

-- true if the tag and the number of passes are the same
abbrev pub HasSameTag : FrontState → FrontState → Type 0
HasSameTag d d' = (d'.pass_state.tag ≡ d.pass_state.tag) × (d'.pass_state.passes ≡ d.pass_state.passes)

tag : IsKept HasSameTag
tag = record {
  stays = λ d d' is. (ap (λ (t : PassState). t.tag) is, ap (λ (t : PassState). t.passes) is);
  learns = λ d d' l. (l.sees_others.3, l.sees_others.5);
  places = λ command d d' p. (p.tag, p.passes);
  joins = λ a b c x y. (y.0 ∙ x.0, y.1 ∙ x.1);
}

ends_keep : (Prompt : List (List ℕ) → List (List ℕ) → Type 0) (ending : Result End LineEnd) (ended : Bool) (d : FrontState) (lines : List (List ℕ)) (out : List ℕ) (d' : FrontState) → Ends Prompt ending ended d lines out d' → HasSameTag d d'
ends_keep Prompt (Ok ends.Closed) ended d lines out d' e = turns_keep HasSameTag tag d _ _ d' e.1.turns
ends_keep Prompt (Ok ends.Quit) ended d lines out d' e = turns_keep HasSameTag tag d _ _ d' e.turns
ends_keep Prompt (Err Read) ended d lines out d' e = turns_keep HasSameTag tag d _ _ d' e.1.turns
ends_keep Prompt (Err (Write whole part)) ended d lines out d' e = tag.joins d e.mid d' (turns_keep HasSameTag tag d _ _ e.mid e.turns) (turn_keeps HasSameTag tag (meaning_of e.line) e.mid e.turn.0 d' e.turn.1)

-- serving callers leaves the tag and the number of passes unchanged
pub serving_keeps_tag : (callers : List Conversation) (d d' : FrontState) → ServesCallers callers d d' → HasSameTag d d'
serving_keeps_tag [] d d' is = tag.stays d d' (ap (λ (t : FrontState). t.pass_state) is)
serving_keeps_tag (c ∷ callers) d d' (mid, first, rest) = tag.joins d mid d' (ends_keep _ c.ending first.serves.ended d _ _ mid first.serves.ends) (serving_keeps_tag callers mid d' rest)
