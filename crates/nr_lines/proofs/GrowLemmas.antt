-- A transcript only grows.
use Rattle.std.proofs.Common.{◌≡◌, ℕ, ap, sym, ◌∙◌, arith, List, [], ◌∷◌, ◌++◌, append-nil, append_assoc}
use Rattle.nr_journal.specs.declared.view.PassState.{PassState}
use Rattle.nr_command.specs.Word.{word_of}
use Rattle.nr_command.specs.declared.command.Command.{Command}
use Rattle.nr_front.specs.FrontState.{FrontState}
use Rattle.nr_front.specs.Front.{PlacesCommand}
use Rattle.nr_lines.specs.Auxiliary.Engine.{Grows, Turns}
use Rattle.nr_lines.proofs.KeptLemmas.{IsKept, turns_keep}

-- no word was read
none_seen : (d d' : FrontState) → d'.pass_state ≡ d.pass_state → Grows d d'
none_seen d d' is = record {
  words = ([], ap (λ (t : PassState). t.seen) is ∙ sym (append-nil d.pass_state.seen));
  looks = let e = ap (λ (t : PassState). t.looks) is in omega (arith, e);
}

own_placed : (command : Command) (d d' : FrontState) → PlacesCommand command d d' → Grows d d'
own_placed command d d' p = record {
  words = (p.between ++ word_of d.pass_state.tag command ∷ [], p.placed ∙ append_assoc d.pass_state.seen p.between (word_of d.pass_state.tag command ∷ []));
  looks = p.looks;
}

grows_then : (a b c : FrontState) → Grows a b → Grows b c → Grows a c
grows_then a b c x y = record {
  words = (x.words.0 ++ y.words.0, y.words.1 ∙ ap (λ (l : List ℕ). l ++ y.words.0) x.words.1 ∙ append_assoc a.pass_state.seen x.words.0 y.words.0);
  looks = let p = x.looks in let q = y.looks in omega (arith, p, q);
}

grows : IsKept Grows
grows = record {
  stays = none_seen;
  learns = λ d d' l. record { words = (l.sees_others.0, l.sees_others.1); looks = l.looks };
  places = own_placed;
  joins = grows_then;
}

pub turns_grow : (d : FrontState) (lines texts : List (List ℕ)) (d' : FrontState) → Turns d lines texts d' → Grows d d'
turns_grow d lines texts d' turns = turns_keep Grows grows d lines texts d' turns
