use Rattle.std.proofs.Common.{◌≡◌, ◌∷◌, ◌++◌, [], refl, sym, subst, ap, ◌∙◌, arith}
use Rattle.json.specs.Token.{Token}
use Rattle.json.specs.Lex.{after_comma, between, fresh, lex, punctuate}
use Rattle.nr_recording.specs.Plain.{items_behind}
use Rattle.nr_recording.proofs.PlainLemmas.{AllReadBack, array_read, closed, nothing_behind, one_more_back, opened, part_taken, parts_tokens}
use Rattle.nr_recording.proofs.plain.gather.Goals as goal

pub loop-part-init : goal.loop-part-init
loop-part-init c = (
  fresh,
  refl,
  subst AllReadBack (sym c.requires) tt,
  opened c.args.inside.now ∙ ap (λ parts. Token.begin_array ∷ (parts_tokens parts ++ punctuate fresh (lex between c.args.inside.now))) (sym c.requires),
)

pub returns-then-closes_line : goal.returns-then-closes_line
returns-then-closes_line c =
    let l = c.loop-part in
    let before = l.parts.items in
    let part = c.in_ok-part.part in
    let behind = c.in_ok-part.behind.now in
    let pushed : c.try_push.new.self.items ≡ before ++ part ∷ [] = grind arith in
    let last : behind ≡ 93 ∷ [] = c.if-closes_line.ensures refl in
    let taken = part_taken _ before part _ _ l.invariant.3 (c.in_ok-part.ensures.begins l.invariant.0 l.invariant.1) in
    let all = one_more_back before part l.invariant.2 c.in_ok-part.ensures.reads_back in
    let is = taken ∙ ap (λ text. Token.begin_array ∷ (parts_tokens (before ++ part ∷ []) ++ items_behind text)) last
    ∙ ap (λ ts. Token.begin_array ∷ (parts_tokens (before ++ part ∷ []) ++ ts)) (closed [] ∙ ap (λ ts. Token.end_array ∷ ts) nothing_behind) in
    array_read (91 ∷ c.args.inside.now) c.try_push.new.self.items
    (is ∙ ap (λ parts. Token.begin_array ∷ (parts_tokens parts ++ Token.end_array ∷ [])) (sym pushed)) (subst AllReadBack (sym pushed) all)

pub loop-part-preserved : goal.loop-part-preserved
loop-part-preserved c =
    let l = c.loop-part in
    let before = l.parts.items in
    let part = c.in_ok-part.part in
    let left = c.in_ok-left.left.now in
    let pushed : c.try_push.new.self.items ≡ before ++ part ∷ [] = grind arith in
    let taken = part_taken _ before part _ _ l.invariant.3 (c.in_ok-part.ensures.begins l.invariant.0 l.invariant.1) in
    let all = one_more_back before part l.invariant.2 c.in_ok-part.ensures.reads_back in
    let is = taken ∙ ap (λ ts. Token.begin_array ∷ (parts_tokens (before ++ part ∷ []) ++ ts)) c.in_ok-left.ensures.begins in (
      after_comma,
      refl,
      subst AllReadBack (sym pushed) all,
      is ∙ ap (λ parts. Token.begin_array ∷ (parts_tokens parts ++ punctuate after_comma (lex between left))) (sym pushed),
    )
