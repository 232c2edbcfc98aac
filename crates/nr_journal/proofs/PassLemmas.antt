-- Lemmas about a pass's state, taken from the view of its seat.
use Rattle.std.proofs.Common.{◌≡◌, ◌≢◌, ℕ, ◌+◌, ◌<◌, List, [], ◌∷◌, ◌++◌, length, refl, sym, ap, ◌∙◌, subst, arith, length-append, append_assoc}
use Rattle.nr_journal.specs.declared.view.PassState.{PassState}
use Rattle.nr_journal.specs.declared.view.View.TheVariants.{Within}
use Rattle.nr_journal.specs.Rule.{IsOthers, StartsWith}
use Rattle.nr_journal.specs.Auxiliary.Rule.{having_seen, looked}
use Rattle.nr_journal.specs.Step.{Seat}
use Rattle.std.proofs.lemmas.List.{append-nil}
use Rattle.std.proofs.lemmas.List.Elements.{All-nil, All-push}
use Rattle.nr_journal.specs.Pass.{pass_state_of, SeesOthers, AreInLine}
use Rattle.nr_journal.proofs.RowLemmas.{in_line}

pub seated : (me : Seat) (s : PassState) (place tag words : ℕ) → me ≡ (Within s, []) → place ≡ length s.seen → tag ≡ s.tag → place < words
    → (me ≡ (Within (pass_state_of me.0), [])) × (place ≡ length (pass_state_of me.0).seen) × (tag ≡ (pass_state_of me.0).tag) × (place < words)
seated me s place tag words is p t l = (
  is ∙ sym (ap (λ (m : Seat). (Within (pass_state_of m.0), [])) is),
  p ∙ ap (λ (m : Seat). length (pass_state_of m.0).seen) (sym is),
  t ∙ ap (λ (m : Seat). (pass_state_of m.0).tag) (sym is),
  l,
)

pub knows_as : (me : Seat) (s : PassState) → me ≡ (Within s, []) → pass_state_of me.0 ≡ s
knows_as me s is = ap (λ (m : Seat). pass_state_of m.0) is

pub one_more : (seen : List ℕ) (v place : ℕ) → place ≡ length seen → place + 1 ≡ length (seen ++ v ∷ [])
one_more seen v place is = omega (arith, length-append seen (v ∷ []))

pub sees_others_none : (a : PassState) → SeesOthers a a
sees_others_none a = ([], sym (append-nil a.seen), All-nil (IsOthers a.tag), refl, refl, refl, (λ _. refl))

pub sees_others_one : (a b : PassState) (v : ℕ) → SeesOthers a b → IsOthers b.tag v → b.passes ≢ 1 → SeesOthers a (having_seen b v)
sees_others_one a b v g other company = (
  g.0 ++ v ∷ [],
  ap (λ (l : List ℕ). l ++ v ∷ []) g.1 ∙ append_assoc a.seen g.0 (v ∷ []),
  All-push (IsOthers a.tag) g.0 v g.2 (subst (λ (t : ℕ). IsOthers t v) g.3 other),
  g.3,
  g.4,
  g.5,
  (λ (alone : a.passes ≡ 1). absurd (company (g.5 ∙ alone))),
)

pub sees_others_look : (a b : PassState) → SeesOthers a b → SeesOthers a (looked b)
sees_others_look a b g = g

-- of two prefixes of one list, the shorter is a prefix of the longer
pub are_in_line : (xs ys log : List ℕ) → StartsWith log xs → StartsWith log ys → AreInLine xs ys
are_in_line xs ys log a b = ((λ le. in_line xs ys a.0 b.0 (sym a.1 ∙ b.1) le), (λ le. in_line ys xs b.0 a.0 (sym b.1 ∙ a.1) le))
