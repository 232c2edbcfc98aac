-- Consequences of the rule.
use Rattle.std.proofs.Common.{◌≡◌, Bool, true, false, ℕ, zero, suc, ◌+◌, ◌<◌, ◌≤◌, List, [], ◌∷◌, ◌++◌, length, get_or, refl, sym, ap, ◌∙◌, subst, arith}
use Rattle.std.proofs.lemmas.List.{append-nil}
use Rattle.std.specs.List.{All}
use mathlib.Core.Option.{some, some-injective, some-ne-none}
use lib.ListN.{get_elem?}
use Rattle.nr_journal.specs.declared.view.PassState.{PassState}
use Rattle.nr_journal.specs.declared.view.View.{View}
use Rattle.nr_journal.specs.declared.view.View.TheVariants.{Outside, Keeping, Within, Note, Spent}
use Rattle.nr_journal.specs.Rule.{tag_of, IsOthers}
use Rattle.nr_journal.specs.declared.rule.Purpose.{Purpose}
use Rattle.nr_journal.specs.Auxiliary.Rule.{Fits, HasTag, IsDrawn, first_view}
use Rattle.nr_journal.specs.Laws.{BeginsEmpty, EachWordHasItsPass, EmptyLookSeesAll}
use Rattle.nr_journal.proofs.RuleLemmas.{is_word, before_end, found_opcode}

pub empty_look : EmptyLookSeesAll
empty_look purpose id pass_state words views k at zero_there = let c = (k.each_view id (Within pass_state) at).2 in go c.0 c.1
  where
    go : (rest : List ℕ) → k.log ≡ pass_state.seen ++ rest → k.log ≡ pass_state.seen
    go [] is = is ∙ append-nil pass_state.seen
    go (v ∷ rest) is =
        let there : get_or words (suc (length pass_state.seen)) 0 ≡ v = before_end purpose words views k pass_state.seen v rest is in
        let index : suc (length pass_state.seen) ≡ length pass_state.seen + 1 = omega arith in
        absurd (is_word v (found_opcode purpose words views k pass_state.seen v rest is) (sym there ∙ (ap (λ (j : ℕ). get_or words j 0) index ∙ zero_there)))

-- if a view has the tag of a word in the log, it is a pass's view, and the pass has that tag
of_pass : (most tags : ℕ) (log : List ℕ) (place : ℕ) (v : View) → place < length log → HasTag v (tag_of (get_or log place 0)) → Fits most tags log v
    → (pass_state : PassState) × (v ≡ Within pass_state) × (pass_state.tag ≡ tag_of (get_or log place 0))
of_pass most tags log place (Outside tried passes) below has fits = absurd has
of_pass most tags log place (Keeping next passes) below has fits =
    let given : tag_of (get_or log place 0) < next = fits.2 place 0 below in
    let from : next ≤ tag_of (get_or log place 0) = has.0 in
    absurd (omega (arith, given, from))
of_pass most tags log place (Within pass_state) below has fits = (pass_state, refl, has)
of_pass most tags log place (Note seen) below has fits = absurd has
of_pass most tags log place Spent below has fits = absurd has

-- if no unread word has this tag, every word with this tag has been read
pub among_seen : (seen rest : List ℕ) (tag place : ℕ) → All (IsOthers tag) rest → place < length (seen ++ rest) → tag_of (get_or (seen ++ rest) place 0) ≡ tag
    → (place < length seen) × (get_or seen place 0 ≡ get_or (seen ++ rest) place 0)
among_seen [] rest tag place others below is = absurd (others place 0 below is)
among_seen (x ∷ xs) rest tag zero others below is = (omega arith, refl)
among_seen (x ∷ xs) rest tag (suc place) others below is = let t = among_seen xs rest tag place others (omega arith) is in (omega (arith, t.0), t.1)

pub each_word : EachWordHasItsPass
each_word purpose words views k place below =
    let drawn : IsDrawn k.tags (tag_of (get_or k.log place 0)) = (k.entries place 0 below).1 in
    let o = k.taken (tag_of (get_or k.log place 0)) drawn in
    let p = of_pass purpose.passes k.tags k.log place o.1 below o.3 (k.each_view o.0 o.1 o.2) in
    let at : get_elem? views o.0 ≡ some (Within p.0) = o.2 ∙ ap some p.1 in
    let c = (k.each_view o.0 (Within p.0) at).2 in
    let lies = among_seen p.0.seen c.0 p.0.tag place c.2 (subst (λ (l : List ℕ). place < length l) c.1 below) (ap (λ (l : List ℕ). tag_of (get_or l place 0)) (sym c.1) ∙ sym p.2) in
    (o.0, p.0, at, p.2, lies.0, lies.1 ∙ ap (λ (l : List ℕ). get_or l place 0) (sym c.1))

-- no word of the log has a tag that the first view has
has_none : (purpose : Purpose) (drawn : Bool) (words passes : ℕ) → purpose ≡ record { words = words; passes = passes; drawn = drawn } → (log : List ℕ) (tags place : ℕ) → place < length log
    → HasTag (first_view purpose) (tag_of (get_or log place 0)) → Fits passes tags log (first_view purpose) → ⊥
has_none purpose true words passes is log tags place below has fits =
    let keeper : first_view purpose ≡ Keeping 0 passes = ap first_view is in
    let known : Fits passes tags log (Keeping 0 passes) = subst (Fits passes tags log) keeper fits in
    let none : tag_of (get_or log place 0) < 0 = known.2 place 0 below in omega (arith, none)
has_none purpose false words passes is log tags place below has fits =
    let newcomer_is : first_view purpose ≡ Outside 0 passes = ap first_view is in
    subst (λ (v : View). HasTag v (tag_of (get_or log place 0))) newcomer_is has

pub empty_at_first : BeginsEmpty
empty_at_first purpose words k = go k.log refl
  where
    go : (log : List ℕ) → k.log ≡ log → k.log ≡ []
    go [] is = is
    go (x ∷ xs) is =
        let below : 0 < length k.log = subst (λ (l : List ℕ). 0 < length l) (sym is) (omega arith) in
        let drawn : IsDrawn k.tags (tag_of (get_or k.log 0 0)) = (k.entries 0 0 below).1 in
        let o = k.taken (tag_of (get_or k.log 0 0)) drawn in
        let same : first_view purpose ≡ o.1 = only o.0 o.1 o.2 in
        let has : HasTag (first_view purpose) (tag_of (get_or k.log 0 0)) = subst (λ (v : View). HasTag v (tag_of (get_or k.log 0 0))) (sym same) o.3 in
        absurd (has_none purpose purpose.drawn purpose.words purpose.passes refl k.log k.tags 0 below has (k.each_view 0 (first_view purpose) refl))
      where
        only : (id : ℕ) (v : View) → get_elem? (first_view purpose ∷ []) id ≡ some v → first_view purpose ≡ v
        only zero v e = some-injective (first_view purpose) v e
        only (suc id) v e = absurd (some-ne-none v (sym e))
