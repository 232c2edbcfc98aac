-- Lemmas about two passes that meet: one gives the other a note, and the other compares it with
-- what it has read.
use Rattle.std.proofs.Common.{◌≡◌, ℕ, ◌<◌, List, [], ◌∷◌, ◌++◌, set, refl, sym, ◌∙◌, subst}
use Rattle.std.specs.List.{All}
use Rattle.std.proofs.lemmas.List.Elements.{All-weaker}
use mathlib.Core.Option.{some, none}
use lib.ListN.{get_elem?}
use Rattle.atomic_table.specs.Table.{step, Allows, Splits, Joins}
use Rattle.atomic_table.proofs.Lists.{set_again, set_else}
use Rattle.nr_journal.specs.declared.view.PassState.{PassState}
use Rattle.nr_journal.specs.declared.rule.Purpose.{Purpose}
use Rattle.nr_journal.specs.declared.view.View.{View}
use Rattle.nr_journal.specs.declared.view.View.TheVariants.{Within, Note, Spent}
use Rattle.nr_journal.specs.Rule.{tag_of, StartsWith}
use Rattle.nr_journal.specs.Auxiliary.Rule.{Fits, HasTagBelow, IsEntry, Kept, informed}
use Rattle.nr_journal.specs.Step.{Seat, Compares, ComparesFrom}
use Rattle.nr_journal.proofs.RowLemmas.{All-left}
use Rattle.nr_journal.proofs.RuleLemmas.{are_alike, kept_view, Rule, allowed, snoc_view, stays}

-- a note of what a pass has read
pub notes : (purpose : Purpose) (id : ℕ) (pass_state : PassState) → Splits (Rule purpose) id (Within pass_state) (Within pass_state) (Note pass_state.seen)
notes purpose id pass_state s k at =
    let old : set s.views id (Within pass_state) ≡ s.views = set_again s.views id (Within pass_state) at in
    let c = (k.each_view id (Within pass_state) at).2 in
    subst (λ (vs : List View). Kept purpose s.words (vs ++ Note pass_state.seen ∷ [])) (sym old) (snoc_view purpose s.words s.views (Note pass_state.seen) k (c.0, c.1) (λ tag has. has))

-- a pass learns from a note which words another pass has read
pub learns : (purpose : Purpose) (id other : ℕ) (pass_state : PassState) (learned : List ℕ) → Joins (Rule purpose) id (Within pass_state) other (Note learned) (Within (informed pass_state learned)) Spent
learns purpose id other pass_state learned s k at apart there =
    let theirs : get_elem? s.views other ≡ some (Note learned) = sym (set_else s.views id other (Within (informed pass_state learned)) apart) ∙ there in
    let c = k.each_view id (Within pass_state) at in
    let fits : Fits purpose.passes k.tags k.log (Note learned) = k.each_view other (Note learned) theirs in
    kept_view purpose s.words (set s.views id (Within (informed pass_state learned))) other (Note learned) Spent there
    (kept_view purpose s.words s.views id (Within pass_state) (Within (informed pass_state learned)) at k (c.0, c.1, c.2, fits) (are_alike pass_state (informed pass_state learned) refl))
    tt
    ((λ tag has. absurd has), (λ tag has. absurd has))

module _ (purpose : Purpose) where
  -- each word that was read has a tag below the maximum number of passes
  pub all_below : (words : List ℕ) (views : List View) (k : Kept purpose words views) (pass_state : PassState) → pass_state.passes ≡ purpose.passes → StartsWith k.log pass_state.seen
      → All (HasTagBelow pass_state.passes) pass_state.seen
  all_below words views k pass_state most begins =
      All-weaker (IsEntry k.tags) (HasTagBelow pass_state.passes) (λ word (e : IsEntry k.tags word). subst (λ (n : ℕ). tag_of word < n) (sym most) (k.few (tag_of word) e.1)) pass_state.seen
      (All-left (IsEntry k.tags) pass_state.seen begins.0 (subst (All (IsEntry k.tags)) begins.1 k.entries))

  pub compares : (slots id : ℕ) (me : Seat) (pass_state : PassState) → me ≡ (Within pass_state, []) → Allows (Rule purpose) slots id me 0 (λ n. n) (Compares (step slots 0 0 0 none) me)
  compares slots id me pass_state is =
      subst (λ (m : Seat). Allows (Rule purpose) slots id m 0 (λ n. n) (Compares (step slots 0 0 0 none) m)) (sym is)
      (allowed purpose slots id 0 (Within pass_state) (λ n. n) (λ found after. ComparesFrom (Within pass_state) after)
      (λ words views k at fits. let c = k.each_view id (Within pass_state) at in
      stays purpose words views id 0 (Within pass_state) (ComparesFrom (Within pass_state)) k at (refl, (k.log, (c.2.0, c.2.1), c.3), all_below words views k pass_state c.0 (c.2.0, c.2.1))))
