-- Lemmas about a journal's only pass.
use Rattle.std.proofs.Common.{◌≡◌, ◌≢◌, ℕ, ◌<◌, List, [], ◌∷◌, ◌++◌, sym, ◌∙◌, subst, arith}
use Rattle.std.proofs.lemmas.List.{append-nil}
use Rattle.std.proofs.lemmas.List.Elements.{All-head}
use Rattle.std.specs.List.{All}
use mathlib.Core.Option.{some}
use lib.ListN.{get_elem?}
use Rattle.nr_journal.specs.declared.view.PassState.{PassState}
use Rattle.nr_journal.specs.declared.rule.Purpose.{Purpose}
use Rattle.nr_journal.specs.declared.view.View.{View}
use Rattle.nr_journal.specs.declared.view.View.TheVariants.{Within}
use Rattle.nr_journal.specs.Laws.{AnOnlyPassSeesAll}
use Rattle.nr_journal.specs.Rule.{tag_of, IsOthers}
use Rattle.nr_journal.specs.Auxiliary.Rule.{IsEntry, Kept}
use Rattle.nr_journal.proofs.RowLemmas.{All-right}

module _ (purpose : Purpose) (words : List ℕ) (views : List View) (k : Kept purpose words views) (id : ℕ) (pass_state : PassState) where
  -- If a journal may have only one pass, no word follows those that the pass has read. Such a word
  -- would be another pass's, yet it would have the only possible tag, 0.
  pub none_behind : (v : ℕ) (rest : List ℕ) → get_elem? views id ≡ some (Within pass_state) → k.log ≡ pass_state.seen ++ v ∷ rest → All (IsOthers pass_state.tag) (v ∷ rest)
      → pass_state.passes ≡ 1 → ⊥
  none_behind v rest at is others alone =
      let fits = k.each_view id (Within pass_state) at in
      let entry : IsEntry k.tags v = All-head (IsEntry k.tags) v rest (All-right (IsEntry k.tags) pass_state.seen (v ∷ rest) (subst (All (IsEntry k.tags)) is k.entries)) in
      let of_word : tag_of v < purpose.passes = k.few (tag_of v) entry.1 in
      let own : pass_state.tag < purpose.passes = k.few pass_state.tag (fits.1 pass_state.tag (omega arith)) in
      let one : purpose.passes ≡ 1 = sym fits.0 ∙ alone in
      All-head (IsOthers pass_state.tag) v rest others (only (tag_of v) pass_state.tag purpose.passes one of_word own)
    where
      only : (a b n : ℕ) → n ≡ 1 → a < n → b < n → a ≡ b
      only a b n one a_below b_below = omega arith

  pub not_alone : (v : ℕ) (rest : List ℕ) → get_elem? views id ≡ some (Within pass_state) → k.log ≡ pass_state.seen ++ v ∷ rest → All (IsOthers pass_state.tag) (v ∷ rest)
      → pass_state.passes ≢ 1
  not_alone v rest at is others = none_behind v rest at is others

pub only_sees_all : AnOnlyPassSeesAll
only_sees_all purpose id pass_state words views k at alone = let c = (k.each_view id (Within pass_state) at).2 in go c.0 c.1 c.2
  where
    go : (rest : List ℕ) → k.log ≡ pass_state.seen ++ rest → All (IsOthers pass_state.tag) rest → k.log ≡ pass_state.seen
    go [] is others = is ∙ append-nil pass_state.seen
    go (v ∷ rest) is others = absurd (none_behind purpose words views k id pass_state v rest at is others alone)
