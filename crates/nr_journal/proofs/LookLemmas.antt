-- Lemmas about a pass that reads the next word, or reads an earlier word again.
use Rattle.std.proofs.Common.{◌≡◌, ℕ, suc, ◌<◌, List, [], ◌∷◌, ◌++◌, length, get_or, set, replicate, refl, sym, ap, ◌∙◌, subst, arith}
use Rattle.std.proofs.lemmas.List.{set-get_or, append-nil}
use Rattle.std.specs.List.{All}
use Rattle.std.proofs.lemmas.List.Elements.{All-head}
use mathlib.Core.Option.{some, none}
use lib.ListN.{get_elem?}
use Rattle.atomic_table.specs.Table.{step, Allows}
use Rattle.nr_journal.specs.declared.view.PassState.{PassState}
use Rattle.nr_journal.specs.declared.rule.Purpose.{Purpose}
use Rattle.nr_journal.specs.declared.view.View.{View}
use Rattle.nr_journal.specs.declared.view.View.TheVariants.{Within}
use Rattle.nr_journal.specs.Rule.{IsOthers, StartsWith}
use Rattle.nr_journal.specs.Auxiliary.Rule.{Kept, looked, having_seen}
use Rattle.nr_journal.specs.Step.{Seat, Looked, LookedFrom, Rereads, RereadsFrom}
use Rattle.nr_journal.proofs.AloneLemmas.{not_alone}
use Rattle.nr_journal.proofs.RowLemmas.{among}
use Rattle.nr_journal.proofs.RuleLemmas.{are_alike, is_word, kept_view, at_place, before_end, kept_found, found_opcode, Rule, Picks, allowed, stays}

module _ (purpose : Purpose) where
  pub looks_from : (words : List ℕ) (views : List View) (id : ℕ) (pass_state : PassState) → Kept purpose words views → get_elem? views id ≡ some (Within pass_state)
      → Picks purpose words views id (suc (length pass_state.seen)) (get_or words (suc (length pass_state.seen)) 0) (LookedFrom (Within pass_state) (get_or words (suc (length pass_state.seen)) 0))
  looks_from words views id pass_state k at = let c = k.each_view id (Within pass_state) at in go c.2.0 c.2.1 c.2.2
    where
      same : set words (suc (length pass_state.seen)) (get_or words (suc (length pass_state.seen)) 0) ≡ words
      same = set-get_or words (suc (length pass_state.seen)) 0

      go : (rest : List ℕ) → k.log ≡ pass_state.seen ++ rest → All (IsOthers pass_state.tag) rest
          → Picks purpose words views id (suc (length pass_state.seen)) (get_or words (suc (length pass_state.seen)) 0) (LookedFrom (Within pass_state) (get_or words (suc (length pass_state.seen)) 0))
      go [] is others =
          let c = k.each_view id (Within pass_state) at in
          let zero_there : get_or words (suc (length pass_state.seen)) 0 ≡ 0 = at_place purpose words views k pass_state.seen (is ∙ append-nil pass_state.seen) in (
            Within (looked pass_state),
            subst (λ (ws : List ℕ). Kept purpose ws (set views id (Within (looked pass_state)))) (sym same)
                (kept_view purpose words views id (Within pass_state) (Within (looked pass_state)) at k c (are_alike pass_state (looked pass_state) refl)),
            ((λ z. (refl, subst (λ (l : List ℕ). StartsWith l pass_state.learned) (is ∙ append-nil pass_state.seen) c.3)), (λ not. absurd (not zero_there))),
          )
      go (v ∷ rest) is others =
          let c = k.each_view id (Within pass_state) at in
          let there : get_or words (suc (length pass_state.seen)) 0 ≡ v = before_end purpose words views k pass_state.seen v rest is in
          let code = found_opcode purpose words views k pass_state.seen v rest is in (
            Within (having_seen pass_state v),
            subst (λ (ws : List ℕ). Kept purpose ws (set views id (Within (having_seen pass_state v)))) (sym same) (kept_found purpose words views k id pass_state v rest at is others),
            subst (λ (n : ℕ). LookedFrom (Within pass_state) n (Within (having_seen pass_state v), [])) (sym there)
                ((λ z. absurd (is_word v code z)), (λ not. (refl, code, All-head (IsOthers pass_state.tag) v rest others, not_alone purpose words views k id pass_state v rest at is others))),
          )

  pub looks : (slots id i : ℕ) (me : Seat) (pass_state : PassState) → me ≡ (Within pass_state, []) → i ≡ suc (length pass_state.seen)
      → Allows (Rule purpose) slots id me i (λ n. n) (Looked (step slots i 0 0 none) me)
  looks slots id i me pass_state is place =
      subst (λ (m : Seat). Allows (Rule purpose) slots id m i (λ n. n) (Looked (step slots i 0 0 none) m)) (sym is)
      (subst (λ (j : ℕ). Allows (Rule purpose) slots id (Within pass_state, []) j (λ n. n) (Looked (step slots j 0 0 none) (Within pass_state, []))) (sym place)
      (allowed purpose slots id (suc (length pass_state.seen)) (Within pass_state) (λ n. n) (LookedFrom (Within pass_state)) (λ words views k at fits. looks_from words views id pass_state k at)))

  -- if a pass has read the word at an index, the journal still has the same word there
  pub seen_at : (words : List ℕ) (views : List View) (k : Kept purpose words views) (id at : ℕ) (pass_state : PassState) → get_elem? views id ≡ some (Within pass_state) → at < length pass_state.seen
      → get_or words (suc at) 0 ≡ get_or pass_state.seen at 0
  seen_at words views k id at pass_state mine below = let c = (k.each_view id (Within pass_state) mine).2 in
      ap (λ (ws : List ℕ). get_or ws (suc at) 0) k.words_are ∙ (ap (λ (l : List ℕ). get_or (l ++ replicate k.free 0) at 0) c.1 ∙ among pass_state.seen c.0 (replicate k.free 0) at below)

  pub rereads : (slots id i : ℕ) (me : Seat) (pass_state : PassState) (at : ℕ) → me ≡ (Within pass_state, []) → i ≡ suc at → at < length pass_state.seen
      → Allows (Rule purpose) slots id me i (λ n. n) (Rereads (step slots i 0 0 none) me)
  rereads slots id i me pass_state at is place below =
      subst (λ (m : Seat). Allows (Rule purpose) slots id m i (λ n. n) (Rereads (step slots i 0 0 none) m)) (sym is)
      (allowed purpose slots id i (Within pass_state) (λ n. n) (RereadsFrom i (Within pass_state))
      (λ words views k mine fits. stays purpose words views id i (Within pass_state) (RereadsFrom i (Within pass_state) (get_or words i 0)) k mine
      (refl, ap (λ (j : ℕ). get_or words j 0) place ∙ (seen_at words views k id at pass_state mine below ∙ ap (λ (j : ℕ). get_or pass_state.seen j 0) (omega arith)))))
