-- Lemmas about a pass that offers a word.
use Rattle.std.proofs.Common.{◌≡◌, ℕ, suc, ◌+◌, ◌<◌, ◌≤◌, lt_of_not-le, List, [], ◌∷◌, ◌++◌, length, get_or, set, replicate, eqb, ◌-◌, refl, sym, ap, ◌∙◌, subst, arith, append_assoc, length-append}
use Rattle.std.proofs.lemmas.List.{set-get_or, append-nil}
use Rattle.std.specs.List.{All}
use Rattle.std.proofs.lemmas.List.Elements.{All-head, All-nil, All-push}
use mathlib.Core.Option.{some, none}
use lib.ListN.{get_elem?}
use prog.Atomic.{either}
use Rattle.atomic_table.specs.Table.{step, Allows}
use Rattle.atomic_table.proofs.Lists.{exchanged}
use Rattle.nr_journal.specs.declared.view.PassState.{PassState}
use Rattle.nr_journal.specs.declared.rule.Purpose.{Purpose}
use Rattle.nr_journal.specs.declared.view.View.{View}
use Rattle.nr_journal.specs.declared.view.View.TheVariants.{Outside, Keeping, Within, Note, Spent}
use Rattle.nr_journal.specs.Rule.{tag_of, IsOthers, StartsWith}
use Rattle.nr_journal.specs.Auxiliary.Rule.{HasOpcode, HasTagBelow, IsDrawn, IsEntry, Fits, HasTag, Kept, having_seen}
use Rattle.nr_journal.specs.Step.{Seat, Offers, OffersFrom}
use Rattle.nr_journal.proofs.AloneLemmas.{not_alone}
use Rattle.nr_journal.proofs.RowLemmas.{placed}
use Rattle.nr_journal.proofs.RuleLemmas.{each_set, apart_set, taken_set, is_word, at_place, before_end, kept_found, found_opcode, Rule, Picks, allowed}

pub begins_more : (log learned : List ℕ) (word : ℕ) → StartsWith log learned → StartsWith (log ++ word ∷ []) learned
begins_more log learned word c = (c.0 ++ word ∷ [], ap (λ (l : List ℕ). l ++ word ∷ []) c.1 ∙ append_assoc learned c.0 (word ∷ []))

-- a view is still correct after the log grows by a word of another pass
pub fits_more : (most tags : ℕ) (log : List ℕ) (word : ℕ) (v : View) → tag_of word < most → (HasTag v (tag_of word) → ⊥) → Fits most tags log v → Fits most tags (log ++ word ∷ []) v
fits_more most tags log word (Outside tried passes) below never fits = fits
fits_more most tags log word (Keeping next passes) below never fits = (
  fits.0,
  fits.1,
  All-push (HasTagBelow next) log word fits.2 (lt_of_not-le (λ (from : next ≤ tag_of word). never (from, subst (λ (n : ℕ). tag_of word < n) (sym fits.0) below))),
)
fits_more most tags log word (Within pass_state) below never fits = let c = fits.2 in (
  fits.0,
  fits.1,
  (c.0 ++ word ∷ [], ap (λ (l : List ℕ). l ++ word ∷ []) c.1 ∙ append_assoc pass_state.seen c.0 (word ∷ []), All-push (IsOthers pass_state.tag) c.0 word c.2 (λ e. never (sym e))),
  begins_more log pass_state.learned word fits.3,
)
fits_more most tags log word (Note seen) below never fits = begins_more log seen word fits
fits_more most tags log word Spent below never fits = tt

module _ (purpose : Purpose) where
  -- a pass that has read all words places a new word
  pub kept_placed : (words : List ℕ) (views : List View) (k : Kept purpose words views) (id : ℕ) (pass_state : PassState) (word : ℕ) → get_elem? views id ≡ some (Within pass_state)
      → k.log ≡ pass_state.seen → length pass_state.seen < purpose.words → HasOpcode word → tag_of word ≡ pass_state.tag
      → Kept purpose (set words (suc (length pass_state.seen)) word) (set views id (Within (having_seen pass_state word)))
  kept_placed words views k id pass_state word at all some_room code tag =
      let c = k.each_view id (Within pass_state) at in
      let size : length k.log ≡ length pass_state.seen = ap (λ (l : List ℕ). length l) all in
      let sum : length k.log + k.free ≡ purpose.words = k.room_is in
      let free : ℕ = k.free - 1 in
      let drawn : IsDrawn k.tags (tag_of word) = subst (IsDrawn k.tags) (sym tag) (c.1 pass_state.tag (omega arith)) in
      let one : k.free ≡ suc (k.free - 1) = omega arith in record {
        tags = k.tags;
        log = k.log ++ word ∷ [];
        free = k.free - 1;
        words_are = ap (λ (j : ℕ). set words (suc j) word) (sym size)
            ∙ (ap (λ (ws : List ℕ). set ws (suc (length k.log)) word) k.words_are
            ∙ (ap (λ (l : List ℕ). k.tags ∷ set (l ++ replicate k.free 0) (length k.log) word) (sym (append-nil k.log))
            ∙ (ap (λ (n : ℕ). k.tags ∷ set ((k.log ++ []) ++ replicate n 0) (length k.log) word) one
            ∙ ap (λ (l : List ℕ). k.tags ∷ l) (placed k.log (k.free - 1) word))));
        room_is = omega (arith, length-append k.log (word ∷ []));
        entries = All-push (IsEntry k.tags) k.log word k.entries (code, drawn);
        each_view = each_set (Fits purpose.passes k.tags (k.log ++ word ∷ [])) views id (Within (having_seen pass_state word))
            (λ j v apart e. fits_more purpose.passes k.tags k.log word v (k.few (tag_of word) drawn) (λ has. apart (k.apart j id (tag_of word) v (Within pass_state) e at has (sym tag))) (k.each_view j v e))
            (c.0, c.1, ([], ap (λ (l : List ℕ). l ++ word ∷ []) all ∙ sym (append-nil (pass_state.seen ++ word ∷ [])), All-nil (IsOthers pass_state.tag)), begins_more k.log pass_state.learned word c.3);
        apart = apart_set views id (Within pass_state) (Within (having_seen pass_state word)) at (λ t has. has) k.apart;
        taken = taken_set k.tags views id (Within pass_state) (Within (having_seen pass_state word)) at (λ t has. has) k.taken;
        few = k.few;
      }

  pub offers_from : (words : List ℕ) (views : List View) (id : ℕ) (pass_state : PassState) (word : ℕ) → Kept purpose words views → get_elem? views id ≡ some (Within pass_state)
      → length pass_state.seen < purpose.words → HasOpcode word → tag_of word ≡ pass_state.tag
      → Picks purpose words views id (suc (length pass_state.seen)) (either (eqb (get_or words (suc (length pass_state.seen)) 0) 0) word (get_or words (suc (length pass_state.seen)) 0))
      (OffersFrom word (Within pass_state) (get_or words (suc (length pass_state.seen)) 0))
  offers_from words views id pass_state word k at some_room code tag = let c = k.each_view id (Within pass_state) at in go c.2.0 c.2.1 c.2.2
    where
      same : set words (suc (length pass_state.seen)) (get_or words (suc (length pass_state.seen)) 0) ≡ words
      same = set-get_or words (suc (length pass_state.seen)) 0

      go : (rest : List ℕ) → k.log ≡ pass_state.seen ++ rest → All (IsOthers pass_state.tag) rest
          → Picks purpose words views id (suc (length pass_state.seen)) (either (eqb (get_or words (suc (length pass_state.seen)) 0) 0) word (get_or words (suc (length pass_state.seen)) 0))
          (OffersFrom word (Within pass_state) (get_or words (suc (length pass_state.seen)) 0))
      go [] is others =
          let all : k.log ≡ pass_state.seen = is ∙ append-nil pass_state.seen in
          let zero_there : get_or words (suc (length pass_state.seen)) 0 ≡ 0 = at_place purpose words views k pass_state.seen all in
          exchanged (get_or words (suc (length pass_state.seen)) 0) 0 word
          (λ n. Picks purpose words views id (suc (length pass_state.seen)) n (OffersFrom word (Within pass_state) (get_or words (suc (length pass_state.seen)) 0)))
          (λ z. (Within (having_seen pass_state word), kept_placed words views k id pass_state word at all some_room code tag, ((λ z'. refl), (λ not. absurd (not zero_there)))))
          (λ not. absurd (not zero_there))
      go (v ∷ rest) is others =
          let there : get_or words (suc (length pass_state.seen)) 0 ≡ v = before_end purpose words views k pass_state.seen v rest is in
          let has_code = found_opcode purpose words views k pass_state.seen v rest is in
          exchanged (get_or words (suc (length pass_state.seen)) 0) 0 word
          (λ n. Picks purpose words views id (suc (length pass_state.seen)) n (OffersFrom word (Within pass_state) (get_or words (suc (length pass_state.seen)) 0)))
          (λ z. absurd (is_word v has_code (sym there ∙ z)))
          (λ not. (
            Within (having_seen pass_state v),
            subst (λ (ws : List ℕ). Kept purpose ws (set views id (Within (having_seen pass_state v)))) (sym same) (kept_found purpose words views k id pass_state v rest at is others),
            subst (λ (n : ℕ). OffersFrom word (Within pass_state) n (Within (having_seen pass_state v), [])) (sym there)
                ((λ z. absurd (is_word v has_code z)), (λ n. (refl, has_code, All-head (IsOthers pass_state.tag) v rest others, not_alone purpose words views k id pass_state v rest at is others))),
          ))

  pub offers : (slots id i word : ℕ) (me : Seat) (pass_state : PassState) → me ≡ (Within pass_state, []) → i ≡ suc (length pass_state.seen) → length pass_state.seen < purpose.words → HasOpcode word
      → tag_of word ≡ pass_state.tag
      → Allows (Rule purpose) slots id me i (λ n. either (eqb n 0) word n) (Offers (step slots i 0 word none) me)
  offers slots id i word me pass_state is place some_room code tag =
      subst (λ (m : Seat). Allows (Rule purpose) slots id m i (λ n. either (eqb n 0) word n) (Offers (step slots i 0 word none) m)) (sym is)
      (subst (λ (j : ℕ). Allows (Rule purpose) slots id (Within pass_state, []) j (λ n. either (eqb n 0) word n) (Offers (step slots j 0 word none) (Within pass_state, []))) (sym place)
      (allowed purpose slots id (suc (length pass_state.seen)) (Within pass_state) (λ n. either (eqb n 0) word n) (OffersFrom word (Within pass_state))
      (λ words views k at fits. offers_from words views id pass_state word k at some_room code tag)))
