-- Lemmas about a journal that makes all passes at once and hands them out.
use Rattle.std.proofs.Common.{◌≡◌, ◌≢◌, ◌⊎◌, inl, inr, true, ℕ, zero, suc, ◌+◌, ◌<◌, ◌≤◌, List, [], ◌∷◌, ◌++◌, length, replicate, set, add-one, refl, sym, ap, ◌∙◌, subst, ⊎_elim, arith}
use Rattle.std.proofs.lemmas.List.Elements.{All-nil, All-weaker}
use Rattle.std.proofs.lemmas.Nat.Bits.{bit_at-zero}
use Rattle.std.specs.Prelude.{bit_or, ◌^◌}
use mathlib.Core.Option.{some, some-injective, some-ne-none}
use mathlib.Core.Logic.{dite}
use native.Mathlib.Decide.{ℕ_discrete}
use lib.ListN.{get_elem?}
use Rattle.atomic_table.specs.Table.{Splits}
use Rattle.atomic_table.proofs.Lists.{at_last, at_longer, at_set, set_else}
use Rattle.nr_journal.specs.declared.rule.Purpose.{Purpose}
use Rattle.nr_journal.specs.declared.view.View.{View}
use Rattle.nr_journal.specs.declared.view.View.TheVariants.{Keeping, Within}
use Rattle.nr_journal.specs.Rule.{tag_of, IsOthers}
use Rattle.nr_journal.specs.Auxiliary.Rule.{AreApart, AreDrawn, AreFew, AreTaken, Fits, HasTag, HasTagBelow, IsDrawn, IsEntry, Kept, entering}
use Rattle.nr_journal.specs.Step.{given_by, left_of}
use Rattle.nr_journal.proofs.DrawLemmas.{bit_drawn, bit_kept, was_drawn}
use Rattle.nr_journal.proofs.RuleLemmas.{Rule, apart_set, each_set, set_there}

-- each view of the longer list is one of the earlier views, or the last one
at_end : (views : List View) (w v : View) (j : ℕ) → get_elem? (views ++ w ∷ []) j ≡ some v → (get_elem? views j ≡ some v) ⊎ ((j ≡ length views) × (w ≡ v))
at_end [] w v zero e = inr (refl, some-injective w v e)
at_end [] w v (suc j) e = absurd (some-ne-none v (sym e))
at_end (x ∷ xs) w v zero e = inl e
at_end (x ∷ xs) w v (suc j) e = ⊎_elim inl (λ t. inr (ap suc t.0, t.1)) (at_end xs w v j e)

module _ (purpose : Purpose) (words : List ℕ) (views : List View) (k : Kept purpose words views) (id next passes : ℕ) (some_left : next < passes) (at : get_elem? views id ≡ some (Keeping next passes)) where
  abbrev left : View
  left = Keeping (next + 1) passes

  abbrev given : View
  given = Within (entering passes next)

  abbrev others : List View
  others = set views id left

  fits : Fits purpose.passes k.tags k.log (Keeping next passes)
  fits = k.each_view id (Keeping next passes) at

  left_fits : Fits purpose.passes k.tags k.log left
  left_fits = (fits.0, fits.1, All-weaker (HasTagBelow next) (HasTagBelow (next + 1)) (λ word (b : HasTagBelow next word). (let below : tag_of word < next = b in omega arith)) k.log fits.2)

  given_fits : Fits purpose.passes k.tags k.log given
  given_fits = (
    fits.0,
    (λ tag below. fits.1 tag (omega (arith, some_left, below))),
    (
      k.log,
      refl,
      All-weaker (HasTagBelow next) (IsOthers next) (λ word (b : HasTagBelow next word) (same : tag_of word ≡ next). (let below : tag_of word < next = b in omega (arith, below, same))) k.log fits.2,
    ),
    (k.log, refl),
  )

  -- no other view has the tag that is handed out
  nobody : (j : ℕ) (v : View) (tag : ℕ) → get_elem? others j ≡ some v → HasTag v tag → next ≡ tag → ⊥
  nobody j v tag e has is = ⊎_elim
      (λ (t : (j ≡ id) × (left ≡ v)). let own : HasTag left tag = subst (λ (u : View). HasTag u tag) (sym t.1) has in (let later : next + 1 ≤ tag = own.0 in omega (arith, later, is)))
      (λ (t : (j ≢ id) × (get_elem? views j ≡ some v)). t.0 (k.apart j id tag v (Keeping next passes) t.1 at has (omega (arith, is), omega (arith, is, some_left))))
      (at_set views id j left v e)

  apart_given : AreApart (others ++ given ∷ [])
  apart_given i j tag v w ev ew hv hw = ⊎_elim
      (λ (x : get_elem? others i ≡ some v). ⊎_elim
      (λ (y : get_elem? others j ≡ some w). apart_set views id (Keeping next passes) left at (λ t h. (let later : next + 1 ≤ t = h.0 in (omega (arith, later), h.1))) k.apart i j tag v w x y hv hw)
      (λ (y : (j ≡ length others) × (given ≡ w)). absurd (nobody i v tag x hv (subst (λ (u : View). HasTag u tag) (sym y.1) hw)))
      (at_end others given w j ew))
      (λ (x : (i ≡ length others) × (given ≡ v)). ⊎_elim
      (λ (y : get_elem? others j ≡ some w). absurd (nobody j w tag y hw (subst (λ (u : View). HasTag u tag) (sym x.1) hv)))
      (λ (y : (j ≡ length others) × (given ≡ w)). x.0 ∙ sym y.0)
      (at_end others given w j ew))
      (at_end others given v i ev)

  taken_given : AreTaken k.tags (others ++ given ∷ [])
  taken_given tag drawn = dite (ℕ_discrete next tag)
      (λ (same : next ≡ tag). (length others, given, at_last others given (length others) refl, same))
      (λ (other : next ≢ tag). let o = k.taken tag drawn in dite (ℕ_discrete o.0 id)
      (λ (here : o.0 ≡ id).
      let is : o.1 ≡ Keeping next passes = some-injective o.1 (Keeping next passes) (sym o.2 ∙ (ap (λ (j : ℕ). get_elem? views j) here ∙ at)) in
      let has : HasTag (Keeping next passes) tag = subst (λ (u : View). HasTag u tag) is o.3 in
      (id, left, at_longer others (given ∷ []) id left (set_there views id (Keeping next passes) left at), ((let from : next ≤ tag = has.0 in omega (arith, from, other)), has.1)))
      (λ (there : o.0 ≢ id). (o.0, o.1, at_longer others (given ∷ []) o.0 o.1 (set_else views id o.0 left there ∙ o.2), o.3)))

  kept_given : Kept purpose words (others ++ given ∷ [])
  kept_given = record {
    tags = k.tags;
    log = k.log;
    free = k.free;
    words_are = k.words_are;
    room_is = k.room_is;
    entries = k.entries;
    each_view = λ j v e. ⊎_elim
        (λ (t : get_elem? others j ≡ some v). each_set (Fits purpose.passes k.tags k.log) views id left (λ i u apart h. k.each_view i u h) left_fits j v t)
        (λ (t : (j ≡ length others) × (given ≡ v)). subst (Fits purpose.passes k.tags k.log) t.1 given_fits)
        (at_end others given v j e);
    apart = apart_given;
    taken = taken_given;
    few = k.few;
  }

pub gives : (purpose : Purpose) (id next passes : ℕ) → next < passes → Splits (Rule purpose) id (Keeping next passes) (left_of (Keeping next passes)) (given_by (Keeping next passes))
gives purpose id next passes some_left s k at = kept_given purpose s.words s.views k id next passes some_left at

-- the journal at the start
pub begins_drawn : (words passes tags : ℕ) (row : List ℕ) → row ≡ set (replicate (words + 1) 0) 0 tags → AreDrawn tags passes → AreFew passes tags
    → Kept (record { words = words; passes = passes; drawn = true }) row (Keeping 0 passes ∷ [])
begins_drawn words passes tags row is drawn few = record {
  tags = tags;
  log = [];
  free = words;
  words_are = is ∙ ap (λ (n : ℕ). set (replicate n 0) 0 tags) (add-one words);
  room_is = omega arith;
  entries = All-nil (IsEntry tags);
  each_view = one;
  apart = one_tag;
  taken = λ tag set_there. (0, Keeping 0 passes, refl, (omega arith, few tag set_there));
  few = few;
}
  where
    one : (id : ℕ) (v : View) → get_elem? (Keeping 0 passes ∷ []) id ≡ some v → Fits passes tags [] v
    one zero v e = subst (Fits passes tags []) (some-injective (Keeping 0 passes) v e) (refl, drawn, All-nil (HasTagBelow 0))
    one (suc id) v e = absurd (some-ne-none v (sym e))

    one_tag : AreApart (Keeping 0 passes ∷ [])
    one_tag zero zero tag v w a b h i = refl
    one_tag zero (suc j) tag v w a b h i = absurd (some-ne-none w (sym b))
    one_tag (suc i) j tag v w a b h l = absurd (some-ne-none v (sym a))

-- no tag is taken
pub none_drawn : (tag : ℕ) → IsDrawn 0 tag → ⊥
none_drawn tag drawn = let z : zero ≡ 1 = sym (bit_at-zero tag) ∙ drawn in omega arith

-- Suppose the bits of all tags below `tag` are set. After the bit of `tag` is set too, the bits of
-- all tags below `tag + 1` are set.
pub drawn_more : (tags tag : ℕ) → AreDrawn tags tag → AreDrawn (bit_or tags (2 ^ tag)) (tag + 1)
drawn_more tags tag drawn j below = dite (ℕ_discrete j tag)
    (λ (same : j ≡ tag). subst (IsDrawn (bit_or tags (2 ^ tag))) (sym same) (bit_drawn tags tag))
    (λ (other : j ≢ tag). bit_kept tags (2 ^ tag) j (drawn j (omega arith)))

pub few_more : (tags tag : ℕ) → AreFew tag tags → AreFew (tag + 1) (bit_or tags (2 ^ tag))
few_more tags tag few j drawn = dite (ℕ_discrete j tag)
    (λ (same : j ≡ tag). omega (arith, same))
    (λ (other : j ≢ tag). let below : j < tag = few j (was_drawn tags tag j other drawn) in omega (arith, below))
