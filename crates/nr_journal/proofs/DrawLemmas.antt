-- Lemmas about splitting a seat in two, and about taking a tag.
use Rattle.std.proofs.Common.{◌≡◌, ◌≢◌, ℕ, zero, ◌+◌, ◌<◌, List, [], ◌∷◌, ◌++◌, get_or, set, refl, sym, ap, ◌∙◌, subst, ⊎_elim, arith}
use mathlib.Core.Option.{some, none}
use lib.ListN.{get_elem?}
use mathlib.Core.Logic.{dite}
use native.Mathlib.Decide.{ℕ_discrete}
use Rattle.std.specs.Int.{bit_at}
use Rattle.std.specs.Prelude.{bit_or, ◌^◌, max}
use Rattle.std.proofs.lemmas.Nat.Bits.{bit_at_or, bit_at-lt, bit_at-pow_same, bit_at-pow_other}
use Rattle.std.proofs.lemmas.List.Elements.{All-weaker}
use Rattle.atomic_table.specs.Table.{step, Allows, Splits}
use Rattle.atomic_table.proofs.Lists.{at_set, set_again}
use Rattle.nr_journal.specs.declared.rule.Purpose.{Purpose}
use Rattle.nr_journal.specs.declared.view.View.{View}
use Rattle.nr_journal.specs.declared.view.View.TheVariants.{Outside, Keeping, Within, Note, Spent}
use Rattle.nr_journal.specs.Rule.{tag_of, IsOthers}
use Rattle.nr_journal.specs.Auxiliary.Rule.{IsDrawn, AreDrawn, AreFew, AreTaken, IsEntry, Fits, HasTag, AreApart, Kept, entering}
use Rattle.nr_journal.specs.Step.{Seat, Draws, DrawsFrom}
use Rattle.nr_journal.proofs.RuleLemmas.{each_set, apart_set, taken_set, set_there, Rule, Picks, allowed, snoc_view, drawn_by}

-- a seat is split in two
pub twins : (purpose : Purpose) (id : ℕ) (tried passes : ℕ) → Splits (Rule purpose) id (Outside tried passes) (Outside tried passes) (Outside tried passes)
twins purpose id tried passes s k at =
    let old : set s.views id (Outside tried passes) ≡ s.views = set_again s.views id (Outside tried passes) at in
    let fits = k.each_view id (Outside tried passes) at in
    subst (λ (vs : List View). Kept purpose s.words (vs ++ Outside tried passes ∷ [])) (sym old) (snoc_view purpose s.words s.views (Outside tried passes) k fits (λ tag has. has))

pub bit_kept : (tags m j : ℕ) → bit_at tags j ≡ 1 → bit_at (bit_or tags m) j ≡ 1
bit_kept tags m j is = let o = bit_at_or tags m j in let l = bit_at-lt m j in
    let x : ℕ = bit_at m j in let y : ℕ = bit_at tags j in let l' : x < 2 = l in let y' : y ≡ 1 = is in o ∙ one_max y x y' l'
  where
    one_max : (y x : ℕ) → y ≡ 1 → x < 2 → max y x ≡ 1
    one_max y x e l = omega arith

pub bit_drawn : (tags t : ℕ) → bit_at (bit_or tags (2 ^ t)) t ≡ 1
bit_drawn tags t = bit_at_or tags (2 ^ t) t ∙ one_max (bit_at tags t) (bit_at (2 ^ t) t) (bit_at-pow_same t) (bit_at-lt tags t)
  where
    one_max : (y x : ℕ) → x ≡ 1 → y < 2 → max y x ≡ 1
    one_max y x e l = omega arith

-- a bit that is set now was set before, unless its tag was just taken
pub was_drawn : (tags t tag : ℕ) → tag ≢ t → IsDrawn (bit_or tags (2 ^ t)) tag → IsDrawn tags tag
was_drawn tags t tag other drawn = let o = bit_at_or tags (2 ^ t) tag in let z = bit_at-pow_other t tag other in
    let x : ℕ = bit_at tags tag in let y : ℕ = bit_at (2 ^ t) tag in let z' : y ≡ 0 = z in let m : max x y ≡ 1 = sym o ∙ drawn in of_max x y z' m
  where
    of_max : (x y : ℕ) → y ≡ 0 → max x y ≡ 1 → x ≡ 1
    of_max x y e l = omega arith

pub fits_drawn : (most tags more : ℕ) (log : List ℕ) (v : View) → ((j : ℕ) → IsDrawn tags j → IsDrawn more j) → Fits most tags log v → Fits most more log v
fits_drawn most tags more log (Outside tried passes) up fits = (fits.0, λ tag below. up tag (fits.1 tag below))
fits_drawn most tags more log (Keeping next passes) up fits = (fits.0, (λ tag below. up tag (fits.1 tag below)), fits.2)
fits_drawn most tags more log (Within pass_state) up fits = (fits.0, (λ tag below. up tag (fits.1 tag below)), fits.2, fits.3)
fits_drawn most tags more log (Note seen) up fits = fits
fits_drawn most tags more log Spent up fits = tt

module _ (purpose : Purpose) where
  -- the rule still holds after bits of tags are set and one view changes, if the new bits fit the
  -- views
  pub kept_drawn : (words : List ℕ) (views : List View) (k : Kept purpose words views) (id more : ℕ) (w : View) → ((j : ℕ) → IsDrawn k.tags j → IsDrawn more j)
      → Fits purpose.passes more k.log w → AreApart (set views id w) → AreTaken more (set views id w) → AreFew purpose.passes more → Kept purpose (set words 0 more) (set views id w)
  kept_drawn words views k id more w up fits apart taken few = record {
    tags = more;
    log = k.log;
    free = k.free;
    words_are = ap (λ (ws : List ℕ). set ws 0 more) k.words_are;
    room_is = k.room_is;
    entries = All-weaker (IsEntry k.tags) (IsEntry more) (λ word (e : IsEntry k.tags word). (e.0, up (tag_of word) e.1)) k.log k.entries;
    each_view = each_set (Fits purpose.passes more k.log) views id w (λ j v apart e. fits_drawn purpose.passes k.tags more k.log v up (k.each_view j v e)) fits;
    apart = apart;
    taken = taken;
    few = few;
  }

  -- a new tag
  pub apart_new : (words : List ℕ) (views : List View) (k : Kept purpose words views) (id passes tag : ℕ) → bit_at k.tags tag ≡ 0 → AreApart (set views id (Within (entering passes tag)))
  apart_new words views k id passes tag clear i j t v w ea eb ha hb = ⊎_elim
      (λ (x : (i ≡ id) × (Within (entering passes tag) ≡ v)). ⊎_elim
      (λ (y : (j ≡ id) × (Within (entering passes tag) ≡ w)). x.0 ∙ sym y.0)
      (λ (y : (j ≢ id) × (get_elem? views j ≡ some w)). absurd (nobody j w t y.1 hb (subst (λ (u : View). HasTag u t) (sym x.1) ha)))
      (at_set views id j (Within (entering passes tag)) w eb))
      (λ (x : (i ≢ id) × (get_elem? views i ≡ some v)). ⊎_elim
      (λ (y : (j ≡ id) × (Within (entering passes tag) ≡ w)). absurd (nobody i v t x.1 ha (subst (λ (u : View). HasTag u t) (sym y.1) hb)))
      (λ (y : (j ≢ id) × (get_elem? views j ≡ some w)). k.apart i j t v w x.1 y.1 ha hb)
      (at_set views id j (Within (entering passes tag)) w eb))
      (at_set views id i (Within (entering passes tag)) v ea)
    where
      nobody : (m : ℕ) (u : View) (t : ℕ) → get_elem? views m ≡ some u → HasTag u t → tag ≡ t → ⊥
      nobody m u t e has is = let d : bit_at k.tags t ≡ 1 = drawn_by purpose.passes k.tags k.log u t has (k.each_view m u e) in
          let c : bit_at k.tags t ≡ 0 = subst (λ (x : ℕ). bit_at k.tags x ≡ 0) is clear in let z : zero ≡ 1 = sym c ∙ d in omega arith

  pub draws_from : (words : List ℕ) (views : List View) (id tried passes : ℕ) → tried < passes → Kept purpose words views → get_elem? views id ≡ some (Outside tried passes)
      → Picks purpose words views id 0 (bit_or (get_or words 0 0) (2 ^ tried)) (DrawsFrom (Outside tried passes) (get_or words 0 0))
  draws_from words views id tried passes some_left k at =
      subst (λ (n : ℕ). Picks purpose words views id 0 (bit_or n (2 ^ tried)) (DrawsFrom (Outside tried passes) n)) (sym tags_there) (dite (ℕ_discrete (bit_at k.tags tried) 0) first later)
    where
      tags_there : get_or words 0 0 ≡ k.tags
      tags_there = ap (λ (ws : List ℕ). get_or ws 0 0) k.words_are

      up : (j : ℕ) → IsDrawn k.tags j → IsDrawn (bit_or k.tags (2 ^ tried)) j
      up j d = bit_kept k.tags (2 ^ tried) j d

      -- the pass's own bit and all lower bits are set
      all_up : AreDrawn (bit_or k.tags (2 ^ tried)) (tried + 1)
      all_up tag below = dite (ℕ_discrete tag tried)
          (λ (same : tag ≡ tried). subst (IsDrawn (bit_or k.tags (2 ^ tried))) (sym same) (bit_drawn k.tags tried))
          (λ (other : tag ≢ tried). let fits : (t : ℕ) → t < tried → IsDrawn k.tags t = (k.each_view id (Outside tried passes) at).1 in up tag (fits tag (omega arith)))

      most : passes ≡ purpose.passes
      most = (k.each_view id (Outside tried passes) at).0

      few : AreFew purpose.passes (bit_or k.tags (2 ^ tried))
      few tag drawn = dite (ℕ_discrete tag tried)
          (λ (same : tag ≡ tried). omega (arith, same, some_left, most))
          (λ (other : tag ≢ tried). k.few tag (was_drawn k.tags tried tag other drawn))

      mine : AreTaken (bit_or k.tags (2 ^ tried)) (set views id (Within (entering passes tried)))
      mine tag drawn = dite (ℕ_discrete tag tried)
          (λ (same : tag ≡ tried). (id, Within (entering passes tried), set_there views id (Outside tried passes) (Within (entering passes tried)) at, sym same))
          (λ (other : tag ≢ tried). taken_set k.tags views id (Outside tried passes) (Within (entering passes tried)) at (λ t has. absurd has) k.taken tag (was_drawn k.tags tried tag other drawn))

      theirs : IsDrawn k.tags tried → AreTaken (bit_or k.tags (2 ^ tried)) (set views id (Outside (tried + 1) passes))
      theirs was tag drawn = taken_set k.tags views id (Outside tried passes) (Outside (tried + 1) passes) at (λ t has. has) k.taken tag (dite (ℕ_discrete tag tried)
          (λ (same : tag ≡ tried). subst (IsDrawn k.tags) (sym same) was)
          (λ (other : tag ≢ tried). was_drawn k.tags tried tag other drawn))

      first : bit_at k.tags tried ≡ 0 → Picks purpose words views id 0 (bit_or k.tags (2 ^ tried)) (DrawsFrom (Outside tried passes) k.tags)
      first clear = (
        Within (entering passes tried),
        kept_drawn words views k id (bit_or k.tags (2 ^ tried)) (Within (entering passes tried)) up (
          most,
          all_up,
          (
            k.log,
            refl,
            All-weaker (IsEntry k.tags) (IsOthers tried)
                (λ word (e : IsEntry k.tags word) (same : tag_of word ≡ tried). let z : zero ≡ 1 = sym clear ∙ subst (IsDrawn k.tags) same e.1 in omega arith) k.log k.entries,
          ),
          (k.log, refl),
        )
            (apart_new words views k id passes tried clear) mine few,
        ((λ _. refl), (λ not. absurd (not clear))),
      )

      later : bit_at k.tags tried ≢ 0 → Picks purpose words views id 0 (bit_or k.tags (2 ^ tried)) (DrawsFrom (Outside tried passes) k.tags)
      later not = (
        Outside (tried + 1) passes,
        kept_drawn words views k id (bit_or k.tags (2 ^ tried)) (Outside (tried + 1) passes) up (most, all_up)
            (apart_set views id (Outside tried passes) (Outside (tried + 1) passes) at (λ t has. has) k.apart)
            (theirs (let n : ℕ = bit_at k.tags tried in let two : n < 2 = bit_at-lt k.tags tried in let some_bit : n ≢ 0 = not in omega arith))
            few,
        ((λ clear. absurd (not clear)), (λ _. refl)),
      )

  pub draws : (slots id n tried passes : ℕ) (me : Seat) → tried < passes → me ≡ (Outside tried passes, []) → n ≡ 2 ^ tried → Allows (Rule purpose) slots id me 0 (λ found. bit_or found n) (Draws (step slots 0 n 0 none) me)
  draws slots id n tried passes me some_left is bit =
      subst (λ (m : Seat). Allows (Rule purpose) slots id m 0 (λ found. bit_or found n) (Draws (step slots 0 n 0 none) m)) (sym is)
      (subst (λ (b : ℕ). Allows (Rule purpose) slots id (Outside tried passes, []) 0 (λ found. bit_or found b) (Draws (step slots 0 b 0 none) (Outside tried passes, []))) (sym bit)
      (allowed purpose slots id 0 (Outside tried passes) (λ found. bit_or found (2 ^ tried)) (DrawsFrom (Outside tried passes)) (λ words views k at fits. draws_from words views id tried passes some_left k at)))
