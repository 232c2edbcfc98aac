-- The rule holds after each step.
use Rattle.std.proofs.Common.{false, ◌≡◌, ◌≢◌, ℕ, zero, suc, ◌+◌, ◌%◌, ◌<◌, ◌≤◌, List, [], ◌∷◌, ◌++◌, length, get_or, set, replicate, refl, sym, ap, ◌∙◌, subst, ⊎_elim, arith, add-one, append_assoc}
use Rattle.std.proofs.lemmas.List.{set-get_or, append-nil}
use Rattle.std.specs.List.{All}
use Rattle.std.proofs.lemmas.List.Elements.{All-head, All-nil, All-tail}
use mathlib.Core.Option.{some, some-injective, some-ne-none}
use lib.ListN.{get_elem?}
use mathlib.Core.Logic.{dite}
use native.Mathlib.Decide.{ℕ_discrete}
use Rattle.std.proofs.lemmas.Nat.Bits.{bit_at-zero}
use Rattle.atomic_table.specs.Table.{State, keeps, Allows}
use Rattle.atomic_table.proofs.Lists.{at_set, at_snoc, at_longer, set_again, set_else}
use Rattle.nr_journal.specs.declared.view.PassState.{PassState}
use Rattle.nr_journal.specs.declared.rule.Purpose.{Purpose}
use Rattle.nr_journal.specs.declared.view.View.{View}
use Rattle.nr_journal.specs.declared.view.View.TheVariants.{Outside, Keeping, Within, Note, Spent}
use Rattle.nr_journal.specs.Rule.{IsOthers}
use Rattle.nr_journal.specs.Auxiliary.Rule.{HasOpcode, IsDrawn, AreTaken, IsEntry, Fits, HasTag, AreApart, Kept, having_seen, newcomer}
use Rattle.nr_journal.specs.Step.{Seat}
use Rattle.nr_journal.proofs.RowLemmas.{All-right, behind, beside}

-- if the new view and all unchanged views have a property, each view has it after the change
pub each_set : (P : View → Type 0) (views : List View) (id : ℕ) (w : View) → ((j : ℕ) (v : View) → j ≢ id → get_elem? views j ≡ some v → P v) → P w
    → (j : ℕ) (v : View) → get_elem? (set views id w) j ≡ some v → P v
each_set P views id w others mine j v e = ⊎_elim
    (λ (t : (j ≡ id) × (w ≡ v)). subst P t.1 mine)
    (λ (t : (j ≢ id) × (get_elem? views j ≡ some v)). others j v t.0 t.1)
    (at_set views id j w v e)

-- Suppose that view w replaces view v, and w has a property only if v has it. If some view has the
-- property afterwards, some view had it before.
pub had : (P : View → Type 0) (views : List View) (id : ℕ) (v w : View) → get_elem? views id ≡ some v → (P w → P v)
    → (j : ℕ) (u : View) → get_elem? (set views id w) j ≡ some u → P u → (t : View) × (get_elem? views j ≡ some t) × P t
had P views id v w at same j u e holds = ⊎_elim
    (λ (t : (j ≡ id) × (w ≡ u)). (v, subst (λ (k : ℕ). get_elem? views k ≡ some v) (sym t.0) at, same (subst P (sym t.1) holds)))
    (λ (t : (j ≢ id) × (get_elem? views j ≡ some u)). (u, t.1, holds))
    (at_set views id j w u e)

pub apart_set : (views : List View) (id : ℕ) (v w : View) → get_elem? views id ≡ some v → ((tag : ℕ) → HasTag w tag → HasTag v tag) → AreApart views → AreApart (set views id w)
apart_set views id v w at same apart i j tag a b ea eb ha hb =
    let x = had (λ u. HasTag u tag) views id v w at (same tag) i a ea ha in
    let y = had (λ u. HasTag u tag) views id v w at (same tag) j b eb hb in
    apart i j tag x.0 y.0 x.1 y.1 x.2 y.2

-- true if two views have the same tags
abbrev pub AreAlike : View → View → Type 0
AreAlike v w = ((tag : ℕ) → HasTag w tag → HasTag v tag) × ((tag : ℕ) → HasTag v tag → HasTag w tag)

pub are_alike : (pass_state other : PassState) → pass_state.tag ≡ other.tag → AreAlike (Within pass_state) (Within other)
are_alike pass_state other is = ((λ tag has. is ∙ has), (λ tag has. sym is ∙ has))

pub set_there : (views : List View) (i : ℕ) (v w : View) → get_elem? views i ≡ some v → get_elem? (set views i w) i ≡ some w
set_there [] i v w e = absurd (some-ne-none v (sym e))
set_there (x ∷ xs) zero v w e = refl
set_there (x ∷ xs) (suc i) v w e = set_there xs i v w e

-- if view w replaces view v and has all tags of v, each taken tag still belongs to a view
pub taken_set : (tags : ℕ) (views : List View) (id : ℕ) (v w : View) → get_elem? views id ≡ some v → ((tag : ℕ) → HasTag v tag → HasTag w tag) → AreTaken tags views → AreTaken tags (set views id w)
taken_set tags views id v w at has_it taken tag drawn = let o = taken tag drawn in dite (ℕ_discrete o.0 id)
    (λ (same : o.0 ≡ id).
    let is : o.1 ≡ v = some-injective o.1 v (sym o.2 ∙ (ap (λ (j : ℕ). get_elem? views j) same ∙ at)) in
    (id, w, set_there views id v w at, has_it tag (subst (λ (u : View). HasTag u tag) is o.3)))
    (λ (other : o.0 ≢ id). (o.0, o.1, set_else views id o.0 w other ∙ o.2, o.3))

pub is_word : (v : ℕ) → HasOpcode v → v ≡ 0 → ⊥
is_word v code z = let e : v % 256 ≡ 0 = ap (λ (n : ℕ). n % 256) z in let p : 1 ≤ v % 256 = code.0 in omega arith

-- the bit of a view's tag is set
pub drawn_by : (most tags : ℕ) (log : List ℕ) (v : View) (tag : ℕ) → HasTag v tag → Fits most tags log v → IsDrawn tags tag
drawn_by most tags log (Outside tried passes) tag has fits = absurd has
drawn_by most tags log (Keeping next passes) tag has fits = fits.1 tag has.1
drawn_by most tags log (Within pass_state) tag has fits = subst (IsDrawn tags) has (fits.1 pass_state.tag (omega arith))
drawn_by most tags log (Note seen) tag has fits = absurd has
drawn_by most tags log Spent tag has fits = absurd has

-- the journal at the start
begins : (purpose : Purpose) (words : List ℕ) → words ≡ replicate (purpose.words + 1) 0 → Kept purpose words (newcomer purpose.passes ∷ [])
begins purpose words is = record {
  tags = 0;
  log = [];
  free = purpose.words;
  words_are = is ∙ ap (λ (n : ℕ). replicate n 0) (add-one purpose.words);
  room_is = omega arith;
  entries = All-nil (IsEntry 0);
  each_view = one;
  apart = one_tag;
  taken = none_drawn;
  few = λ tag drawn. absurd (none_set tag drawn);
}
  where
    one : (id : ℕ) (v : View) → get_elem? (newcomer purpose.passes ∷ []) id ≡ some v → Fits purpose.passes 0 [] v
    one zero v e = subst (Fits purpose.passes 0 []) (some-injective (newcomer purpose.passes) v e) (refl, (λ tag below. absurd (omega arith)))
    one (suc id) v e = absurd (some-ne-none v (sym e))

    one_tag : AreApart (newcomer purpose.passes ∷ [])
    one_tag zero zero tag v w a b h i = refl
    one_tag zero (suc j) tag v w a b h i = absurd (some-ne-none w (sym b))
    one_tag (suc i) j tag v w a b h l = absurd (some-ne-none v (sym a))

    none_set : (tag : ℕ) → IsDrawn 0 tag → ⊥
    none_set tag drawn = let z : zero ≡ 1 = sym (bit_at-zero tag) ∙ drawn in omega arith

    none_drawn : AreTaken 0 (newcomer purpose.passes ∷ [])
    none_drawn tag drawn = absurd (none_set tag drawn)

-- the journal at the start, for this number of passes
pub begins_for : (words passes : ℕ) (row : List ℕ) → row ≡ replicate (words + 1) 0 → Kept (record { words = words; passes = passes; drawn = false }) row (newcomer passes ∷ [])
begins_for words passes row is = begins (record { words = words; passes = passes; drawn = false }) row is

-- a new view is added that has no tag
pub snoc_view : (purpose : Purpose) (words : List ℕ) (views : List View) (w : View) → (k : Kept purpose words views) → Fits purpose.passes k.tags k.log w → ((tag : ℕ) → HasTag w tag → ⊥)
    → Kept purpose words (views ++ w ∷ [])
snoc_view purpose words views w k fits none_there = record {
  tags = k.tags;
  log = k.log;
  free = k.free;
  words_are = k.words_are;
  room_is = k.room_is;
  entries = k.entries;
  each_view = λ j v e. ⊎_elim (λ (t : get_elem? views j ≡ some v). k.each_view j v t) (λ (t : w ≡ v). subst (Fits purpose.passes k.tags k.log) t fits) (at_snoc views w v j e);
  apart = λ i j tag a b ea eb ha hb. ⊎_elim
      (λ (x : get_elem? views i ≡ some a). ⊎_elim
      (λ (y : get_elem? views j ≡ some b). k.apart i j tag a b x y ha hb)
      (λ (y : w ≡ b). absurd (none_there tag (subst (λ (u : View). HasTag u tag) (sym y) hb)))
      (at_snoc views w b j eb))
      (λ (x : w ≡ a). absurd (none_there tag (subst (λ (u : View). HasTag u tag) (sym x) ha)))
      (at_snoc views w a i ea);
  taken = λ tag drawn. let o = k.taken tag drawn in (o.0, o.1, at_longer views (w ∷ []) o.0 o.1 o.2, o.3);
  few = k.few;
}

module _ (purpose : Purpose) where
  -- the rule still holds after one view becomes another correct view with the same tags
  pub kept_view : (words : List ℕ) (views : List View) (id : ℕ) (v w : View) → get_elem? views id ≡ some v → (k : Kept purpose words views) → Fits purpose.passes k.tags k.log w → AreAlike v w
      → Kept purpose words (set views id w)
  kept_view words views id v w at k fits same = record {
    tags = k.tags;
    log = k.log;
    free = k.free;
    words_are = k.words_are;
    room_is = k.room_is;
    entries = k.entries;
    each_view = each_set (Fits purpose.passes k.tags k.log) views id w (λ j u apart e. k.each_view j u e) fits;
    apart = apart_set views id v w at same.0 k.apart;
    taken = taken_set k.tags views id v w at same.1 k.taken;
    few = k.few;
  }

  -- if a pass has read all words of the log, the next value in the table is 0
  pub at_place : (words : List ℕ) (views : List View) (k : Kept purpose words views) (seen : List ℕ) → k.log ≡ seen → get_or words (suc (length seen)) 0 ≡ 0
  at_place words views k seen is = ap (λ (ws : List ℕ). get_or ws (suc (length seen)) 0) k.words_are
      ∙ ap (λ (l : List ℕ). get_or (l ++ replicate k.free 0) (length seen) 0) (is ∙ sym (append-nil seen)) ∙ behind seen k.free

  pub before_end : (words : List ℕ) (views : List View) (k : Kept purpose words views) (seen : List ℕ) (v : ℕ) (rest : List ℕ) → k.log ≡ seen ++ v ∷ rest → get_or words (suc (length seen)) 0 ≡ v
  before_end words views k seen v rest is = ap (λ (ws : List ℕ). get_or ws (suc (length seen)) 0) k.words_are
      ∙ ap (λ (l : List ℕ). get_or (l ++ replicate k.free 0) (length seen) 0) is ∙ beside seen v rest (replicate k.free 0)

  -- the rule still holds after a pass reads another pass's word at the next place
  pub kept_found : (words : List ℕ) (views : List View) (k : Kept purpose words views) (id : ℕ) (pass_state : PassState) (v : ℕ) (rest : List ℕ) → get_elem? views id ≡ some (Within pass_state)
      → k.log ≡ pass_state.seen ++ v ∷ rest → All (IsOthers pass_state.tag) (v ∷ rest) → Kept purpose words (set views id (Within (having_seen pass_state v)))
  kept_found words views k id pass_state v rest at is others = let c = k.each_view id (Within pass_state) at in
      kept_view words views id (Within pass_state) (Within (having_seen pass_state v)) at k
      (c.0, c.1, (rest, is ∙ sym (append_assoc pass_state.seen (v ∷ []) rest), All-tail (IsOthers pass_state.tag) v rest others), c.3)
      (are_alike pass_state (having_seen pass_state v) refl)

  pub found_opcode : (words : List ℕ) (views : List View) (k : Kept purpose words views) (seen : List ℕ) (v : ℕ) (rest : List ℕ) → k.log ≡ seen ++ v ∷ rest → HasOpcode v
  found_opcode words views k seen v rest is = (All-head (IsEntry k.tags) v rest (All-right (IsEntry k.tags) seen (v ∷ rest) (subst (All (IsEntry k.tags)) is k.entries))).0

  abbrev pub Rule : State (Unit {0}) View → Type 0
  Rule s = Kept purpose s.words s.views

  -- true if the rule still holds after word i becomes n and seat `id` gets some view w, and `then`
  -- holds for w
  abbrev pub Picks : List ℕ → List View → ℕ → ℕ → ℕ → (Seat → Type 0) → Type 0
  Picks words views id i n then = (w : View) × Kept purpose (set words i n) (set views id w) × then (w, [])

  pub allowed : (slots id i : ℕ) (v : View) (f : ℕ → ℕ) (then : ℕ → Seat → Type 0)
      → ((words : List ℕ) (views : List View) → Kept purpose words views → get_elem? views id ≡ some v → get_or words i 0 < 18446744073709551616
      → Picks words views id i (f (get_or words i 0)) (then (get_or words i 0)))
      → Allows Rule slots id (v, []) i f then
  allowed slots id i v f then may s k homes at fits = let p = may s.words s.views k at fits in (p.0, keeps, tt, p.1, p.2)

  -- a load that changes no view
  pub stays : (words : List ℕ) (views : List View) (id i : ℕ) (v : View) (then : Seat → Type 0) → Kept purpose words views → get_elem? views id ≡ some v →
      then (v, []) → Picks words views id i (get_or words i 0) then
  stays words views id i v then k at learned = (
    v,
    subst (λ (ws : List ℕ). Kept purpose ws (set views id v)) (sym (set-get_or words i 0)) (subst (λ (vs : List View). Kept purpose words vs) (sym (set_again views id v at)) k),
    learned,
  )
