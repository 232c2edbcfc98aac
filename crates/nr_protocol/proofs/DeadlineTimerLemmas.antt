-- How changes to rows and firings concern the timers that deadlines need.
use Rattle.std.proofs.Common.{◌≡◌, ℕ, zero, suc, ℤ, true, false, not, ◌&&◌, List, [], ◌∷◌, ◌++◌, length, Option, Some, None, ◌⊎◌, inl, inr, refl, sym, ap, subst, ◌∙◌, set, int_eq}
use Rattle.std.proofs.lemmas.Option.{same_Some}
use Rattle.std.specs.Prelude.{slice_get, option_map, remove}
use Rattle.std.specs.Option.{option_and_then}
use Rattle.nr_rev.specs.declared.sides.Side.{Side}
use Rattle.nr_rev.specs.declared.sides.Side.TheVariants.{Read, Write}
use Rattle.nr_rev.specs.declared.sides.Sides.{Sides}
use Rattle.nr_rev.specs.declared.descriptor.Descriptor.{Descriptor}
use Rattle.nr_rev.specs.declared.descriptor.DescriptorRow.{DescriptorRow}
use Rattle.nr_rev.specs.declared.timer.Entry.{Entry}
use Rattle.nr_rev.specs.declared.timer.Timer.{Timer}
use Rattle.nr_rev.specs.Descriptor.{is_positive, wants_timer}
use Rattle.nr_rev.specs.Sides.{of_side}
use Rattle.nr_rev.specs.Step.{after_wakes}
use Rattle.nr_rev.specs.World.{World}
use Rattle.nr_rev.specs.WellFormed.{TimerPlace, ArmedAt, FiringAt, IsCurrent, armed_at, timer_at}
use Rattle.nr_rev.proofs.ListUpdateLemmas.{slice_get-push_kept, slice_get-set_cases, slice_get-set_here}
use Rattle.nr_rev.proofs.SideLemmas.{other_side, of_side-with_side_other}
use Rattle.nr_laws.proofs.TimersFitChangeLemmas.{armed_names}
use Rattle.nr_laws.proofs.TimersFitMoveLemmas.{skip, slice_get-remove, unarmed}
use Rattle.nr_protocol.specs.Deadlines.{HasTimer, DeadlinesTimed}

-- true if each deadline of a world has its timer
abbrev pub Timed : World → Type 0
Timed w = DeadlinesTimed w.descriptors w.firings

abbrev sequence_at : Side → Option DescriptorRow → Option ℕ
sequence_at side row = option_map (λ (r : DescriptorRow). of_side side r.descriptor.sequences) row

abbrev entry_as : ℕ → Side → Option Timer → Option Entry
entry_as k s timer = option_map (λ (t : Timer). record { descriptor = k; side = s; timer = t }) timer

pub wants_like : (side : Side) (a b : Descriptor) → a.deadlines ≡ b.deadlines → wants_timer side a ≡ wants_timer side b
wants_like Read a b e = ap (λ (x : Sides ℤ). is_positive x.read) e
wants_like Write a b e = ap (λ (x : Sides ℤ). is_positive x.write && not (is_positive x.read && int_eq x.read x.write)) e

-- ---- one row changes

-- a side keeps its timer if the row changes elsewhere, or keeps the side's timer and sequence
pub carried : (rows : List DescriptorRow) (firings : List Entry) (d : ℕ) (old new : DescriptorRow) (k : ℕ) (s : Side) → slice_get rows d ≡ Some old
    → (k ≡ d → (of_side s new.timers ≡ of_side s old.timers) × (of_side s new.descriptor.sequences ≡ of_side s old.descriptor.sequences)) → HasTimer rows firings k s
    → HasTimer (set rows d new) firings k s
carried rows firings d old new k s at same has = (has.0, has.1, there has.0 has.2, has.3, has.4, still)
  where
    e : Entry
    e = has.1

    still : IsCurrent (set rows d new) e
    still =
        elim (slice_get-set_cases rows d old new e.descriptor at) [
          | inl here ↦
              let kept = (same (sym has.3 ∙ here.0)).1 in
              ap (sequence_at e.side) here.1
              ∙ ap Some (ap (λ x. of_side x new.descriptor.sequences) has.4 ∙ kept ∙ sym (ap (λ x. of_side x old.descriptor.sequences) has.4))
              ∙ sym (ap (sequence_at e.side) (ap (slice_get rows) here.0 ∙ at))
              ∙ has.5
          | inr there ↦ ap (sequence_at e.side) there.1 ∙ has.5
        ]

    there : (p : TimerPlace) → timer_at rows firings p ≡ Some e → timer_at (set rows d new) firings p ≡ Some e
    there (FiringAt j) is = is
    there (ArmedAt k' s') is =
        let a = armed_names rows firings k' s' e is in
        elim (slice_get-set_cases rows d old new k' at) [
          | inl here ↦
              let own : s' ≡ s = sym a.4 ∙ has.4 in
              let kept : of_side s new.timers ≡ of_side s old.timers = (same (sym has.3 ∙ a.3 ∙ here.0)).0 in
              ap (option_and_then (armed_at k' s')) here.1
              ∙ ap (entry_as k' s') (ap (λ x. of_side x new.timers) own ∙ kept ∙ sym (ap (λ x. of_side x old.timers) own))
              ∙ sym (ap (option_and_then (armed_at k' s')) (ap (slice_get rows) here.0 ∙ at))
              ∙ is
          | inr elsewhere ↦ ap (option_and_then (armed_at k' s')) elsewhere.1 ∙ is
        ]

-- a side's timer is kept, and was needed before; or it is armed now
abbrev pub SideKept : Side → DescriptorRow → DescriptorRow → Type 0
SideKept side old new =
    (of_side side new.timers ≡ of_side side old.timers) × (of_side side new.descriptor.sequences ≡ of_side side old.descriptor.sequences)
    × (old.descriptor.closing ≡ false) × (wants_timer side old.descriptor ≡ true)

abbrev pub SideArmed : Side → DescriptorRow → Type 0
SideArmed side new = (t : Timer) × (of_side side new.timers ≡ Some t) × (t.sequence ≡ of_side side new.descriptor.sequences)

-- each side that needs a timer has one after the change
abbrev pub SidesTimed : DescriptorRow → DescriptorRow → Type 0
SidesTimed old new = (side : Side) → new.descriptor.closing ≡ false → wants_timer side new.descriptor ≡ true → SideKept side old new ⊎ SideArmed side new

armed_here : (rows : List DescriptorRow) (firings : List Entry) (d : ℕ) (old new : DescriptorRow) (s : Side) → slice_get rows d ≡ Some old → SideArmed s new → HasTimer (set rows d new) firings d s
armed_here rows firings d old new s at armed =
    let here : slice_get (set rows d new) d ≡ Some new = slice_get-set_here rows d old new at in (
      ArmedAt d s,
      record { descriptor = d; side = s; timer = armed.0 },
      ap (option_and_then (armed_at d s)) here ∙ ap (entry_as d s) armed.1,
      refl,
      refl,
      ap (sequence_at s) here ∙ ap Some (sym armed.2),
    )

pub row_timed : (rows : List DescriptorRow) (firings : List Entry) (d : ℕ) (old new : DescriptorRow) → slice_get rows d ≡ Some old → SidesTimed old new → DeadlinesTimed rows firings
    → DeadlinesTimed (set rows d new) firings
row_timed rows firings d old new at done h =
    record {
      timed = λ k s row is still_open wants.
          elim (slice_get-set_cases rows d old new k at) [
            | inl here ↦
                let same : new ≡ row = same_Some new row (sym here.1 ∙ is) in
                elim (done s (ap (λ (r : DescriptorRow). r.descriptor.closing) same ∙ still_open) (ap (λ (r : DescriptorRow). wants_timer s r.descriptor) same ∙ wants)) [
                  | inl kept ↦
                      carried rows firings d old new k s at (λ _. (kept.0, kept.1))
                      (subst (λ n. HasTimer rows firings n s) (sym here.0) (h.timed d s old at kept.2 kept.3))
                  | inr armed ↦ subst (λ n. HasTimer (set rows d new) firings n s) (sym here.0) (armed_here rows firings d old new s at armed)
                ]
            | inr there ↦ carried rows firings d old new k s at (λ e. absurd (there.0 e)) (h.timed k s row (sym there.1 ∙ is) still_open wants)
          ];
    }

-- a row whose timers, sequences, deadlines and closing mark stay
pub same_sides : (old new : DescriptorRow) → new.timers ≡ old.timers → new.descriptor.sequences ≡ old.descriptor.sequences → new.descriptor.closing ≡ old.descriptor.closing
    → new.descriptor.deadlines ≡ old.descriptor.deadlines → SidesTimed old new
same_sides old new timers sequences closing deadlines side still_open wants =
    inl (ap (of_side side) timers, ap (of_side side) sequences, sym closing ∙ still_open, sym (wants_like side new.descriptor old.descriptor deadlines) ∙ wants)

-- ---- a row is pushed, or a firing is pushed or removed

pushed_there : (rows : List DescriptorRow) (row : DescriptorRow) (k : ℕ) {A : Type 0} (view : DescriptorRow → Option A) (a : A) → option_and_then view (slice_get rows k) ≡ Some a
    → option_and_then view (slice_get (rows ++ row ∷ []) k) ≡ Some a
pushed_there rows row k {A} view a is = go (slice_get rows k) refl is
  where
    go : (o : Option DescriptorRow) → slice_get rows k ≡ o → option_and_then view o ≡ Some a → option_and_then view (slice_get (rows ++ row ∷ []) k) ≡ Some a
    go None at e = cc
    go (Some r) at e = ap (option_and_then view) (slice_get-push_kept rows row r k at) ∙ e

pub pushed_row : (rows : List DescriptorRow) (firings : List Entry) (row : DescriptorRow) (k : ℕ) (s : Side) → HasTimer rows firings k s → HasTimer (rows ++ row ∷ []) firings k s
pushed_row rows firings row k s has = (has.0, has.1, there has.0 has.2, has.3, has.4, still (slice_get rows has.1.descriptor) refl has.5)
  where
    e : Entry
    e = has.1

    still : (o : Option DescriptorRow) → slice_get rows e.descriptor ≡ o → sequence_at e.side o ≡ Some e.timer.sequence → IsCurrent (rows ++ row ∷ []) e
    still None at now = cc
    still (Some r) at now = ap (sequence_at e.side) (slice_get-push_kept rows row r e.descriptor at) ∙ now

    there : (p : TimerPlace) → timer_at rows firings p ≡ Some e → timer_at (rows ++ row ∷ []) firings p ≡ Some e
    there (FiringAt j) is = is
    there (ArmedAt k' s') is = pushed_there rows row k' (armed_at k' s') e is

-- an index is that of the removed item, or the item there is kept
skip_or : (i j : ℕ) → (j ≡ i) ⊎ ((k : ℕ) × (skip i k ≡ j))
skip_or zero zero = inl refl
skip_or zero (suc j) = inr (j, refl)
skip_or (suc i) zero = inr (zero, refl)
skip_or (suc i) (suc j) = elim (skip_or i j) [ inl e ↦ inl (ap suc e) | inr r ↦ inr (suc r.0, ap suc r.1) ]

-- removing a firing takes no side's current timer away, but the firing's own
pub removed_firing : (rows : List DescriptorRow) (firings : List Entry) (i : ℕ) (e : Entry) (k : ℕ) (s : Side) → slice_get firings i ≡ Some e
    → (e.descriptor ≡ k → e.side ≡ s → IsCurrent rows e → ⊥) → HasTimer rows firings k s → HasTimer rows (remove firings i) k s
removed_firing rows firings i e k s at other has = go has.0 has.2
  where
    f : Entry
    f = has.1

    go : (p : TimerPlace) → timer_at rows firings p ≡ Some f → HasTimer rows (remove firings i) k s
    go (ArmedAt k' s') is = (ArmedAt k' s', f, is, has.3, has.4, has.5)
    go (FiringAt j) is =
        elim (skip_or i j) [
          | inl own ↦
              let same : f ≡ e = same_Some f e (sym is ∙ ap (slice_get firings) own ∙ at) in
              absurd (other (ap (λ (x : Entry). x.descriptor) (sym same) ∙ has.3) (ap (λ (x : Entry). x.side) (sym same) ∙ has.4) (subst (IsCurrent rows) same has.5))
          | inr kept ↦ (FiringAt kept.0, f, slice_get-remove firings i kept.0 e at ∙ ap (slice_get firings) kept.1 ∙ is, has.3, has.4, has.5)
        ]

last_there : {X : Type 0} (xs : List X) (x : X) → slice_get (xs ++ x ∷ []) (length xs) ≡ Some x
last_there [] x = refl
last_there (y ∷ xs) x = last_there xs x

same_entry : (a b : Entry) → a.descriptor ≡ b.descriptor → a.side ≡ b.side → a.timer ≡ b.timer → a ≡ b
same_entry a b d s t = ap (λ x. made x a.side a.timer) d ∙ ap (λ x. made b.descriptor x a.timer) s ∙ ap (made b.descriptor b.side) t
  where
    made : ℕ → Side → Timer → Entry
    made descriptor side timer = record { descriptor = descriptor; side = side; timer = timer }

-- an armed timer goes off
pub popped_timer : (rows : List DescriptorRow) (firings : List Entry) (row : DescriptorRow) (e : Entry) (k : ℕ) (s : Side) → slice_get rows e.descriptor ≡ Some row
    → of_side e.side row.timers ≡ Some e.timer → HasTimer rows firings k s → HasTimer (set rows e.descriptor (unarmed row e.side)) (firings ++ e ∷ []) k s
popped_timer rows firings row e k s at armed has = go has.0 has.2
  where
    f : Entry
    f = has.1

    after : List DescriptorRow
    after = set rows e.descriptor (unarmed row e.side)

    still : IsCurrent after f
    still =
        elim (slice_get-set_cases rows e.descriptor row (unarmed row e.side) f.descriptor at) [
          | inl here ↦ ap (sequence_at f.side) here.1 ∙ sym (ap (sequence_at f.side) (ap (slice_get rows) here.0 ∙ at)) ∙ has.5
          | inr there ↦ ap (sequence_at f.side) there.1 ∙ has.5
        ]

    go : (p : TimerPlace) → timer_at rows firings p ≡ Some f → HasTimer after (firings ++ e ∷ []) k s
    go (FiringAt j) is = (FiringAt j, f, slice_get-push_kept firings e f j is, has.3, has.4, still)
    go (ArmedAt k' s') is =
        let a = armed_names rows firings k' s' f is in
        elim (slice_get-set_cases rows e.descriptor row (unarmed row e.side) k' at) [
          | inl here ↦
              elim (other_side s' e.side) [
                | inl own ↦
                    let row_is : a.0 ≡ row = same_Some a.0 row (sym a.1 ∙ ap (slice_get rows) here.0 ∙ at) in
                    let timers : f.timer ≡ e.timer =
                    same_Some f.timer e.timer (sym a.2 ∙ ap (λ (r : DescriptorRow). of_side s' r.timers) row_is ∙ ap (λ x. of_side x row.timers) own ∙ armed)
                    in
                    (FiringAt (length firings), f, last_there firings e ∙ ap Some (sym (same_entry f e (a.3 ∙ here.0) (a.4 ∙ own) timers)), has.3, has.4, still)
                | inr apart ↦ (
                  ArmedAt k' s',
                  f,
                  ap (option_and_then (armed_at k' s')) here.1
                      ∙ ap (entry_as k' s') (of_side-with_side_other s' e.side None row.timers apart)
                      ∙ sym (ap (option_and_then (armed_at k' s')) (ap (slice_get rows) here.0 ∙ at))
                      ∙ is,
                  has.3,
                  has.4,
                  still,
                )
              ]
          | inr elsewhere ↦ (ArmedAt k' s', f, ap (option_and_then (armed_at k' s')) elsewhere.1 ∙ is, has.3, has.4, still)
        ]

-- ---- the world

pub wakes_timed : (gs : List ℕ) (w : World) → Timed w → Timed (after_wakes gs w)
wakes_timed [] w h = h
wakes_timed (g ∷ gs) w h = wakes_timed gs (after_wakes (g ∷ []) w) h

-- a row changes in its words, marks or tag alone, after which the sides are as after another change
pub sides_like : (old a b : DescriptorRow) → b.timers ≡ a.timers → b.descriptor.sequences ≡ a.descriptor.sequences → b.descriptor.closing ≡ a.descriptor.closing
    → b.descriptor.deadlines ≡ a.descriptor.deadlines → SidesTimed old a → SidesTimed old b
sides_like old a b timers sequences closing deadlines h side still_open wants =
    elim (h side (sym closing ∙ still_open) (sym (wants_like side b.descriptor a.descriptor deadlines) ∙ wants)) [
      | inl kept ↦ inl (ap (of_side side) timers ∙ kept.0, ap (of_side side) sequences ∙ kept.1, kept.2, kept.3)
      | inr armed ↦ inr (armed.0, ap (of_side side) timers ∙ armed.1, armed.2 ∙ sym (ap (of_side side) sequences))
    ]
