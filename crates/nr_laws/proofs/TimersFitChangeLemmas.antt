-- TimersFit still holds after a descriptor's sequences, deadlines and timers change together.
use Rattle.std.proofs.Common.{◌≡◌, ◌≢◌, ℕ, ◌^◌, ◌<◌, ◌≤◌, List, Option, Some, None, ◌⊎◌, inl, inr, refl, sym, ap, subst, ◌∙◌, set, arith}
use Rattle.std.proofs.lemmas.Option.{same_Some}
use Rattle.std.specs.Prelude.{slice_get, option_map}
use Rattle.std.specs.Option.{option_and_then}
use Rattle.nr_rev.specs.declared.sides.Side.{Side}
use Rattle.nr_rev.specs.Sides.{of_side}
use Rattle.nr_rev.specs.declared.timer.Timer.{Timer}
use Rattle.nr_rev.specs.declared.timer.Entry.{Entry}
use Rattle.nr_rev.specs.declared.descriptor.DescriptorRow.{DescriptorRow}
use Rattle.nr_rev.specs.WellFormed.{TimersFit, RowFits, FiringFits, TimerPlace, ArmedAt, FiringAt, armed_at, timer_at, IsCurrent}
use Rattle.nr_rev.proofs.ListUpdateLemmas.{slice_get-set_cases, slice_get-set_all, slice_get-set_found}

-- true if a side's timer and sequence don't change
pub record SideTimerKept (side : Side) (old new : DescriptorRow) : Type 0 where
  pub timer : of_side side new.timers ≡ of_side side old.timers
  pub sequence : of_side side new.descriptor.sequences ≡ of_side side old.descriptor.sequences

-- true if a side no longer has a current firing, and its timer, if any, has a new number
pub record SideTimerReplaced (side : Side) (old new : DescriptorRow) (n m : ℕ) : Type 0 where
  pub stale : (e : Entry) → e.side ≡ side → FiringFits old.descriptor e → e.timer.sequence ≢ of_side side new.descriptor.sequences
  pub number : (timer : Timer) → of_side side new.timers ≡ Some timer → (n ≤ timer.number) × (timer.number < m)

pub record TimersChanged (firings : List Entry) (d : ℕ) (old new : DescriptorRow) (n m : ℕ) : Type 0 where
  pub fits : RowFits new
  pub firing : (i : ℕ) (e : Entry) → slice_get firings i ≡ Some e → e.descriptor ≡ d → FiringFits old.descriptor e → FiringFits new.descriptor e
  pub sides : (side : Side) → SideTimerKept side old new ⊎ SideTimerReplaced side old new n m
  pub apart : (s t : Side) (a b : Timer) → of_side s new.timers ≡ Some a → of_side t new.timers ≡ Some b → n ≤ a.number → a.number ≡ b.number → s ≡ t
  pub rises : n ≤ m
  pub in_range : m < 2 ^ 64

-- an armed entry names the descriptor and side at which it is armed
pub armed_names : (rows : List DescriptorRow) (firings : List Entry) (k : ℕ) (s : Side) (e : Entry) → timer_at rows firings (ArmedAt k s) ≡ Some e
    → (row : DescriptorRow) × (slice_get rows k ≡ Some row) × (of_side s row.timers ≡ Some e.timer) × (e.descriptor ≡ k) × (e.side ≡ s)
armed_names rows firings k s e is = go (slice_get rows k) refl is
  where
    named : (row : DescriptorRow) (t : Option Timer) → of_side s row.timers ≡ t → option_map (λ timer. record { descriptor = k; side = s; timer = timer }) t ≡ Some e
        → (of_side s row.timers ≡ Some e.timer) × (e.descriptor ≡ k) × (e.side ≡ s)
    named row None at is = cc
    named row (Some timer) at is =
        let whole = same_Some _ _ is in
        (at ∙ ap (λ (x : Entry). Some x.timer) whole, sym (ap (λ (x : Entry). x.descriptor) whole), sym (ap (λ (x : Entry). x.side) whole))

    go : (row : Option DescriptorRow) → slice_get rows k ≡ row → option_and_then (armed_at k s) row ≡ Some e
        → (row : DescriptorRow) × (slice_get rows k ≡ Some row) × (of_side s row.timers ≡ Some e.timer) × (e.descriptor ≡ k) × (e.side ≡ s)
    go None at is = cc
    go (Some row) at is = let n = named row (of_side s row.timers) refl is in (row, at, n.0, n.1, n.2)

-- an existing timer has a number that was assigned before
pub old_number : (rows : List DescriptorRow) (firings : List Entry) (n d : ℕ) (row : DescriptorRow) (side : Side) (timer : Timer) → slice_get rows d ≡ Some row → of_side side row.timers ≡ Some timer
    → TimersFit rows firings n → timer.number < n
old_number rows firings n d row side timer at is h =
    h.armed_before (ArmedAt d side) (record { descriptor = d; side = side; timer = timer })
    (ap (option_and_then (armed_at d side)) at ∙ ap (option_map (λ (t : Timer). record { descriptor = d; side = side; timer = t })) is)

-- neither timers nor sequences change
pub timers_unchanged : (rows : List DescriptorRow) (firings : List Entry) (n d : ℕ) (old new : DescriptorRow) → slice_get rows d ≡ Some old → new.timers ≡ old.timers
    → new.descriptor.sequences ≡ old.descriptor.sequences → RowFits new → ((i : ℕ) (e : Entry) → slice_get firings i ≡ Some e → e.descriptor ≡ d → FiringFits old.descriptor e
    → FiringFits new.descriptor e) → TimersFit rows firings n → TimersChanged firings d old new n n
timers_unchanged rows firings n d old new at timers sequences fits firing h =
    record {
      fits = fits;
      firing = firing;
      sides = λ side. inl (record { timer = ap (of_side side) timers; sequence = ap (of_side side) sequences });
      apart = λ s t a b is_a is_b new_number same.
          let before : a.number < n = old_number rows firings n d old s a at (sym (ap (of_side s) timers) ∙ is_a) h in absurd (omega arith);
      rises = omega arith;
      in_range = h.in_range;
    }

-- the facts about a place after the change
pub record PlaceKept (rows after : List DescriptorRow) (firings : List Entry) (k : ℕ) (s : Side) : Type 0 where
  pub is_at : (e : Entry) → timer_at after firings (ArmedAt k s) ≡ Some e → timer_at rows firings (ArmedAt k s) ≡ Some e
  pub current : (e : Entry) → e.descriptor ≡ k → e.side ≡ s → IsCurrent after e → IsCurrent rows e

pub record PlaceReplaced (rows after : List DescriptorRow) (firings : List Entry) (new : DescriptorRow) (n m d k : ℕ) (s : Side) : Type 0 where
  pub here : k ≡ d
  pub timer : (e : Entry) → timer_at after firings (ArmedAt k s) ≡ Some e → of_side s new.timers ≡ Some e.timer
  pub stale : (i : ℕ) (e : Entry) → slice_get firings i ≡ Some e → e.descriptor ≡ k → e.side ≡ s → IsCurrent after e → ⊥
  pub number : (e : Entry) → timer_at after firings (ArmedAt k s) ≡ Some e → (n ≤ e.timer.number) × (e.timer.number < m)

module _ (rows : List DescriptorRow) (firings : List Entry) (n m d : ℕ) (old new : DescriptorRow) (at : slice_get rows d ≡ Some old) (change : TimersChanged firings d old new n m)
    (h : TimersFit rows firings n) where
  abbrev after : List DescriptorRow
  after = set rows d new

  abbrev sequence_of : Side → Option DescriptorRow → Option ℕ
  sequence_of s row = option_map (λ (r : DescriptorRow). of_side s r.descriptor.sequences) row

  abbrev armed_as : ℕ → Side → Option Timer → Option Entry
  armed_as k s timer = option_map (λ (t : Timer). record { descriptor = k; side = s; timer = t }) timer

  place_stays : (k : ℕ) (s : Side) → k ≡ d → slice_get after k ≡ Some new → SideTimerKept s old new → PlaceKept rows after firings k s
  place_stays k s here now stays =
      record {
        is_at = λ e is. ap (option_and_then (armed_at k s)) was ∙ sym (ap (armed_as k s) stays.timer) ∙ sym (ap (option_and_then (armed_at k s)) now) ∙ is;
        current = λ e same_d same_side is.
            ap (sequence_of e.side) (ap (slice_get rows) same_d ∙ was)
            ∙ ap Some (ap (λ x. of_side x old.descriptor.sequences) same_side ∙ sym stays.sequence ∙ sym (ap (λ x. of_side x new.descriptor.sequences) same_side))
            ∙ sym (ap (sequence_of e.side) (ap (slice_get after) same_d ∙ now))
            ∙ is;
      }
    where
      was : slice_get rows k ≡ Some old
      was = ap (slice_get rows) here ∙ at

  place_begins : (k : ℕ) (s : Side) → k ≡ d → slice_get after k ≡ Some new → SideTimerReplaced s old new n m → PlaceReplaced rows after firings new n m d k s
  place_begins k s here now begins =
      record {
        stale = λ i e is same_d same_side current.
            let f = h.firings_fit i e is in
            let row_is : f.0 ≡ old = same_Some _ _ (sym f.1 ∙ ap (slice_get rows) (same_d ∙ here) ∙ at) in
            begins.stale e same_side (subst (λ (r : DescriptorRow). FiringFits r.descriptor e) row_is f.2)
            (sym (same_Some _ _ (sym (ap (sequence_of e.side) (ap (slice_get after) same_d ∙ now)) ∙ current)) ∙ ap (λ x. of_side x new.descriptor.sequences) same_side);
        here = here;
        timer = timer_there;
        number = λ e is. begins.number e.timer (timer_there e is);
      }
    where
      timer_there : (e : Entry) → timer_at after firings (ArmedAt k s) ≡ Some e → of_side s new.timers ≡ Some e.timer
      timer_there e is =
          let a = armed_names after firings k s e is in
          let row_is : a.0 ≡ new = same_Some _ _ (sym a.1 ∙ now) in
          ap (λ (r : DescriptorRow). of_side s r.timers) (sym row_is) ∙ a.2

  place_known : (k : ℕ) (s : Side) → PlaceKept rows after firings k s ⊎ PlaceReplaced rows after firings new n m d k s
  place_known k s =
      elim (slice_get-set_cases rows d old new k at) [
        | inl here ↦
            elim (change.sides s) [
              | inl stays ↦ inl (place_stays k s here.0 here.1 stays)
              | inr begins ↦ inr (place_begins k s here.0 here.1 begins)
            ]
        | inr there ↦
            inl (record {
              is_at = λ e is. sym (ap (option_and_then (armed_at k s)) there.1) ∙ is;
              current = λ e same_d same_side is. ap (sequence_of e.side) (ap (slice_get rows) same_d ∙ sym there.1 ∙ sym (ap (slice_get after) same_d)) ∙ is;
            })
      ]

  places_agree : (k k' : ℕ) (s s' : Side) → k ≡ k' → s ≡ s' → ArmedAt k s ≡ ArmedAt k' s'
  places_agree k k' s s' e f = cc

  -- a side doesn't have both a current armed entry and a current firing
  none_both : (k : ℕ) (s : Side) (j : ℕ) (e f : Entry) → timer_at after firings (ArmedAt k s) ≡ Some e → slice_get firings j ≡ Some f → e.descriptor ≡ f.descriptor → e.side ≡ f.side
      → IsCurrent after e → IsCurrent after f → ArmedAt k s ≡ FiringAt j
  none_both k s j e f p q same_d same_side e_now f_now =
      let a = armed_names after firings k s e p in
      elim (place_known k s) [
        | inl stays ↦
            h.one_current (ArmedAt k s) (FiringAt j) e f (stays.is_at e p) q same_d same_side (stays.current e a.3 a.4 e_now)
            (stays.current f (sym same_d ∙ a.3) (sym same_side ∙ a.4) f_now)
        | inr begins ↦ absurd (begins.stale j f q (sym same_d ∙ a.3) (sym same_side ∙ a.4) f_now)
      ]

  one_current : (p q : TimerPlace) (e f : Entry) → timer_at after firings p ≡ Some e → timer_at after firings q ≡ Some f → e.descriptor ≡ f.descriptor → e.side ≡ f.side → IsCurrent after e
      → IsCurrent after f → p ≡ q
  one_current (ArmedAt k s) (ArmedAt k' s') e f p q same_d same_side e_now f_now =
      let a = armed_names after firings k s e p in
      let b = armed_names after firings k' s' f q in
      places_agree k k' s s' (sym a.3 ∙ same_d ∙ b.3) (sym a.4 ∙ same_side ∙ b.4)
  one_current (ArmedAt k s) (FiringAt j) e f p q same_d same_side e_now f_now = none_both k s j e f p q same_d same_side e_now f_now
  one_current (FiringAt i) (ArmedAt k s) e f p q same_d same_side e_now f_now = sym (none_both k s i f e q p (sym same_d) (sym same_side) f_now e_now)
  one_current (FiringAt i) (FiringAt j) e f p q same_d same_side e_now f_now =
      elim (place_known e.descriptor e.side) [
        | inl stays ↦
            h.one_current (FiringAt i) (FiringAt j) e f p q same_d same_side (stays.current e refl refl e_now) (stays.current f (sym same_d) (sym same_side) f_now)
        | inr begins ↦ absurd (begins.stale i e p refl refl e_now)
      ]

  armed_before : (p : TimerPlace) (e : Entry) → timer_at after firings p ≡ Some e → e.timer.number < m
  armed_before (FiringAt i) e p = let r = change.rises in let b = h.armed_before (FiringAt i) e p in omega arith
  armed_before (ArmedAt k s) e p =
      let r = change.rises in
      elim (place_known k s) [
        | inl stays ↦ let b = h.armed_before (ArmedAt k s) e (stays.is_at e p) in omega arith
        | inr begins ↦ (begins.number e p).1
      ]

  numbers_apart : (k : ℕ) (s : Side) (j : ℕ) (e f : Entry) → timer_at after firings (ArmedAt k s) ≡ Some e → slice_get firings j ≡ Some f → e.timer.number ≡ f.timer.number → ArmedAt k s ≡ FiringAt j
  numbers_apart k s j e f p q same =
      elim (place_known k s) [
        | inl stays ↦ h.armed_once (ArmedAt k s) (FiringAt j) e f (stays.is_at e p) q same
        | inr begins ↦ let b = h.armed_before (FiringAt j) f q in let c = (begins.number e p).0 in absurd (omega arith)
      ]

  armed_once : (p q : TimerPlace) (e f : Entry) → timer_at after firings p ≡ Some e → timer_at after firings q ≡ Some f → e.timer.number ≡ f.timer.number → p ≡ q
  armed_once (FiringAt i) (FiringAt j) e f p q same = h.armed_once (FiringAt i) (FiringAt j) e f p q same
  armed_once (FiringAt i) (ArmedAt k s) e f p q same = sym (numbers_apart k s i f e q p (sym same))
  armed_once (ArmedAt k s) (FiringAt j) e f p q same = numbers_apart k s j e f p q same
  armed_once (ArmedAt k s) (ArmedAt k' s') e f p q same =
      elim (place_known k s) [
        | inl stays ↦
            elim (place_known k' s') [
              | inl stays' ↦ h.armed_once (ArmedAt k s) (ArmedAt k' s') e f (stays.is_at e p) (stays'.is_at f q) same
              | inr begins ↦ let b = h.armed_before (ArmedAt k s) e (stays.is_at e p) in let c = (begins.number f q).0 in absurd (omega arith)
            ]
        | inr begins ↦
            elim (place_known k' s') [
              | inl stays ↦ let b = h.armed_before (ArmedAt k' s') f (stays.is_at f q) in let c = (begins.number e p).0 in absurd (omega arith)
              | inr begins' ↦
                  places_agree k k' s s' (begins.here ∙ sym begins'.here)
                  (change.apart s s' e.timer f.timer (begins.timer e p) (begins'.timer f q) (begins.number e p).0 same)
            ]
      ]

  pub TimersFit-changed : TimersFit after firings m
  TimersFit-changed =
      record {
        entries_fit = slice_get-set_all RowFits rows d old new at change.fits h.entries_fit;
        firings_fit = λ i firing is.
            let f = h.firings_fit i firing is in
            slice_get-set_found (λ (r : DescriptorRow). FiringFits r.descriptor firing) rows d old new firing.descriptor f.0 at (change.firing i firing is) f.1 f.2;
        one_current = one_current;
        armed_before = armed_before;
        armed_once = armed_once;
        numbered = let before = h.numbered in let up = change.rises in omega arith;
        in_range = change.in_range;
      }
