-- Lemmas that derive the result of an operation from the changes to the heap.
use Rattle.std.proofs.Common.{◌≡◌, ◌≢◌, ◌⊎◌, inl, inr, ⊎_elim, ℕ, ℤ, ◌+◌, ◌-◌, ◌*◌, ◌^◌, ◌<◌, true, List, [], ◌∷◌, ◌++◌, length, Option, Some, None, refl, sym, ap, ◌∙◌, subst, arith}
use Rattle.std.specs.Prelude.{int_le}
use Rattle.std.specs.Prelude.{slice_get}
use Rattle.std.proofs.Common.{take}
use Rattle.std.proofs.lemmas.List.{length_push}
use Rattle.std.proofs.Math.Seq.{take-append_seam}
use Rattle.std.proofs.lemmas.Option.{slice_get_within, get_or_from_slice_get}
use Rattle.nr_rev.specs.declared.sides.Side.{Side}
use Rattle.nr_rev.specs.declared.sides.Side.TheVariants.{Read, Write}
use Rattle.nr_rev.specs.declared.timer.Entry.{Entry}
use Rattle.nr_rev.specs.declared.timer.TimerFunction.{TimerFunction}
use Rattle.nr_timers.specs.declared.heap.Gone.{Gone}
use Rattle.nr_timers.specs.Order.{at, blank, number, Apart}
use Rattle.nr_timers.specs.PathToRoot.{Ordered}
use Rattle.nr_timers.specs.Index.{key, key_of, Absent, Keyed}
use Rattle.nr_timers.specs.Change.{Inserted, Removed}
use Rattle.nr_timers.specs.Auxiliary.Change.{InsertedBack, RemovedBack}
use Rattle.nr_timers.specs.Clearing.{Cleared, ClearedBack}
use Rattle.nr_timers.specs.TimersOf.{SetsTimer}
use Rattle.nr_timers.specs.State.{State, Numbered, IsTimers}
use Rattle.nr_timers.specs.Step.{Clears, Arms, Stops, Pops, armed_entry}
use Rattle.nr_timers.specs.Back.{PoppedBack, with_timer}
use Rattle.nr_timers.proofs.ChangeLemmas.{at_last}
use Rattle.nr_timers.proofs.DrawnLemmas.{Drawn, Drawn-all, Has, Drawn-has, Drawn-apart, Has-pushed, Apart-pushed, Drawn-removed, Has-removed, Has-left, removed_apart, Has-kept, Has-inserted, Has-there, inserted_apart}
use Rattle.nr_timers.proofs.LookupLemmas.{key_is, one_side, timer_found, timer_none, same_timer, sets_timer}

-- true if the entry of one cell was removed, and all others remain
pub record Emptied (k : ℕ) (old new : List Entry) : Type 0 where
  pub drawn : Drawn old new
  pub absent : Absent k new
  pub left : (x : Entry) → Has x old → Has x new ⊎ (key x ≡ k)

pub emptied_removed : (k p q limit : ℕ) (e : Entry) (old new : List Entry) → Keyed old limit → key e ≡ k → RemovedBack p q e new old → Emptied k old new
emptied_removed k p q limit e old new keyed is back =
    record {
      drawn = Drawn-removed p q e new old back;
      absent = λ i lt same. removed_apart p q e new old back key keyed.once (at new i) (i, lt, refl) (same ∙ sym is);
      left = λ x h. ⊎_elim (λ there. inl there) (λ it. inr (ap key it ∙ is)) (Has-left p q e new old back x h);
    }

pub emptied : (k limit : ℕ) (gone : Option Gone) (old new : List Entry) → Keyed old limit → Cleared k gone old new → ClearedBack gone new old → Emptied k old new
emptied k limit None old new keyed cleared back =
    subst (λ (ys : List Entry). Emptied k old ys) (sym cleared.0) (record { drawn = Drawn-all old; absent = cleared.1; left = λ x h. inl h })
emptied k limit (Some gone) old new keyed cleared back =
    emptied_removed k gone.place gone.last limit gone.entry old new keyed (ap key cleared.entry ∙ cleared.key) back

pub clears : (k : ℕ) (gone : Option Gone) (old new : List Entry) → Cleared k gone old new → Clears k old new
clears k None old new cleared = inl cleared
clears k (Some gone) old new cleared = inr (gone.place, gone.last, cleared.within, cleared.key, cleared.removed)

pub has_below : (f : Entry → ℕ) (limit : ℕ) (xs : List Entry) (x : Entry) → ((p : ℕ) → p < length xs → f (at xs p) < limit) → Has x xs → f x < limit
has_below f limit xs x below h = subst (λ (y : Entry). f y < limit) h.2 (below h.0 h.1)

pub has_apart : (next : ℕ) (entries firings : List Entry) (x y : Entry) → Numbered next entries firings → Has x entries → Has y firings → number x ≢ number y
has_apart next entries firings x y n h g e = n.apart h.0 g.0 h.1 g.1 (ap number h.2 ∙ e ∙ ap number (sym g.2))

pub numbered_from : (next : ℕ) (entries firings : List Entry) → ((x : Entry) → Has x entries → number x < next) → ((x : Entry) → Has x firings → number x < next) → Apart number entries
    → Apart number firings → ((x y : Entry) → Has x entries → Has y firings → number x ≢ number y) → Numbered next entries firings
numbered_from next entries firings below below_f once once_f apart =
    record {
      entries_below = λ p lt. below (at entries p) (p, lt, refl);
      firings_below = λ p lt. below_f (at firings p) (p, lt, refl);
      entries_once = once;
      firings_once = once_f;
      apart = λ p q lt lt_q. apart (at entries p) (at firings q) (p, lt, refl) (q, lt_q, refl);
    }

keyed_from : (limit : ℕ) (xs : List Entry) → ((x : Entry) → Has x xs → key x < limit) → Apart key xs → Keyed xs limit
keyed_from limit xs below once = record { below = λ p lt. below (at xs p) (p, lt, refl); once = once }

-- the facts that hold after entries are removed
module _ (old new : List Entry) (drawn : Drawn old new) where
  keyed_drawn : (limit : ℕ) → Keyed old limit → Keyed new limit
  keyed_drawn limit keyed =
      keyed_from limit new (λ x h. has_below key limit old x keyed.below (Drawn-has old new x drawn h)) (Drawn-apart key old new drawn keyed.once)

  numbered_drawn : (next : ℕ) (firings : List Entry) → Numbered next old firings → Numbered next new firings
  numbered_drawn next firings n =
      numbered_from next new firings
      (λ x h. has_below number next old x n.entries_below (Drawn-has old new x drawn h))
      (λ x h. has_below number next firings x n.firings_below h)
      (Drawn-apart number old new drawn n.entries_once)
      n.firings_once
      (λ x y h g. has_apart next old firings x y n (Drawn-has old new x drawn h) g)

-- after a side's entry was removed, that side has no timer, and all others keep theirs
emptied_sets : (d limit : ℕ) (side : Side) (old new : List Entry) → Keyed old limit → Emptied (key_of d side) old new → SetsTimer d side None old new
emptied_sets d limit side old new keyed e =
    sets_timer d side None old new (timer_none d side new e.absent)
    (
    λ k s n. same_timer k s new old (Drawn-apart key old new e.drawn keyed.once) keyed.once
    (λ x is h. Drawn-has old new x e.drawn h)
    (λ x is h. ⊎_elim (λ there. there) (λ same. absurd (n (sym is ∙ same))) (e.left x h))
    )

module _ (old : State) (well : IsTimers old) (d : ℕ) (side : Side) (new : List Entry) (none : Emptied (key_of d side) old.entries new) where
  pub stops : d < old.descriptors → Clears (key_of d side) old.entries new → Stops old d side (record old { entries = new })
  stops lt places =
      record {
        descriptor = lt;
        places = places;
        timers = emptied_sets d (2 * old.descriptors) side old.entries new well.keyed none;
        rest = refl;
      }

  pub stopped_well : Ordered new → IsTimers (record old { entries = new })
  stopped_well ordered =
      record {
        ordered = ordered;
        keyed = keyed_drawn old.entries new none.drawn (2 * old.descriptors) well.keyed;
        numbered = numbered_drawn old.entries new none.drawn old.next old.firings well.numbered;
        firings_limited = well.firings_limited;
        begun = well.begun;
        in_range = well.in_range;
      }

module _ (old : State) (well : IsTimers old) (q : ℕ) (e : Entry) (new : List Entry) (first : e ≡ at old.entries 0) (back : RemovedBack 0 q e new old.entries) where
  gone : Emptied (key_of (at old.entries 0).descriptor (at old.entries 0).side) old.entries new
  gone = emptied_removed (key_of (at old.entries 0).descriptor (at old.entries 0).side) 0 q (2 * old.descriptors) e old.entries new well.keyed (ap key first ∙ key_is (at old.entries 0)) back

  pub pops : (now : ℤ) → 0 < length old.entries → int_le (at old.entries 0).timer.due now ≡ true → length old.firings < 2 * old.descriptors → Removed old.entries 0 q new
      → Pops old now (record old { entries = new; firings = old.firings ++ e ∷ [] })
  pops now some due room removed =
      record {
        some = some;
        due = due;
        room = room;
        places = (q, removed);
        timers = emptied_sets (at old.entries 0).descriptor (2 * old.descriptors) (at old.entries 0).side old.entries new well.keyed gone;
        rest = ap (λ (x : Entry). record old { entries = new; firings = old.firings ++ x ∷ [] }) first;
      }

  pub popped_well : length old.firings < 2 * old.descriptors → Ordered new → IsTimers (record old { entries = new; firings = old.firings ++ e ∷ [] })
  popped_well room ordered =
      let size = length_push old.firings e in
      let drawn = gone.drawn in
      let there : Has e old.entries = Has-removed 0 q e new old.entries back in
      let n = well.numbered in
      record {
        ordered = ordered;
        keyed = keyed_drawn old.entries new drawn (2 * old.descriptors) well.keyed;
        numbered = numbered_from old.next new (old.firings ++ e ∷ [])
            (λ x h. has_below number old.next old.entries x n.entries_below (Drawn-has old.entries new x drawn h))
            (
            λ x h. ⊎_elim (λ before. has_below number old.next old.firings x n.firings_below before)
            (λ is. has_below number old.next old.entries x n.entries_below (subst (λ (y : Entry). Has y old.entries) (sym is) there))
            (Has-pushed old.firings e x h)
            )
            (Drawn-apart number old.entries new drawn n.entries_once)
            (Apart-pushed number old.firings e n.firings_once (λ x h same. has_apart old.next old.entries old.firings e x n there h (sym same)))
            (
            λ x y h g same. ⊎_elim (λ before. has_apart old.next old.entries old.firings x y n (Drawn-has old.entries new x drawn h) before same)
            (λ is. removed_apart 0 q e new old.entries back number n.entries_once x h (same ∙ ap number is))
            (Has-pushed old.firings e y g)
            );
        firings_limited = omega arith;
        begun = well.begun;
        in_range = well.in_range;
      }

key_below : (d k : ℕ) (s : Side) → d < k → key_of d s < 2 * k
key_below d k Read lt = omega arith
key_below d k Write lt = omega arith

-- the cell of an entry whose descriptor is below the limit
pub armed_below : (e : Entry) (k : ℕ) → e.descriptor < k → key e < 2 * k
armed_below e k lt = subst (λ n. n < 2 * k) (sym (key_is e)) (key_below e.descriptor k e.side lt)

pub number_armed : (old : State) (e : Entry) (d : ℕ) (side : Side) (due : ℤ) (function : TimerFunction) (sequence : ℕ) → e ≡ armed_entry old d side due function sequence → number e ≡ old.next
unfolding number
number_armed old e d side due function sequence is = ap number is

module _ (old : State) (well : IsTimers old) (e : Entry) (mid new : List Entry) (q : ℕ) (none : Emptied (key e) old.entries mid) (back : InsertedBack q new mid) (arrives : at new q ≡ e)
    (within : e.descriptor < old.descriptors) (numbered : number e ≡ old.next) where
  there : (x : Entry) → Has x new → Has x mid ⊎ (x ≡ e)
  there x h = ⊎_elim (λ before. inl before) (λ is. inr (is ∙ arrives)) (Has-there q new mid back x h)

  has_e : Has e new
  has_e = subst (λ (x : Entry). Has x new) arrives (Has-inserted q new mid back)

  apart_key : Apart key new
  apart_key =
      inserted_apart q new mid back key (Drawn-apart key old.entries mid none.drawn well.keyed.once)
      (λ x h same. none.absent h.0 h.1 (ap key h.2 ∙ same ∙ ap key arrives))

  before : (x : Entry) → Has x mid → number x < old.next
  before x h = has_below number old.next old.entries x well.numbered.entries_below (Drawn-has old.entries mid x none.drawn h)

  apart_number : Apart number new
  apart_number =
      inserted_apart q new mid back number (Drawn-apart number old.entries mid none.drawn well.numbered.entries_once)
      (λ x h same. let lt = before x h in let is : number x ≡ number e = same ∙ ap number arrives in let next = numbered in omega arith)

  pub arms : old.next < 2 ^ 64 - 1 → Clears (key e) old.entries mid → Inserted mid e q new → Arms old e (record old { entries = new; next = old.next + 1 })
  arms numbers_left clear inserted =
      record {
        descriptor = within;
        number = numbers_left;
        places = (mid, clear, (q, inserted));
        timers = sets_timer e.descriptor e.side (Some e.timer) old.entries new (timer_found e.descriptor e.side new e apart_key has_e (key_is e))
            (
            λ k s n. same_timer k s new old.entries apart_key well.keyed.once
            (λ x is h. ⊎_elim (λ was. Drawn-has old.entries mid x none.drawn was) (λ it. absurd (n (sym is ∙ ap key it ∙ key_is e))) (there x h))
            (λ x is h. ⊎_elim (λ left. Has-kept q new mid back x left) (λ same. absurd (n (sym is ∙ same ∙ key_is e))) (none.left x h))
            );
        rest = refl;
      }

  pub armed_well : old.next < 2 ^ 64 - 1 → Ordered new → IsTimers (record old { entries = new; next = old.next + 1 })
  armed_well room ordered =
      let n = well.numbered in
      let begun = well.begun in
      record {
        ordered = ordered;
        keyed = keyed_from (2 * old.descriptors) new
            (
            λ x h. ⊎_elim (λ was. has_below key (2 * old.descriptors) old.entries x well.keyed.below (Drawn-has old.entries mid x none.drawn was))
            (λ it. subst (λ k. k < 2 * old.descriptors) (sym (ap key it)) (armed_below e old.descriptors within))
            (there x h)
            )
            apart_key;
        numbered = numbered_from (old.next + 1) new old.firings
            (λ x h. ⊎_elim (λ was. let lt = before x was in omega arith) (λ it. let is : number x ≡ old.next = ap number it ∙ numbered in omega arith) (there x h))
            (λ x h. let lt = has_below number old.next old.firings x n.firings_below h in omega arith)
            apart_number
            n.firings_once
            (
            λ x y h g same. ⊎_elim (λ was. has_apart old.next old.entries old.firings x y n (Drawn-has old.entries mid x none.drawn was) g same)
            (λ it. let is : number x ≡ old.next = ap number it ∙ numbered in let lt = has_below number old.next old.firings y n.firings_below g in omega arith)
            (there x h)
            );
        firings_limited = well.firings_limited;
        begun = omega arith;
        in_range = omega arith;
      }

-- if the armed entry has the same key as the removed entry, giving it the removed entry's timer
-- makes the two equal
pub with_old_timer : (new : List Entry) (to : ℕ) (e gone : Entry) → at new to ≡ e → key gone ≡ key e → with_timer new to gone.timer ≡ gone
with_old_timer new to e gone arrives same =
    let both = one_side e.descriptor gone.descriptor e.side gone.side (sym (key_is e) ∙ sym same ∙ key_is gone) in
    ap (λ (x : Entry). record x { timer = gone.timer }) arrives
    ∙ (λ i. record { descriptor = both.0 i; side = both.1 i; timer = gone.timer })

-- facts about the least entry
module _ (old : State) (least : Entry) (now : ℤ) (is : slice_get old.entries 0 ≡ Some least) where
  pub some : 0 < length old.entries
  some = slice_get_within old.entries 0 least is

  pub least_is : at old.entries 0 ≡ least
  least_is = get_or_from_slice_get old.entries 0 least blank is

pub popped_back : (old : State) (q : ℕ) (e : Entry) (new : List Entry) → Keyed old.entries (2 * old.descriptors) → RemovedBack 0 q e new old.entries
    → PoppedBack q (record old { entries = new; firings = old.firings ++ e ∷ [] }) old
popped_back old q e new keyed back =
    let size : length (old.firings ++ e ∷ []) ≡ length old.firings + 1 = length_push old.firings e in
    let end : length (old.firings ++ e ∷ []) - 1 ≡ length old.firings = omega arith in
    let last : at (old.firings ++ e ∷ []) (length (old.firings ++ e ∷ []) - 1) ≡ e = ap (at (old.firings ++ e ∷ [])) end ∙ at_last old.firings e in
    let left : take (length (old.firings ++ e ∷ []) - 1) (old.firings ++ e ∷ []) ≡ old.firings = ap (λ n. take n (old.firings ++ e ∷ [])) end ∙ take-append_seam old.firings (e ∷ []) in
    record {
      some = omega arith;
      places = subst (λ (x : Entry). RemovedBack 0 q x new old.entries) (sym last) back;
      keyed = keyed;
      rest = ap (λ (fs : List Entry). record old { firings = fs }) (sym left);
    }
