-- A performed operation has the defined result, keeps the timers well formed, and can be undone.
use Rattle.std.proofs.Common.{◌≡◌, ℕ, ℤ, ◌+◌, ◌-◌, ◌*◌, ◌^◌, ◌<◌, ◌≤◌, true, List, [], ◌∷◌, ◌++◌, length, Option, Some, None, refl, sym, ap, ◌∙◌, subst, ⊎_elim, arith, lit≤}
use Rattle.std.specs.Prelude.{int_le, nat_lt, if◌then◌else◌, remove, slice_get}
use Rattle.std.proofs.lemmas.Option.{slice_get_within}
use Rattle.std.proofs.lemmas.Bool.{cases_lt}
use Rattle.std.proofs.lemmas.Bool.Decides.{nat_tests}
use Rattle.std.proofs.lemmas.List.Edits.{get_or-remove_below, get_or-remove_above, length-remove}
use Rattle.nr_rev.specs.declared.sides.Side.{Side}
use Rattle.nr_rev.specs.declared.timer.Entry.{Entry}
use Rattle.nr_rev.specs.declared.timer.TimerFunction.{TimerFunction}
use Rattle.nr_timers.specs.declared.delta.TimersUndo.{TimersUndo}
use Rattle.nr_timers.specs.declared.delta.TimersUndo.TheVariants.{Popped, Taken}
use Rattle.nr_timers.specs.declared.heap.Gone.{Gone}
use Rattle.nr_timers.specs.declared.op.TimersOp.TheVariants.{Arm, Stop, Pop, TakeFiring}
use Rattle.nr_timers.specs.Order.{at, blank, number}
use Rattle.nr_timers.specs.PathToRoot.{Ordered}
use Rattle.nr_timers.specs.Index.{key, key_of, Absent}
use Rattle.nr_timers.specs.Change.{Inserted, Removed}
use Rattle.nr_timers.specs.Auxiliary.Change.{InsertedBack, RemovedBack}
use Rattle.nr_timers.specs.Clearing.{Takes, Cleared, ClearedBack, armed_undo, stopped_undo}
use Rattle.nr_timers.specs.State.{State, IsTimers}
use Rattle.nr_timers.specs.Step.{armed_entry, Arms}
use Rattle.nr_timers.specs.Back.{UndoBack, with_timer, undo_weight}
use Rattle.nr_timers.specs.Performing.{Applies}
use Rattle.nr_timers.proofs.DrawnLemmas.{Drawn, Drawn-has, Drawn-apart}
use Rattle.nr_timers.proofs.UndoLemmas.{returned}
use Rattle.nr_timers.proofs.StepLemmas.{has_below, has_apart, numbered_from, Emptied, emptied, clears, stops, stopped_well, pops, popped_well, arms, armed_well, with_old_timer, popped_back, armed_below, number_armed}

armed_weight : (q : ℕ) (gone : Option Gone) → undo_weight (armed_undo q gone) ≤ 8
armed_weight q None = lit≤ tt
armed_weight q (Some gone) = lit≤ tt

stopped_weight : (gone : Option Gone) → undo_weight (stopped_undo gone) ≤ 9
stopped_weight None = lit≤ tt
stopped_weight (Some gone) = lit≤ tt

module _ (old : State) (well : IsTimers old) (d : ℕ) (side : Side) (due : ℤ) (function : TimerFunction) (sequence : ℕ) (within : d < old.descriptors) where
  module _ (time : ℤ) (same_time : time ≡ due) (k : ℕ) (key_is : k ≡ key (armed_entry old d side time function sequence)) (gone : Option Gone) (mid : List Entry)
      (cleared : Cleared k gone old.entries mid) (cleared_back : ClearedBack gone mid old.entries) where
    abbrev e : Entry
    e = armed_entry old d side time function sequence

    is : e ≡ armed_entry old d side due function sequence
    is = ap (λ (t : ℤ). armed_entry old d side t function sequence) same_time

    cleared_here : Cleared (key e) gone old.entries mid
    cleared_here = subst (λ n. Cleared n gone old.entries mid) key_is cleared

    left : Emptied (key e) old.entries mid
    left = emptied (key e) (2 * old.descriptors) gone old.entries mid well.keyed cleared_here cleared_back

    below : e.descriptor < old.descriptors
    below = subst (λ (x : Entry). x.descriptor < old.descriptors) (sym is) within

    -- there is room for the entry
    pub arming_fits : (limit : ℕ) → limit ≡ 2 * old.descriptors → key e < limit
    arming_fits limit same = subst (λ n. key e < n) (sym same) (armed_below e old.descriptors below)

    pub arming_absent : Absent (key e) mid
    arming_absent = left.absent

    module _ (new : List Entry) (q : ℕ) (inserted : Inserted mid e q new) (back : InsertedBack q new mid) where
      abbrev after : State
      after = record old { entries = new; next = old.next + 1 }

      leads_back : (g : Option Gone) → Cleared (key e) g old.entries mid → ClearedBack g mid old.entries → UndoBack (armed_undo q g) after old
      leads_back None c b =
          record { places = subst (λ (m : List Entry). InsertedBack q new m) (sym b) back; keyed = well.keyed; number = refl; rest = refl }
      leads_back (Some g) c b =
          let taken : Takes (key e) g old.entries mid = c in
          let timer : with_timer new q g.entry.timer ≡ g.entry = with_old_timer new q e g.entry inserted.raised.arrives (ap key taken.entry ∙ taken.key) in
          record {
            places = (mid, back, subst (λ (x : Entry). RemovedBack g.place g.last x mid old.entries) (sym timer) b);
            keyed = well.keyed;
            number = refl;
            rest = refl;
          }

      pub arming : old.next < 2 ^ 64 - 1 → Ordered new → (delta : TimersUndo) → delta ≡ armed_undo q gone → Applies old (Arm d side due function sequence) delta after
      arming room ordered delta same =
          let numbered = number_armed old e d side due function sequence is in
          let made : Arms old e after = arms old well e mid new q left back inserted.raised.arrives below numbered room (clears (key e) gone old.entries mid cleared_here) inserted in
          subst (λ (x : TimersUndo). Applies old (Arm d side due function sequence) x after) (sym same)
          (
          record {
            made = subst (λ (x : Entry). Arms old x after) is made;
            well_formed = armed_well old well e mid new q left back inserted.raised.arrives below numbered room ordered;
            back = leads_back gone cleared_here cleared_back;
            light = armed_weight q gone;
          }
          )

module _ (old : State) (well : IsTimers old) (d : ℕ) (side : Side) (within : d < old.descriptors) (k : ℕ) (key_is : k ≡ key_of d side) (gone : Option Gone) (new : List Entry)
    (cleared : Cleared k gone old.entries new) (cleared_back : ClearedBack gone new old.entries) where
  cleared_there : Cleared (key_of d side) gone old.entries new
  cleared_there = subst (λ n. Cleared n gone old.entries new) key_is cleared

  none : Emptied (key_of d side) old.entries new
  none = emptied (key_of d side) (2 * old.descriptors) gone old.entries new well.keyed cleared_there cleared_back

  stopped_back : (g : Option Gone) → ClearedBack g new old.entries → UndoBack (stopped_undo g) (record old { entries = new }) old
  stopped_back None b = ap (λ (es : List Entry). record old { entries = es }) b
  stopped_back (Some g) b = record { places = b; keyed = well.keyed; rest = refl }

  pub stopping : Ordered new → (delta : TimersUndo) → delta ≡ stopped_undo gone → Applies old (Stop d side) delta (record old { entries = new })
  stopping ordered delta same =
      subst (λ (x : TimersUndo). Applies old (Stop d side) x (record old { entries = new })) (sym same)
      (
      record {
        made = stops old well d side new none within (clears (key_of d side) gone old.entries new cleared_there);
        well_formed = stopped_well old well d side new none ordered;
        back = stopped_back gone cleared_back;
        light = stopped_weight gone;
      }
      )

pub popping : (old : State) → IsTimers old → (now : ℤ) → 0 < length old.entries → int_le (at old.entries 0).timer.due now ≡ true → length old.firings < 2 * old.descriptors
    → (q : ℕ) (e : Entry) (new firings : List Entry) → e ≡ at old.entries 0 → firings ≡ old.firings ++ e ∷ [] → Removed old.entries 0 q new → RemovedBack 0 q e new old.entries → Ordered new
    → Applies old (Pop now) (Popped q) (record old { entries = new; firings = firings })
popping old well now some due room q e new firings first is removed back ordered =
    subst (λ (fs : List Entry). Applies old (Pop now) (Popped q) (record old { entries = new; firings = fs })) (sym is)
    (
    record {
      made = pops old well q e new first back now some due room removed;
      well_formed = popped_well old well q e new first back room ordered;
      back = popped_back old q e new well.keyed back;
      light = lit≤ tt;
    }
    )

-- removing a firing leaves the others unchanged
abbrev left_from : ℕ → ℕ → ℕ
left_from i p = if nat_lt p i then p else p + 1

left_below : (i p : ℕ) → p < i → left_from i p ≡ p
left_below i p lt = grind (arith, nat_tests)

left_above : (i p : ℕ) → i ≤ p → left_from i p ≡ p + 1
left_above i p le = grind (arith, nat_tests)

Drawn-remove : (xs : List Entry) (i : ℕ) → i < length xs → Drawn xs (remove xs i)
Drawn-remove xs i lt =
    let size = length-remove xs i lt in
    record {
      from = left_from i;
      within = λ p l. grind (arith, nat_tests);
      same = λ p l.
          ⊎_elim
          (λ under. get_or-remove_below xs i blank p under lt ∙ sym (ap (at xs) (left_below i p under)))
          (λ over. get_or-remove_above xs i blank p over lt ∙ sym (ap (at xs) (left_above i p over)))
          (cases_lt p i);
      apart = λ p q l m e. grind (arith, nat_tests);
    }

pub taking : (old : State) (i : ℕ) (e : Entry) (rest : List Entry) → IsTimers old → slice_get old.firings i ≡ Some e → rest ≡ remove old.firings i
    → Applies old (TakeFiring i) (Taken i e) (record old { firings = rest })
taking old i e rest well is same =
    let lt = slice_get_within old.firings i e is in
    let size = length-remove old.firings i lt in
    let drawn = Drawn-remove old.firings i lt in
    let n = well.numbered in
    let limited = well.firings_limited in
    subst (λ (fs : List Entry). Applies old (TakeFiring i) (Taken i e) (record old { firings = fs })) (sym same)
    (
    record {
      made = record { within = lt; rest = refl };
      well_formed = record {
        ordered = well.ordered;
        keyed = well.keyed;
        numbered = numbered_from old.next old.entries (remove old.firings i)
            (λ x h. has_below number old.next old.entries x n.entries_below h)
            (λ x h. has_below number old.next old.firings x n.firings_below (Drawn-has old.firings (remove old.firings i) x drawn h))
            n.entries_once
            (Drawn-apart number old.firings (remove old.firings i) drawn n.firings_once)
            (λ x y h g. has_apart old.next old.entries old.firings x y n h (Drawn-has old.firings (remove old.firings i) y drawn g));
        firings_limited = omega arith;
        begun = well.begun;
        in_range = well.in_range;
      };
      back = record { within = omega arith; room = omega arith; rest = ap (λ (fs : List Entry). record old { firings = fs }) (sym (returned old.firings i e is)) };
      light = lit≤ tt;
    }
    )
