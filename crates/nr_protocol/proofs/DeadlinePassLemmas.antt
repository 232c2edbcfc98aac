-- At each position of a recording, each future deadline has a timer that will make it pass.
use Rattle.std.proofs.Common.{◌≡◌, ℕ, ◌<◌, suc, Bool, true, false, not, ◌&&◌, List, [], ◌∷◌, Some, Ok, Err, refl, sym, ap, subst, ◌∙◌, arith, take}
use Rattle.std.specs.Prelude.{All, slice_get, option_map, if◌then◌else◌}
use Rattle.std.proofs.lemmas.List.Elements.{All-take}
use Rattle.std.proofs.lemmas.Option.{same_Some}
use Rattle.nr_rev.specs.declared.limits.Limits.{Limits}
use Rattle.nr_rev.specs.declared.descriptor.Descriptor.{Descriptor}
use Rattle.nr_rev.specs.declared.descriptor.DescriptorRow.{DescriptorRow}
use Rattle.nr_rev.specs.declared.sides.Side.{Side}
use Rattle.nr_rev.specs.declared.sides.Side.TheVariants.{Read, Write}
use Rattle.nr_rev.specs.declared.step.Step.{Step}
use Rattle.nr_rev.specs.declared.timer.Entry.{Entry}
use Rattle.nr_rev.specs.declared.timer.TimerFunction.{TimerFunction}
use Rattle.nr_rev.specs.Auxiliary.Step.{IsTimely}
use Rattle.nr_rev.specs.Descriptor.{is_combo, is_positive, timer_function}
use Rattle.nr_rev.specs.Run.{Recording, world_after, world_at, next_of}
use Rattle.nr_rev.specs.Sides.{of_side, covers_side}
use Rattle.nr_rev.specs.Step.{outcome, Outcome}
use Rattle.nr_rev.specs.WellFormed.{WellFormed, HasView, EntryFits, FiringFits, IsDueFor, TimerPlace, ArmedAt, FiringAt, parked_of, timer_at}
use Rattle.nr_rev.specs.World.{World, empty_world}
use Rattle.nr_protocol.proofs.DeadlineTimerLemmas.{Timed}
use Rattle.nr_protocol.proofs.DeadlineTimerStepLemmas.{step_keeps_timers}
use Rattle.nr_laws.proofs.EmptyWorldLemmas.{empty_world_fits}
use Rattle.nr_laws.proofs.PositionLemmas.{next_fits}
use Rattle.nr_protocol.proofs.SleepPositionLemmas.{none_oversleeps}
use Rattle.nr_laws.proofs.TimersFitChangeLemmas.{armed_names}
use Rattle.nr_laws.proofs.TimerUpdateLemmas.{combo_positive, combo_same, own_side}
use Rattle.nr_protocol.specs.Deadlines.{HasTimer, WillPass}

pub first_timed : (limits : Limits) → Timed (empty_world limits)
first_timed limits = record { timed = λ d side row at still_open wants. cc }

next_timed : (w : World) (step : Step) → WellFormed w → Timed w → Timed (next_of w (outcome w step))
next_timed w step ok h = go (outcome w step) refl
  where
    go : (o : Outcome) → outcome w step ≡ o → Timed (next_of w o)
    go (Ok (answer, next)) e = step_keeps_timers w step answer next ok h e
    go (Err reason) e = h

after_timed : (steps : List Step) (w : World) → All IsTimely steps → WellFormed w → Timed w → WellFormed (world_after w steps) × Timed (world_after w steps)
after_timed [] w timely ok h = (ok, h)
after_timed (step ∷ steps) w timely ok h =
    after_timed steps (next_of w (outcome w step)) (λ k d below. timely (suc k) d (omega arith)) (next_fits w step (timely 0 step (omega arith)) ok) (next_timed w step ok h)

pub positions_timed : (r : Recording) (n : ℕ) → 0 < r.limits.goroutines → All IsTimely r.steps → WellFormed (world_at r n) × Timed (world_at r n)
positions_timed r n room timely = after_timed (take n r.steps) _ (All-take IsTimely n r.steps timely) (empty_world_fits r.limits room) (first_timed r.limits)

-- a side's current timer has the side's function and deadline
record IsTimerOf (e : Entry) (d : Descriptor) (side : Side) : Type 0 where
  function : e.timer.function ≡ timer_function side d
  due : e.timer.due ≡ of_side side d.deadlines

timer_facts : (w : World) (d : ℕ) (side : Side) (row : DescriptorRow) → WellFormed w → slice_get w.descriptors d ≡ Some row → (has : HasTimer w.descriptors w.firings d side) → IsTimerOf has.1 row.descriptor side
timer_facts w d side row ok at has = go has.0 has.2
  where
    e : Entry
    e = has.1

    row_there : slice_get w.descriptors e.descriptor ≡ Some row
    row_there = ap (slice_get w.descriptors) has.3 ∙ at

    at_side : (s : Side) → s ≡ side → (e.timer.function ≡ timer_function s row.descriptor) → (e.timer.due ≡ of_side s row.descriptor.deadlines) → IsTimerOf e row.descriptor side
    at_side s same function due = record { function = function ∙ ap (λ x. timer_function x row.descriptor) same; due = due ∙ ap (λ x. of_side x row.descriptor.deadlines) same }

    go : (p : TimerPlace) → timer_at w.descriptors w.firings p ≡ Some e → IsTimerOf e row.descriptor side
    go (ArmedAt k s) is =
        let a = armed_names w.descriptors w.firings k s e is in
        let row_is : a.0 ≡ row = same_Some _ _ (sym a.1 ∙ ap (slice_get w.descriptors) (sym a.3) ∙ row_there) in
        let fits : EntryFits row.descriptor s e.timer = (ok.timers.entries_fit d row at).entries s e.timer (ap (λ (r : DescriptorRow). of_side s r.timers) (sym row_is) ∙ a.2) in
        at_side s (sym a.4 ∙ has.4) fits.function fits.due
    go (FiringAt j) is =
        let f = ok.timers.firings_fit j e is in
        let fits : FiringFits row.descriptor e = subst (λ (r : DescriptorRow). FiringFits r.descriptor e) (same_Some _ _ (sym f.1 ∙ row_there)) f.2 in
        let now : of_side e.side row.descriptor.sequences ≡ e.timer.sequence =
        same_Some _ _ (sym (ap (option_map (λ (r : DescriptorRow). of_side e.side r.descriptor.sequences)) row_there) ∙ has.5)
        in
        let due : IsDueFor row.descriptor e = fits.current (sym now) in
        at_side e.side has.4 due.function (due.due e.side (own_side e.timer.function e.side fits.side))

-- the side's own timer makes its deadline pass; under combo, the read side's timer makes both pass
by_timer : (w : World) (d : ℕ) (own side : Side) (row : DescriptorRow) → WellFormed w → slice_get w.descriptors d ≡ Some row → HasTimer w.descriptors w.firings d own
    → covers_side (timer_function own row.descriptor) side ≡ true → of_side own row.descriptor.deadlines ≡ of_side side row.descriptor.deadlines → WillPass w.descriptors w.firings d side row
by_timer w d own side row ok at has covers same =
    let facts = timer_facts w d own row ok at has in
    (has.0, has.1, has.2, has.3, ap (λ f. covers_side f side) facts.function ∙ covers, facts.due ∙ same, has.5)

pub will_pass : (w : World) (d : ℕ) (side : Side) (row : DescriptorRow) → WellFormed w → Timed w → slice_get w.descriptors d ≡ Some row → row.descriptor.closing ≡ false
    → is_positive (of_side side row.descriptor.deadlines) ≡ true → WillPass w.descriptors w.firings d side row
will_pass w d Read row ok h at still_open later = by_timer w d Read Read row ok at (h.timed d Read row at still_open later) (covered (is_combo row.descriptor)) refl
  where
    covered : (combo : Bool) → covers_side (if combo then TimerFunction.Both else TimerFunction.Read) Read ≡ true
    covered true = refl
    covered false = refl
will_pass w d Write row ok h at still_open later = go (is_combo row.descriptor) refl
  where
    go : (combo : Bool) → is_combo row.descriptor ≡ combo → WillPass w.descriptors w.firings d Write row
    go true is =
        by_timer w d Read Write row ok at (h.timed d Read row at still_open (combo_positive row.descriptor is Read))
        (ap (λ c. covers_side (if c then TimerFunction.Both else TimerFunction.Read) Write) is) (combo_same row.descriptor is Read Write)
    go false is =
        by_timer w d Write Write row ok at (h.timed d Write row at still_open (ap (λ c. is_positive row.descriptor.deadlines.write && not c) is ∙ ap (λ b. b && true) later)) refl refl

pub deadlines_will_pass : (r : Recording) (n d : ℕ) (side : Side) (row : DescriptorRow) → 0 < r.limits.goroutines → All IsTimely r.steps → slice_get (world_at r n).descriptors d ≡ Some row
    → row.descriptor.closing ≡ false → is_positive (of_side side row.descriptor.deadlines) ≡ true → WillPass (world_at r n).descriptors (world_at r n).firings d side row
deadlines_will_pass r n d side row room timely at still_open later =
    let both = positions_timed r n room timely in
    will_pass (world_at r n) d side row both.0 both.1 at still_open later

pub sleepers_will_wake : (r : Recording) (n g d : ℕ) (side : Side) (row : DescriptorRow) → 0 < r.limits.goroutines → All IsTimely r.steps → HasView parked_of (world_at r n).goroutines g (d, side)
    → slice_get (world_at r n).descriptors d ≡ Some row → is_positive (of_side side row.descriptor.deadlines) ≡ true → WillPass (world_at r n).descriptors (world_at r n).firings d side row
sleepers_will_wake r n g d side row room timely shows at later =
    deadlines_will_pass r n d side row room timely at (none_oversleeps r n g d side row room timely shows at).0 later
