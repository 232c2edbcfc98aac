-- At each position of a recording, no goroutine sleeps past a close or a deadline.
use Rattle.std.proofs.Common.{Bool, true, false, ◌≡◌, ℕ, ◌<◌, suc, List, [], ◌∷◌, Some, Ok, Err, ◌⊎◌, refl, sym, ap, ◌∙◌, arith, take, Option, None}
use Rattle.std.specs.Prelude.{All, slice_get, option_map}
use Rattle.std.specs.Option.{option_and_then}
use Rattle.std.proofs.lemmas.List.Elements.{All-take}
use Rattle.std.proofs.lemmas.Option.{same_Some}
use Rattle.nr_rev.specs.declared.limits.Limits.{Limits}
use Rattle.nr_rev.specs.declared.descriptor.DescriptorRow.{DescriptorRow}
use Rattle.nr_rev.specs.declared.descriptor.WaitWord.TheVariants.{Held}
use Rattle.nr_rev.specs.declared.sides.Side.{Side}
use Rattle.nr_rev.specs.declared.sides.Side.TheVariants.{Read}
use Rattle.nr_rev.specs.declared.status.Status.{Status}
use Rattle.nr_rev.specs.declared.status.Status.TheVariants.{Parked}
use Rattle.nr_rev.specs.declared.step.Step.{Step}
use Rattle.nr_rev.specs.Auxiliary.Step.{IsTimely}
use Rattle.nr_rev.specs.Descriptor.{check}
use Rattle.nr_rev.specs.Run.{Recording, world_after, world_at, next_of}
use Rattle.nr_rev.specs.Sides.{of_side}
use Rattle.nr_rev.specs.Step.{outcome, Outcome}
use Rattle.nr_rev.specs.WellFormed.{WellFormed, HasView, parked_of}
use Rattle.nr_rev.specs.World.{World, empty_world}
use Rattle.nr_laws.proofs.EmptyWorldLemmas.{empty_world_fits}
use Rattle.nr_laws.proofs.PositionLemmas.{next_fits}
use Rattle.nr_protocol.proofs.SleepStepLemmas.{Fit, check_where_asleep, zero_where_asleep, step_keeps_sleepers}
use Rattle.nr_protocol.specs.Sleep.{sleeping_of, is_waited_on, MaySleep, IsOfLinux}

pub first_rests : (exact : Bool) (limits : Limits) → Fit exact (empty_world limits)
first_rests exact limits = record { may_sleep = λ g d side row shows at waited. cc }

next_rests : (exact : Bool) (w : World) (step : Step) → (exact ≡ true → IsOfLinux step) → WellFormed w → Fit exact w → Fit exact (next_of w (outcome w step))
next_rests exact w step linux ok h = go (outcome w step) refl
  where
    go : (o : Outcome) → outcome w step ≡ o → Fit exact (next_of w o)
    go (Ok (answer, next)) e = step_keeps_sleepers exact w step answer next linux ok h e
    go (Err reason) e = h

after_rests : (exact : Bool) (steps : List Step) (w : World) → All IsTimely steps → (exact ≡ true → All IsOfLinux steps) → WellFormed w → Fit exact w → WellFormed (world_after w steps) × Fit exact (world_after w steps)
after_rests exact [] w timely linux ok h = (ok, h)
after_rests exact (step ∷ steps) w timely linux ok h =
    after_rests exact steps (next_of w (outcome w step)) (λ k d below. timely (suc k) d (omega arith)) (λ x k d below. linux x (suc k) d (omega arith)) (next_fits w step (timely 0 step (omega arith)) ok)
    (next_rests exact w step (λ x. linux x 0 step (omega arith)) ok h)

pub positions_rest : (exact : Bool) (r : Recording) (n : ℕ) → 0 < r.limits.goroutines → All IsTimely r.steps → (exact ≡ true → All IsOfLinux r.steps) → WellFormed (world_at r n) × Fit exact (world_at r n)
positions_rest exact r n room timely linux =
    after_rests exact (take n r.steps) _ (All-take IsTimely n r.steps timely) (λ x. All-take IsOfLinux n r.steps (linux x)) (empty_world_fits r.limits room) (first_rests exact r.limits)

parked_asleep : (s : Status) (place : ℕ × Side) → parked_of s ≡ Some place → sleeping_of s ≡ Some place
parked_asleep (Parked d side) place e = e
parked_asleep _ place e = cc

asleep : (o : Option Status) (place : ℕ × Side) → option_and_then parked_of o ≡ Some place → option_and_then sleeping_of o ≡ Some place
asleep None place e = cc
asleep (Some s) place e = parked_asleep s place e

-- in a well-formed world, the word of a parked goroutine holds it
pub parked_may : (exact : Bool) (w : World) (g d : ℕ) (side : Side) (row : DescriptorRow) → WellFormed w → Fit exact w → HasView parked_of w.goroutines g (d, side) → slice_get w.descriptors d ≡ Some row
    → MaySleep exact side row.descriptor
parked_may exact w g d side row ok h shows at =
    let held : of_side side row.descriptor.words ≡ Held g =
    same_Some _ _ (sym (ap (option_map (λ (r : DescriptorRow). of_side side r.descriptor.words)) at) ∙ (ok.words.held g d side).1 shows)
    in
    h.may_sleep g d side row (asleep (slice_get w.goroutines g) (d, side) shows) at (ap is_waited_on held)

pub none_oversleeps : (r : Recording) (n g d : ℕ) (side : Side) (row : DescriptorRow) → 0 < r.limits.goroutines → All IsTimely r.steps → HasView parked_of (world_at r n).goroutines g (d, side)
    → slice_get (world_at r n).descriptors d ≡ Some row → MaySleep false side row.descriptor
none_oversleeps r n g d side row room timely shows at =
    let both = positions_rest false r n room timely (λ e. cc) in
    parked_may false (world_at r n) g d side row both.0 both.1 shows at

pub check_where_parked : (r : Recording) (n g d : ℕ) (side : Side) (row : DescriptorRow) → 0 < r.limits.goroutines → All IsTimely r.steps → HasView parked_of (world_at r n).goroutines g (d, side)
    → slice_get (world_at r n).descriptors d ≡ Some row → (check side row.descriptor ≡ 0) ⊎ ((side ≡ Read) × (check side row.descriptor ≡ 3))
check_where_parked r n g d side row room timely shows at = check_where_asleep false side row.descriptor (none_oversleeps r n g d side row room timely shows at)

-- with Linux's events, the check is 0 where a goroutine is parked
pub zero_where_parked : (r : Recording) (n g d : ℕ) (side : Side) (row : DescriptorRow) → 0 < r.limits.goroutines → All IsTimely r.steps → All IsOfLinux r.steps
    → HasView parked_of (world_at r n).goroutines g (d, side) → slice_get (world_at r n).descriptors d ≡ Some row → check side row.descriptor ≡ 0
zero_where_parked r n g d side row room timely linux shows at =
    let both = positions_rest true r n room timely (λ _. linux) in
    zero_where_asleep true side row.descriptor refl (parked_may true (world_at r n) g d side row both.0 both.1 shows at)
