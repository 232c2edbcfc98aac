-- The outcome of changing a descriptor with its timers: orders are carried out, and goroutines are
-- woken.
use Rattle.std.specs.Prelude.{◌≡◌, ℕ, ◌≤◌, List, length, map, remove, slice_get, Option, Some, None, Result, Ok}
use Rattle.nr_rev.specs.declared.refusal.Refusal.{Refusal}
use Rattle.nr_rev.specs.declared.sides.Side.{Side}
use Rattle.nr_rev.specs.declared.sides.Side.TheVariants.{Read, Write}
use Rattle.nr_rev.specs.declared.sides.Sides.{Sides}
use Rattle.nr_rev.specs.declared.status.Status.TheVariants.{Parked}
use Rattle.nr_rev.specs.declared.timer.Timer.{Timer}
use Rattle.nr_rev.specs.declared.timer.TimerOrder.{TimerOrder}
use Rattle.nr_rev.specs.Refusing.{◌>>=◌}
use Rattle.nr_rev.specs.Sides.{of_side}
use Rattle.nr_rev.specs.Step.{Outcome, after_change, after_orders, row_of}
use Rattle.nr_rev.specs.World.{World}
use Rattle.nr_desc.specs.Change.{listed}
use Rattle.nr_desc.specs.Op as desc
use Rattle.nr_desc.specs.declared.op.DescOp.{DescOp}
use Rattle.nr_gsema.specs.Applying.{IsQueuedUp}
use Rattle.nr_timers.specs.Back.{delta_weight}
use Rattle.nr_timers.specs.State.{IsTimers}
use Rattle.nr_timers.specs.Step.{TimersStep}
use Rattle.nr_timers.specs.TimersOf.{timers_of}
use Rattle.nr_timers.specs.declared.delta.TimersDelta.{TimersDelta}
use Rattle.nr_timers.specs.declared.op.TimersOp.TheVariants.{TakeFiring}
use Rattle.nr_machine.specs.declared.world_core.Core.{Core}
use Rattle.nr_machine.specs.Asked.{TimersMade, timers_op}
use Rattle.nr_machine.specs.Auxiliary.Changing.{TimersBack, woken}

-- the outcome of an operation on descriptor d, whose orders are carried out and whose goroutines
-- are woken
abbrev pub changing : ℕ → DescOp → World → Outcome
changing d op w = do
  row ← row_of d w
  made ← desc.outcome row.descriptor op
  next ← after_change d row made.1 w
  Ok (made.0, next)

-- the world without the firing at this place
abbrev pub without_firing : ℕ → World → World
without_firing place w = record w { firings = remove w.firings place }

-- ---- in the parts

-- true if the timers of descriptor d carried out these orders, and nothing else changed
pub record Obeyed (old : Core) (d : ℕ) (orders : List TimerOrder) (new : Core) : Type 0 where
  pub timers : TimersMade (map (timers_op d) orders) old.timers new.timers
  pub rest : new ≡ record old { timers = new.timers }
  pub fits : IsTimers new.timers

-- true if only the firing at this place was removed, with a delta of at most 8 words
pub record TakesFiring (old : Core) (place : ℕ) (delta : TimersDelta) (new : Core) : Type 0 where
  pub rest : new ≡ record old { timers = new.timers }
  pub step : TimersStep old.timers (TakeFiring place) tt new.timers
  pub fits : IsTimers new.timers
  pub back : TimersBack delta new old
  pub light : delta_weight delta ≤ 8

-- the outcome of orders to the timers of descriptor d: the timers and the next arming number
abbrev pub orders_outcome : ℕ → List TimerOrder → Core → Result (Sides (Option Timer) × ℕ) Refusal
orders_outcome d orders core =
    after_orders orders (timers_of core.timers.entries d, core.timers.next)

-- the core after the goroutine, if any, is woken at d's side
abbrev pub woken_any : ℕ → Side → Option ℕ → Core → Core
woken_any d side None core = core
woken_any d side (Some g) core = woken g d side core

-- the core after d's reader, if any, and then its writer, if any, are woken
abbrev pub woken_both : ℕ → Sides (Option ℕ) → Core → Core
woken_both d both core = woken_any d Write both.write (woken_any d Read both.read core)

-- true if each goroutine is parked at its side of d, and the number of waiters includes it
pub record CanWake (d : ℕ) (both : Sides (Option ℕ)) (core : Core) : Type 0 where
  pub parked : (side : Side) (g : ℕ) → of_side side both ≡ Some g
      → slice_get core.goroutines.goroutines g ≡ Some (Parked d side)
  pub counted : length (listed both) ≤ core.waiters
  pub queued : IsQueuedUp core.goroutines
