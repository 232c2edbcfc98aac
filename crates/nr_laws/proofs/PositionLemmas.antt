-- The world at each position of a recording is well formed.
use Rattle.std.proofs.Common.{suc, arith, ◌≡◌, ℕ, ◌<◌, List, [], ◌∷◌, Ok, Err, refl, take}
use Rattle.std.specs.Prelude.{All}
use Rattle.std.proofs.lemmas.List.Elements.{All-take}
use Rattle.nr_rev.specs.World.{World}
use Rattle.nr_rev.specs.WellFormed.{WellFormed}
use Rattle.nr_rev.specs.declared.step.Step.{Step}
use Rattle.nr_rev.specs.Step.{outcome, Outcome}
use Rattle.nr_rev.specs.Auxiliary.Step.{IsTimely}
use Rattle.nr_rev.specs.Run.{Recording, world_after, world_at, next_of}
use Rattle.nr_laws.proofs.StepKeepsLemmas.{step_keeps}
use Rattle.nr_laws.proofs.EmptyWorldLemmas.{empty_world_fits}

pub next_fits : (w : World) (step : Step) → IsTimely step → WellFormed w → WellFormed (next_of w (outcome w step))
next_fits w step timely h = go (outcome w step) refl
  where
    go : (o : Outcome) → outcome w step ≡ o → WellFormed (next_of w o)
    go (Ok (answer, next)) e = step_keeps w step answer next timely h e
    go (Err reason) e = h

after_fits : (steps : List Step) (w : World) → All IsTimely steps → WellFormed w → WellFormed (world_after w steps)
after_fits [] w timely h = h
after_fits (step ∷ steps) w timely h = after_fits steps (next_of w (outcome w step)) (λ k d below. timely (suc k) d (omega arith)) (next_fits w step (timely 0 step (omega arith)) h)

pub positions_fit : (r : Recording) (n : ℕ) → 0 < r.limits.goroutines → All IsTimely r.steps → WellFormed (world_at r n)
positions_fit r n room timely = after_fits (take n r.steps) _ (All-take IsTimely n r.steps timely) (empty_world_fits r.limits room)
