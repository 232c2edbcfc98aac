-- The empty world is well formed.
use Rattle.std.proofs.Common.{◌≡◌, ℕ, zero, suc, ◌<◌, [], ◌∷◌, Option, Some, None, refl, lit<, arith}
use Rattle.nr_rev.specs.declared.limits.Limits.{Limits}
use Rattle.nr_rev.specs.declared.status.Status.{Status}
use Rattle.nr_rev.specs.declared.status.Status.TheVariants.{Idle}
use Rattle.nr_rev.specs.declared.timer.Entry.{Entry}
use Rattle.nr_rev.specs.World.{empty_world}
use Rattle.nr_rev.specs.WellFormed.{WellFormed, HasView, TimerPlace, ArmedAt, FiringAt, timer_at}

-- a view that is None for an idle goroutine is None for the only goroutine of the empty world
shows_none : {A : Type 0} (view : Status → Option A) (g : ℕ) (a : A) → view Idle ≡ None → HasView view (Idle ∷ []) g a → ⊥
shows_none view zero a none shows = cc
shows_none view (suc g) a none shows = cc

pub empty_world_fits : (limits : Limits) → 0 < limits.goroutines → WellFormed (empty_world limits)
empty_world_fits limits room =
    record {
      goroutines =
          record {
            one_inside = λ g h d side p q. absurd (shows_none _ g _ refl p);
            inside_open = λ g d side p. absurd (shows_none _ g _ refl p);
            sockets_named = λ g s p. absurd (shows_none _ g _ refl p);
            owed = λ g reads writes p. absurd (shows_none _ g _ refl p);
          };
      words =
          record {
            held = λ g d side. ((λ word. cc), λ p. absurd (shows_none _ g _ refl p));
            waited = λ d side word. cc;
            counted = refl;
          };
      queues = record { queued = λ g s side socket at. cc };
      timers =
          record {
            entries_fit = λ d row at. cc;
            firings_fit = λ i firing at. cc;
            one_current = λ p q e f at_p at_q same_d same_side e_now f_now. absurd (nothing_there p e at_p);
            armed_before = λ p e at_p. absurd (nothing_there p e at_p);
            armed_once = λ p q e f at_p at_q same. absurd (nothing_there p e at_p);
            numbered = lit< tt;
            in_range = lit< tt;
          };
      free =
          record {
            made = λ k d below. absurd (omega arith);
            once = λ d. omega arith;
            closing = λ d row free at. cc;
            words = λ d side word free has. cc;
          };
      sockets = λ s socket at. cc;
      goroutines_limited = room;
      sockets_limited = omega arith;
      descriptors_limited = omega arith;
      firings_limited = omega arith;
      clock = record { begun = record { le = tt }; time = record { sfits = lit< tt }; come = λ i firing at. cc };
    }
  where
    nothing_there : (p : TimerPlace) (e : Entry) → timer_at [] [] p ≡ Some e → ⊥
    nothing_there (ArmedAt d side) e at = cc
    nothing_there (FiringAt i) e at = cc
