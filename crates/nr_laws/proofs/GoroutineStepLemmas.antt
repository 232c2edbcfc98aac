-- spawn and exit keep a world well formed.
use Rattle.std.proofs.Common.{ℕ, ◌<◌, List, [], ◌∷◌, ◌++◌, length, refl, sym, ◌∙◌, arith, length-append}
use Rattle.std.specs.Option.{option_and_then}
use Rattle.nr_rev.specs.declared.status.Status.{Status}
use Rattle.nr_rev.specs.declared.status.Status.TheVariants.{Idle, Gone}
use Rattle.nr_rev.specs.Socket.{Socket}
use Rattle.nr_rev.specs.declared.descriptor.DescriptorRow.{DescriptorRow}
use Rattle.nr_rev.specs.World.{World, wait_of}
use Rattle.nr_rev.specs.Step.{spawn, exit}
use Rattle.nr_rev.specs.WellFormed.{WellFormed, GoroutinesFit, socket_named, owed_of, parked_of, awaiting_of, is_queued}
use Rattle.nr_rev.proofs.ListUpdateLemmas.{slice_get-push_unseen}
use Rattle.nr_rev.proofs.NumberLemmas.{below_of}
use Rattle.std.specs.Prelude.{nat_lt}
use Rattle.nr_laws.proofs.StatusViewLemmas.{SameView, unseen_set_keeps}
use Rattle.nr_laws.proofs.LookupLemmas.{Ends-idle}
use Rattle.nr_laws.proofs.StatusSetLemmas.{may_leave, moved}
use Rattle.nr_rev.proofs.OutcomeLemmas.{Keeps, Ends-ok, Ends-then, Ends-refused_unless}

idle_goroutines : (gs : List Status) (sockets : List Socket) (rows : List DescriptorRow) (free : List ℕ) → GoroutinesFit gs sockets rows free → GoroutinesFit (gs ++ Idle ∷ []) sockets rows free
idle_goroutines gs sockets rows free h =
    record {
      one_inside = λ g k d side p q. h.one_inside g k d side (sym (waits g) ∙ p) (sym (waits k) ∙ q);
      inside_open = λ g d side p. h.inside_open g d side (sym (waits g) ∙ p);
      sockets_named = λ g s p. h.sockets_named g s (sym (slice_get-push_unseen (option_and_then socket_named) gs Idle g refl) ∙ p);
      owed = λ g reads writes p. h.owed g reads writes (sym (slice_get-push_unseen (option_and_then owed_of) gs Idle g refl) ∙ p);
    }
  where
    waits : SameView (option_and_then wait_of) gs (gs ++ Idle ∷ [])
    waits g = slice_get-push_unseen (option_and_then wait_of) gs Idle g refl

spawned : (w : World) → WellFormed w → length w.goroutines < w.limits.goroutines → WellFormed (record w { goroutines = w.goroutines ++ Idle ∷ [] })
spawned w h room =
    unseen_set_keeps w (w.goroutines ++ Idle ∷ []) h (idle_goroutines w.goroutines w.sockets w.descriptors w.free h.goroutines)
    (λ g. slice_get-push_unseen (option_and_then parked_of) w.goroutines Idle g refl)
    (λ g. slice_get-push_unseen (option_and_then awaiting_of) w.goroutines Idle g refl)
    (λ s side g. slice_get-push_unseen (is_queued s side) w.goroutines Idle g refl)
    (rw length-append (omega arith))

pub spawn_sound : (w : World) → WellFormed w → Keeps (spawn w)
spawn_sound w h =
    Ends-then (Ends-refused_unless (nat_lt (length w.goroutines) w.limits.goroutines) _ refl) λ room.
    Ends-ok (spawned w h (below_of _ _ room))

pub exit_sound : (w : World) (g : ℕ) → WellFormed w → Keeps (exit g w)
exit_sound w g h =
    Ends-then (Ends-idle g w) λ at.
    Ends-ok (moved w g Idle Gone h at (may_leave w g Gone refl refl refl) refl refl (λ _ _. refl))
