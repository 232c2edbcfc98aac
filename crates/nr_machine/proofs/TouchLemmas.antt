-- Lookups in the parts: the things that a step touches.
use Rattle.std.proofs.Common.{◌≡◌, ℕ, ◌<◌, ◌≤◌, List, [], length, Option, Some, None, refl, ap, ◌∙◌}
use Rattle.std.specs.Prelude.{option_and_then, option_map, slice_get}
use Rattle.std.specs.Option.{option_map_or}
use Rattle.nr_rev.specs.declared.descriptor.Descriptor.{Descriptor}
use Rattle.nr_rev.specs.declared.descriptor.DescriptorRow.{DescriptorRow}
use Rattle.nr_rev.specs.declared.sides.Side.{Side}
use Rattle.nr_rev.specs.Semaphore.{front_of}
use Rattle.nr_rev.specs.Sides.{of_side}
use Rattle.nr_rev.specs.Socket.{Socket}
use Rattle.nr_changes.specs.Touched.{held_at, held_of, next_descriptor}
use Rattle.nr_gsema.specs.Auxiliary.Table.{queue_at}
use Rattle.nr_machine.specs.World.{WorldParts, meant}
use Rattle.nr_machine.proofs.QueueLemmas.{no_queue, queue_here}
use Rattle.nr_machine.proofs.RowsLemmas.{length-rows_of, row_at, row_past}

module _ (m : WorldParts) (s : ℕ) (side : Side) where
  -- the front of the queue of a socket, if the socket exists
  abbrev pub front_there : Option ℕ
  front_there = option_and_then (λ (x : Socket). front_of (of_side side x.semaphores)) (slice_get (meant m).sockets s)

  of_queue : (o : Option Socket)
      → option_and_then (λ (x : Socket). front_of (of_side side x.semaphores)) o
      ≡ option_and_then (λ (q : List ℕ). slice_get q 0) (option_map (λ (x : Socket). (of_side side x.semaphores).queue) o)
  of_queue None = refl
  of_queue (Some x) = refl

  pub front_here : s < length m.core.locks.items → front_there ≡ slice_get (queue_at s side m.core.goroutines) 0
  front_here below = of_queue (slice_get (meant m).sockets s) ∙ ap (option_and_then (λ (q : List ℕ). slice_get q 0)) (queue_here m s side below)

  pub no_front : length m.core.locks.items ≤ s → front_there ≡ None
  no_front past = of_queue (slice_get (meant m).sockets s) ∙ ap (option_and_then (λ (q : List ℕ). slice_get q 0)) (no_queue m s side past)

-- ---- descriptors

-- the goroutines that the words of a descriptor hold
pub held_here : (m : WorldParts) (d : ℕ) (x : Descriptor) → slice_get m.core.descriptors.items d ≡ Some x → held_at d (meant m) ≡ held_of x
held_here m d x at =
    ap (λ (o : Option DescriptorRow). option_map_or (λ (row : DescriptorRow). held_of row.descriptor) o []) (row_at m.core.descriptors.items m.core.timers.entries d x at)

-- the words of a descriptor that doesn't exist hold no goroutine
pub held_nowhere : (m : WorldParts) (d : ℕ) → slice_get m.core.descriptors.items d ≡ None → held_at d (meant m) ≡ []
held_nowhere m d at =
    ap (λ (o : Option DescriptorRow). option_map_or (λ (row : DescriptorRow). held_of row.descriptor) o []) (row_past m.core.descriptors.items m.core.timers.entries d at)

-- if no number is free, the next descriptor has a new number
pub next_more : (m : WorldParts) → slice_get m.core.free.items 0 ≡ None → next_descriptor (meant m) ≡ length m.core.descriptors.items
next_more m none =
    ap (λ (o : Option ℕ). option_map_or (λ (d : ℕ). d) o (length (meant m).descriptors)) none ∙ length-rows_of m.core.descriptors.items m.core.timers.entries
