-- A cell that a step doesn't touch keeps its value.
use Rattle.std.proofs.Common.{◌≡◌, ℕ, Bool, true, false, List, [], ◌∷◌, ◌++◌, map, length, Option, Some, None, Ok, refl, sym, ap, subst, ◌∙◌, inl, inr, arith}
use Rattle.std.specs.Prelude.{Contains, slice_get}
use Rattle.std.specs.Option.{option_map_or}
use Rattle.std.proofs.lemmas.List.Elements.{Contains-append_left, Contains-append_right}
use Rattle.nr_rev.specs.declared.answer.Answer.{Answer}
use Rattle.nr_rev.specs.declared.cell.Cell.{Cell}
use Rattle.nr_rev.specs.declared.cell_value.CellValue.{CellValue}
use Rattle.nr_rev.specs.declared.cell_value.CellValue.TheVariants.{Number, Time}
use Rattle.nr_rev.specs.declared.descriptor.Descriptor.{Descriptor}
use Rattle.nr_rev.specs.declared.descriptor.DescriptorRow.{DescriptorRow}
use Rattle.nr_rev.specs.declared.step.Step.{Step}
use Rattle.nr_rev.specs.Aspect.{can_change}
use Rattle.nr_rev.specs.Cell.{cell, value_or_absent, socket_value, descriptor_value}
use Rattle.nr_rev.specs.CellName.{cells_at}
use Rattle.nr_rev.specs.Descriptor.{summary}
use Rattle.nr_rev.specs.Kind.{kind_of}
use Rattle.nr_rev.specs.Lock.{bit, lock_number}
use Rattle.nr_rev.specs.Socket.{Socket}
use Rattle.nr_rev.specs.Step.{outcome}
use Rattle.nr_rev.specs.World.{World}
use Rattle.nr_laws.proofs.AspectStepLemmas.{step_keeps_cell}
use Rattle.nr_changes.specs.Touched.{Touched, touched}
use Rattle.nr_changes.specs.Changed.{cells_of, descriptor_cells, goroutine_cells, in_order, shut_cells, socket_cells, touched_cells}
use Rattle.nr_changes.proofs.DescriptorTouchLemmas.{pollopen_touches, pollclose_touches, pollreset_touches, waitbegin_touches, blockarm_touches, blockcheck_touches, parkcommit_touches, blockswap_touches, waitcheck_touches, setdeadline_touches, evict_touches, pollevent_touches, tick_touches, pop_touches, fire_touches}
use Rattle.nr_changes.proofs.KeepsLemmas.{Keeps, Touches, state_of}
use Rattle.nr_changes.proofs.MemberLemmas.{here, later, nowhere, here_or_later, Contains-filter, Contains-in_order}
use Rattle.nr_changes.proofs.SocketTouchLemmas.{spawn_touches, exit_touches, incref_touches, increfclose_touches, decref_touches, rwlock_touches, rwunlock_touches, acquire_touches, release_touches, sockopen_touches, arrive_touches, peerclose_touches, sysread_touches, syswrite_touches, drain_touches, closewrite_touches}

-- every kind of step changes only what it touches
step_touches : (w : World) (step : Step) → Touches (touched w step) w (outcome w step)
step_touches w Step.Spawn = spawn_touches w
step_touches w (Step.Exit g) = exit_touches w g
step_touches w (Step.SockOpen rc wc) = sockopen_touches w rc wc
step_touches w (Step.Arrive s bytes) = arrive_touches w s bytes
step_touches w (Step.PeerClose s) = peerclose_touches w s
step_touches w (Step.SysRead g s n) = sysread_touches w g s n
step_touches w (Step.SysWrite g s bytes) = syswrite_touches w g s bytes
step_touches w (Step.Drain s n) = drain_touches w s n
step_touches w (Step.Incref g s) = incref_touches w g s
step_touches w (Step.IncrefClose g s) = increfclose_touches w g s
step_touches w (Step.Decref g s) = decref_touches w g s
step_touches w (Step.RwLock g s side) = rwlock_touches w g s side
step_touches w (Step.RwUnlock g s side) = rwunlock_touches w g s side
step_touches w (Step.Acquire g) = acquire_touches w g
step_touches w (Step.Release g) = release_touches w g
step_touches w (Step.PollOpen g s) = pollopen_touches w g s
step_touches w (Step.PollClose g d) = pollclose_touches w g d
step_touches w (Step.PollReset g d side) = pollreset_touches w g d side
step_touches w (Step.WaitBegin g d side) = waitbegin_touches w g d side
step_touches w (Step.BlockArm g) = blockarm_touches w g
step_touches w (Step.BlockCheck g) = blockcheck_touches w g
step_touches w (Step.ParkCommit g) = parkcommit_touches w g
step_touches w (Step.BlockSwap g) = blockswap_touches w g
step_touches w (Step.WaitCheck g) = waitcheck_touches w g
step_touches w (Step.SetDeadline g d mode t) = setdeadline_touches w g d mode t
step_touches w (Step.Evict g d) = evict_touches w g d
step_touches w (Step.PollEvent d tag mode error) = pollevent_touches w d tag mode error
step_touches w (Step.Tick t) = tick_touches w t
step_touches w Step.Pop = pop_touches w
step_touches w (Step.Fire i) = fire_touches w i
step_touches w (Step.CloseWrite g s) = closewrite_touches w g s

-- ---- the cells of touched things

in_world : (t : Touched) (c : Cell) → Contains (cells_at None) c → Contains (cells_of t) c
in_world t c at = Contains-append_left (cells_at None) _ c at

mapped : (gs : List ℕ) (g : ℕ) → Contains gs g → Contains (map Cell.Goroutine gs) (Cell.Goroutine g)
mapped [] g at = absurd (nowhere g at)
mapped (h ∷ gs) g at =
    elim (here_or_later h gs g at) [
      | inl same ↦ subst (λ k. Contains (map Cell.Goroutine (h ∷ gs)) (Cell.Goroutine k)) same (here (Cell.Goroutine h) (map Cell.Goroutine gs))
      | inr other ↦ later (Cell.Goroutine h) (map Cell.Goroutine gs) (Cell.Goroutine g) (mapped gs g other)
    ]

in_goroutines : (t : Touched) (g : ℕ) → Contains t.goroutines g → Contains (cells_of t) (Cell.Goroutine g)
in_goroutines t g at =
    Contains-append_right (cells_at None) _ (Cell.Goroutine g)
    (Contains-append_left (goroutine_cells (in_order t.goroutines)) _ (Cell.Goroutine g) (mapped (in_order t.goroutines) g (Contains-in_order t.goroutines g at)))

-- the cells that follow the goroutines' cells in a list
abbrev socket_part : Touched → List Cell
socket_part t = option_map_or socket_cells t.socket []

abbrev descriptor_part : Touched → List Cell
descriptor_part t = option_map_or descriptor_cells t.descriptor []

abbrev shut_part : Touched → List Cell
shut_part t = option_map_or shut_cells t.socket []

behind : (t : Touched) (c : Cell) → Contains (socket_part t ++ (descriptor_part t ++ shut_part t)) c → Contains (cells_of t) c
behind t c at = Contains-append_right (cells_at None) _ c (Contains-append_right (goroutine_cells (in_order t.goroutines)) _ c at)

in_socket : (t : Touched) (s : ℕ) (c : Cell) → Contains (socket_cells s) c → t.socket ≡ Some s → Contains (cells_of t) c
in_socket t s c at is = behind t c (Contains-append_left (socket_part t) _ c (subst (λ o. Contains (option_map_or socket_cells o []) c) (sym is) at))

in_descriptor : (t : Touched) (d : ℕ) (c : Cell) → Contains (descriptor_cells d) c → t.descriptor ≡ Some d → Contains (cells_of t) c
in_descriptor t d c at is =
    behind t c
    (Contains-append_right (socket_part t) _ c (Contains-append_left (descriptor_part t) _ c (subst (λ o. Contains (option_map_or descriptor_cells o []) c) (sym is) at)))

in_shut : (t : Touched) (s : ℕ) → t.socket ≡ Some s → Contains (cells_of t) (Cell.Shut s)
in_shut t s is =
    behind t (Cell.Shut s)
    (Contains-append_right (socket_part t) _ (Cell.Shut s)
    (Contains-append_right (descriptor_part t) (shut_part t) (Cell.Shut s)
    (subst (λ o. Contains (option_map_or shut_cells o []) (Cell.Shut s)) (sym is) (here (Cell.Shut s) []))))

-- ---- a cell that isn't listed

-- the value of a descriptor's cell depends only on the descriptor's state
by_state : (value : Descriptor → CellValue) (row : Option DescriptorRow) → value_or_absent (λ (x : DescriptorRow). value x.descriptor) row ≡ value_or_absent value (state_of row)
by_state value None = refl
by_state value (Some row) = refl

stays : (t : Touched) (w next : World) → Keeps t w next → (c : Cell) → ¬ Contains (cells_of t) c → cell next c ≡ cell w c
stays t w next keeps = each
  where
    of_socket : (value : Socket → CellValue) (s : ℕ) (c : Cell) → Contains (socket_cells s) c → ¬ Contains (cells_of t) c → socket_value s next value ≡ socket_value s w value
    of_socket value s c at none = ap (value_or_absent value) (keeps.sockets s (λ is. none (in_socket t s c at is)))

    of_descriptor : (value : Descriptor → CellValue) (d : ℕ) (c : Cell) → Contains (descriptor_cells d) c → ¬ Contains (cells_of t) c → descriptor_value d next value ≡ descriptor_value d w value
    of_descriptor value d c at none =
        by_state value (slice_get next.descriptors d)
        ∙ ap (value_or_absent value) (keeps.descriptors d (λ is. none (in_descriptor t d c at is)))
        ∙ sym (by_state value (slice_get w.descriptors d))

    each : (c : Cell) → ¬ Contains (cells_of t) c → cell next c ≡ cell w c
    each Cell.Clock none = absurd (none (in_world t Cell.Clock (0, omega arith, refl)))
    each Cell.Waiters none = absurd (none (in_world t Cell.Waiters (1, omega arith, refl)))
    each Cell.Timers none = absurd (none (in_world t Cell.Timers (2, omega arith, refl)))
    each Cell.Firings none = absurd (none (in_world t Cell.Firings (3, omega arith, refl)))
    each Cell.Least none = absurd (none (in_world t Cell.Least (4, omega arith, refl)))
    each (Cell.Goroutine g) none = ap (value_or_absent CellValue.Status) (keeps.goroutines g (λ at. none (in_goroutines t g at)))
    each (Cell.Lock s) none = of_socket (λ x. Number (lock_number x.lock)) s (Cell.Lock s) (0, omega arith, refl) none
    each (Cell.ReadSemaphore s) none = of_socket (λ x. Number x.semaphores.read.count) s (Cell.ReadSemaphore s) (1, omega arith, refl) none
    each (Cell.WriteSemaphore s) none = of_socket (λ x. Number x.semaphores.write.count) s (Cell.WriteSemaphore s) (2, omega arith, refl) none
    each (Cell.Input s) none = of_socket (λ x. Number (length x.buffers.read.bytes)) s (Cell.Input s) (3, omega arith, refl) none
    each (Cell.Output s) none = of_socket (λ x. Number (length x.buffers.write.bytes)) s (Cell.Output s) (4, omega arith, refl) none
    each (Cell.ReadWord d) none = of_descriptor (λ x. CellValue.WaitWord x.words.read) d (Cell.ReadWord d) (0, omega arith, refl) none
    each (Cell.WriteWord d) none = of_descriptor (λ x. CellValue.WaitWord x.words.write) d (Cell.WriteWord d) (1, omega arith, refl) none
    each (Cell.ReadDeadline d) none = of_descriptor (λ x. Time x.deadlines.read) d (Cell.ReadDeadline d) (2, omega arith, refl) none
    each (Cell.WriteDeadline d) none = of_descriptor (λ x. Time x.deadlines.write) d (Cell.WriteDeadline d) (3, omega arith, refl) none
    each (Cell.ReadSequence d) none = of_descriptor (λ x. Number x.sequences.read) d (Cell.ReadSequence d) (4, omega arith, refl) none
    each (Cell.WriteSequence d) none = of_descriptor (λ x. Number x.sequences.write) d (Cell.WriteSequence d) (5, omega arith, refl) none
    each (Cell.DescriptorSequence d) none = of_descriptor (λ x. Number x.fdseq) d (Cell.DescriptorSequence d) (6, omega arith, refl) none
    each (Cell.Info d) none = of_descriptor (λ x. Number (summary x)) d (Cell.Info d) (7, omega arith, refl) none
    each (Cell.Shut s) none = ap (value_or_absent (λ (x : Socket). Number (bit x.shut))) (keeps.sockets s (λ is. none (in_shut t s is)))

pub untouched_stays : (w : World) (step : Step) (answer : Answer) (next : World) (c : Cell) → outcome w step ≡ Ok (answer, next) → ¬ Contains (touched_cells w step) c → cell next c ≡ cell w c
untouched_stays w step answer next c is none = by_sort (can_change (kind_of step) c) refl
  where
    by_sort : (may : Bool) → can_change (kind_of step) c ≡ may → cell next c ≡ cell w c
    by_sort false cannot = step_keeps_cell w step answer next c is cannot
    by_sort true can =
        stays (touched w step) w next ((step_touches w step).value (answer, next) is) c
        (λ at. none (Contains-filter (can_change (kind_of step)) (cells_of (touched w step)) c at can))
