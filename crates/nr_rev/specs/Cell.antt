-- The readable parts of a world: its cells, the bytes of its buffers, and its queues.
use Rattle.std.specs.Prelude.{ℕ, Bool, List, length, slice_get, Option, Some, None, option_map}
use Rattle.nr_rev.specs.declared.sides.Side.{Side}
use Rattle.nr_rev.specs.declared.cell.Cell.{Cell}
use Rattle.nr_rev.specs.declared.cell_value.CellValue.{CellValue}
use Rattle.nr_rev.specs.declared.cell_value.CellValue.TheVariants.{Absent, Number, Time}
use Rattle.nr_rev.specs.contracts.cell_value.CellValuePartialEq.TheImpl as value_eq
use Rattle.nr_rev.specs.Sides.{of_side}
use Rattle.nr_rev.specs.Lock.{bit, lock_number}
use Rattle.nr_rev.specs.declared.descriptor.Descriptor.{Descriptor}
use Rattle.nr_rev.specs.Descriptor.{summary}
use Rattle.nr_rev.specs.Socket.{Socket}
use Rattle.nr_rev.specs.World.{World, entries_of, least_entry}

-- `==` of two values of cells
abbrev pub same_value : CellValue → CellValue → Bool
same_value = (value_eq.ghosts).eq

-- the value, or absent if there is none
abbrev pub value_or_absent : {A : Type 0} → (A → CellValue) → Option A → CellValue
value_or_absent value None = Absent
value_or_absent value (Some a) = value a

-- the value of a cell of socket s, or absent if s was not opened
abbrev pub socket_value : ℕ → World → (Socket → CellValue) → CellValue
socket_value s w value = value_or_absent value (slice_get w.sockets s)

-- the value of a cell of descriptor d; a free descriptor's cells have values too
abbrev pub descriptor_value : ℕ → World → (Descriptor → CellValue) → CellValue
descriptor_value d w value =
    value_or_absent (λ row. value row.descriptor) (slice_get w.descriptors d)

-- the value of a cell in a world: the counts, times, words and numbers that a debugger prints
abbrev pub cell : World → Cell → CellValue
cell w Cell.Clock = Time w.clock
cell w Cell.Waiters = Number w.waiters
cell w Cell.Timers = Number (length (entries_of w.descriptors))
cell w Cell.Firings = Number (length w.firings)
cell w Cell.Least = value_or_absent (λ e. Time e.timer.due) (least_entry w)
cell w (Cell.Goroutine g) = value_or_absent CellValue.Status (slice_get w.goroutines g)
cell w (Cell.Lock s) = socket_value s w (λ socket. Number (lock_number socket.lock))
cell w (Cell.ReadSemaphore s) = socket_value s w (λ socket. Number socket.semaphores.read.count)
cell w (Cell.WriteSemaphore s) = socket_value s w (λ socket. Number socket.semaphores.write.count)
cell w (Cell.Input s) = socket_value s w (λ socket. Number (length socket.buffers.read.bytes))
cell w (Cell.Output s) = socket_value s w (λ socket. Number (length socket.buffers.write.bytes))
cell w (Cell.ReadWord d) = descriptor_value d w (λ x. CellValue.WaitWord x.words.read)
cell w (Cell.WriteWord d) = descriptor_value d w (λ x. CellValue.WaitWord x.words.write)
cell w (Cell.ReadDeadline d) = descriptor_value d w (λ x. Time x.deadlines.read)
cell w (Cell.WriteDeadline d) = descriptor_value d w (λ x. Time x.deadlines.write)
cell w (Cell.ReadSequence d) = descriptor_value d w (λ x. Number x.sequences.read)
cell w (Cell.WriteSequence d) = descriptor_value d w (λ x. Number x.sequences.write)
cell w (Cell.DescriptorSequence d) = descriptor_value d w (λ x. Number x.fdseq)
cell w (Cell.Info d) = descriptor_value d w (λ x. Number (summary x))
cell w (Cell.Shut s) = socket_value s w (λ socket. Number (bit socket.shut))

-- the bytes in a socket's buffer: the input for the read side
abbrev pub bytes_of : World → ℕ → Side → Option (List ℕ)
bytes_of w s side =
    option_map (λ (socket : Socket). (of_side side socket.buffers).bytes) (slice_get w.sockets s)

-- the goroutines queued at a socket's semaphore, front first
abbrev pub queue_of : World → ℕ → Side → Option (List ℕ)
queue_of w s side =
    option_map (λ (socket : Socket). (of_side side socket.semaphores).queue) (slice_get w.sockets s)
