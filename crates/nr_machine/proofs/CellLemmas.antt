-- Each cell has the same value in the parts and in the world that they represent.
use Rattle.std.proofs.Common.{◌≡◌, ℕ, ◌<◌, ◌≤◌, Bool, List, length, Option, Some, None, refl, sym, ap, ◌∙◌, arith}
use Rattle.std.proofs.lemmas.Option.{same_Some, slice_get_past}
use Rattle.std.specs.Prelude.{option_map, slice_get}
use Rattle.nr_rev.specs.declared.cell_value.CellValue.{CellValue}
use Rattle.nr_rev.specs.declared.cell_value.CellValue.TheVariants.{Absent, Number}
use Rattle.nr_rev.specs.declared.descriptor.Descriptor.{Descriptor}
use Rattle.nr_rev.specs.declared.descriptor.DescriptorRow.{DescriptorRow}
use Rattle.nr_rev.specs.declared.lock.Lock.{Lock}
use Rattle.nr_rev.specs.declared.sides.Side.{Side}
use Rattle.nr_rev.specs.declared.sides.Sides.{Sides}
use Rattle.nr_rev.specs.Cell.{descriptor_value, socket_value, value_or_absent}
use Rattle.nr_rev.specs.Lock.{bit}
use Rattle.nr_rev.specs.Semaphore.{Semaphore}
use Rattle.nr_rev.specs.Sides.{of_side}
use Rattle.nr_rev.specs.Socket.{Socket}
use Rattle.nr_gsema.specs.Auxiliary.Table.{count_at}
use Rattle.nr_sockbuf.specs.Sock.{OpenSock, SockParts}
use Rattle.nr_sockbuf.specs.Auxiliary.Sock.{is_shut, viewed_bytes}
use Rattle.nr_machine.specs.Fits.{IsWorld}
use Rattle.nr_machine.specs.Sockets.{buffers_in, rest_at, socket_of}
use Rattle.nr_machine.specs.World.{WorldParts, meant}
use Rattle.nr_machine.proofs.ListLemmas.{get_within}
use Rattle.nr_machine.proofs.RowsLemmas.{row_at, row_past}
use Rattle.nr_machine.proofs.SocketsLemmas.{length-sockets_of, semaphores_at, sock_at, socket_at, socket_past}
use Rattle.nr_machine.proofs.QueueLemmas.{viewed}

-- ---- descriptors

value_by : (m : WorldParts) (d : ℕ) (f : Descriptor → CellValue) (o : Option Descriptor) → slice_get m.core.descriptors.items d ≡ o
    → value_or_absent f o ≡ descriptor_value d (meant m) f
value_by m d f None at =
    sym (ap (λ (o : Option DescriptorRow). value_or_absent (λ row. f row.descriptor) o) (row_past m.core.descriptors.items m.core.timers.entries d at))
value_by m d f (Some x) at =
    sym (ap (λ (o : Option DescriptorRow). value_or_absent (λ row. f row.descriptor) o) (row_at m.core.descriptors.items m.core.timers.entries d x at))

-- the value of a descriptor's cell in the represented world is the value computed from the parts
pub descriptor_value_is : (m : WorldParts) (d : ℕ) (f : Descriptor → CellValue) → value_or_absent f (slice_get m.core.descriptors.items d) ≡ descriptor_value d (meant m) f
descriptor_value_is m d f = value_by m d f (slice_get m.core.descriptors.items d) refl

-- ---- sockets

-- a cell of a socket that doesn't exist has no value
pub socket_absent : (m : WorldParts) (s : ℕ) (f : Socket → CellValue) → slice_get m.core.locks.items s ≡ None → Absent ≡ socket_value s (meant m) f
socket_absent m s f at = sym (ap (λ (o : Option Socket). value_or_absent f o) (socket_past m.core.locks.items m.core.goroutines.semaphores m.socks s at))

-- the value of an existing socket's cell depends on the socket's lock and its other parts
pub socket_value_is : (m : WorldParts) (s : ℕ) (f : Socket → CellValue) (lock : Lock) → slice_get m.core.locks.items s ≡ Some lock
    → f (socket_of lock (rest_at m.core.goroutines.semaphores m.socks s)) ≡ socket_value s (meant m) f
socket_value_is m s f lock at = sym (ap (λ (o : Option Socket). value_or_absent f o) (socket_at m.core.locks.items m.core.goroutines.semaphores m.socks s lock at))

-- ---- counts and lengths

count_of : (m : WorldParts) (s : ℕ) (side : Side) (count : ℕ) (o : Option (Sides Semaphore)) → slice_get m.core.goroutines.semaphores s ≡ o
    → Some count ≡ option_map (λ (both : Sides Semaphore). (of_side side both).count) o → count ≡ (of_side side (rest_at m.core.goroutines.semaphores m.socks s).semaphores).count
count_of m s side count None there is = absurd cc
count_of m s side count (Some both) there is =
    same_Some count (of_side side both).count is ∙ ap (λ (x : Sides Semaphore). (of_side side x).count) (sym (semaphores_at m.core.goroutines.semaphores m.socks s both there))

module _ (m : WorldParts) (s : ℕ) (side : Side) where
  -- the count of an existing semaphore
  pub count_value_is : (count : ℕ) → s < length m.core.locks.items → Some count ≡ count_at s side m.core.goroutines
      → Number count ≡ socket_value s (meant m) (λ x. Number (of_side side x.semaphores).count)
  count_value_is count below is =
      let lock = get_within m.core.locks.items s below in
      ap Number (count_of m s side count (slice_get m.core.goroutines.semaphores s) refl is) ∙ socket_value_is m s (λ x. Number (of_side side x.semaphores).count) lock.0 lock.1

  -- the semaphore exists
  pub count_there : IsWorld m → s < length m.core.locks.items → None ≡ count_at s side m.core.goroutines → ⊥
  count_there h below is =
      let many = length-sockets_of m.core.locks.items m.core.goroutines.semaphores m.socks in
      let most = h.meaning.sockets_limited in
      let room = h.parts.core.semaphores in
      let both = get_within m.core.goroutines.semaphores s (omega (arith, below, many, most, room)) in
      let found : None ≡ Some (of_side side both.0).count = is ∙ ap (λ (o : Option (Sides Semaphore)). option_map (λ (x : Sides Semaphore). (of_side side x).count) o) both.1 in
      cc

  -- the number of bytes in a buffer
  pub length_value_is : (sock : SockParts) (n : ℕ) → s < length m.core.locks.items → slice_get m.socks s ≡ Some sock → n ≡ length (viewed_bytes side sock.opened)
      → Number n ≡ socket_value s (meant m) (λ x. Number (length (of_side side x.buffers).bytes))
  length_value_is sock n below at is =
      let lock = get_within m.core.locks.items s below in
      ap Number (is ∙ ap (λ (o : Option OpenSock). length (viewed_bytes side o)) (sym (sock_at m.core.goroutines.semaphores m.socks s sock at))
      ∙ ap (λ (bytes : List ℕ). length bytes) (sym (viewed side (rest_at m.core.goroutines.semaphores m.socks s).sock)))
      ∙ socket_value_is m s (λ x. Number (length (of_side side x.buffers).bytes)) lock.0 lock.1

  -- the cell of a socket that doesn't exist has no value
  pub nothing_past : (f : Socket → CellValue) → length m.core.locks.items ≤ s → Absent ≡ socket_value s (meant m) f
  nothing_past f past = socket_absent m s f (slice_get_past m.core.locks.items s past)

-- ---- the write side

shut_viewed : (o : Option OpenSock) → is_shut o ≡ (buffers_in o).shut
shut_viewed None = refl
shut_viewed (Some opened) = refl

-- whether an existing write side is shut
pub shut_value_is : (m : WorldParts) (s : ℕ) (sock : SockParts) (shut : Bool) → s < length m.core.locks.items → slice_get m.socks s ≡ Some sock → shut ≡ is_shut sock.opened
    → Number (bit shut) ≡ socket_value s (meant m) (λ x. Number (bit x.shut))
shut_value_is m s sock shut below at is =
    let lock = get_within m.core.locks.items s below in
    ap (λ (b : Bool). Number (bit b))
    (is ∙ ap is_shut (sym (sock_at m.core.goroutines.semaphores m.socks s sock at)) ∙ shut_viewed (rest_at m.core.goroutines.semaphores m.socks s).sock)
    ∙ socket_value_is m s (λ x. Number (bit x.shut)) lock.0 lock.1
