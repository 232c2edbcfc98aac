-- Two packed worlds are equal if they represent the same world and have the same timers.
use Rattle.std.proofs.Common.{◌≡◌, ℕ, suc, ◌<◌, ◌≤◌, true, List, [], ◌∷◌, length, map, refl, sym, ap, ◌∙◌, subst, Some, None, Option, arith, ⊎_elim}
use Rattle.std.proofs.lemmas.Bool.{cases_lt}
use Rattle.std.proofs.lemmas.List.{ext_get_or}
use Rattle.std.proofs.lemmas.Option.{same_Some, slice_get-get_or}
use Rattle.std.specs.Prelude.{slice_get, slice_index_or}
use Rattle.nr_rev.specs.declared.descriptor.DescriptorRow.{DescriptorRow}
use Rattle.nr_rev.specs.declared.lock.Lock.{Lock}
use Rattle.nr_rev.specs.declared.sides.Sides.{Sides}
use Rattle.nr_rev.specs.Lock.{open_lock}
use Rattle.nr_rev.specs.RoomedList.{Roomed}
use Rattle.nr_rev.specs.Semaphore.{Semaphore, new_semaphore}
use Rattle.nr_rev.specs.Sides.{twice}
use Rattle.nr_rev.specs.Socket.{Socket}
use Rattle.nr_rev.specs.World.{World}
use Rattle.nr_sockbuf.specs.Sock.{OpenSock, SockParts, is_opened, never_opened}
use Rattle.nr_timers.specs.TimersOf.{timers_of}
use Rattle.nr_machine.specs.Fits.{PartsFit}
use Rattle.nr_machine.specs.Numbered.{numbered}
use Rattle.nr_machine.specs.NumberedLaws.{numbered_at}
use Rattle.nr_machine.specs.Rows.{row_of}
use Rattle.nr_machine.specs.Sockets.{buffers_in, rest_at, socket_of}
use Rattle.nr_machine.specs.World.{WorldParts, meant}

-- the original items can be read from the combined list
map-numbered : {A B C : Type 0} (make : A → B → C) (part : C → A)
    → ((x : A) (b : B) → part (make x b) ≡ x) → (k : ℕ) (xs : List A) (beside : ℕ → B)
    → map part (numbered make k xs beside) ≡ xs
map-numbered make part back k [] beside = refl
map-numbered {A} {B} {C} make part back k (x ∷ xs) beside =
    ap (λ (y : A). y ∷ map part (numbered make (suc k) xs beside)) (back x (beside k))
    ∙ ap (λ (ys : List A). x ∷ ys) (map-numbered make part back (suc k) xs beside)

module _ (a b : WorldParts) (fits_a : PartsFit a) (fits_b : PartsFit b) (means : meant a ≡ meant b)
  where
    same_limits : a.core.limits ≡ b.core.limits
    same_limits = ap (λ (w : World). w.limits) means

    same_locks : a.core.locks.items ≡ b.core.locks.items
    same_locks =
        let of : (m : WorldParts)
        → map (λ (s : Socket). s.lock) (meant m).sockets ≡ m.core.locks.items =
        λ m. map-numbered socket_of (λ (s : Socket). s.lock) (λ x rest. refl) 0 m.core.locks.items
        (rest_at m.core.goroutines.semaphores m.socks) in
        sym (of a) ∙ ap (λ (w : World). map (λ (s : Socket). s.lock) w.sockets) means ∙ of b

    same_descriptors : a.core.descriptors.items ≡ b.core.descriptors.items
    same_descriptors =
        let of : (m : WorldParts)
        → map (λ (r : DescriptorRow). r.descriptor) (meant m).descriptors
        ≡ m.core.descriptors.items =
        λ m. map-numbered row_of (λ (r : DescriptorRow). r.descriptor) (λ x timers. refl) 0
        m.core.descriptors.items (timers_of m.core.timers.entries) in
        sym (of a)
        ∙ ap (λ (w : World). map (λ (r : DescriptorRow). r.descriptor) w.descriptors) means ∙ of b

    -- the socket with number s and this lock
    abbrev seen_at : WorldParts → ℕ → Lock → Socket
    seen_at m s lock = socket_of lock (rest_at m.core.goroutines.semaphores m.socks s)

    same_socket : (s : ℕ) (lock : Lock) → slice_get a.core.locks.items s ≡ Some lock
        → seen_at a s lock ≡ seen_at b s lock
    same_socket s lock at =
        let at_b : slice_get b.core.locks.items s ≡ Some lock =
        subst (λ (ls : List Lock). slice_get ls s ≡ Some lock) same_locks at in
        let of : (m : WorldParts) → slice_get m.core.locks.items s ≡ Some lock
        → slice_get (meant m).sockets s ≡ Some (seen_at m s lock) =
        λ m there. numbered_at socket_of 0 s s m.core.locks.items
        (rest_at m.core.goroutines.semaphores m.socks) lock (omega arith) there in
        same_Some (seen_at a s lock) (seen_at b s lock)
        (sym (of a at) ∙ ap (λ (w : World). slice_get w.sockets s) means ∙ of b at_b)

    within_b : (n m : ℕ) → n ≡ m → (s : ℕ) → s < n → s < m
    within_b n m same s lt = subst (λ (k : ℕ). s < k) same lt

    -- two lists with an item for each socket below the limit have equal lengths if the limits are
    -- equal
    same_many : (n m : ℕ) → n ≡ a.core.limits.sockets → m ≡ b.core.limits.sockets → n ≡ m
    same_many n m is_n is_m = is_n ∙ ap (λ limits. limits.sockets) same_limits ∙ sym is_m

    abbrev semaphores_at : WorldParts → ℕ → Sides Semaphore
    semaphores_at m s = slice_index_or m.core.goroutines.semaphores s (twice new_semaphore)

    abbrev sock_at : WorldParts → ℕ → SockParts
    sock_at m s = slice_index_or m.socks s (never_opened 0)

    -- socket s has a lock if it was opened
    opened_lock : (s : ℕ) → s < length a.core.locks.items
        → slice_get a.core.locks.items s ≡ Some (slice_index_or a.core.locks.items s open_lock)
    opened_lock s lt = slice_get-get_or a.core.locks.items s open_lock lt

    same_semaphores : a.core.goroutines.semaphores ≡ b.core.goroutines.semaphores
    same_semaphores =
        let many = same_many (length a.core.goroutines.semaphores)
        (length b.core.goroutines.semaphores) fits_a.core.semaphores fits_b.core.semaphores in
        ext_get_or (twice new_semaphore) a.core.goroutines.semaphores b.core.goroutines.semaphores
        many
        (
        λ s lt. ⊎_elim
        (λ opened. ap (λ (x : Socket). x.semaphores)
        (same_socket s (slice_index_or a.core.locks.items s open_lock) (opened_lock s opened)))
        (
        λ past. fits_a.unopened s (semaphores_at a s)
        (slice_get-get_or a.core.goroutines.semaphores s (twice new_semaphore) lt) past
        ∙ sym (fits_b.unopened s (semaphores_at b s)
        (slice_get-get_or b.core.goroutines.semaphores s (twice new_semaphore)
        (within_b (length a.core.goroutines.semaphores)
        (length b.core.goroutines.semaphores) many s lt))
        (subst (λ (ls : List Lock). length ls ≤ s) same_locks past))
        )
        (cases_lt s (length a.core.locks.items))
        )

    -- two open buffers with the same contents are equal
    same_opened : (x y : Option OpenSock) → is_opened x ≡ true → is_opened y ≡ true
        → (buffers_in x).buffers ≡ (buffers_in y).buffers
        → (buffers_in x).peer_closed ≡ (buffers_in y).peer_closed
        → (buffers_in x).shut ≡ (buffers_in y).shut → x ≡ y
    same_opened None y open_x open_y buffers closed shut = absurd cc
    same_opened (Some p) None open_x open_y buffers closed shut = absurd cc
    same_opened (Some p) (Some q) open_x open_y buffers closed shut =
        λ i. Some (record { buffers = buffers i; peer_closed = closed i; shut = shut i })

    same_sock : (s : ℕ) → s < length a.socks → s < length b.socks → sock_at a s ≡ sock_at b s
    same_sock s lt lt_b =
        let of_a = fits_a.socks s (sock_at a s) (slice_get-get_or a.socks s (never_opened 0) lt) in
        let of_b = fits_b.socks s (sock_at b s)
        (slice_get-get_or b.socks s (never_opened 0) lt_b) in
        let limit : (sock_at a s).limit ≡ (sock_at b s).limit =
        of_a.limit ∙ ap (λ limits. limits.buffer) same_limits ∙ sym of_b.limit in
        let opened : (sock_at a s).opened ≡ (sock_at b s).opened =
        ⊎_elim
        (
        λ below. let same = same_socket s (slice_index_or a.core.locks.items s open_lock)
        (opened_lock s below) in
        same_opened (sock_at a s).opened (sock_at b s).opened (of_a.opened below)
        (of_b.opened (subst (λ (ls : List Lock). s < length ls) same_locks below))
        (ap (λ (x : Socket). x.buffers) same) (ap (λ (x : Socket). x.peer_closed) same)
        (ap (λ (x : Socket). x.shut) same)
        )
        (λ past. of_a.closed past
        ∙ sym (of_b.closed (subst (λ (ls : List Lock). length ls ≤ s) same_locks past)))
        (cases_lt s (length a.core.locks.items)) in
        λ i. record { limit = limit i; opened = opened i }

    same_socks : a.socks ≡ b.socks
    same_socks =
        let many = same_many (length a.socks) (length b.socks)
        fits_a.socks_made fits_b.socks_made in
        ext_get_or (never_opened 0) a.socks b.socks many
        (λ s lt. same_sock s lt (within_b (length a.socks) (length b.socks) many s lt))

    -- lists with the same items and the same room are equal
    same_roomed : {A : Type 0} (x y : Roomed A) → x.items ≡ y.items → x.room ≡ y.room → x ≡ y
    same_roomed x y items room = λ i. record { items = items i; room = room i }

    same_core : a.core.timers ≡ b.core.timers → a.core ≡ b.core
    same_core timers =
        let goroutines : a.core.goroutines ≡ b.core.goroutines =
        let statuses = ap (λ (w : World). w.goroutines) means in
        let limit = fits_a.core.goroutines ∙ ap (λ limits. limits.goroutines) same_limits
        ∙ sym fits_b.core.goroutines in
        λ i. record { goroutines = statuses i; semaphores = same_semaphores i; limit = limit i } in
        let locks = same_roomed a.core.locks b.core.locks same_locks
        (same_many a.core.locks.room b.core.locks.room fits_a.core.locks_room
        fits_b.core.locks_room) in
        let rooms : (n m : ℕ) → n ≡ a.core.limits.descriptors → m ≡ b.core.limits.descriptors
        → n ≡ m =
        λ n m is_n is_m. is_n ∙ ap (λ limits. limits.descriptors) same_limits ∙ sym is_m in
        let descriptors = same_roomed a.core.descriptors b.core.descriptors same_descriptors
        (rooms a.core.descriptors.room b.core.descriptors.room fits_a.core.descriptors_room
        fits_b.core.descriptors_room) in
        let free = same_roomed a.core.free b.core.free (ap (λ (w : World). w.free) means)
        (rooms a.core.free.room b.core.free.room fits_a.core.free_room fits_b.core.free_room) in
        let clock = ap (λ (w : World). w.clock) means in
        let waiters = ap (λ (w : World). w.waiters) means in
        λ i. record {
          limits = same_limits i;
          goroutines = goroutines i;
          locks = locks i;
          descriptors = descriptors i;
          free = free i;
          timers = timers i;
          clock = clock i;
          waiters = waiters i;
        }

    pub same_parts : a.core.timers ≡ b.core.timers → a ≡ b
    same_parts timers =
        let core = same_core timers in
        λ i. record { core = core i; socks = same_socks i }
