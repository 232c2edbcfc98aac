-- Steps on goroutines and semaphores have the same outcome in the parts and in the machine.
use Rattle.std.proofs.Common.{◌≡◌, inl, inr, ℕ, ◌+◌, ◌-◌, ◌/◌, ◌^◌, ◌<◌, ◌≤◌, Bool, true, false, List, [], ◌∷◌, ◌++◌, length, set, Option, Some, None, Result, Ok, Err, refl, sym, ap, ◌∙◌, arith, length-set}
use Rattle.std.proofs.lemmas.Option.{slice_get_within}
use Rattle.std.specs.Prelude.{option_and_then, if◌then◌else◌, nat_lt, slice_get}
use Rattle.nr_rev.specs.declared.answer.Answer.{Answer}
use Rattle.nr_rev.specs.declared.answer.Answer.TheVariants.{Done, Number, Wait, Yes}
use Rattle.nr_rev.specs.declared.lock.Lock.{Lock}
use Rattle.nr_rev.specs.declared.refusal.Refusal.{Refusal}
use Rattle.nr_rev.specs.declared.refusal.Refusal.TheVariants.{FieldOverflow, NoSuchSocket, NotThere, TableFull}
use Rattle.nr_rev.specs.declared.sides.Side.{Side}
use Rattle.nr_rev.specs.declared.sides.Sides.{Sides}
use Rattle.nr_rev.specs.declared.status.Status.{Status}
use Rattle.nr_rev.specs.declared.status.Status.TheVariants.{Acquiring, Gone, Idle, Owing, Queued, Relock}
use Rattle.nr_rev.specs.Refusing.{◌>>=◌, ◌>>◌, refused_unless}
use Rattle.nr_rev.specs.Reversible.{Refuses}
use Rattle.nr_rev.specs.Semaphore.{Semaphore, acquired, front_of, is_free, released}
use Rattle.nr_rev.specs.Sides.{of_side, with_side}
use Rattle.nr_rev.specs.Socket.{Socket}
use Rattle.nr_rev.specs.Step.{Outcome, acquire, acquiring_of, exit, is_idle, owing, owing_of, release, socket_of as find_socket, spawn, status_of, tries_again, with_semaphore}
use Rattle.nr_rev.specs.WellFormed.{HasView, socket_named}
use Rattle.nr_rev.specs.World.{World, with_socket, with_status}
use Rattle.nr_rev.proofs.ListUpdateLemmas.{slice_get-set_cases}
use Rattle.nr_laws.proofs.LookupLemmas.{Ends-acquiring_of, Ends-owing_of, Ends-status_of}
use Rattle.nr_rev.proofs.OutcomeLemmas.{Ends, Ends-bind, Ends-found_or, Ends-ok, Ends-refused_unless, Ends-then}
use Rattle.nr_gsema.specs.Applying.{IsQueuedUp}
use Rattle.nr_gsema.specs.Delta.{LeadsBack, delta_weight, weight_allowed}
use Rattle.nr_gsema.specs.ReversibleLaws.{weight_is_within}
use Rattle.nr_gsema.specs.Step as table
use Rattle.nr_gsema.specs.Auxiliary.Table as of_table
use Rattle.nr_gsema.specs.Table.{GoroutineTable}
use Rattle.nr_gsema.specs.declared.delta.GDelta.{GDelta}
use Rattle.nr_gsema.specs.declared.operation.GOperation.{GOperation}
use Rattle.nr_gsema.specs.declared.operation.GOperation.TheVariants as operation
use Rattle.nr_machine.specs.declared.delta.TheConstants.{MOST_WORDS}
use Rattle.nr_machine.specs.declared.delta.WorldUndo.TheVariants.{Goroutine}
use Rattle.nr_machine.specs.Fits.{IsWorld}
use Rattle.nr_machine.specs.Goroutines.{IsStep, goroutine_outcome}
use Rattle.nr_machine.specs.Auxiliary.Made.{Made}
use Rattle.nr_machine.specs.Sockets.{rest_at}
use Rattle.nr_machine.specs.World.{WorldParts, meant}
use Rattle.nr_machine.proofs.ListLemmas.{get_within}
use Rattle.nr_machine.proofs.FitsLemmas.{counted_fits, retied}
use Rattle.nr_machine.proofs.SocketsLemmas.{length-sockets_of, semaphores_at, semaphores_set, socket_at, socket_with}

-- the parts after the goroutine table is replaced
abbrev pub with_table : GoroutineTable → WorldParts → WorldParts
with_table t m = record m { core = record m.core { goroutines = t } }

-- the world's outcome that corresponds to an outcome of the goroutine table
abbrev pub lifted : WorldParts → table.Outcome → Outcome
lifted m (Ok left) = Ok (left.0, meant (with_table left.1 m))
lifted m (Err e) = Err e

lift_bind : {A : Type 0} (m : WorldParts) (r : Result A Refusal) (f : A → table.Outcome) (h : A → Outcome) → ((a : A) → r ≡ Ok a → h a ≡ lifted m (f a)) → (r >>= h) ≡ lifted m (r >>= f)
lift_bind m (Ok a) f h same = same a refl
lift_bind m (Err e) f h same = refl

lift_then : (m : WorldParts) (r : Result (Unit {0}) Refusal) (x : table.Outcome) (y : Outcome) → y ≡ lifted m x → (r >> y) ≡ lifted m (r >> x)
lift_then m (Ok a) x y same = same
lift_then m (Err e) x y same = refl

bind_then : {A B : Type 0} (r : Result A Refusal) (f : A → Result (Unit {0}) Refusal) (y : Result B Refusal) → ((r >>= f) >> y) ≡ (r >>= λ a. (f a >> y))
bind_then (Ok a) f y = refl
bind_then (Err e) f y = refl

-- spawn
pub spawn_is : (m : WorldParts) → IsWorld m → spawn (meant m) ≡ lifted m (table.spawn m.core.goroutines)
spawn_is m h =
    let gs : List Status = m.core.goroutines.goroutines in
    ap (λ (n : ℕ). refused_unless (nat_lt (length gs) n) TableFull >> Ok (Number (length gs), record (meant m) { goroutines = gs ++ Idle ∷ [] })) (sym h.parts.core.goroutines)
    ∙ lift_then m (refused_unless (nat_lt (length gs) m.core.goroutines.limit) TableFull)
    (Ok (Number (length gs), record m.core.goroutines { goroutines = gs ++ Idle ∷ [] })) (Ok (Number (length gs), record (meant m) { goroutines = gs ++ Idle ∷ [] })) refl

-- exit
pub exit_is : (m : WorldParts) (g : ℕ) → exit g (meant m) ≡ lifted m (table.exit g m.core.goroutines)
exit_is m g =
    bind_then (status_of g (meant m)) (λ status. refused_unless (is_idle status) NotThere) (Ok (Done, with_status g Gone (meant m)))
    ∙ lift_bind m (status_of g (meant m)) _ _ λ status at. lift_then m (refused_unless (is_idle status) NotThere) _ _ refl

-- if a goroutine's status names a socket, that socket has a lock and semaphores
pub named_there : (m : WorldParts) (g s : ℕ) → IsWorld m → HasView socket_named (meant m).goroutines g s
    → (lock : Lock) × (both : Sides Semaphore) × (slice_get m.core.locks.items s ≡ Some lock) × (slice_get m.core.goroutines.semaphores s ≡ Some both)
named_there m g s h named =
    let many : length (meant m).sockets ≡ length m.core.locks.items = length-sockets_of m.core.locks.items m.core.goroutines.semaphores m.socks in
    let below = h.meaning.goroutines.sockets_named g s named in
    let made = h.meaning.sockets_limited in
    let room = h.parts.core.semaphores in
    let lock = get_within m.core.locks.items s (omega (arith, many, below)) in
    let both = get_within m.core.goroutines.semaphores s (omega (arith, below, made, room)) in
    (lock.0, both.0, lock.1, both.1)

module _ (m : WorldParts) (g s : ℕ) (side : Side) (lock : Lock) (both : Sides Semaphore) (locked : slice_get m.core.locks.items s ≡ Some lock)
    (there : slice_get m.core.goroutines.semaphores s ≡ Some both) where
  -- changing a semaphore in the table changes that of the socket
  semaphore_means : (semaphore : Semaphore) (t : List Status)
      → record (with_socket s (record (socket_with m s lock) { semaphores = with_side side semaphore both }) (meant m)) { goroutines = t }
      ≡ meant (with_table (record m.core.goroutines { goroutines = t; semaphores = set m.core.goroutines.semaphores s (with_side side semaphore both) }) m)
  semaphore_means semaphore t =
      ap (λ (sockets : List Socket). record (meant m) { goroutines = t; sockets = sockets })
      (sym (semaphores_set m.core.locks.items m.core.goroutines.semaphores m.socks s lock (with_side side semaphore both) locked
      (slice_get_within m.core.goroutines.semaphores s both there)))

  -- the outcome of acquiring a semaphore of a socket with these semaphores
  abbrev acquires : Sides Semaphore → Outcome
  acquires x =
      let next : World = with_socket s (record (socket_with m s lock) { semaphores = with_side side (acquired g (of_side side x)) x }) (meant m) in
      Ok (if is_free (of_side side x) then (Yes, with_status g (Relock s side) next) else (Wait, with_status g (Queued s side) next))

  abbrev acquires_table : table.Outcome
  acquires_table =
      let next : GoroutineTable = record m.core.goroutines { semaphores = set m.core.goroutines.semaphores s (with_side side (acquired g (of_side side both)) both) } in
      Ok (if is_free (of_side side both) then (Yes, record next { goroutines = set m.core.goroutines.goroutines g (Relock s side) })
      else (Wait, record next { goroutines = set m.core.goroutines.goroutines g (Queued s side) }))

  either : (b : Bool) (x y : Answer × World) (u v : Answer × GoroutineTable) → x ≡ (u.0, meant (with_table u.1 m)) → y ≡ (v.0, meant (with_table v.1 m))
      → ◌≡◌ {A = Outcome} (Ok (if b then x else y)) (lifted m (Ok (if b then u else v)))
  either true x y u v p q = ap (λ (z : Answer × World). Ok z) p
  either false x y u v p q = ap (λ (z : Answer × World). Ok z) q

  acquire_there : acquires (rest_at m.core.goroutines.semaphores m.socks s).semaphores ≡ lifted m acquires_table
  acquire_there =
      ap acquires (semaphores_at m.core.goroutines.semaphores m.socks s both there)
      ∙ either (is_free (of_side side both)) _ _ _ _
      (ap (λ (w : World). (Yes, w)) (semaphore_means (acquired g (of_side side both)) (set m.core.goroutines.goroutines g (Relock s side))))
      (ap (λ (w : World). (Wait, w)) (semaphore_means (acquired g (of_side side both)) (set m.core.goroutines.goroutines g (Queued s side))))

-- the rest of an acquire, given the semaphore's place
abbrev acquire_by : ℕ → ℕ × Side → World → Outcome
acquire_by g place w =
    find_socket place.0 w >>= λ socket.
    let semaphore : Semaphore = of_side place.1 socket.semaphores in
    let next : World = with_semaphore place.0 place.1 socket (acquired g semaphore) w in
    Ok (if is_free semaphore then (Yes, with_status g (Relock place.0 place.1) next) else (Wait, with_status g (Queued place.0 place.1) next))

abbrev acquire_by_table : ℕ → ℕ × Side → GoroutineTable → table.Outcome
acquire_by_table g place t =
    table.semaphores_of place.0 t >>= λ semaphores.
    let semaphore : Semaphore = of_side place.1 semaphores in
    let next : GoroutineTable = of_table.with_semaphore place.0 place.1 semaphores (acquired g semaphore) t in
    Ok (if is_free semaphore then (Yes, of_table.with_status g (Relock place.0 place.1) next) else (Wait, of_table.with_status g (Queued place.0 place.1) next))

acquire_at : (m : WorldParts) (g : ℕ) (place : ℕ × Side) → IsWorld m → slice_get (meant m).goroutines g ≡ Some (Acquiring place.0 place.1)
    → acquire_by g place (meant m) ≡ lifted m (acquire_by_table g place m.core.goroutines)
acquire_at m g place h at =
    let found = named_there m g place.0 h (ap (λ (o : Option Status). option_and_then socket_named o) at) in
    rw (socket_at m.core.locks.items m.core.goroutines.semaphores m.socks place.0 found.0 found.2, found.3)
    (acquire_there m g place.0 place.1 found.0 found.1 found.2 found.3)

-- acquire
pub acquire_is : (m : WorldParts) (g : ℕ) → IsWorld m → acquire g (meant m) ≡ lifted m (table.acquire g m.core.goroutines)
acquire_is m g h =
    lift_bind m (status_of g (meant m)) _ _ λ status at.
    lift_bind m (acquiring_of status) _ _ λ place is.
    acquire_at m g place h ((Ends-status_of g (meant m)).value status at ∙ ap (λ (x : Status). Some x) ((Ends-acquiring_of status).value place is))

-- ---- release

module _ (m : WorldParts) (g s : ℕ) (side : Side) (lock : Lock) (both : Sides Semaphore) (locked : slice_get m.core.locks.items s ≡ Some lock)
    (there : slice_get m.core.goroutines.semaphores s ≡ Some both) (to : Status) where
  -- the goroutine at the front of the queue tries again, and goroutine g continues
  release_left : (left : Semaphore) (front : Option ℕ)
      → with_status g to (tries_again s side front (with_socket s (record (socket_with m s lock) { semaphores = with_side side left both }) (meant m)))
      ≡ meant (with_table (of_table.with_status g to (table.tries_again s side front (of_table.with_semaphore s side both left m.core.goroutines))) m)
  release_left left None = semaphore_means m g s side lock both locked there left (set m.core.goroutines.goroutines g to)
  release_left left (Some h) =
      semaphore_means m g s side lock both locked there left (set (set m.core.goroutines.goroutines h (Acquiring s side)) g to)

  -- the rest of the release, given the socket's semaphores
  abbrev releases : Sides Semaphore → Outcome
  releases x =
      released (of_side side x) >>= λ left.
      Ok (Done, with_status g to (tries_again s side (front_of (of_side side x)) (with_socket s (record (socket_with m s lock) { semaphores = with_side side left x }) (meant m))))

  abbrev releases_table : table.Outcome
  releases_table =
      released (of_side side both) >>= λ left.
      Ok (Done, of_table.with_status g to (table.tries_again s side (front_of (of_side side both)) (of_table.with_semaphore s side both left m.core.goroutines)))

  release_there : releases (rest_at m.core.goroutines.semaphores m.socks s).semaphores ≡ lifted m releases_table
  release_there =
      ap releases (semaphores_at m.core.goroutines.semaphores m.socks s both there)
      ∙ lift_bind m (released (of_side side both)) _ _ λ left is. ap (λ (w : World). Ok (Done, w)) (release_left left (front_of (of_side side both)))

-- the rest of a release, given the releases that the goroutine owes
abbrev release_by : ℕ → ℕ × Sides ℕ → World → Outcome
release_by g debt w =
    find_socket debt.0 w >>= λ socket.
    let side : Side = table.side_owed debt.1 in
    let semaphore : Semaphore = of_side side socket.semaphores in
    released semaphore >>= λ left.
    Ok (Done, with_status g (owing debt.0 (with_side side (of_side side debt.1 - 1) debt.1)) (tries_again debt.0 side (front_of semaphore) (with_semaphore debt.0 side socket left w)))

abbrev release_by_table : ℕ → ℕ × Sides ℕ → GoroutineTable → table.Outcome
release_by_table g debt t =
    table.semaphores_of debt.0 t >>= λ semaphores.
    let side : Side = table.side_owed debt.1 in
    let semaphore : Semaphore = of_side side semaphores in
    released semaphore >>= λ left.
    Ok (
      Done,
      of_table.with_status g (owing debt.0 (with_side side (of_side side debt.1 - 1) debt.1))
          (table.tries_again debt.0 side (front_of semaphore) (of_table.with_semaphore debt.0 side semaphores left t)),
    )

release_at : (m : WorldParts) (g : ℕ) (debt : ℕ × Sides ℕ) → IsWorld m → slice_get (meant m).goroutines g ≡ Some (Owing debt.0 debt.1.read debt.1.write)
    → release_by g debt (meant m) ≡ lifted m (release_by_table g debt m.core.goroutines)
release_at m g debt h at =
    let found = named_there m g debt.0 h (ap (λ (o : Option Status). option_and_then socket_named o) at) in
    let side : Side = table.side_owed debt.1 in
    rw (socket_at m.core.locks.items m.core.goroutines.semaphores m.socks debt.0 found.0 found.2, found.3)
    (release_there m g debt.0 side found.0 found.1 found.2 found.3 (owing debt.0 (with_side side (of_side side debt.1 - 1) debt.1)))

-- release
pub release_is : (m : WorldParts) (g : ℕ) → IsWorld m → release g (meant m) ≡ lifted m (table.release g m.core.goroutines)
release_is m g h =
    lift_bind m (status_of g (meant m)) _ _ λ status at.
    lift_bind m (owing_of status) _ _ λ debt is.
    release_at m g debt h ((Ends-status_of g (meant m)).value status at ∙ ap (λ (x : Status). Some x) ((Ends-owing_of status).value debt is))

-- ---- the parts still fit

-- true if the table has as many semaphores as before, and those that belong to no socket are
-- unchanged
record TableTied (m : WorldParts) (t : GoroutineTable) : Type 0 where
  pub limit : t.limit ≡ m.core.goroutines.limit
  pub many : length t.semaphores ≡ length m.core.goroutines.semaphores
  pub unopened : (s : ℕ) (both : Sides Semaphore) → length m.core.locks.items ≤ s → slice_get t.semaphores s ≡ Some both
      → slice_get m.core.goroutines.semaphores s ≡ Some both

tied_goroutines : (m : WorldParts) (gs : List Status) → TableTied m (record m.core.goroutines { goroutines = gs })
tied_goroutines m gs = record { limit = refl; many = refl; unopened = λ s both past at. at }

tied_semaphores : (m : WorldParts) (s : ℕ) (lock : Lock) (old both : Sides Semaphore) (gs : List Status) → slice_get m.core.locks.items s ≡ Some lock
    → slice_get m.core.goroutines.semaphores s ≡ Some old
    → TableTied m (record m.core.goroutines { goroutines = gs; semaphores = set m.core.goroutines.semaphores s both })
tied_semaphores m s lock old both gs locked at =
    let within : s < length m.core.locks.items = slice_get_within m.core.locks.items s lock locked in
    record {
      limit = refl;
      many = length-set m.core.goroutines.semaphores s both;
      unopened = λ k x past is.
          elim (slice_get-set_cases m.core.goroutines.semaphores s old both k at) [
            | inl here ↦ absurd (let same = here.0 in omega (arith, within, past, same))
            | inr other ↦ sym other.1 ∙ is
          ];
    }

tied_either : (m : WorldParts) (b : Bool) (x y : Answer × GoroutineTable) → TableTied m x.1 → TableTied m y.1 → TableTied m (if b then x else y).1
tied_either m true x y p q = p
tied_either m false x y p q = q

tied_again : (m : WorldParts) (s : ℕ) (side : Side) (front : Option ℕ) (lock : Lock) (old both : Sides Semaphore) (g : ℕ) (to : Status) → slice_get m.core.locks.items s ≡ Some lock
    → slice_get m.core.goroutines.semaphores s ≡ Some old
    → TableTied m (of_table.with_status g to (table.tries_again s side front (record m.core.goroutines { semaphores = set m.core.goroutines.semaphores s both })))
tied_again m s side None lock old both g to locked at = tied_semaphores m s lock old both (set m.core.goroutines.goroutines g to) locked at
tied_again m s side (Some h) lock old both g to locked at =
    tied_semaphores m s lock old both (set (set m.core.goroutines.goroutines h (Acquiring s side)) g to) locked at

released_ends : (semaphore : Semaphore) → Ends (λ _. Unit {0}) (released semaphore)
released_ends semaphore = Ends-then (Ends-refused_unless (nat_lt semaphore.count (2 ^ 32 - 1)) FieldOverflow refl) λ _. Ends-ok tt

-- after an operation that is a step, `TableTied` holds for the goroutine table and the old parts
table_ends : (m : WorldParts) (o : GOperation) → IsWorld m → IsStep o → Ends (λ (left : Answer × GoroutineTable). TableTied m left.1) (table.outcome m.core.goroutines o)
table_ends m operation.Spawn h is =
    Ends-then (Ends-refused_unless (nat_lt (length m.core.goroutines.goroutines) m.core.goroutines.limit) TableFull refl) λ _.
    Ends-ok (tied_goroutines m (m.core.goroutines.goroutines ++ Idle ∷ []))
table_ends m (operation.Exit g) h is =
    Ends-bind (Ends-status_of g (meant m)) λ status _.
    Ends-then (Ends-refused_unless (is_idle status) NotThere refl) λ _.
    Ends-ok (tied_goroutines m (set m.core.goroutines.goroutines g Gone))
table_ends m (operation.Move g from to) h is = absurd is
table_ends m (operation.Acquire g) h is =
    Ends-bind (Ends-status_of g (meant m)) λ status at.
    Ends-bind (Ends-acquiring_of status) λ place same.
    Ends-bind (Ends-found_or (slice_get m.core.goroutines.semaphores place.0) NoSuchSocket refl) λ both there.
    let named = named_there m g place.0 h (ap (λ (o : Option Status). option_and_then socket_named o) (at ∙ ap (λ (x : Status). Some x) same)) in
    let semaphore : Semaphore = of_side place.1 both in
    let new : Sides Semaphore = with_side place.1 (acquired g semaphore) both in
    Ends-ok (tied_either m (is_free semaphore) _ _
    (tied_semaphores m place.0 named.0 both new (set m.core.goroutines.goroutines g (Relock place.0 place.1)) named.2 there)
    (tied_semaphores m place.0 named.0 both new (set m.core.goroutines.goroutines g (Queued place.0 place.1)) named.2 there))
table_ends m (operation.Release g) h is =
    Ends-bind (Ends-status_of g (meant m)) λ status at.
    Ends-bind (Ends-owing_of status) λ debt same.
    Ends-bind (Ends-found_or (slice_get m.core.goroutines.semaphores debt.0) NoSuchSocket refl) λ both there.
    let named = named_there m g debt.0 h (ap (λ (o : Option Status). option_and_then socket_named o) (at ∙ ap (λ (x : Status). Some x) same)) in
    let side : Side = table.side_owed debt.1 in
    Ends-bind (released_ends (of_side side both)) λ left _.
    Ends-ok (tied_again m debt.0 side (front_of (of_side side both)) named.0 both (with_side side left both) g
    (owing debt.0 (with_side side (of_side side debt.1 - 1) debt.1)) named.2 there)

-- ---- the whole

goroutine_is : (m : WorldParts) (o : GOperation) → IsWorld m → IsStep o → goroutine_outcome o (meant m) ≡ lifted m (table.outcome m.core.goroutines o)
goroutine_is m operation.Spawn h is = spawn_is m h
goroutine_is m (operation.Exit g) h is = exit_is m g
goroutine_is m (operation.Move g from to) h is = absurd is
goroutine_is m (operation.Acquire g) h is = acquire_is m g h
goroutine_is m (operation.Release g) h is = release_is m g h

-- an operation that the table refuses is refused in the world
refused_for : (o : table.Outcome) (e : Refusal) → table.refusal_of o ≡ Some e → ◌≡◌ {A = table.Outcome} o (Err e)
refused_for (Ok left) e is = cc
refused_for (Err reason) e is = cc

pub goroutine_refused : (m : WorldParts) (o : GOperation) (e : Refusal) → IsWorld m → IsStep o
    → Refuses table.table_reason (λ (t : GoroutineTable) (p : GOperation). ⊥) m.core.goroutines o e → goroutine_outcome o (meant m) ≡ Err e
goroutine_refused m o e h is (inl reason) =
    goroutine_is m o h is ∙ ap (lifted m) (refused_for (table.outcome m.core.goroutines o) e reason)
goroutine_refused m o e h is (inr none) = absurd none.2

-- if the goroutine table carries out an operation, so does the world
pub goroutine_made : (m : WorldParts) (o : GOperation) (answer : Answer) (delta : GDelta) (t : GoroutineTable) → IsWorld m → IsStep o
    → table.StepTo m.core.goroutines o answer t → IsQueuedUp t → LeadsBack delta t m.core.goroutines → delta_weight delta ≤ weight_allowed o + (0 + 7) / 8
    → Made (goroutine_outcome o (meant m)) [] MOST_WORDS m answer (Goroutine delta) (with_table t m)
goroutine_made m o answer delta t h is step queued back light =
    let tied = (table_ends m o h is).value (answer, t) step in
    let most : weight_allowed o ≤ 7 = weight_is_within o in (
      record {
        leads = goroutine_is m o h is ∙ ap (lifted m) step;
        parts = retied m (record m.core { goroutines = t }) h.parts
            (counted_fits m.core t m.core.free m.core.clock m.core.waiters h.parts.core queued tied.limit tied.many refl)
            (record { limits = refl; locks = refl; semaphores = λ s both past at. tied.unopened s both past at; unarmed = λ all d past. all d past });
        timers = refl;
      },
      (
        ((back, refl), refl),
        omega (arith, light, most),
      ),
    )
