-- A change to a world modifies only cells of certain aspects.
use Rattle.std.proofs.Common.{◌≡◌, ℕ, ◌+◌, Bool, true, false, List, [], ◌∷◌, ◌++◌, map, length, Some, Result, Ok, Err, refl, sym, ap, subst, ◌∙◌, true≢false, zero, suc}
use Rattle.std.specs.Prelude.{slice_get, slice_set, if◌then◌else◌, ℤ}
use Rattle.nr_rev.specs.declared.answer.Answer.{Answer}
use Rattle.nr_rev.specs.declared.cell.Cell.{Cell}
use Rattle.nr_rev.specs.declared.cell_value.CellValue.{CellValue}
use Rattle.nr_rev.specs.declared.cell_value.CellValue.TheVariants.{Number, Time}
use Rattle.nr_rev.specs.declared.descriptor.Descriptor.{Descriptor}
use Rattle.nr_rev.specs.declared.descriptor.DescriptorRow.{DescriptorRow}
use Rattle.nr_rev.specs.declared.aspect.Aspect.{Aspect}
use Rattle.nr_rev.specs.declared.aspect.Aspect.TheVariants.{Clock, Waiters, Timers, Firings, Goroutines, Locks, Semaphores, Inputs, Outputs, ShutMarks, WaitWords, Deadlines, Sequences, Tags, Summaries}
use Rattle.nr_rev.specs.declared.refusal.Refusal.{Refusal}
use Rattle.nr_rev.specs.declared.status.Status.{Status}
use Rattle.nr_rev.specs.declared.timer.Entry.{Entry}
use Rattle.nr_rev.specs.Cell.{cell, value_or_absent, socket_value, descriptor_value}
use Rattle.nr_rev.specs.Descriptor.{summary}
use Rattle.nr_rev.specs.Lock.{bit, lock_number}
use Rattle.nr_rev.specs.Aspect.{is_among, aspect_of}
use Rattle.nr_rev.specs.Refusing.{◌>>=◌, ◌>>◌}
use Rattle.nr_rev.specs.Socket.{Socket}
use Rattle.nr_rev.specs.Timer.{entries_from, entries_at, least_of}
use Rattle.nr_rev.specs.Step.{new_row}
use Rattle.nr_rev.specs.World.{World, entries_of, with_status, with_socket, with_row}
use Rattle.nr_rev.proofs.ListUpdateLemmas.{slice_get-set_unseen}
use Rattle.nr_rev.proofs.OutcomeLemmas.{Ends}

-- true if the value has this property, or the step is refused
pub record ComesTo {A : Type 0} (P : A → Type 0) (m : Result A Refusal) : Type 0 where
  pub value : (a : A) → m ≡ Ok a → P a

-- true if each cell of another aspect keeps its value
pub record Leaves (aspects : List Aspect) (w next : World) : Type 0 where
  pub each : (c : Cell) → is_among aspects (aspect_of c) ≡ false → cell next c ≡ cell w c

-- true if a step changes cells of these aspects only
abbrev pub Changes : List Aspect → World → Result (Answer × World) Refusal → Type 0
Changes aspects w o = ComesTo (λ (left : Answer × World). Leaves aspects w left.1) o

same_ok : {A : Type 0} (a b : A) → ◌≡◌ {A = Result A Refusal} (Ok a) (Ok b) → a ≡ b
same_ok a b e = cc

pub ComesTo-ok : {A : Type 0} {P : A → Type 0} {a : A} → P a → ComesTo P (Ok a)
ComesTo-ok {P = P} {a = a} p = record { value = λ b e. subst P (same_ok a b e) p }

pub ComesTo-refused : {A : Type 0} {P : A → Type 0} {reason : Refusal} → ComesTo P (Err reason)
ComesTo-refused = record { value = λ a e. cc }

pub ComesTo-ends : {A : Type 0} {P : A → Type 0} {m : Result A Refusal} → Ends P m → ComesTo P m
ComesTo-ends ends = record { value = ends.value }

pub ComesTo-any : {A : Type 0} (m : Result A Refusal) → ComesTo (λ _. Unit {0}) m
ComesTo-any m = record { value = λ _ _. tt }

pub ComesTo-bind : {A B : Type 0} {P : A → Type 0} {Q : B → Type 0} {m : Result A Refusal} {rest : A → Result B Refusal} → ComesTo P m → ((a : A) → P a → ComesTo Q (rest a)) → ComesTo Q (◌>>=◌ m rest)
ComesTo-bind {m = Ok a} first next = next a (first.value a refl)
ComesTo-bind {m = Err reason} first next = ComesTo-refused

pub ComesTo-then : {B : Type 0} {P : Unit {0} → Type 0} {Q : B → Type 0} {m : Result (Unit {0}) Refusal} {rest : Result B Refusal} → ComesTo P m → (P tt → ComesTo Q rest) → ComesTo Q (◌>>◌ m rest)
ComesTo-then {m = Ok a} first next = next (first.value a refl)
ComesTo-then {m = Err reason} first next = ComesTo-refused

pub ComesTo-either : {A : Type 0} {P : A → Type 0} (c : Bool) {x y : Result A Refusal} → ComesTo P x → ComesTo P y → ComesTo P (if c then x else y)
ComesTo-either true a b = a
ComesTo-either false a b = b

-- an aspect can't both be in a list and not be in it
pub not_both : {A : Type 0} (among : Bool) → among ≡ true → among ≡ false → A
not_both among is isnt = absurd (true≢false (sym is ∙ isnt))

pub Leaves-same : {aspects : List Aspect} {w : World} → Leaves aspects w w
Leaves-same = record { each = λ c _. refl }

pub Leaves-then : {aspects : List Aspect} {w between next : World} → Leaves aspects w between → Leaves aspects between next → Leaves aspects w next
Leaves-then first second = record { each = λ c e. second.each c e ∙ first.each c e }

-- a change to the world, followed by a step
pub Changes-after : {aspects : List Aspect} {w between : World} {o : Result (Answer × World) Refusal} → Leaves aspects w between → Changes aspects between o → Changes aspects w o
Changes-after first step = record { value = λ left is. Leaves-then first (step.value left is) }

pub Leaves-if : {aspects : List Aspect} {w : World} (c : Bool) {x y : World} → Leaves aspects w x → Leaves aspects w y → Leaves aspects w (if c then x else y)
Leaves-if true a b = a
Leaves-if false a b = b

pub Leaves-either : {aspects : List Aspect} {w : World} (c : Bool) (x y : Answer × World) → Leaves aspects w x.1 → Leaves aspects w y.1 → Leaves aspects w (if c then x else y).1
Leaves-either true x y a b = a
Leaves-either false x y a b = b

-- ---- one field of the world

pub goroutines_set : (aspects : List Aspect) (w : World) (goroutines : List Status) → is_among aspects Goroutines ≡ true → Leaves aspects w (record w { goroutines = goroutines })
goroutines_set aspects w goroutines may = record { each = each }
  where
    each : (c : Cell) → is_among aspects (aspect_of c) ≡ false → cell (record w { goroutines = goroutines }) c ≡ cell w c
    each (Cell.Goroutine g) e = not_both _ may e
    each c e = refl

-- overwriting a status with the same status
pub status_kept : (aspects : List Aspect) (w : World) (g : ℕ) (status : Status) → slice_get w.goroutines g ≡ Some status → Leaves aspects w (with_status g status w)
status_kept aspects w g status at = record { each = each }
  where
    each : (c : Cell) → is_among aspects (aspect_of c) ≡ false → cell (with_status g status w) c ≡ cell w c
    each (Cell.Goroutine k) e = slice_get-set_unseen (value_or_absent CellValue.Status) w.goroutines g status status k at refl
    each c e = refl

pub clock_set : (aspects : List Aspect) (w : World) (clock : ℤ) → is_among aspects Clock ≡ true → Leaves aspects w (record w { clock = clock })
clock_set aspects w clock may = record { each = each }
  where
    each : (c : Cell) → is_among aspects (aspect_of c) ≡ false → cell (record w { clock = clock }) c ≡ cell w c
    each Cell.Clock e = not_both _ may e
    each c e = refl

pub waiters_set : (aspects : List Aspect) (w : World) (waiters : ℕ) → is_among aspects Waiters ≡ true → Leaves aspects w (record w { waiters = waiters })
waiters_set aspects w waiters may = record { each = each }
  where
    each : (c : Cell) → is_among aspects (aspect_of c) ≡ false → cell (record w { waiters = waiters }) c ≡ cell w c
    each Cell.Waiters e = not_both _ may e
    each c e = refl

pub firings_set : (aspects : List Aspect) (w : World) (firings : List Entry) → is_among aspects Firings ≡ true → Leaves aspects w (record w { firings = firings })
firings_set aspects w firings may = record { each = each }
  where
    each : (c : Cell) → is_among aspects (aspect_of c) ≡ false → cell (record w { firings = firings }) c ≡ cell w c
    each Cell.Firings e = not_both _ may e
    each c e = refl

-- no cell shows the free numbers or the next arming number
pub free_set : (aspects : List Aspect) (w : World) (free : List ℕ) → Leaves aspects w (record w { free = free })
free_set aspects w free = record { each = each }
  where
    each : (c : Cell) → is_among aspects (aspect_of c) ≡ false → cell (record w { free = free }) c ≡ cell w c
    each Cell.Clock e = refl
    each c e = refl

pub next_arming_set : (aspects : List Aspect) (w : World) (number : ℕ) → Leaves aspects w (record w { next_arming = number })
next_arming_set aspects w number = record { each = each }
  where
    each : (c : Cell) → is_among aspects (aspect_of c) ≡ false → cell (record w { next_arming = number }) c ≡ cell w c
    each Cell.Clock e = refl
    each c e = refl

-- ---- sockets

-- true if only parts of the socket that belong to these aspects change
pub record SocketLeaves (aspects : List Aspect) (old new : Socket) : Type 0 where
  pub lock : is_among aspects Locks ≡ false → new.lock ≡ old.lock
  pub semaphores : is_among aspects Semaphores ≡ false → new.semaphores ≡ old.semaphores
  pub input : is_among aspects Inputs ≡ false → new.buffers.read.bytes ≡ old.buffers.read.bytes
  pub output : is_among aspects Outputs ≡ false → new.buffers.write.bytes ≡ old.buffers.write.bytes
  pub shut : is_among aspects ShutMarks ≡ false → new.shut ≡ old.shut

pub socket_set : (aspects : List Aspect) (w : World) (s : ℕ) (old new : Socket) → slice_get w.sockets s ≡ Some old → SocketLeaves aspects old new → Leaves aspects w (with_socket s new w)
socket_set aspects w s old new at kept = record { each = each }
  where
    of_value : (value : Socket → CellValue) (k : ℕ) → value new ≡ value old → socket_value k (with_socket s new w) value ≡ socket_value k w value
    of_value value k same = slice_get-set_unseen (value_or_absent value) w.sockets s old new k at same

    each : (c : Cell) → is_among aspects (aspect_of c) ≡ false → cell (with_socket s new w) c ≡ cell w c
    each (Cell.Lock k) e = of_value (λ x. Number (lock_number x.lock)) k (ap (λ l. Number (lock_number l)) (kept.lock e))
    each (Cell.ReadSemaphore k) e = of_value (λ x. Number x.semaphores.read.count) k (ap (λ x. Number x.read.count) (kept.semaphores e))
    each (Cell.WriteSemaphore k) e = of_value (λ x. Number x.semaphores.write.count) k (ap (λ x. Number x.write.count) (kept.semaphores e))
    each (Cell.Input k) e = of_value (λ x. Number (length x.buffers.read.bytes)) k (ap (λ bytes. Number (length bytes)) (kept.input e))
    each (Cell.Output k) e = of_value (λ x. Number (length x.buffers.write.bytes)) k (ap (λ bytes. Number (length bytes)) (kept.output e))
    each (Cell.Shut k) e = of_value (λ x. Number (bit x.shut)) k (ap (λ shut. Number (bit shut)) (kept.shut e))
    each c e = refl

-- true if these aspects include every aspect that a socket's cells have
pub record AreSockets (aspects : List Aspect) : Type 0 where
  pub locks : is_among aspects Locks ≡ true
  pub semaphores : is_among aspects Semaphores ≡ true
  pub inputs : is_among aspects Inputs ≡ true
  pub outputs : is_among aspects Outputs ≡ true
  pub shut : is_among aspects ShutMarks ≡ true

pub sockets_set : (aspects : List Aspect) (w : World) (sockets : List Socket) → AreSockets aspects → Leaves aspects w (record w { sockets = sockets })
sockets_set aspects w sockets may = record { each = each }
  where
    each : (c : Cell) → is_among aspects (aspect_of c) ≡ false → cell (record w { sockets = sockets }) c ≡ cell w c
    each (Cell.Lock k) e = not_both _ may.locks e
    each (Cell.ReadSemaphore k) e = not_both _ may.semaphores e
    each (Cell.WriteSemaphore k) e = not_both _ may.semaphores e
    each (Cell.Input k) e = not_both _ may.inputs e
    each (Cell.Output k) e = not_both _ may.outputs e
    each (Cell.Shut k) e = not_both _ may.shut e
    each c e = refl

-- ---- descriptors

-- true if only parts of the descriptor that belong to these aspects change
pub record DescriptorLeaves (aspects : List Aspect) (old new : Descriptor) : Type 0 where
  pub words : is_among aspects WaitWords ≡ false → new.words ≡ old.words
  pub deadlines : is_among aspects Deadlines ≡ false → new.deadlines ≡ old.deadlines
  pub sequences : is_among aspects Sequences ≡ false → new.sequences ≡ old.sequences
  pub tag : is_among aspects Tags ≡ false → new.fdseq ≡ old.fdseq
  pub info : is_among aspects Summaries ≡ false → summary new ≡ summary old

map_set_unseen : {X Y : Type 0} (f : X → Y) (xs : List X) (i : ℕ) (old new : X) → slice_get xs i ≡ Some old → f new ≡ f old → map f (slice_set xs i new) ≡ map f xs
map_set_unseen f [] i old new at same = refl
map_set_unseen f (x ∷ xs) zero old new at same = let here : x ≡ old = cc in ap (λ y. y ∷ map f xs) (same ∙ sym (ap f here))
map_set_unseen f (x ∷ xs) (suc i) old new at same = ap (λ ys. f x ∷ ys) (map_set_unseen f xs i old new at same)

pub row_set : (aspects : List Aspect) (w : World) (d : ℕ) (old new : DescriptorRow) → slice_get w.descriptors d ≡ Some old → DescriptorLeaves aspects old.descriptor new.descriptor
    → (is_among aspects Timers ≡ false → new.timers ≡ old.timers) → Leaves aspects w (with_row d new w)
row_set aspects w d old new at kept timers = record { each = each }
  where
    of_value : (value : Descriptor → CellValue) (k : ℕ) → value new.descriptor ≡ value old.descriptor → descriptor_value k (with_row d new w) value ≡ descriptor_value k w value
    of_value value k same = slice_get-set_unseen (value_or_absent (λ (row : DescriptorRow). value row.descriptor)) w.descriptors d old new k at same

    entries : is_among aspects Timers ≡ false → entries_of (slice_set w.descriptors d new) ≡ entries_of w.descriptors
    entries e = ap (entries_from 0) (map_set_unseen (λ (row : DescriptorRow). row.timers) w.descriptors d old new at (timers e))

    each : (c : Cell) → is_among aspects (aspect_of c) ≡ false → cell (with_row d new w) c ≡ cell w c
    each Cell.Timers e = ap (λ es. Number (length es)) (entries e)
    each Cell.Least e = ap (λ es. value_or_absent (λ (x : Entry). Time x.timer.due) (least_of es)) (entries e)
    each (Cell.ReadWord k) e = of_value (λ x. CellValue.WaitWord x.words.read) k (ap (λ x. CellValue.WaitWord x.read) (kept.words e))
    each (Cell.WriteWord k) e = of_value (λ x. CellValue.WaitWord x.words.write) k (ap (λ x. CellValue.WaitWord x.write) (kept.words e))
    each (Cell.ReadDeadline k) e = of_value (λ x. Time x.deadlines.read) k (ap (λ x. Time x.read) (kept.deadlines e))
    each (Cell.WriteDeadline k) e = of_value (λ x. Time x.deadlines.write) k (ap (λ x. Time x.write) (kept.deadlines e))
    each (Cell.ReadSequence k) e = of_value (λ x. Number x.sequences.read) k (ap (λ x. Number x.read) (kept.sequences e))
    each (Cell.WriteSequence k) e = of_value (λ x. Number x.sequences.write) k (ap (λ x. Number x.write) (kept.sequences e))
    each (Cell.DescriptorSequence k) e = of_value (λ x. Number x.fdseq) k (ap Number (kept.tag e))
    each (Cell.Info k) e = of_value (λ x. Number (summary x)) k (ap Number (kept.info e))
    each c e = refl

-- a row without timers has no heap entry
no_entries_more : (k : ℕ) (rows : List DescriptorRow) → entries_from k (map (λ row. row.timers) (rows ++ new_row ∷ [])) ≡ entries_from k (map (λ row. row.timers) rows)
no_entries_more k [] = refl
no_entries_more k (row ∷ rows) = ap (λ es. entries_at k row.timers ++ es) (no_entries_more (k + 1) rows)

-- true if these aspects include every aspect that a descriptor's cells have
pub record AreDescriptors (aspects : List Aspect) : Type 0 where
  pub words : is_among aspects WaitWords ≡ true
  pub deadlines : is_among aspects Deadlines ≡ true
  pub sequences : is_among aspects Sequences ≡ true
  pub tags : is_among aspects Tags ≡ true
  pub summaries : is_among aspects Summaries ≡ true

pub row_pushed : (aspects : List Aspect) (w : World) → AreDescriptors aspects → Leaves aspects w (record w { descriptors = w.descriptors ++ new_row ∷ [] })
row_pushed aspects w may = record { each = each }
  where
    entries : entries_of (w.descriptors ++ new_row ∷ []) ≡ entries_of w.descriptors
    entries = no_entries_more 0 w.descriptors

    each : (c : Cell) → is_among aspects (aspect_of c) ≡ false → cell (record w { descriptors = w.descriptors ++ new_row ∷ [] }) c ≡ cell w c
    each Cell.Timers e = ap (λ es. Number (length es)) entries
    each Cell.Least e = ap (λ es. value_or_absent (λ (x : Entry). Time x.timer.due) (least_of es)) entries
    each (Cell.ReadWord k) e = not_both _ may.words e
    each (Cell.WriteWord k) e = not_both _ may.words e
    each (Cell.ReadDeadline k) e = not_both _ may.deadlines e
    each (Cell.WriteDeadline k) e = not_both _ may.deadlines e
    each (Cell.ReadSequence k) e = not_both _ may.sequences e
    each (Cell.WriteSequence k) e = not_both _ may.sequences e
    each (Cell.DescriptorSequence k) e = not_both _ may.tags e
    each (Cell.Info k) e = not_both _ may.summaries e
    each c e = refl
