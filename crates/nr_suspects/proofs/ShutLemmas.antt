-- A write side that is shut remains shut, and a write to it is answered `Pipe`.
use Rattle.std.proofs.Common.{◌≡◌, ◌≢◌, ◌⊎◌, inl, inr, ℕ, Bool, true, false, List, [], ◌∷◌, ◌++◌, length, set, Option, Some, None, Ok, Err, refl, sym, ap, ◌∙◌, zero, suc, arith}
use Rattle.std.specs.Prelude.{◌↔◌, ◌==◌, if◌then◌else◌, min, nat_lt, slice_get, take}
use Rattle.std.proofs.lemmas.List.{append-nil}
use Rattle.std.proofs.lemmas.Option.{same_Some}
use Rattle.nr_rev.specs.declared.answer.Answer.{Answer}
use Rattle.nr_rev.specs.declared.answer.Answer.TheVariants as answers
use Rattle.nr_rev.specs.declared.cell.Cell.{Cell}
use Rattle.nr_rev.specs.declared.cell_value.CellValue.{CellValue}
use Rattle.nr_rev.specs.declared.cell_value.CellValue.TheVariants.{Number}
use Rattle.nr_rev.specs.declared.sides.Side.TheVariants.{Write}
use Rattle.nr_rev.specs.declared.step.Step.{Step}
use Rattle.nr_rev.specs.Aspect.{can_change}
use Rattle.nr_rev.specs.Cell.{cell, value_or_absent}
use Rattle.nr_rev.specs.Kind.{kind_of}
use Rattle.nr_rev.specs.Lock.{bit}
use Rattle.nr_rev.specs.Refusing.{refused_if, refused_unless}
use Rattle.nr_rev.specs.Run.{next_of, world_after}
use Rattle.nr_rev.specs.Socket.{Socket, new_socket, output_room}
use Rattle.nr_rev.specs.Step.{Outcome, closewrite, idle, outcome, sized, sockopen, syswrite, with_buffer, write_answer}
use Rattle.nr_rev.specs.World.{World, with_socket}
use Rattle.nr_rev.proofs.ListUpdateLemmas.{slice_get-push_cases, slice_get-push_kept, slice_get-set_cases}
use Rattle.nr_laws.proofs.AspectLemmas.{ComesTo, ComesTo-ok, ComesTo-any, ComesTo-bind, ComesTo-ends, ComesTo-then}
use Rattle.nr_laws.proofs.AspectStepLemmas.{step_keeps_cell}
use Rattle.nr_laws.proofs.LookupLemmas.{Ends-socket_of}

-- the value of a write side's cell, from its socket
abbrev mark_in : Option Socket → CellValue
mark_in o = value_or_absent (λ (socket : Socket). Number (bit socket.shut)) o

-- the write side of socket s is shut
abbrev IsShut : World → ℕ → Type 0
IsShut w s = cell w (Cell.Shut s) ≡ Number 1

shut_of : (b : Bool) → Number (bit b) ≡ Number 1 → b ≡ true
shut_of true e = refl
shut_of false e = cc

-- ---- a write

pipe_of : (k : ℕ) (b shut : Bool) → nat_lt 0 k ≡ b → write_answer k shut ≡ answers.Pipe → shut ≡ true
pipe_of k b true put e = refl
pipe_of k true false put e = absurd (differ (sym (ap (λ x. if x then answers.Put k else answers.Again) put) ∙ e))
  where
    differ : answers.Put k ≡ answers.Pipe → ⊥
    differ e = cc
pipe_of k false false put e = absurd (differ (sym (ap (λ x. if x then answers.Put k else answers.Again) put) ∙ e))
  where
    differ : answers.Again ≡ answers.Pipe → ⊥
    differ e = cc

write_pipes : (w : World) (g s : ℕ) (bytes : List ℕ) → ComesTo (λ (left : Answer × World). (left.0 ≡ answers.Pipe) ↔ IsShut w s) (syswrite g s bytes w)
write_pipes w g s bytes =
    ComesTo-then (ComesTo-any (idle g w)) λ _.
    ComesTo-bind (ComesTo-ends (Ends-socket_of s w)) λ socket at.
    ComesTo-then (ComesTo-any (refused_if (length bytes == 0) _)) λ _.
    ComesTo-ok (by socket at (min (output_room socket.shut socket.buffers.write) (length bytes)))
  where
    by : (socket : Socket) → slice_get w.sockets s ≡ Some socket → (k : ℕ) → (write_answer k socket.shut ≡ answers.Pipe) ↔ IsShut w s
    by socket at k = (
      λ e. ap mark_in at ∙ ap (λ b. Number (bit b)) (pipe_of k (nat_lt 0 k) socket.shut refl e),
      λ e. ap (λ b. write_answer k b) (shut_of socket.shut (sym (ap mark_in at) ∙ e)),
    )

pub pipe_just_if : (w : World) (g s : ℕ) (bytes : List ℕ) (answer : Answer) (next : World) → outcome w (Step.SysWrite g s bytes) ≡ Ok (answer, next) → (answer ≡ answers.Pipe) ↔ (cell w (Cell.Shut s) ≡ Number 1)
pipe_just_if w g s bytes answer next is = (write_pipes w g s bytes).value (answer, next) is

-- writing the element that a place already has changes nothing
set_there : {A : Type 0} (xs : List A) (i : ℕ) (x : A) → slice_get xs i ≡ Some x → set xs i x ≡ xs
set_there [] i x at = refl
set_there (y ∷ xs) zero x at = ap (λ z. z ∷ xs) (sym (same_Some _ _ at))
set_there (y ∷ xs) (suc i) x at = ap (λ zs. y ∷ zs) (set_there xs i x at)

none_put : (n : ℕ) → min 0 n ≡ 0
none_put n = omega arith

puts_nothing : (w : World) (s : ℕ) (bytes : List ℕ) (socket : Socket) → slice_get w.sockets s ≡ Some socket → socket.shut ≡ true
    → with_socket s (with_buffer Write (socket.buffers.write.bytes ++ take (min (output_room socket.shut socket.buffers.write) (length bytes)) bytes) socket) w ≡ w
puts_nothing w s bytes socket at shut =
    ap (λ b. with_socket s (with_buffer Write (socket.buffers.write.bytes ++ take (min (output_room b socket.buffers.write) (length bytes)) bytes) socket) w) shut
    ∙ ap (λ k. with_socket s (with_buffer Write (socket.buffers.write.bytes ++ take k bytes) socket) w) (none_put (length bytes))
    ∙ ap (λ kept. with_socket s (with_buffer Write kept socket) w) (append-nil socket.buffers.write.bytes)
    ∙ ap (λ sockets. record w { sockets = sockets }) (set_there w.sockets s socket at)

write_keeps : (w : World) (g s : ℕ) (bytes : List ℕ) → ComesTo (λ (left : Answer × World). left.0 ≡ answers.Pipe → left.1 ≡ w) (syswrite g s bytes w)
write_keeps w g s bytes =
    ComesTo-then (ComesTo-any (idle g w)) λ _.
    ComesTo-bind (ComesTo-ends (Ends-socket_of s w)) λ socket at.
    ComesTo-then (ComesTo-any (refused_if (length bytes == 0) _)) λ _.
    ComesTo-ok (λ pipe. puts_nothing w s bytes socket at (pipe_of (min (output_room socket.shut socket.buffers.write) (length bytes)) _ socket.shut refl pipe))

pub pipe_keeps : (w : World) (g s : ℕ) (bytes : List ℕ) (next : World) → outcome w (Step.SysWrite g s bytes) ≡ Ok (answers.Pipe, next) → next ≡ w
pipe_keeps w g s bytes next is = (write_keeps w g s bytes).value (answers.Pipe, next) is refl

-- ---- what shuts

-- the write side of s is shut after a step if and only if it was shut before or the step shuts it
abbrev Follows : World → ℕ → Step → Outcome → Type 0
Follows w s step o = ComesTo (λ (left : Answer × World). IsShut left.1 s ↔ (IsShut w s ⊎ ((g : ℕ) × (step ≡ Step.CloseWrite g s)))) o

stays : (w : World) (s : ℕ) (step : Step) → can_change (kind_of step) (Cell.Shut s) ≡ false → ((g : ℕ) → step ≡ Step.CloseWrite g s → ⊥) → Follows w s step (outcome w step)
stays w s step cannot other = record {
  value = λ left is. let same = step_keeps_cell w step left.0 left.1 (Cell.Shut s) is cannot in (
    λ e. inl (sym same ∙ e),
    λ e. elim e [
      | inl was ↦ same ∙ was
      | inr shuts ↦ absurd (other shuts.0 shuts.1)
    ],
  );
}

pushed : (xs : List Socket) (rc wc s : ℕ) → mark_in (slice_get (xs ++ new_socket rc wc ∷ []) s) ≡ Number 1 ↔ mark_in (slice_get xs s) ≡ Number 1
pushed xs rc wc s = (λ e. down (slice_get (xs ++ new_socket rc wc ∷ []) s) refl e, λ e. up (slice_get xs s) refl e)
  where
    down : (o : Option Socket) → slice_get (xs ++ new_socket rc wc ∷ []) s ≡ o → mark_in (slice_get (xs ++ new_socket rc wc ∷ []) s) ≡ Number 1 → mark_in (slice_get xs s) ≡ Number 1
    down None at e = absurd (none (sym (ap mark_in at) ∙ e))
      where
        none : mark_in None ≡ Number 1 → ⊥
        none e = cc
    down (Some x) at e = elim (slice_get-push_cases xs (new_socket rc wc) x s at) [
      | inl there ↦ ap mark_in there ∙ sym (ap mark_in at) ∙ e
      | inr new ↦ absurd (fresh (ap (λ (y : Socket). Number (bit y.shut)) new.1 ∙ sym (ap mark_in at) ∙ e))
    ]
      where
        fresh : Number (bit false) ≡ Number 1 → ⊥
        fresh e = cc

    up : (o : Option Socket) → slice_get xs s ≡ o → mark_in (slice_get xs s) ≡ Number 1 → mark_in (slice_get (xs ++ new_socket rc wc ∷ []) s) ≡ Number 1
    up None at e = absurd (none (sym (ap mark_in at) ∙ e))
      where
        none : mark_in None ≡ Number 1 → ⊥
        none e = cc
    up (Some x) at e = ap mark_in (slice_get-push_kept xs (new_socket rc wc) x s at) ∙ sym (ap mark_in at) ∙ e

sockopen_follows : (w : World) (s rc wc : ℕ) → Follows w s (Step.SockOpen rc wc) (sockopen rc wc w)
sockopen_follows w s rc wc =
    ComesTo-then (ComesTo-any (refused_unless (nat_lt (length w.sockets) w.limits.sockets) _)) λ _.
    ComesTo-then (ComesTo-any (sized rc w)) λ _.
    ComesTo-then (ComesTo-any (sized wc w)) λ _.
    ComesTo-ok (
      λ e. inl ((pushed w.sockets rc wc s).0 e),
      λ e. elim e [
        | inl was ↦ (pushed w.sockets rc wc s).1 was
        | inr shuts ↦ absurd (other shuts.0 shuts.1)
      ],
    )
  where
    other : (g : ℕ) → Step.SockOpen rc wc ≡ Step.CloseWrite g s → ⊥
    other g e = cc

closewrite_follows : (w : World) (s g k : ℕ) → Follows w s (Step.CloseWrite g k) (closewrite g k w)
closewrite_follows w s g k =
    ComesTo-then (ComesTo-any (idle g w)) λ _.
    ComesTo-bind (ComesTo-ends (Ends-socket_of k w)) λ socket at.
    ComesTo-ok (by socket (slice_get-set_cases w.sockets k socket (record socket { shut = true }) s at))
  where
    same_socket : (h : ℕ) → Step.CloseWrite g k ≡ Step.CloseWrite h s → s ≡ k
    same_socket h e = cc

    by : (socket : Socket)
        → ((s ≡ k) × (slice_get (set w.sockets k (record socket { shut = true })) s ≡ Some (record socket { shut = true }))) ⊎ ((s ≢ k) × (slice_get (set w.sockets k (record socket { shut = true })) s ≡ slice_get w.sockets s))
        → IsShut (with_socket k (record socket { shut = true }) w) s ↔ (IsShut w s ⊎ ((h : ℕ) × (Step.CloseWrite g k ≡ Step.CloseWrite h s)))
    by socket (inl here) = (λ e. inr (g, ap (Step.CloseWrite g) (sym here.0)), λ e. ap mark_in here.1)
    by socket (inr there) = (
      λ e. inl (sym (ap mark_in there.1) ∙ e),
      λ e. elim e [
        | inl was ↦ ap mark_in there.1 ∙ was
        | inr shuts ↦ absurd (there.0 (same_socket shuts.0 shuts.1))
      ],
    )

-- the law for every kind of step
follows : (w : World) (s : ℕ) (step : Step) → Follows w s step (outcome w step)
follows w s (Step.SockOpen rc wc) = sockopen_follows w s rc wc
follows w s (Step.CloseWrite g k) = closewrite_follows w s g k
follows w s Step.Spawn = stays w s Step.Spawn refl (λ h e. cc)
follows w s (Step.Exit g) = stays w s (Step.Exit g) refl (λ h e. cc)
follows w s (Step.Arrive k bytes) = stays w s (Step.Arrive k bytes) refl (λ h e. cc)
follows w s (Step.PeerClose k) = stays w s (Step.PeerClose k) refl (λ h e. cc)
follows w s (Step.SysRead g k n) = stays w s (Step.SysRead g k n) refl (λ h e. cc)
follows w s (Step.SysWrite g k bytes) = stays w s (Step.SysWrite g k bytes) refl (λ h e. cc)
follows w s (Step.Drain k n) = stays w s (Step.Drain k n) refl (λ h e. cc)
follows w s (Step.Incref g k) = stays w s (Step.Incref g k) refl (λ h e. cc)
follows w s (Step.IncrefClose g k) = stays w s (Step.IncrefClose g k) refl (λ h e. cc)
follows w s (Step.Decref g k) = stays w s (Step.Decref g k) refl (λ h e. cc)
follows w s (Step.RwLock g k side) = stays w s (Step.RwLock g k side) refl (λ h e. cc)
follows w s (Step.RwUnlock g k side) = stays w s (Step.RwUnlock g k side) refl (λ h e. cc)
follows w s (Step.Acquire g) = stays w s (Step.Acquire g) refl (λ h e. cc)
follows w s (Step.Release g) = stays w s (Step.Release g) refl (λ h e. cc)
follows w s (Step.PollOpen g k) = stays w s (Step.PollOpen g k) refl (λ h e. cc)
follows w s (Step.PollClose g e) = stays w s (Step.PollClose g e) refl (λ h e. cc)
follows w s (Step.PollReset g e side) = stays w s (Step.PollReset g e side) refl (λ h e. cc)
follows w s (Step.WaitBegin g e side) = stays w s (Step.WaitBegin g e side) refl (λ h e. cc)
follows w s (Step.BlockArm g) = stays w s (Step.BlockArm g) refl (λ h e. cc)
follows w s (Step.BlockCheck g) = stays w s (Step.BlockCheck g) refl (λ h e. cc)
follows w s (Step.ParkCommit g) = stays w s (Step.ParkCommit g) refl (λ h e. cc)
follows w s (Step.BlockSwap g) = stays w s (Step.BlockSwap g) refl (λ h e. cc)
follows w s (Step.WaitCheck g) = stays w s (Step.WaitCheck g) refl (λ h e. cc)
follows w s (Step.SetDeadline g e mode x) = stays w s (Step.SetDeadline g e mode x) refl (λ h e. cc)
follows w s (Step.Evict g e) = stays w s (Step.Evict g e) refl (λ h e. cc)
follows w s (Step.PollEvent e tag mode error) = stays w s (Step.PollEvent e tag mode error) refl (λ h e. cc)
follows w s (Step.Tick x) = stays w s (Step.Tick x) refl (λ h e. cc)
follows w s Step.Pop = stays w s Step.Pop refl (λ h e. cc)
follows w s (Step.Fire i) = stays w s (Step.Fire i) refl (λ h e. cc)

pub shut_just_if : (w : World) (step : Step) (s : ℕ) (answer : Answer) (next : World) → outcome w step ≡ Ok (answer, next)
    → (cell next (Cell.Shut s) ≡ Number 1) ↔ ((cell w (Cell.Shut s) ≡ Number 1) ⊎ ((g : ℕ) × (step ≡ Step.CloseWrite g s)))
shut_just_if w step s answer next is = (follows w s step).value (answer, next) is

run_shut : (w : World) (s : ℕ) (steps : List Step) → IsShut w s → IsShut (world_after w steps) s
run_shut w s [] was = was
run_shut w s (step ∷ steps) was = run_shut (next_of w (outcome w step)) s steps (go (outcome w step) refl)
  where
    go : (o : Outcome) → outcome w step ≡ o → IsShut (next_of w o) s
    go (Ok left) e = ((follows w s step).value left e).1 (inl was)
    go (Err reason) e = was

pub after_shut_pipe : (w : World) (g h s : ℕ) (bytes : List ℕ) (steps : List Step) (first answer : Answer) (next last : World) → outcome w (Step.CloseWrite g s) ≡ Ok (first, next)
    → outcome (world_after next steps) (Step.SysWrite h s bytes) ≡ Ok (answer, last) → answer ≡ answers.Pipe
after_shut_pipe w g h s bytes steps first answer next last shuts writes =
    (pipe_just_if (world_after next steps) h s bytes answer last writes).1
    (run_shut next s steps ((shut_just_if w (Step.CloseWrite g s) s first next shuts).1 (inr (g, refl))))
