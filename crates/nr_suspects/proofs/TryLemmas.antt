-- A read or write is answered `Again` if and only if its socket doesn't have what the side waits
-- for.
use Rattle.std.proofs.Common.{◌≡◌, ℕ, ◌<◌, Bool, true, false, List, length, Some, None, Ok, refl, sym, ap, subst, ◌∙◌, arith}
use Rattle.std.specs.Prelude.{◌↔◌, ◌==◌, if◌then◌else◌, min, nat_lt, slice_get}
use Rattle.std.proofs.lemmas.Option.{none-some, same_Some}
use Rattle.nr_rev.specs.declared.answer.Answer.{Answer}
use Rattle.nr_rev.specs.declared.answer.Answer.TheVariants as answers
use Rattle.nr_rev.specs.declared.sides.Side.TheVariants.{Read, Write}
use Rattle.nr_rev.specs.declared.step.Step.{Step}
use Rattle.nr_rev.specs.Socket.{Socket, output_room, room_of}
use Rattle.nr_rev.specs.Step.{idle, outcome, read_answer, syswrite, sysread, write_answer}
use Rattle.nr_rev.specs.World.{World}
use Rattle.nr_rev.proofs.OutcomeLemmas.{Ends-refused_if}
use Rattle.nr_laws.proofs.AspectLemmas.{ComesTo, ComesTo-ok, ComesTo-any, ComesTo-bind, ComesTo-ends, ComesTo-then}
use Rattle.nr_laws.proofs.LookupLemmas.{Ends-sized, Ends-socket_of}
use Rattle.std.proofs.lemmas.Bool.{eqb-false}
use Rattle.nr_suspects.specs.declared.sleeper.Reason.{Reason}
use Rattle.nr_suspects.specs.declared.sleeper.Reason.TheVariants as why
use Rattle.nr_suspects.specs.Sleepers.{reason_of_socket, reason_to_read, reason_to_write}

positive : (n : ℕ) → 0 < n → nat_lt 0 n ≡ true
positive n some = grind (arith, some)

none_some : {A : Type 0} (why : Reason) → Some why ≡ None → A
none_some why e = absurd (none-some _ (sym e))

-- a read is answered `Again` if and only if there is no reason to wake a reader
got_or_again : (k bytes : ℕ) (a b closed : Bool) → nat_lt 0 k ≡ a → nat_lt 0 bytes ≡ b → a ≡ b → (read_answer k closed ≡ answers.Again) ↔ (reason_to_read bytes closed ≡ None)
got_or_again k bytes true true closed got there same = (
  λ e. absurd (differ (sym (ap (λ x. if x then answers.Got k else (if closed then answers.Eof else answers.Again)) got) ∙ e)),
  λ e. none_some why.Bytes (sym (ap (λ x. if x then Some why.Bytes else (if closed then Some why.End else None)) there) ∙ e),
)
  where
    differ : answers.Got k ≡ answers.Again → ⊥
    differ e = cc
got_or_again k bytes false false closed got there same = (
  λ e. ap (λ x. if x then Some why.Bytes else (if closed then Some why.End else None)) there
      ∙ ends closed (sym (ap (λ x. if x then answers.Got k else (if closed then answers.Eof else answers.Again)) got) ∙ e),
  λ e. ap (λ x. if x then answers.Got k else (if closed then answers.Eof else answers.Again)) got
      ∙ silent closed (sym (ap (λ x. if x then Some why.Bytes else (if closed then Some why.End else None)) there) ∙ e),
)
  where
    ends : (c : Bool) → (if c then answers.Eof else answers.Again) ≡ answers.Again → (if c then Some why.End else None) ≡ None
    ends true e = cc
    ends false e = refl

    silent : (c : Bool) → (if c then Some why.End else None) ≡ None → (if c then answers.Eof else answers.Again) ≡ answers.Again
    silent true e = none_some why.End e
    silent false e = refl
got_or_again k bytes true false closed got there same = cc
got_or_again k bytes false true closed got there same = cc

any_got : (n bytes : ℕ) → 0 < n → nat_lt 0 (min n bytes) ≡ nat_lt 0 bytes
any_got n bytes some = grind (arith, some)

read_answers : (w : World) (g s n : ℕ) (socket : Socket) → slice_get w.sockets s ≡ Some socket → ComesTo (λ (left : Answer × World). (left.0 ≡ answers.Again) ↔ (reason_of_socket Read socket ≡ None)) (sysread g s n w)
read_answers w g s n socket there =
    ComesTo-then (ComesTo-any (idle g w)) λ _.
    ComesTo-bind (ComesTo-ends (Ends-socket_of s w)) λ found at.
    ComesTo-then (ComesTo-ends (Ends-sized n w)) λ size.
    ComesTo-ok
    (subst (λ (x : Socket). (read_answer (min n (length found.buffers.read.bytes)) found.peer_closed ≡ answers.Again) ↔ (reason_of_socket Read x ≡ None)) (same_Some _ _ (sym at ∙ there))
    (got_or_again (min n (length found.buffers.read.bytes)) (length found.buffers.read.bytes) _ _ found.peer_closed refl refl (any_got n (length found.buffers.read.bytes) size.0)))

pub read_again : (w : World) (g s n : ℕ) (socket : Socket) (answer : Answer) (next : World) → slice_get w.sockets s ≡ Some socket → outcome w (Step.SysRead g s n) ≡ Ok (answer, next)
    → (answer ≡ answers.Again) ↔ (reason_of_socket Read socket ≡ None)
read_again w g s n socket answer next there is = (read_answers w g s n socket there).value (answer, next) is

-- a write is answered `Again` if and only if there is no reason to wake a writer
put_or_again : (k room : ℕ) (a b shut : Bool) → nat_lt 0 k ≡ a → nat_lt 0 room ≡ b → (shut ≡ false → a ≡ b) → (write_answer k shut ≡ answers.Again) ↔ (reason_to_write shut room ≡ None)
put_or_again k room a b true put there same = (λ e. cc, λ e. none_some why.Shut e)
put_or_again k room true true false put there same = (
  λ e. absurd (differ (sym (ap (λ x. if x then answers.Put k else answers.Again) put) ∙ e)),
  λ e. none_some why.Room (sym (ap (λ x. if x then Some why.Room else None) there) ∙ e),
)
  where
    differ : answers.Put k ≡ answers.Again → ⊥
    differ e = cc
put_or_again k room false false false put there same = (
  λ e. ap (λ x. if x then Some why.Room else None) there,
  λ e. ap (λ x. if x then answers.Put k else answers.Again) put,
)
put_or_again k room true false false put there same = let no = same refl in cc
put_or_again k room false true false put there same = let no = same refl in cc

any_put : (room count : ℕ) (shut : Bool) → (count == 0) ≡ false → shut ≡ false → nat_lt 0 (min (if shut then 0 else room) count) ≡ nat_lt 0 room
any_put room count true some e = cc
any_put room count false some e = let apart = eqb-false count 0 some in grind (arith, apart)

write_answers : (w : World) (g s : ℕ) (bytes : List ℕ) (socket : Socket) → slice_get w.sockets s ≡ Some socket → ComesTo (λ (left : Answer × World). (left.0 ≡ answers.Again) ↔ (reason_of_socket Write socket ≡ None)) (syswrite g s bytes w)
write_answers w g s bytes socket there =
    ComesTo-then (ComesTo-any (idle g w)) λ _.
    ComesTo-bind (ComesTo-ends (Ends-socket_of s w)) λ found at.
    ComesTo-then (ComesTo-ends (Ends-refused_if (length bytes == 0) _ refl)) λ some.
    ComesTo-ok
    (subst (λ (x : Socket). (write_answer (min (output_room found.shut found.buffers.write) (length bytes)) found.shut ≡ answers.Again) ↔ (reason_of_socket Write x ≡ None)) (same_Some _ _ (sym at ∙ there))
    (put_or_again (min (output_room found.shut found.buffers.write) (length bytes)) (room_of found.buffers.write) _ _ found.shut refl refl (any_put (room_of found.buffers.write) (length bytes) found.shut some)))

pub write_again : (w : World) (g s : ℕ) (bytes : List ℕ) (socket : Socket) (answer : Answer) (next : World) → slice_get w.sockets s ≡ Some socket → outcome w (Step.SysWrite g s bytes) ≡ Ok (answer, next)
    → (answer ≡ answers.Again) ↔ (reason_of_socket Write socket ≡ None)
write_again w g s bytes socket answer next there is = (write_answers w g s bytes socket there).value (answer, next) is
