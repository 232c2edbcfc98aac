-- The laws that `Reversible` requires of a descriptor.
use Rattle.std.proofs.Common.{◌≡◌, ℕ, ◌+◌, ◌-◌, ◌^◌, ◌≤◌, ◌==◌, Bool, true, false, not, ◌&&◌, ◌||◌, nat_lt, ℤ, Result, Ok, Err, Some, None, sym, ap, ◌∙◌, lit≤}
use Rattle.std.specs.Prelude.{if◌then◌else◌}
use Rattle.std.specs.Ordering.{int_eq}
use Rattle.nr_rev.specs.declared.answer.Answer.{Answer}
use Rattle.nr_rev.specs.declared.descriptor.Descriptor.{Descriptor}
use Rattle.nr_rev.specs.declared.descriptor.WaitWord.{WaitWord}
use Rattle.nr_rev.specs.declared.refusal.Refusal.{Refusal}
use Rattle.nr_rev.specs.declared.sides.Mode.{Mode}
use Rattle.nr_rev.specs.declared.sides.Side.{Side}
use Rattle.nr_rev.specs.declared.sides.Side.TheVariants.{Read, Write}
use Rattle.nr_rev.specs.declared.sides.Sides.{Sides}
use Rattle.nr_rev.specs.declared.timer.TimerFunction.{TimerFunction}
use Rattle.nr_rev.specs.Sides.{of_side}
use Rattle.nr_rev.specs.Refusing.{◌>>=◌, ◌>>◌, out_of_memory, raised_sequence, refused_if, refused_unless}
use Rattle.nr_rev.specs.Descriptor.{Change, both_raised, change_by_deadline, change_by_evict, change_by_firing, check, deadline_from, is_combo, is_current, is_timed, opened_for, same_bool, timer_follows, with_deadlines}
use Rattle.nr_desc.specs.Code.{is_awaited}
use Rattle.nr_desc.specs.declared.op.DescAnswer.{DescAnswer}
use Rattle.nr_desc.specs.declared.op.DescOp.{DescOp}
use Rattle.nr_desc.specs.declared.op.DescOp.TheVariants as op
use Rattle.nr_desc.specs.declared.reversible.DescDelta.{DescDelta}
use Rattle.nr_desc.specs.declared.reversible.TheConstants.{MOST_WORDS}
use Rattle.nr_desc.specs.Delta.{DescBack}
use Rattle.nr_desc.specs.Desc.{DescFits}
use Rattle.nr_desc.specs.Op.{Outcome, armed_by, close, closed_by_words, left, opened, outcome, reset}
use Rattle.nr_desc.specs.Auxiliary.Op.{StepTo, desc_reason, refusal_of, woken_by}

-- a delta and the new descriptor determine the old descriptor
pub DescBack-unique : (delta : DescDelta) (new a b : Descriptor) → DescBack delta new a
    → DescBack delta new b → a ≡ b
DescBack-unique delta new a b p q = p ∙ sym q

-- an operation with a reason for refusal doesn't apply
pub refused_has_no_step : (old : Descriptor) (op : DescOp) (e : Refusal) (answer : DescAnswer)
    (new : Descriptor) → desc_reason old op ≡ Some e → StepTo old op answer new → ⊥
refused_has_no_step old op e answer new reason is =
    absurd (let none : Some e ≡ None = sym reason ∙ ap refusal_of is.defined in cc)

abbrev descriptor_in : Answer × Change → Descriptor
descriptor_in outcome = outcome.1.descriptor

-- an operation has exactly one outcome
pub steps_unique : (old : Descriptor) (op : DescOp) (a b : DescAnswer) (new other : Descriptor)
    → StepTo old op a new → StepTo old op b other → (a ≡ b) × (new ≡ other)
steps_unique old op a b new other p q =
    let ok : ◌≡◌ {A = Outcome} (Ok (left a new)) (Ok (left b other)) = sym p.defined ∙ q.defined in
    let outcomes : left a new ≡ left b other = cc in
    let same : new ≡ other = ap descriptor_in outcomes in
    let answers : a.answer ≡ b.answer = ap (λ (o : Answer × Change). o.0) outcomes in
    let orders : a.orders ≡ b.orders = ap (λ (o : Answer × Change). o.1.orders) outcomes in
    let woken : a.woken ≡ b.woken = p.woken ∙ ap (woken_by op old) same ∙ sym q.woken in
    (λ i. record { answer = answers i; orders = orders i; woken = woken i }, same)

-- the allowance of each operation is the maximum number of words
pub weight_is_within : (op : DescOp) → MOST_WORDS ≤ MOST_WORDS
weight_is_within op = lit≤ tt

-- true if the result isn't a refusal for lack of memory
abbrev NoMemory : {A : Type 0} → Result A Refusal → Type 0
NoMemory (Ok a) = Unit {0}
NoMemory (Err e) = e ≡ out_of_memory → ⊥

no_bind : {A B : Type 0} (r : Result A Refusal) (f : A → Result B Refusal) → NoMemory r
    → ((a : A) → NoMemory (f a)) → NoMemory (r >>= f)
no_bind (Ok a) f p q = q a
no_bind (Err e) f p q = p

no_then : {B : Type 0} (r : Result (Unit {0}) Refusal) (rest : Result B Refusal) → NoMemory r
    → NoMemory rest → NoMemory (r >> rest)
no_then (Ok a) rest p q = q
no_then (Err e) rest p q = p

no_if : {A : Type 0} (b : Bool) (r s : Result A Refusal) → NoMemory r → NoMemory s
    → NoMemory (if b then r else s)
no_if true r s p q = p
no_if false r s p q = q

no_unless : (b : Bool) (e : Refusal) → (e ≡ out_of_memory → ⊥) → NoMemory (refused_unless b e)
no_unless true e h = tt
no_unless false e h = h

no_refused_if : (b : Bool) (e : Refusal) → (e ≡ out_of_memory → ⊥) → NoMemory (refused_if b e)
no_refused_if true e h = h
no_refused_if false e h = tt

raised_no : (n : ℕ) → NoMemory (raised_sequence n)
raised_no n = no_then (refused_unless (nat_lt n (2 ^ 64 - 1)) Refusal.LastNumber) (Ok (n + 1))
    (no_unless (nat_lt n (2 ^ 64 - 1)) Refusal.LastNumber (λ h. cc)) tt

both_no : (s : Sides ℕ) → NoMemory (both_raised s)
both_no s = no_bind (raised_sequence s.read) _ (raised_no s.read)
    (λ read. no_bind (raised_sequence s.write) _ (raised_no s.write) (λ write. tt))

opened_no : (socket : ℕ) (d : Descriptor) → NoMemory (opened socket d)
opened_no socket d = no_bind (opened_for socket d) _
    (no_bind (both_raised d.sequences) _ (both_no d.sequences) (λ s. tt)) (λ left. tt)

close_no : (d : Descriptor) → NoMemory (close d)
close_no d =
    no_bind (closed_by_words d) _
    (no_then (refused_unless d.closing Refusal.CloseWithoutUnblock) _
    (no_unless d.closing Refusal.CloseWithoutUnblock (λ h. cc))
    (no_then (refused_if (is_awaited d.words.read || is_awaited d.words.write) Refusal.WaiterInside)
    _
    (no_refused_if (is_awaited d.words.read || is_awaited d.words.write) Refusal.WaiterInside
    (λ h. cc))
    (no_bind (raised_sequence d.fdseq) _ (raised_no d.fdseq) (λ n. tt))))
    (λ left. tt)

reset_no : (side : Side) (d : Descriptor) → NoMemory (reset side d)
reset_no side d =
    no_then (refused_if ((check side d == 0) && is_awaited (of_side side d.words))
    Refusal.WaiterInside) _
    (no_refused_if ((check side d == 0) && is_awaited (of_side side d.words)) Refusal.WaiterInside
    (λ h. cc)) tt

armed_no : (side : Side) (word : WaitWord) (d : Descriptor) → NoMemory (armed_by side word d)
armed_no side WaitWord.Nil d = tt
armed_no side WaitWord.Ready d = tt
armed_no side WaitWord.Wait d = λ h. cc
armed_no side (WaitWord.Held g) d = λ h. cc

follows_no : (side : Side) (old d : Descriptor) → NoMemory (timer_follows side old d)
follows_no side old d =
    no_if (not (of_side side d.running)) _ _ tt
    (no_if (int_eq (of_side side old.deadlines) (of_side side d.deadlines)
    && same_bool (is_combo old) (is_combo d)) _ _ tt
    (no_bind (raised_sequence (of_side side d.sequences)) _ (raised_no (of_side side d.sequences))
    (λ n. tt)))

deadline_no : (clock : ℤ) (mode : Mode) (t : ℤ) (d : Descriptor)
    → NoMemory (change_by_deadline clock mode t d)
deadline_no clock mode t d =
    no_if d.closing _ _ tt
    (no_bind (timer_follows Read d (with_deadlines mode (deadline_from clock t) d)) _
    (follows_no Read d (with_deadlines mode (deadline_from clock t) d))
    (λ read. no_bind (timer_follows Write d read.descriptor) _ (follows_no Write d read.descriptor)
    (λ write. tt)))

evict_no : (d : Descriptor) → NoMemory (change_by_evict d)
evict_no d =
    no_then (refused_if d.closing Refusal.AlreadyClosing) _
    (no_refused_if d.closing Refusal.AlreadyClosing (λ h. cc))
    (no_bind (both_raised d.sequences) _ (both_no d.sequences) (λ s. tt))

firing_no : (function : TimerFunction) (sequence : ℕ) (d : Descriptor)
    → NoMemory (change_by_firing function sequence d)
firing_no function sequence d =
    no_if (not (is_current function sequence d)) _ _ tt
    (no_then (refused_unless (is_timed function d) Refusal.CorruptedDescriptor) _
    (no_unless (is_timed function d) Refusal.CorruptedDescriptor (λ h. cc)) tt)

outcome_no : (d : Descriptor) (op : DescOp) → NoMemory (outcome d op)
outcome_no d (op.Open socket) = opened_no socket d
outcome_no d op.Close = close_no d
outcome_no d (op.Reset side) = reset_no side d
outcome_no d (op.Check side) = tt
outcome_no d (op.Arm side) = armed_no side (of_side side d.words) d
outcome_no d (op.Commit side g) = tt
outcome_no d (op.Swap side) = tt
outcome_no d (op.SetDeadline clock mode t) =
    no_bind (change_by_deadline clock mode t d) _ (deadline_no clock mode t d) (λ change. tt)
outcome_no d op.Evict = no_bind (change_by_evict d) _ (evict_no d) (λ change. tt)
outcome_no d (op.Fire function sequence) =
    no_bind (change_by_firing function sequence d) _ (firing_no function sequence d) (λ change. tt)
outcome_no d (op.Event tag mode error) = tt

never_memory : (o : Outcome) → NoMemory o → refusal_of o ≡ Some out_of_memory → ⊥
never_memory (Ok made) h is = cc
never_memory (Err e) h is = h cc

-- the reason why an operation doesn't apply is never lack of memory
pub memory_is_no_reason : (old : Descriptor) (op : DescOp) → DescFits old
    → desc_reason old op ≡ Some out_of_memory → ⊥
memory_is_no_reason old op fits is = never_memory (outcome old op) (outcome_no old op) is
