-- The laws that `Reversible` requires of timers.
use Rattle.std.proofs.Common.{◌≡◌, inl, inr, ℕ, ◌+◌, ◌-◌, ◌≤◌, false, List, [], ◌∷◌, ◌++◌, length, take, Some, refl, sym, ap, ◌∙◌, subst, arith, lit≤}
use Rattle.std.proofs.lemmas.Bool.Decides.{nat_tests}
use Rattle.std.proofs.lemmas.Int.{ints}
use Rattle.nr_rev.specs.declared.refusal.Refusal.{Refusal}
use Rattle.nr_rev.specs.Refusing.{out_of_memory}
use Rattle.nr_rev.specs.declared.timer.Entry.{Entry}
use Rattle.nr_timers.specs.declared.delta.TimersDelta.{TimersDelta}
use Rattle.nr_timers.specs.declared.delta.TimersUndo.{TimersUndo}
use Rattle.nr_timers.specs.declared.delta.TimersUndo.TheVariants.{Armed, Rearmed, Stopped, Still, Popped, Taken}
use Rattle.nr_timers.specs.declared.op.TimersOp.{TimersOp}
use Rattle.nr_timers.specs.declared.op.TimersOp.TheVariants.{Arm, Stop, Pop, TakeFiring}
use Rattle.nr_timers.specs.Order.{at, is_less, number}
use Rattle.nr_timers.specs.Change.{Inserted, Removed}
use Rattle.nr_timers.specs.Auxiliary.Change.{RemovedBack}
use Rattle.nr_timers.specs.ChangeLaws.{Distinct, Inserted-unique, Removed-unique}
use Rattle.nr_timers.specs.BackLaws.{InsertedBack-unique, RemovedBack-unique}
use Rattle.nr_timers.specs.Index.{key, key_of}
use Rattle.nr_timers.specs.State.{State, IsTimers}
use Rattle.nr_timers.specs.Step.{Clears, Makes, TimersStep}
use Rattle.nr_timers.specs.Auxiliary.Step.{timers_reason}
use Rattle.nr_timers.specs.Back.{TimersBack, UndoBack, with_timer, op_allowance}

-- if neither of two entries is less than the other, they have the same number
pub same_number : (a b : Entry) → is_less a b ≡ false → is_less b a ≡ false → number a ≡ number b
unfolding is_less number
same_number a b p q = grind (arith, ints, nat_tests)

pub IsTimers-distinct : (t : State) → IsTimers t → Distinct t.entries
IsTimers-distinct t h p q lt lt_q a b =
    h.numbered.entries_once p q lt lt_q (same_number (at t.entries p) (at t.entries q) a b)

Clears-unique : (t : State) (k : ℕ) (a b : List Entry) → IsTimers t → Clears k t.entries a
    → Clears k t.entries b → a ≡ b
Clears-unique t k a b h (inl x) (inl y) = x.0 ∙ sym y.0
Clears-unique t k a b h (inl x) (inr y) = absurd (x.1 y.0 y.2 y.3)
Clears-unique t k a b h (inr x) (inl y) = absurd (y.1 x.0 x.2 x.3)
Clears-unique t k a b h (inr x) (inr y) =
    let place : x.0 ≡ y.0 = h.keyed.once x.0 y.0 x.2 y.2 (x.3 ∙ sym y.3) in
    (Removed-unique t.entries y.0 x.1 y.1 a b (IsTimers-distinct t h)
    (subst (λ i. Removed t.entries i x.1 a) place x.4) y.4).1

-- an operation has only one resulting state
one_state : (old : State) (op : TimersOp) (new other : State) → IsTimers old → Makes old op new
    → Makes old op other → new ≡ other
one_state old (Arm d side due function sequence) new other h x y =
    let entry : Entry = record {
      descriptor = d;
      side = side;
      timer = record { due = due; number = old.next; function = function; sequence = sequence };
    }
    in
    let mids : x.places.0 ≡ y.places.0 =
    Clears-unique old (key entry) x.places.0 y.places.0 h x.places.1 y.places.1 in
    let put = x.places.2 in
    let put_too = y.places.2 in
    let same : new.entries ≡ other.entries =
    Inserted-unique y.places.0 entry put.0 put_too.0 new.entries other.entries
    (subst (λ (m : List Entry). Inserted m entry put.0 new.entries) mids put.1) put_too.1 in
    x.rest ∙ ap (λ es. record old { entries = es; next = old.next + 1 }) same ∙ sym y.rest
one_state old (Stop d side) new other h x y =
    x.rest ∙ ap (λ es. record old { entries = es })
    (Clears-unique old (key_of d side) new.entries other.entries h x.places y.places)
    ∙ sym y.rest
one_state old (Pop now) new other h x y =
    let same : new.entries ≡ other.entries =
    (Removed-unique old.entries 0 x.places.0 y.places.0 new.entries other.entries
    (IsTimers-distinct old h) x.places.1 y.places.1).1 in
    x.rest ∙ ap (λ es. record old { entries = es; firings = old.firings ++ at old.entries 0 ∷ [] })
    same ∙ sym y.rest
one_state old (TakeFiring place) new other h x y = x.rest ∙ sym y.rest

pub steps_unique : (old : State) (op : TimersOp) (a b : Unit {0}) (new other : State)
    → TimersStep old op a new → TimersStep old op b other → (a ≡ b) × (new ≡ other)
steps_unique old op a b new other x y = (refl, one_state old op new other x.0 x.1 y.1)

pub refused_has_no_step : (old : State) (op : TimersOp) (e : Refusal) (answer : Unit {0})
    (new : State) → timers_reason old op ≡ Some e → TimersStep old op answer new → ⊥
refused_has_no_step old (Arm d side due function sequence) e answer new r s =
    let a = s.1.descriptor in let b = s.1.number in grind (arith, nat_tests)
refused_has_no_step old (Stop d side) e answer new r s =
    let a = s.1.descriptor in grind (arith, nat_tests)
refused_has_no_step old (Pop now) e answer new r s =
    let a = s.1.some in let b = s.1.due in let c = s.1.room in grind (arith, nat_tests)
refused_has_no_step old (TakeFiring place) e answer new r s =
    let a = s.1.within in grind (arith, nat_tests)

pub memory_is_no_reason : (old : State) (op : TimersOp) → IsTimers old
    → timers_reason old op ≡ Some out_of_memory → ⊥
memory_is_no_reason old (Arm d side due function sequence) h r = grind (arith, nat_tests)
memory_is_no_reason old (Stop d side) h r = grind (arith, nat_tests)
memory_is_no_reason old (Pop now) h r = grind (arith, nat_tests)
memory_is_no_reason old (TakeFiring place) h r = grind (arith, nat_tests)

pub weight_is_within : (op : TimersOp) → op_allowance op ≤ 9
weight_is_within (Arm d side due function sequence) = lit≤ tt
weight_is_within (Stop d side) = lit≤ tt
weight_is_within (Pop now) = lit≤ tt
weight_is_within (TakeFiring place) = lit≤ tt

-- an undo and the new state determine the old state
pub UndoBack-unique : (delta : TimersUndo) (new a b : State) → UndoBack delta new a
    → UndoBack delta new b → a ≡ b
UndoBack-unique (Armed to) new a b x y =
    let next : a.next ≡ b.next = let p = x.number in let q = y.number in omega arith in
    let same = InsertedBack-unique to new.entries a.entries b.entries x.places y.places in
    x.rest ∙ ap (λ es. record new { entries = es; next = a.next }) same
    ∙ ap (λ n. record new { entries = b.entries; next = n }) next ∙ sym y.rest
UndoBack-unique (Rearmed to place last timer) new a b x y =
    let next : a.next ≡ b.next = let p = x.number in let q = y.number in omega arith in
    let mids = InsertedBack-unique to new.entries x.places.0 y.places.0 x.places.1 y.places.1 in
    let same = RemovedBack-unique place last (with_timer new.entries to timer) y.places.0 a.entries
    b.entries (subst (λ (m : List Entry). RemovedBack place last
    (with_timer new.entries to timer) m a.entries) mids x.places.2) y.places.2 in
    x.rest ∙ ap (λ es. record new { entries = es; next = a.next }) same
    ∙ ap (λ n. record new { entries = b.entries; next = n }) next ∙ sym y.rest
UndoBack-unique (Stopped place last entry) new a b x y =
    x.rest ∙ ap (λ es. record new { entries = es })
    (RemovedBack-unique place last entry new.entries a.entries b.entries x.places y.places)
    ∙ sym y.rest
UndoBack-unique Still new a b x y = x ∙ sym y
UndoBack-unique (Popped last) new a b x y =
    x.rest
    ∙ ap (λ es. record new { entries = es; firings = take (length new.firings - 1) new.firings })
    (RemovedBack-unique 0 last (at new.firings (length new.firings - 1)) new.entries a.entries
    b.entries x.places y.places)
    ∙ sym y.rest
UndoBack-unique (Taken place entry) new a b x y = x.rest ∙ sym y.rest

-- a delta and the new state determine the old state
pub TimersBack-unique : (delta : TimersDelta) (new a b : State) → TimersBack delta new a
    → TimersBack delta new b → a ≡ b
TimersBack-unique delta new a b x y = UndoBack-unique delta.undo new a b x y
