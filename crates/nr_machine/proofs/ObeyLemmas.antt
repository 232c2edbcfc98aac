-- The timers carry out orders with the same outcome as the machine.
use Rattle.std.proofs.Common.{◌≡◌, ◌≢◌, ℕ, ◌+◌, ◌-◌, ◌^◌, ◌<◌, Bool, true, false, List, [], ◌∷◌, ◌++◌, map, Option, Some, None, Result, Ok, Err, inl, inr, refl, sym, ap, ◌∙◌, arith}
use Rattle.std.proofs.lemmas.Bool.Decides.{nat_tests}
use Rattle.std.specs.Prelude.{if◌then◌else◌, nat_lt, option_to_list}
use Rattle.nr_rev.specs.declared.refusal.Refusal.{Refusal}
use Rattle.nr_rev.specs.declared.refusal.Refusal.TheVariants.{LastNumber, NoSuchDescriptor}
use Rattle.nr_rev.specs.declared.sides.Sides.{Sides}
use Rattle.nr_rev.specs.declared.timer.Timer.{Timer}
use Rattle.nr_rev.specs.declared.timer.TimerOrder.{TimerOrder}
use Rattle.nr_rev.specs.declared.timer.TimerOrder.TheVariants.{Arm, Stop}
use Rattle.nr_rev.specs.Refusing.{◌>>=◌, ◌>>◌, refused_unless}
use Rattle.nr_rev.specs.Reversible.{Refuses}
use Rattle.nr_rev.specs.Step.{after_order, after_orders}
use Rattle.nr_timers.specs.ReversibleLaws as timers
use Rattle.nr_timers.specs.State.{State}
use Rattle.nr_timers.specs.Step.{TimersStep}
use Rattle.nr_timers.specs.Auxiliary.Step.{TakesMemory, timers_reason}
use Rattle.nr_timers.specs.TimersOf.{timers_of}
use Rattle.nr_timers.specs.declared.delta.TimersDelta.{TimersDelta}
use Rattle.nr_machine.specs.declared.world_core.Core.{Core}
use Rattle.nr_machine.specs.Asked.{TimersMade, timers_op}
use Rattle.nr_machine.specs.Auxiliary.Changing.{IfAny, TimersBack}
use Rattle.nr_machine.specs.Continuing.{Obeyed, orders_outcome}

-- descriptor d's timers, and the next arming number
abbrev pub seen : ℕ → State → Sides (Option Timer) × ℕ
seen d t = (timers_of t.entries d, t.next)

-- the outcome of orders
abbrev Left : Type 0
Left = Result (Sides (Option Timer) × ℕ) Refusal

-- true if the timers of other descriptors, the firings, and the limit of descriptors are unchanged
pub record ChangesTimers (d : ℕ) (old new : State) : Type 0 where
  pub others : (k : ℕ) → k ≢ d → timers_of new.entries k ≡ timers_of old.entries k
  pub firings : new.firings ≡ old.firings
  pub room : new.descriptors ≡ old.descriptors

-- ---- one order

below_last : (n : ℕ) → n < 2 ^ 64 - 1 → nat_lt n (2 ^ 64 - 1) ≡ true
below_last n h = grind (arith, nat_tests)

-- an order that is carried out
order_leads : (d : ℕ) (old new : State) (order : TimerOrder) → TimersStep old (timers_op d order) tt new → after_order order (seen d old) ≡ Ok (seen d new)
order_leads d old new (Arm side due function sequence) step =
    let next : new.next ≡ old.next + 1 = ap (λ (t : State). t.next) step.1.rest in
    rw (below_last old.next step.1.number, step.1.timers.here, next) refl
order_leads d old new (Stop side) step =
    let next : new.next ≡ old.next = ap (λ (t : State). t.next) step.1.rest in
    rw (step.1.timers.here, next) refl

order_changes : (d : ℕ) (old new : State) (order : TimerOrder) → TimersStep old (timers_op d order) tt new → ChangesTimers d old new
order_changes d old new (Arm side due function sequence) step =
    record {
      others = step.1.timers.others;
      firings = ap (λ (t : State). t.firings) step.1.rest;
      room = ap (λ (t : State). t.descriptors) step.1.rest;
    }
order_changes d old new (Stop side) step =
    record {
      others = step.1.timers.others;
      firings = ap (λ (t : State). t.firings) step.1.rest;
      room = ap (λ (t : State). t.descriptors) step.1.rest;
    }

-- an order that is refused
arm_refused : {A B : Type 0} (below last : Bool) (e : Refusal) (a : A) (rest : A → Result B Refusal) → below ≡ true
    → (if below then (if last then None else Some LastNumber) else Some NoSuchDescriptor) ≡ Some e
    → ((refused_unless last LastNumber >> Ok a) >>= rest) ≡ Err e
arm_refused true true e a rest is reason = absurd cc
arm_refused true false e a rest is reason = cc
arm_refused false last e a rest is reason = absurd cc

stop_unrefused : (below : Bool) (e : Refusal) → below ≡ true → ◌≡◌ {A = Option Refusal} (if below then None else Some NoSuchDescriptor) (Some e) → ⊥
stop_unrefused true e is reason = cc
stop_unrefused false e is reason = cc

below_room : (d n : ℕ) → d < n → nat_lt d n ≡ true
below_room d n h = grind (arith, nat_tests)

reason_refuses : (d : ℕ) (old : State) (order : TimerOrder) (e : Refusal) → d < old.descriptors → timers_reason old (timers_op d order) ≡ Some e → after_order order (seen d old) ≡ Err e
reason_refuses d old (Arm side due function sequence) e below reason =
    arm_refused (nat_lt d old.descriptors) (nat_lt old.next (2 ^ 64 - 1)) e (old.next + 1) _ (below_room d old.descriptors below) reason
reason_refuses d old (Stop side) e below reason =
    absurd (stop_unrefused (nat_lt d old.descriptors) e (below_room d old.descriptors below) reason)

pub order_refused : (d : ℕ) (old : State) (order : TimerOrder) (e : Refusal) → d < old.descriptors → Refuses timers_reason TakesMemory old (timers_op d order) e
    → after_orders (order ∷ []) (seen d old) ≡ Err e
order_refused d old order e below (inl reason) =
    ap (λ (r : Left). r >>= after_orders []) (reason_refuses d old order e below reason)
order_refused d old order e below (inr none) = absurd none.2

-- ---- several orders

pub orders_lead : (d : ℕ) (orders : List TimerOrder) (old new : State) → TimersMade (map (timers_op d) orders) old new → after_orders orders (seen d old) ≡ Ok (seen d new)
orders_lead d [] old new made = ap (λ (t : State). Ok (seen d t)) (sym made)
orders_lead d (order ∷ orders) old new made =
    ap (λ (r : Left). r >>= after_orders orders) (order_leads d old made.0 order made.1) ∙ orders_lead d orders made.0 new made.2

changes_then : (d : ℕ) (a b c : State) → ChangesTimers d a b → ChangesTimers d b c → ChangesTimers d a c
changes_then d a b c p q =
    record {
      others = λ k apart. q.others k apart ∙ p.others k apart;
      firings = q.firings ∙ p.firings;
      room = q.room ∙ p.room;
    }

pub orders_change : (d : ℕ) (orders : List TimerOrder) (old new : State) → TimersMade (map (timers_op d) orders) old new → ChangesTimers d old new
orders_change d [] old new made =
    record {
      others = λ k apart. ap (λ (t : State). timers_of t.entries k) made;
      firings = ap (λ (t : State). t.firings) made;
      room = ap (λ (t : State). t.descriptors) made;
    }
orders_change d (order ∷ orders) old new made =
    changes_then d old made.0 new (order_changes d old made.0 order made.1) (orders_change d orders made.0 new made.2)

orders_append : (xs ys : List TimerOrder) (before : Sides (Option Timer) × ℕ) → after_orders (xs ++ ys) before ≡ (after_orders xs before >>= after_orders ys)
orders_append [] ys before = refl
orders_append (x ∷ xs) ys before =
    elim (after_order x before) as (λ (r : Left). (r >>= after_orders (xs ++ ys)) ≡ ((r >>= after_orders xs) >>= after_orders ys))
    [ Ok after ↦ orders_append xs ys after | Err e ↦ refl ]

-- ---- in the core

-- the read side's order is carried out, but the write side's is refused
pub second_refused : (d : ℕ) (read write : Option TimerOrder) (old mid : Core) (e : Refusal) → Obeyed old d (option_to_list read) mid → orders_outcome d (option_to_list write) mid ≡ Err e
    → orders_outcome d (option_to_list read ++ option_to_list write) old ≡ Err e
second_refused d read write old mid e first refused =
    orders_append (option_to_list read) (option_to_list write) (seen d old.timers)
    ∙ ap (λ (r : Left). r >>= after_orders (option_to_list write)) (orders_lead d (option_to_list read) old.timers mid.timers first.timers)
    ∙ refused

-- undoing an order has only one result
pub timers_again : (delta : Option TimersDelta) (new a b : Core) → IfAny TimersBack delta new a → IfAny TimersBack delta new b → a ≡ b
timers_again None new a b x y = x ∙ sym y
timers_again (Some delta) new a b x y =
    x.1 ∙ ap (λ (t : State). record new { timers = t }) (timers.TimersBack-unique delta new.timers a.timers b.timers x.0 y.0) ∙ sym y.1
