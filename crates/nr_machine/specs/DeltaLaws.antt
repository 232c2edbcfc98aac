-- Each undo has only one result.
use Rattle.std.proofs.Common.{◌≡◌, ℕ, ◌-◌, length, Bool, true, false, Option, Some, None, sym, ap, subst, ◌∙◌}
use Rattle.std.proofs.lemmas.Option.{same_Some}
use Rattle.std.specs.Prelude.{slice_set}
use Rattle.nr_rev.specs.declared.sides.Side.{Side}
use Rattle.nr_rev.specs.declared.sides.Sides.{Sides}
use Rattle.nr_rev.specs.declared.status.Status.{Status}
use Rattle.nr_rev.specs.declared.status.Status.TheVariants.{Swapping}
use Rattle.nr_gsema.specs.Table.{GoroutineTable}
use Rattle.nr_gsema.specs.ReversibleLaws as goroutine
use Rattle.nr_gsema.specs.declared.delta.GDelta.{GDelta}
use Rattle.nr_sockbuf.specs.Laws as sock
use Rattle.nr_sockbuf.specs.Delta.{LeadsBack as sock_back}
use Rattle.nr_sockbuf.specs.Sock.{SockParts}
use Rattle.nr_sockbuf.specs.declared.delta.SockDelta.{SockDelta}
use Rattle.nr_timers.specs.ReversibleLaws as timers
use Rattle.nr_timers.specs.State.{State}
use Rattle.nr_timers.specs.declared.delta.TimersDelta.{TimersDelta}
use Rattle.nr_machine.specs.declared.world_core.Core.{Core}
use Rattle.nr_machine.specs.declared.delta.DescUndo.{DescUndo}
use Rattle.nr_machine.specs.declared.delta.LockUndo.{LockUndo}
use Rattle.nr_machine.specs.declared.delta.WorldDelta.{WorldDelta}
use Rattle.nr_machine.specs.declared.delta.WorldUndo.{WorldUndo}
use Rattle.nr_machine.specs.declared.delta.WorldUndo.TheVariants.{Still, Goroutine, Locked, Sock, Opened, Made, Reopened, Closed, Described, Waited, Clock, Timers, Changed}
use Rattle.nr_machine.specs.Auxiliary.Changing.{DescBack, GoroutineBack, IfAny, LockBack, Same, Then, TimersBack, WakeBack, parked}
use Rattle.nr_machine.specs.Delta.{AddBack, GiveBack, MadeBack, ObeyBack, OfCore, ParkBack, SockBack, TakeBack, UndoBack, WokenBack, WorldBack}
use Rattle.nr_machine.specs.World.{WorldParts}

-- true if undoing has only one result for each state
abbrev pub LeadsToOne : {S : Type 0} → (S → S → Type 0) → Type 0
LeadsToOne {S} back = (new a b : S) → back new a → back new b → a ≡ b

-- if two undos have only one result each, so does their sequence
then_one : {S : Type 0} (first next : S → S → Type 0) → LeadsToOne first → LeadsToOne next
    → LeadsToOne (Then first next)
then_one {S} first next one two new a b x y =
    let mids : x.0 ≡ y.0 = one new x.0 y.0 x.1 y.1 in
    two y.0 a b (subst (λ (s : S). next s a) mids x.2) y.2

if_any_one : {A : Type 0} (back : A → Core → Core → Type 0) → ((a : A) → LeadsToOne (back a))
    → (o : Option A) → LeadsToOne (IfAny back o)
if_any_one back one None new a b x y = x ∙ sym y
if_any_one back one (Some v) new a b x y = one v new a b x y

goroutine_one : (delta : GDelta) → LeadsToOne (GoroutineBack delta)
goroutine_one delta new a b x y =
    x.1
    ∙ ap (λ (t : GoroutineTable). record new { goroutines = t })
    (goroutine.LeadsBack-unique delta new.goroutines a.goroutines b.goroutines x.0 y.0)
    ∙ sym y.1

timers_one : (delta : TimersDelta) → LeadsToOne (TimersBack delta)
timers_one delta new a b x y =
    x.1
    ∙ ap (λ (t : State). record new { timers = t })
    (timers.TimersBack-unique delta new.timers a.timers b.timers x.0 y.0)
    ∙ sym y.1

lock_one : (undo : LockUndo) → LeadsToOne (LockBack undo)
lock_one undo new a b x y = x ∙ sym y

pub desc_one : (undo : DescUndo) → LeadsToOne (DescBack undo)
desc_one undo new a b x y = x ∙ sym y

same_place : (g : ℕ) (new : Core) (d e : ℕ) (s t : Side)
    → ◌≡◌ {A = Option Status} (Some (Swapping d s)) (Some (Swapping e t))
    → parked g d s new ≡ parked g e t new
same_place g new d e s t is =
    let statuses : Swapping d s ≡ Swapping e t =
    same_Some (Swapping d s) (Swapping e t) is in
    let place : d ≡ e = cc in
    let side : s ≡ t = cc in
    ap (λ (n : ℕ). parked g n s new) place ∙ ap (λ (u : Side). parked g e u new) side

wake_one : (g : ℕ) → LeadsToOne (WakeBack g)
wake_one g new a b x y =
    x.rest ∙ same_place g new x.d y.d x.side y.side (sym x.there ∙ y.there) ∙ sym y.rest

park_one : (p : Bool) → LeadsToOne (ParkBack p)
park_one true new a b x y = x.1 ∙ sym y.1
park_one false new a b x y = x ∙ sym y

take_one : (d : ℕ) → LeadsToOne (TakeBack d)
take_one d new a b x y = x.1 ∙ sym y.1

of_core_one : (back : Core → Core → Type 0) → LeadsToOne back → LeadsToOne (OfCore back)
of_core_one back one new a b x y =
    let cores : a.core ≡ b.core = one new.core a.core b.core x.0 y.0 in
    let socks : a.socks ≡ b.socks = x.1 ∙ sym y.1 in
    λ i. record { core = cores i; socks = socks i }

sock_one : (s : ℕ) (delta : SockDelta) → LeadsToOne (SockBack s delta)
sock_one s delta new a b x y =
    let afters : x.after ≡ y.after = same_Some x.after y.after (sym x.there ∙ y.there) in
    let befores : x.before ≡ y.before =
    sock.LeadsBack-unique delta y.after x.before y.before
    (subst (λ (after : SockParts). sock_back delta after x.before) afters x.back) y.back in
    x.rest
    ∙ ap (λ (before : SockParts). record new { socks = slice_set new.socks s before }) befores
    ∙ sym y.rest

pub orders_one : (order : Option TimersDelta) → LeadsToOne (IfAny TimersBack order)
orders_one = if_any_one TimersBack timers_one

pub wakes_one : (woken : Option ℕ) → LeadsToOne (IfAny WakeBack woken)
wakes_one = if_any_one WakeBack wake_one

pub woken_one : (both : Sides (Option ℕ)) → LeadsToOne (WokenBack both)
woken_one both =
    then_one (IfAny WakeBack both.write) (IfAny WakeBack both.read) (wakes_one both.write)
    (wakes_one both.read)

-- an undo has only one result
pub UndoBack-unique : (undo : WorldUndo) → LeadsToOne (UndoBack undo)
UndoBack-unique Still = of_core_one Same (λ new a b x y. x ∙ sym y)
UndoBack-unique (Goroutine delta) = of_core_one (GoroutineBack delta) (goroutine_one delta)
UndoBack-unique (Locked lock moved) =
    of_core_one (Then (IfAny GoroutineBack moved) (LockBack lock))
    (then_one (IfAny GoroutineBack moved) (LockBack lock)
    (if_any_one GoroutineBack goroutine_one moved) (lock_one lock))
UndoBack-unique (Sock s delta) = sock_one s delta
UndoBack-unique (Opened delta) =
    λ new. then_one (OfCore AddBack) (SockBack (length new.core.locks.items - 1) delta)
    (of_core_one AddBack (λ n p q u v. u ∙ sym v))
    (sock_one (length new.core.locks.items - 1) delta) new
UndoBack-unique Made = of_core_one MadeBack (λ new a b x y. x ∙ sym y)
UndoBack-unique (Reopened desc) =
    of_core_one (Then (DescBack desc) (TakeBack desc.descriptor))
    (then_one (DescBack desc) (TakeBack desc.descriptor) (desc_one desc)
    (take_one desc.descriptor))
UndoBack-unique (Closed desc) =
    of_core_one (Then GiveBack (DescBack desc))
    (then_one GiveBack (DescBack desc) (λ new a b x y. x ∙ sym y) (desc_one desc))
UndoBack-unique (Described desc) = of_core_one (DescBack desc) (desc_one desc)
UndoBack-unique (Waited desc moved p) =
    of_core_one (Then (ParkBack p) (Then (GoroutineBack moved) (DescBack desc)))
    (then_one (ParkBack p) (Then (GoroutineBack moved) (DescBack desc)) (park_one p)
    (then_one (GoroutineBack moved) (DescBack desc) (goroutine_one moved) (desc_one desc)))
UndoBack-unique (Clock before) =
    of_core_one (λ new old. old ≡ record new { clock = before }) (λ new a b x y. x ∙ sym y)
UndoBack-unique (Timers delta) = of_core_one (TimersBack delta) (timers_one delta)
UndoBack-unique (Changed desc both woken) =
    of_core_one (Then (WokenBack woken) (Then (DescBack desc) (ObeyBack both)))
    (then_one (WokenBack woken) (Then (DescBack desc) (ObeyBack both)) (woken_one woken)
    (then_one (DescBack desc) (ObeyBack both) (desc_one desc)
    (then_one (IfAny TimersBack both.write) (IfAny TimersBack both.read) (orders_one both.write)
    (orders_one both.read))))

-- undoing a delta has only one result
pub WorldBack-unique : (delta : WorldDelta) (new a b : WorldParts) → WorldBack delta new a
    → WorldBack delta new b → a ≡ b
WorldBack-unique delta = UndoBack-unique delta.undo
