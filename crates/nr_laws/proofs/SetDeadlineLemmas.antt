-- setdeadline keeps a world well formed. It adjusts each side's timer, and unblocks a side if the
-- side's deadline is past.
use Rattle.std.proofs.Common.{lit<, pos, negsuc, ◌≡◌, ◌≢◌, ℕ, ◌+◌, ◌^◌, ◌<◌, ◌≤◌, ℤ, int_eq, Bool, true, false, not, ◌&&◌, List, [], ◌∷◌, ◌++◌, Option, Some, None, Result, Ok, Err, ◌⊎◌, inl, inr, refl, sym, ap, ap₂, subst, ◌∙◌, arith, true≢false}
use Rattle.std.proofs.lemmas.Option.{same_Some}
use Rattle.std.specs.Prelude.{slice_get, if◌then◌else◌, ◌≤ℤ◌, ◌-◌, nat_lt}
use Rattle.std.specs.Int.{int_min}
use Rattle.std.proofs.lemmas.Bool.{ltb-false}
use Rattle.nr_rev.specs.declared.sides.Side.{Side}
use Rattle.nr_rev.specs.declared.sides.Side.TheVariants.{Read, Write}
use Rattle.nr_rev.specs.declared.sides.Sides.{Sides}
use Rattle.nr_rev.specs.Sides.{of_side, names_side}
use Rattle.nr_rev.specs.Refusing.{◌>>=◌}
use Rattle.nr_rev.specs.declared.refusal.Refusal.{Refusal}
use Rattle.nr_rev.specs.declared.descriptor.DescriptorRow.{DescriptorRow}
use Rattle.nr_rev.specs.World.{World, is_free_number}
use Rattle.nr_rev.specs.WellFormed.{WellFormed, RowFits}
use Rattle.nr_laws.proofs.LookupLemmas.{Ends-idle_open}
use Rattle.nr_rev.specs.declared.sides.Mode.{Mode}
use Rattle.nr_rev.specs.declared.timer.TimerFunction.{TimerFunction}
use Rattle.nr_rev.specs.declared.timer.Timer.{Timer}
use Rattle.nr_rev.specs.Timer.{IsTime}
use Rattle.nr_rev.specs.declared.timer.TimerOrder.{TimerOrder}
use Rattle.nr_rev.specs.declared.timer.TimerOrder.TheVariants.{Arm}
use Rattle.nr_rev.specs.declared.descriptor.Descriptor.{Descriptor}
use Rattle.nr_rev.specs.Descriptor.{timer_function, quiet, is_combo, is_positive, is_expired, wants_timer, with_deadlines, deadline_from, change_by_deadline, and_then}
use Rattle.nr_rev.specs.Step.{after_change, after_order, after_orders, setdeadline}
use Rattle.nr_laws.proofs.TimersFitChangeLemmas.{TimersChanged, SideTimerKept, SideTimerReplaced, old_number, timers_unchanged}
use Rattle.nr_laws.proofs.TimerUpdateLemmas.{TimerUpdate, SequenceFresh, orders_of, timer_left, function_like, entry_fits, firing_fits, none_current, combo_fits}
use Rattle.nr_laws.proofs.TimerFollowsLemmas.{UpdatedBy, Ends-timer_follows}
use Rattle.nr_rev.proofs.SideLemmas.{each_side, of_side-with_side_same, of_side-with_side_other}
use Rattle.nr_laws.proofs.DescriptorChangeLemmas.{changed_keeps}
use Rattle.nr_rev.proofs.OutcomeLemmas.{Ends, KeepsFor, Ends-ok, Ends-refused, Ends-map, Ends-bind, Ends-either, Ends-raised_sequence}

combo_alike : (a b : Descriptor) → a.deadlines ≡ b.deadlines → is_combo a ≡ is_combo b
combo_alike a b e = ap (λ (x : Sides ℤ). is_positive x.read && int_eq x.read x.write) e

wants_alike : (side : Side) (a b : Descriptor) → a.deadlines ≡ b.deadlines → wants_timer side a ≡ wants_timer side b
wants_alike Read a b e = ap (λ (x : Sides ℤ). is_positive x.read) e
wants_alike Write a b e = ap (λ (x : Sides ℤ). is_positive x.write && not (is_positive x.read && int_eq x.read x.write)) e

function_alike : (side : Side) (a b : Descriptor) → a.deadlines ≡ b.deadlines → timer_function side a ≡ timer_function side b
function_alike side a b e = function_like side b a (combo_alike a b e)

-- the timer that a side has after an update doesn't depend on the other side
pub followed_alike : (side : Side) (old a b : Descriptor) (orders : List TimerOrder) → b.deadlines ≡ a.deadlines → of_side side b.running ≡ of_side side a.running
    → of_side side b.sequences ≡ of_side side a.sequences → UpdatedBy side old a orders → UpdatedBy side old b orders
followed_alike side old a b orders d r q (TimerUpdate.Kept sequence running same, none) =
    (TimerUpdate.Kept (q ∙ sequence) (r ∙ running) (λ on. (ap (of_side side) d ∙ (same on).0, combo_alike b a d ∙ (same on).1)), none)
followed_alike side old a b orders d r q (TimerUpdate.Armed begun running wants, armed) = (
  TimerUpdate.Armed (elim begun [ inl rest ↦ inl (rest.0, q ∙ rest.1) | inr raised ↦ inr (q ∙ raised) ]) (r ∙ running) (wants_alike side b a d ∙ wants),
  armed ∙ orders_alike (of_side side a.deadlines) (of_side side b.deadlines) (timer_function side a) (timer_function side b) (of_side side a.sequences) (of_side side b.sequences)
      (sym (ap (of_side side) d)) (sym (function_alike side b a d)) (sym q),
)
  where
    orders_alike : (x x' : ℤ) (f f' : TimerFunction) (n n' : ℕ) → x ≡ x' → f ≡ f' → n ≡ n' → ◌≡◌ {A = List TimerOrder} (Arm side x f n ∷ []) (Arm side x' f' n' ∷ [])
    orders_alike x x' f f' n n' e e' e'' = cc
followed_alike side old a b orders d r q (TimerUpdate.Stopped raised halted, stop) = (TimerUpdate.Stopped (q ∙ raised) (r ∙ halted), stop)

-- a side's orders turn the timers `before` into `after`, and raise the next arming number from n to m
pub record OrdersDone (side : Side) (old new : Descriptor) (before after : Sides (Option Timer)) (n m : ℕ) : Type 0 where
  pub update : TimerUpdate side old new
  pub timer : of_side side after ≡ timer_left side old new (of_side side before) n update
  pub other : (s : Side) → s ≢ side → of_side s after ≡ of_side s before
  pub number : (t : Timer) → timer_left side old new None n update ≡ Some t → (t.number ≡ n) × (n < m)
  pub rises : n ≤ m
  pub range : n < 2 ^ 64 → m < 2 ^ 64

abbrev OrdersEnd : Side → Descriptor → Descriptor → Sides (Option Timer) → ℕ → List TimerOrder → Type 0
OrdersEnd side old new before n orders = Ends (λ (left : Sides (Option Timer) × ℕ). OrdersDone side old new before left.0 n left.1) (after_orders orders (before, n))

-- carrying out the orders of a side
Ends-update : (side : Side) (old new : Descriptor) (before : Sides (Option Timer)) (n : ℕ) (update : TimerUpdate side old new) → OrdersEnd side old new before n (orders_of side old new update)
Ends-update side old new before n (TimerUpdate.Kept sequence running same) =
    Ends-ok (record { update = TimerUpdate.Kept sequence running same; timer = refl; other = λ s apart. refl; number = λ t is. cc; rises = omega arith; range = λ b. b })
Ends-update side old new before n (TimerUpdate.Armed begun running wants) =
    Ends-bind {P = λ (left : Sides (Option Timer) × ℕ). OrdersDone side old new before left.0 n left.1}
    (Ends-bind (Ends-raised_sequence n) λ next raised.
    let up : next ≡ n + 1 = raised.0 in
    Ends-ok (record {
      update = TimerUpdate.Armed begun running wants;
      timer = of_side-with_side_same side _ before;
      other = λ s apart. of_side-with_side_other s side _ before apart;
      number = λ t is. (ap (λ (x : Timer). x.number) (sym (same_Some _ _ is)), omega arith);
      rises = omega arith;
      range = λ _. raised.1;
    }))
    λ left p. Ends-ok p
Ends-update side old new before n (TimerUpdate.Stopped raised halted) =
    Ends-ok (record {
      update = TimerUpdate.Stopped raised halted;
      timer = of_side-with_side_same side None before;
      other = λ s apart. of_side-with_side_other s side None before apart;
      number = λ t is. cc;
      rises = omega arith;
      range = λ b. b;
    })

pub Ends-updated_by : (side : Side) (old new : Descriptor) (before : Sides (Option Timer)) (n : ℕ) (orders : List TimerOrder) → UpdatedBy side old new orders → OrdersEnd side old new before n orders
Ends-updated_by side old new before n orders (update, is) = subst (OrdersEnd side old new before n) (sym is) (Ends-update side old new before n update)

-- If a side has timer t after an update, then either the side had t before, or the update gives it
-- t even if it had no timer before.
old_or_new : (side : Side) (old new : Descriptor) (before : Option Timer) (n : ℕ) (update : TimerUpdate side old new) (t : Timer) → timer_left side old new before n update ≡ Some t
    → (before ≡ Some t) ⊎ (timer_left side old new None n update ≡ Some t)
old_or_new side old new before n (TimerUpdate.Kept sequence running same) t is = inl is
old_or_new side old new before n (TimerUpdate.Armed begun running wants) t is = inr is
old_or_new side old new before n (TimerUpdate.Stopped raised halted) t is = inr is

-- two computations that begin alike and continue differently
Ends-after : {A B C : Type 0} {P : B → Type 0} {Q : C → Type 0} (m : Result A Refusal) {f : A → Result B Refusal} {g : A → Result C Refusal} → Ends P (m >>= f)
    → ((a : A) → Ends P (f a) → Ends Q (g a)) → Ends Q (m >>= g)
Ends-after (Ok a) first next = next a first
Ends-after (Err reason) first next = Ends-refused (first.given reason refl)

-- carrying out two lists of orders in turn
pub Ends-append : {P Q : Sides (Option Timer) × ℕ → Type 0} (xs ys : List TimerOrder) (before : Sides (Option Timer) × ℕ) → Ends P (after_orders xs before)
    → ((mid : Sides (Option Timer) × ℕ) → P mid → Ends Q (after_orders ys mid)) → Ends Q (after_orders (xs ++ ys) before)
Ends-append [] ys before first next = next before (first.value before refl)
Ends-append (x ∷ xs) ys before first next = Ends-after (after_order x before) first λ a first. Ends-append xs ys a first next

-- both sides' timers are adjusted, so the row's timers change
module _ (w : World) (d : ℕ) (row : DescriptorRow) (new : Descriptor) (first last : Sides (Option Timer)) (k m : ℕ) (h : WellFormed w) (at : slice_get w.descriptors d ≡ Some row)
    (read : OrdersDone Read row.descriptor new row.timers first w.next_arming k) (write : OrdersDone Write row.descriptor new first last k m) where
  reads_apart : Read ≢ Write
  reads_apart e = cc

  writes_apart : Write ≢ Read
  writes_apart e = cc

  abbrev after : DescriptorRow
  after = record { descriptor = new; timers = last }

  abbrev update_of : (side : Side) → TimerUpdate side row.descriptor new
  update_of Read = read.update
  update_of Write = write.update

  -- the next arming number before a side's orders
  abbrev number_of : Side → ℕ
  number_of Read = w.next_arming
  number_of Write = k

  left_of : (side : Side) → of_side side last ≡ timer_left side row.descriptor new (of_side side row.timers) (number_of side) (update_of side)
  left_of Read = write.other Read reads_apart ∙ read.timer
  left_of Write = write.timer ∙ ap (λ t. timer_left Write row.descriptor new t k write.update) (read.other Write writes_apart)

  range_of : (side : Side) (t : Timer) → timer_left side row.descriptor new None (number_of side) (update_of side) ≡ Some t → (w.next_arming ≤ t.number) × (t.number < m)
  range_of Read t is = let n = read.number t is in let a = n.0 in let b = n.1 in let u = write.rises in (omega arith, omega arith)
  range_of Write t is = let n = write.number t is in let a = n.0 in let b = n.1 in let u = read.rises in (omega arith, omega arith)

  -- the timer of this side is replaced
  begins : (side : Side) → SequenceFresh side row.descriptor new → ((t : Timer) → of_side side last ≡ Some t → (w.next_arming ≤ t.number) × (t.number < m))
      → SideTimerReplaced side row after w.next_arming m
  begins side begun number =
      record {
        stale = λ e same f now. none_current e row.descriptor new (subst (λ s. SequenceFresh s row.descriptor new) (sym same) begun) f (now ∙ ap (λ s. of_side s new.sequences) (sym same));
        number = number;
      }

  side_of : (side : Side) → SideTimerKept side row after ⊎ SideTimerReplaced side row after w.next_arming m
  side_of side = go (update_of side) (left_of side) (range_of side)
    where
      go : (update : TimerUpdate side row.descriptor new) → of_side side last ≡ timer_left side row.descriptor new (of_side side row.timers) (number_of side) update
          → ((t : Timer) → timer_left side row.descriptor new None (number_of side) update ≡ Some t → (w.next_arming ≤ t.number) × (t.number < m))
          → SideTimerKept side row after ⊎ SideTimerReplaced side row after w.next_arming m
      go (TimerUpdate.Kept sequence running same) left range = inl (record { timer = left; sequence = sequence })
      go (TimerUpdate.Armed begun running wants) left range = inr (begins side begun (λ t is. range t (sym left ∙ is)))
      go (TimerUpdate.Stopped raised halted) left range = inr (begins side (inr raised) (λ t is. range t (sym left ∙ is)))

  -- a side's timer with a new number was armed by the orders for that side
  ordered : (side : Side) (t : Timer) → of_side side last ≡ Some t → w.next_arming ≤ t.number → timer_left side row.descriptor new None (number_of side) (update_of side) ≡ Some t
  ordered side t is new_number =
      elim (old_or_new side row.descriptor new (of_side side row.timers) (number_of side) (update_of side) t (sym (left_of side) ∙ is)) [
        | inl old ↦ let o : t.number < w.next_arming = old_number w.descriptors w.firings w.next_arming d row side t at old h.timers in absurd (omega arith)
        | inr ordered_now ↦ ordered_now
      ]

  -- if both sides have new timers, the read timer has the lower number
  numbers_apart : (a b : Timer) → last.read ≡ Some a → last.write ≡ Some b → w.next_arming ≤ a.number → w.next_arming ≤ b.number → a.number < b.number
  numbers_apart a b is_a is_b new_a new_b =
      let x = read.number a (ordered Read a is_a new_a) in
      let y = write.number b (ordered Write b is_b new_b) in
      let below : w.next_arming < k = x.1 in
      let a_is : a.number ≡ w.next_arming = x.0 in
      let b_is : b.number ≡ k = y.0 in
      omega arith

  apart_of : (s t : Side) (a b : Timer) → of_side s last ≡ Some a → of_side t last ≡ Some b → w.next_arming ≤ a.number → a.number ≡ b.number → s ≡ t
  apart_of Read Read a b is_a is_b n same = refl
  apart_of Write Write a b is_a is_b n same = refl
  apart_of Read Write a b is_a is_b n same = let lower = numbers_apart a b is_a is_b n (omega arith) in absurd (omega arith)
  apart_of Write Read a b is_a is_b n same = let lower = numbers_apart b a is_b is_a (omega arith) n in absurd (omega arith)

  pub both_followed : new.closing ≡ false → ((side : Side) → of_side side new.sequences < 2 ^ 64) → new.fdseq < 2 ^ 64 → ((side : Side) → IsTime (of_side side new.deadlines))
      → TimersChanged w.firings d row (record { descriptor = new; timers = last }) w.next_arming m
  both_followed still_open bounds fdseq times =
      let fits : RowFits row = h.timers.entries_fit d row at in
      let r = read.rises in
      let c = write.rises in
      record {
        fits =
            record {
              entries = λ side timer is. entry_fits side row.descriptor new (of_side side row.timers) (number_of side) timer (update_of side) (fits.entries side) (sym (left_of side) ∙ is);
              combo = combo_fits row.descriptor new write.update fits.combo;
              closing = λ e. absurd (true≢false (sym e ∙ still_open));
              sequences = bounds;
              fdseq = fdseq;
              times = times;
            };
        firing = λ i e _ _ f. firing_fits e row.descriptor new (update_of e.side) f;
        sides = side_of;
        apart = apart_of;
        rises = omega arith;
        in_range = write.range (read.range h.timers.in_range);
      }

-- capping a time at the greatest time gives a time
min_is_time : (n : ℕ) → IsTime (int_min (pos n) (pos (2 ^ 63 - 1)))
min_is_time n = go (nat_lt (2 ^ 63 - 1) n) refl
  where
    go : (b : Bool) → nat_lt (2 ^ 63 - 1) n ≡ b → IsTime (if b then pos (2 ^ 63 - 1) else pos n)
    go true e = record { sfits = lit< tt }
    go false e = let most : n ≤ 2 ^ 63 - 1 = ltb-false (2 ^ 63 - 1) n e in record { sfits = omega arith }

either_time : (b : Bool) (s t : ℤ) → IsTime s → IsTime t → IsTime (if b then s else t)
either_time true s t first second = first
either_time false s t first second = second

-- the deadline that a call sets or clears is a time
deadline_is_time : (clock t : ℤ) → pos 0 ≤ℤ clock → IsTime t → IsTime (deadline_from clock t)
deadline_is_time (pos c) (pos k) begun is_time = either_time (is_positive (pos k)) _ (pos k) (min_is_time (c + k)) is_time
deadline_is_time (pos c) (negsuc k) begun is_time = is_time
deadline_is_time (negsuc c) t begun is_time = absurd begun.le

set_times : (mode : Mode) (t : ℤ) (d : Descriptor) → IsTime t → ((side : Side) → IsTime (of_side side d.deadlines)) → (side : Side) → IsTime (of_side side (with_deadlines mode t d).deadlines)
set_times mode t d is_time old Read = either_time (names_side mode Read) t d.deadlines.read is_time (old Read)
set_times mode t d is_time old Write = either_time (names_side mode Write) t d.deadlines.write is_time (old Write)

pub setdeadline_sound : (w : World) (g d : ℕ) (mode : Mode) (t : ℤ) → WellFormed w → KeepsFor (IsTime t) (setdeadline g d mode t w)
setdeadline_sound w g d mode t h =
    Ends-idle_open g d w λ row _ at is_open.
    Ends-bind (sets row at is_open) λ change keeps.
    Ends-bind keeps λ next fits.
    Ends-ok fits
  where
    sets : (row : DescriptorRow) → slice_get w.descriptors d ≡ Some row → is_free_number d w.free ≡ false
        → Ends (λ change. Ends (λ next. IsTime t → WellFormed next) (after_change d row change w)) (change_by_deadline w.clock mode t row.descriptor)
    sets row at is_open =
        let fits : RowFits row = h.timers.entries_fit d row at in
        Ends-either row.descriptor.closing
        (λ _.
        Ends-ok
        (changed_keeps w d row (quiet row.descriptor) false false false h at is_open refl refl
        (Ends-ok λ _. timers_unchanged w.descriptors w.firings w.next_arming d row row at refl refl fits (λ i f _ _ x. x) h.timers)))
        (λ still_open.
        Ends-bind (Ends-timer_follows Read row.descriptor (with_deadlines mode (deadline_from w.clock t) row.descriptor) refl refl) λ read a.
        Ends-bind (Ends-timer_follows Write row.descriptor read.descriptor (a.1.sequences Write (λ e. cc)) (a.1.running Write (λ e. cc))) λ write b.
        Ends-ok
        (changed_keeps w d row (and_then read (λ _. write)) (is_expired Read write.descriptor) (is_expired Write write.descriptor) false h at is_open
        (ap₂ (λ (xs ys : List ℕ). xs ++ ys) a.1.woken b.1.woken) (b.1.words ∙ a.1.words)
        (Ends-append read.orders write.orders (row.timers, w.next_arming)
        (Ends-updated_by Read row.descriptor write.descriptor row.timers w.next_arming read.orders
        (followed_alike Read row.descriptor read.descriptor write.descriptor read.orders b.1.deadlines (b.1.running Read (λ e. cc)) (b.1.sequences Read (λ e. cc)) a.0))
        λ mid read_obeyed.
        Ends-map (Ends-updated_by Write row.descriptor write.descriptor mid.0 mid.1 write.orders b.0) λ left write_obeyed is_time.
        both_followed w d row write.descriptor mid.0 left.0 mid.1 left.1 h at read_obeyed write_obeyed
        (b.1.closing ∙ a.1.closing ∙ still_open)
        (each_side _
        (subst (λ n. n < 2 ^ 64) (sym (b.1.sequences Read (λ e. cc))) (a.1.bound (fits.sequences Read)))
        (b.1.bound (subst (λ n. n < 2 ^ 64) (sym (a.1.sequences Write (λ e. cc))) (fits.sequences Write))))
        (subst (λ n. n < 2 ^ 64) (sym (b.1.fdseq ∙ a.1.fdseq)) fits.fdseq)
        (λ side.
        subst (λ (both : Sides ℤ). IsTime (of_side side both)) (sym (b.1.deadlines ∙ a.1.deadlines))
        (set_times mode (deadline_from w.clock t) row.descriptor (deadline_is_time w.clock t h.clock.begun is_time) fits.times side)))))
