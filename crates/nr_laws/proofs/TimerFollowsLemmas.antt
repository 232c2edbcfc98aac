-- What timer_follows does to a side's timer when a deadline is set, and what it doesn't change.
use Rattle.std.proofs.Common.{◌≡◌, ◌≢◌, ℕ, ℤ, cond, Result, Ok, Err, ◌+◌, ◌^◌, ◌<◌, Bool, true, false, not, ◌&&◌, List, [], ◌⊎◌, inl, inr, refl, sym, ap, subst, ◌∙◌, true≢false, int_eq}
use Rattle.std.proofs.lemmas.Bool.Decides.{Decides-int_eq}
use Rattle.std.specs.Prelude.{if◌then◌else◌}
use Rattle.nr_rev.specs.declared.refusal.Refusal.{Refusal}
use Rattle.nr_rev.specs.declared.sides.Mode.{Mode}
use Rattle.nr_rev.specs.declared.sides.Side.{Side}
use Rattle.nr_rev.specs.declared.sides.Side.TheVariants.{Read, Write}
use Rattle.nr_rev.specs.Refusing.{◌>>=◌}
use Rattle.nr_rev.specs.declared.sides.Sides.{Sides}
use Rattle.nr_rev.specs.Sides.{of_side, with_side}
use Rattle.nr_rev.specs.declared.timer.TimerOrder.{TimerOrder}
use Rattle.nr_rev.specs.declared.descriptor.Descriptor.{Descriptor}
use Rattle.nr_rev.specs.Descriptor.{Change, and_then, change_by_deadline, deadline_from, expired_unblocked, quiet, is_combo, same_bool, timer_function, wants_timer, timer_reset, timer_follows, with_deadlines}
use Rattle.nr_rev.specs.Auxiliary.Descriptor.{both_follow}
use Rattle.nr_rev.proofs.OutcomeLemmas.{Ends, Ends-ok, Ends-bind, Ends-either, Ends-raised_sequence}
use Rattle.nr_laws.proofs.BoolLemmas.{both_true, not_true}
use Rattle.nr_laws.proofs.TimerUpdateLemmas.{TimerUpdate, Kept, Armed, Stopped, SequenceFresh, orders_of}
use Rattle.nr_rev.proofs.SideLemmas.{each_side, of_side-with_side_same, of_side-with_side_other}

-- a side's timer afterwards, and the orders for it
abbrev pub UpdatedBy : Side → Descriptor → Descriptor → List TimerOrder → Type 0
UpdatedBy side old new orders = (update : TimerUpdate side old new) × (orders ≡ orders_of side old new update)

same_bool_true : (a b : Bool) → same_bool a b ≡ true → b ≡ a
same_bool_true true true e = refl
same_bool_true true false e = cc
same_bool_true false true e = cc
same_bool_true false false e = refl

-- a timer may be reset if it didn't run and is needed, or if its sequence was incremented
abbrev MayReset : Side → Descriptor → Descriptor → Type 0
MayReset side old d =
    ((of_side side old.running ≡ false) × (of_side side d.sequences ≡ of_side side old.sequences) × (wants_timer side d ≡ true))
    ⊎ (of_side side d.sequences ≡ of_side side old.sequences + 1)

-- the facts about the sequence if the timer is armed
begun : (side : Side) (old d : Descriptor) → MayReset side old d → SequenceFresh side old d
begun side old d (inl (stopped, same, wanted)) = inl (stopped, same)
begun side old d (inr raised) = inr raised

halted : (side : Side) (old d : Descriptor) → MayReset side old d → wants_timer side d ≡ false → of_side side d.sequences ≡ of_side side old.sequences + 1
halted side old d (inl (stopped, same, wanted)) e = absurd (true≢false (sym wanted ∙ e))
halted side old d (inr raised) e = raised

reset_followed : (side : Side) (old d : Descriptor) → MayReset side old d → UpdatedBy side old (timer_reset side d).descriptor (timer_reset side d).orders
reset_followed side old d may = go (wants_timer side d) refl (of_side-with_side_same side (wants_timer side d) d.running)
  where
    alike : (s : Side) → (wants_timer s (timer_reset side d).descriptor ≡ wants_timer s d) × (timer_function s (timer_reset side d).descriptor ≡ timer_function s d)
    alike = each_side _ (refl, refl) (refl, refl)

    go : (wants : Bool) → wants_timer side d ≡ wants → of_side side (timer_reset side d).descriptor.running ≡ wants_timer side d
        → UpdatedBy side old (timer_reset side d).descriptor (timer_reset side d).orders
    go true e runs = (Armed (begun side old d may) (runs ∙ e) ((alike side).0 ∙ e), rw ((alike side).1, e) refl)
    go false e runs = (Stopped (halted side old d may e) (runs ∙ e), rw e refl)

-- the parts of the descriptor that don't change when a side's timer is adjusted to its deadline
pub record Frame (side : Side) (d : Descriptor) (change : Change) : Type 0 where
  pub words : change.descriptor.words ≡ d.words
  pub closing : change.descriptor.closing ≡ d.closing
  pub deadlines : change.descriptor.deadlines ≡ d.deadlines
  pub fdseq : change.descriptor.fdseq ≡ d.fdseq
  pub running : (s : Side) → s ≢ side → of_side s change.descriptor.running ≡ of_side s d.running
  pub sequences : (s : Side) → s ≢ side → of_side s change.descriptor.sequences ≡ of_side s d.sequences
  pub bound : of_side side d.sequences < 2 ^ 64 → of_side side change.descriptor.sequences < 2 ^ 64
  pub woken : change.woken ≡ []

-- only the side's running flag and sequence may change
frame : (side : Side) (d : Descriptor) (running : Sides Bool) (sequences : Sides ℕ) (orders : List TimerOrder) → ((s : Side) → s ≢ side → of_side s running ≡ of_side s d.running)
    → ((s : Side) → s ≢ side → of_side s sequences ≡ of_side s d.sequences) → (of_side side d.sequences < 2 ^ 64 → of_side side sequences < 2 ^ 64)
    → Frame side d (record { descriptor = record d { running = running; sequences = sequences }; orders = orders; woken = [] })
frame side d running sequences orders running_kept sequences_kept bound =
    record {
      words = refl;
      closing = refl;
      deadlines = refl;
      fdseq = refl;
      running = running_kept;
      sequences = sequences_kept;
      bound = bound;
      woken = refl;
    }

frame_quiet : (side : Side) (d : Descriptor) → Frame side d (quiet d)
frame_quiet side d = frame side d d.running d.sequences [] (λ s apart. refl) (λ s apart. refl) (λ b. b)

frame_reset : (side : Side) (d : Descriptor) (sequences : Sides ℕ) → ((s : Side) → s ≢ side → of_side s sequences ≡ of_side s d.sequences)
    → (of_side side d.sequences < 2 ^ 64 → of_side side sequences < 2 ^ 64) → Frame side d (timer_reset side (record d { sequences = sequences }))
frame_reset side d sequences kept bound = frame side d _ sequences _ (λ s apart. of_side-with_side_other s side _ d.running apart) kept bound

-- a side's timer afterwards, and the parts of the descriptor that don't change
pub Ends-timer_follows : (side : Side) (old d : Descriptor) → of_side side d.sequences ≡ of_side side old.sequences → of_side side d.running ≡ of_side side old.running
    → Ends (λ change. UpdatedBy side old change.descriptor change.orders × Frame side d change) (timer_follows side old d)
Ends-timer_follows side old d same_sequence same_running =
    Ends-either (not (of_side side d.running)) (λ stopped. Ends-ok (at_rest (wants_timer side d) refl (not_true _ stopped))) λ _.
    Ends-either (int_eq (of_side side old.deadlines) (of_side side d.deadlines) && same_bool (is_combo old) (is_combo d))
    (λ same.
    let parts = both_true (int_eq (of_side side old.deadlines) (of_side side d.deadlines)) (same_bool (is_combo old) (is_combo d)) same in
    Ends-ok ((Kept same_sequence same_running (λ _. (sym ((Decides-int_eq _ _).0 parts.0), same_bool_true _ _ parts.1)), refl), frame_quiet side d))
    (λ _.
    Ends-bind (Ends-raised_sequence (of_side side d.sequences)) λ next raised.
    Ends-ok (
      reset_followed side old (record d { sequences = with_side side next d.sequences })
          (inr (of_side-with_side_same side next d.sequences ∙ raised.0 ∙ ap (λ n. n + 1) same_sequence)),
      frame_reset side d (with_side side next d.sequences) (λ s apart. of_side-with_side_other s side next d.sequences apart)
          (λ _. subst (λ n. n < 2 ^ 64) (sym (of_side-with_side_same side next d.sequences)) raised.1),
    ))
  where
    at_rest : (wants : Bool) → wants_timer side d ≡ wants → of_side side d.running ≡ false
        → UpdatedBy side old (if wants then timer_reset side d else quiet d).descriptor (if wants then timer_reset side d else quiet d).orders
        × Frame side d (if wants then timer_reset side d else quiet d)
    at_rest true e stopped = (reset_followed side old d (inl (sym same_running ∙ stopped, same_sequence, e)), frame_reset side d d.sequences (λ s apart. refl) (λ b. b))
    at_rest false e stopped = ((Kept same_sequence same_running (λ runs. absurd (true≢false (sym runs ∙ sym same_running ∙ stopped))), refl), frame_quiet side d)

-- setting a deadline adjusts both timers
following : (clock : ℤ) (mode : Mode) (t : ℤ) (old : Descriptor) → old.closing ≡ false
    → change_by_deadline clock mode t old ≡ (both_follow old (with_deadlines mode (deadline_from clock t) old) >>= λ change. Ok (expired_unblocked change))
following clock mode t old not_closing =
    let d : Descriptor = with_deadlines mode (deadline_from clock t) old in
    let rest : Result Change Refusal = timer_follows Read old d >>= λ read. (timer_follows Write old read.descriptor >>= λ write. Ok (expired_unblocked (and_then read (λ _. write)))) in
    ap (λ (b : Bool). cond b (Ok (quiet old)) rest) not_closing
    ∙ (elim (timer_follows Read old d) as (λ (r : Result Change Refusal).
    (r >>= λ read. (timer_follows Write old read.descriptor >>= λ write. Ok (expired_unblocked (and_then read (λ _. write)))))
    ≡ ((r >>= λ read. (timer_follows Write old read.descriptor >>= λ write. Ok (and_then read (λ _. write)))) >>= λ change. Ok (expired_unblocked change))) [
      | Ok read ↦ elim (timer_follows Write old read.descriptor) as (λ (r : Result Change Refusal).
          (r >>= λ write. Ok (expired_unblocked (and_then read (λ _. write))))
          ≡ ((r >>= λ write. Ok (and_then read (λ _. write))) >>= λ change. Ok (expired_unblocked change))) [ Ok write ↦ refl | Err e ↦ refl ]
      | Err e ↦ refl
    ])

pub set_by_following : (clock : ℤ) (mode : Mode) (t : ℤ) (old : Descriptor) (change : Change) → old.closing ≡ false
    → both_follow old (with_deadlines mode (deadline_from clock t) old) ≡ Ok change → change_by_deadline clock mode t old ≡ Ok (expired_unblocked change)
set_by_following clock mode t old change not_closing is =
    following clock mode t old not_closing ∙ ap (λ (r : Result Change Refusal). r >>= λ c. Ok (expired_unblocked c)) is

pub refused_by_following : (clock : ℤ) (mode : Mode) (t : ℤ) (old : Descriptor) (reason : Refusal) → old.closing ≡ false
    → both_follow old (with_deadlines mode (deadline_from clock t) old) ≡ Err reason → change_by_deadline clock mode t old ≡ Err reason
refused_by_following clock mode t old reason not_closing is =
    following clock mode t old not_closing ∙ ap (λ (r : Result Change Refusal). r >>= λ c. Ok (expired_unblocked c)) is
