-- Entries and firings fit a descriptor after a side's timer is kept, armed anew or stopped.
use Rattle.std.proofs.Common.{◌≡◌, ◌≢◌, ℕ, ◌+◌, List, [], ◌∷◌, Bool, true, false, ℤ, not, Option, Some, None, ◌⊎◌, inl, inr, refl, sym, ap, subst, ◌∙◌, arith, true≢false, int_eq}
use Rattle.std.proofs.lemmas.Option.{same_Some, none-some}
use Rattle.std.proofs.lemmas.Bool.Decides.{Decides-int_eq}
use Rattle.std.specs.Prelude.{if◌then◌else◌}
use Rattle.nr_rev.specs.declared.sides.Side.{Side}
use Rattle.nr_rev.specs.declared.sides.Side.TheVariants.{Read, Write}
use Rattle.nr_rev.specs.declared.timer.TimerFunction.{TimerFunction}
use Rattle.nr_rev.specs.Sides.{of_side, covers_side, side_of_function}
use Rattle.nr_rev.specs.declared.timer.Timer.{Timer}
use Rattle.nr_rev.specs.declared.timer.Entry.{Entry}
use Rattle.nr_rev.specs.declared.descriptor.Descriptor.{Descriptor}
use Rattle.nr_rev.specs.Descriptor.{is_combo, is_positive, timer_function, wants_timer}
use Rattle.nr_rev.specs.WellFormed.{EntryFits, FiringFits, IsDueFor}
use Rattle.nr_rev.specs.declared.timer.TimerOrder.{TimerOrder}
use Rattle.nr_rev.specs.declared.timer.TimerOrder.TheVariants.{Arm, Stop}
use Rattle.nr_laws.proofs.BoolLemmas.{both_true, not_true, never_true}

-- a side's timer didn't run, or its sequence was incremented
abbrev pub SequenceFresh : Side → Descriptor → Descriptor → Type 0
SequenceFresh side old new = ((of_side side old.running ≡ false) × (of_side side new.sequences ≡ of_side side old.sequences)) ⊎ (of_side side new.sequences ≡ of_side side old.sequences + 1)

-- a side's timer is kept, armed anew, or stopped
pub data TimerUpdate (side : Side) (old new : Descriptor) : Type 0 where
  Kept : of_side side new.sequences ≡ of_side side old.sequences → of_side side new.running ≡ of_side side old.running
      → (of_side side old.running ≡ true → (of_side side new.deadlines ≡ of_side side old.deadlines) × (is_combo new ≡ is_combo old)) → TimerUpdate side old new
  Armed : SequenceFresh side old new → of_side side new.running ≡ true → wants_timer side new ≡ true → TimerUpdate side old new
  Stopped : of_side side new.sequences ≡ of_side side old.sequences + 1 → of_side side new.running ≡ false → TimerUpdate side old new

-- the orders that update the timer
abbrev pub orders_of : (side : Side) (old new : Descriptor) → TimerUpdate side old new → List TimerOrder
orders_of side old new (Kept sequence running same) = []
orders_of side old new (Armed begun running wants) = Arm side (of_side side new.deadlines) (timer_function side new) (of_side side new.sequences) ∷ []
orders_of side old new (Stopped raised halted) = Stop side ∷ []

-- the timer after the update, if n is the next arming number
abbrev pub timer_left : (side : Side) (old new : Descriptor) → Option Timer → ℕ → TimerUpdate side old new → Option Timer
timer_left side old new before n (Kept sequence running same) = before
timer_left side old new before n (Armed begun running wants) = Some (record { due = of_side side new.deadlines; number = n; function = timer_function side new; sequence = of_side side new.sequences })
timer_left side old new before n (Stopped raised halted) = None

wanted_positive : (side : Side) (d : Descriptor) → wants_timer side d ≡ true → is_positive (of_side side d.deadlines) ≡ true
wanted_positive Read d e = e
wanted_positive Write d e = (both_true _ _ e).0

pub function_like : (side : Side) (old new : Descriptor) → is_combo new ≡ is_combo old → timer_function side new ≡ timer_function side old
function_like Read old new e = ap (λ b. if b then TimerFunction.Both else TimerFunction.Read) e
function_like Write old new e = refl

pub entry_fits : (side : Side) (old new : Descriptor) (before : Option Timer) (n : ℕ) (timer : Timer) (update : TimerUpdate side old new) → ((t : Timer) → before ≡ Some t → EntryFits old side t)
    → timer_left side old new before n update ≡ Some timer → EntryFits new side timer
entry_fits side old new before n timer (Kept sequence running same) h is =
    let was : EntryFits old side timer = h timer is in
    let alike = same was.running in
    record {
      sequence = was.sequence ∙ sym sequence;
      running = running ∙ was.running;
      positive = was.positive;
      due = was.due ∙ sym alike.0;
      function = was.function ∙ sym (function_like side old new alike.1);
    }
entry_fits side old new before n timer (Armed begun running wants) h is =
    subst (EntryFits new side) (same_Some _ _ is)
    (record { sequence = refl; running = running; positive = wanted_positive side new wants; due = refl; function = refl })
entry_fits side old new before n timer (Stopped raised halted) h is = absurd (none-some _ is)

-- under combo, both deadlines are in the future
pub combo_positive : (d : Descriptor) → is_combo d ≡ true → (s : Side) → is_positive (of_side s d.deadlines) ≡ true
combo_positive d e s = go s
  where
    parts : (is_positive d.deadlines.read ≡ true) × (int_eq d.deadlines.read d.deadlines.write ≡ true)
    parts = both_true (is_positive d.deadlines.read) (int_eq d.deadlines.read d.deadlines.write) e

    equal : d.deadlines.read ≡ d.deadlines.write
    equal = (Decides-int_eq d.deadlines.read d.deadlines.write).0 parts.1

    go : (s : Side) → is_positive (of_side s d.deadlines) ≡ true
    go Read = parts.0
    go Write = ap is_positive (sym equal) ∙ parts.0

-- under combo, both deadlines are equal
pub combo_same : (d : Descriptor) → is_combo d ≡ true → (a b : Side) → of_side a d.deadlines ≡ of_side b d.deadlines
combo_same d e = go
  where
    equal : d.deadlines.read ≡ d.deadlines.write
    equal = (Decides-int_eq d.deadlines.read d.deadlines.write).0 (both_true (is_positive d.deadlines.read) (int_eq d.deadlines.read d.deadlines.write) e).1

    go : (a b : Side) → of_side a d.deadlines ≡ of_side b d.deadlines
    go Read Read = refl
    go Read Write = equal
    go Write Read = sym equal
    go Write Write = refl

pub combo_of_both : (side : Side) (d : Descriptor) → timer_function side d ≡ TimerFunction.Both → is_combo d ≡ true
combo_of_both Read d e = go (is_combo d) e
  where
    go : (b : Bool) → (if b then TimerFunction.Both else TimerFunction.Read) ≡ TimerFunction.Both → b ≡ true
    go true e = refl
    go false e = cc
combo_of_both Write d e = cc

-- a function covers only its own side, or both
pub covered : (f : TimerFunction) (s side : Side) → side ≡ side_of_function f → covers_side f s ≡ true → (s ≡ side) ⊎ (f ≡ TimerFunction.Both)
covered TimerFunction.Both s side e c = inr refl
covered TimerFunction.Read Read side e c = inl (sym e)
covered TimerFunction.Read Write side e c = cc
covered TimerFunction.Write Read side e c = cc
covered TimerFunction.Write Write side e c = inl (sym e)

-- a timer function covers the side that `side_of_function` returns for it
pub own_side : (f : TimerFunction) (side : Side) → side ≡ side_of_function f → covers_side f side ≡ true
own_side TimerFunction.Read side e = ap (covers_side TimerFunction.Read) e
own_side TimerFunction.Write side e = ap (covers_side TimerFunction.Write) e
own_side TimerFunction.Both side e = refl

-- if t is the deadline of `side_of_function f`, every side that f covers has the deadline t
pub due_of_each : (t : ℤ) (f : TimerFunction) (s side : Side) (d : Descriptor) → t ≡ of_side side d.deadlines → side ≡ side_of_function f → covers_side f s ≡ true
    → (f ≡ TimerFunction.Both → is_combo d ≡ true) → t ≡ of_side s d.deadlines
due_of_each t f s side d is same covers combo =
    elim (covered f s side same covers) [
      | inl own ↦ is ∙ sym (ap (λ x. of_side x d.deadlines) own)
      | inr both ↦ is ∙ combo_same d (combo both) side s
    ]

pub firing_fits : (e : Entry) (old new : Descriptor) → TimerUpdate e.side old new → FiringFits old e → FiringFits new e
firing_fits e old new (Kept sequence running same) h =
    record {
      side = h.side;
      sequence = rw sequence h.sequence;
      due = h.due;
      current = λ now.
          let due : IsDueFor old e = h.current (now ∙ sequence) in
          let alike = same due.running in
          record {
            positive = λ s covers.
                elim (covered e.timer.function s e.side h.side covers) [
                  | inl own ↦
                      ap is_positive (ap (λ x. of_side x new.deadlines) own ∙ alike.0 ∙ sym (ap (λ x. of_side x old.deadlines) own)) ∙ due.positive s covers
                  | inr is_both ↦ combo_positive new (alike.1 ∙ combo_of_both e.side old (sym due.function ∙ is_both)) s
                ];
            due = λ s covers.
                due_of_each e.timer.due e.timer.function s e.side new (due.due e.side (own_side e.timer.function e.side h.side) ∙ sym alike.0) h.side covers
                (λ is_both. alike.1 ∙ combo_of_both e.side old (sym due.function ∙ is_both));
            running = running ∙ due.running;
            function = due.function ∙ sym (function_like e.side old new alike.1);
          };
    }
firing_fits e old new (Armed begun running wants) h =
    elim begun [
      | inl rest ↦
          record {
            side = h.side;
            sequence = rw rest.1 h.sequence;
            due = h.due;
            current = λ now. let due : IsDueFor old e = h.current (now ∙ rest.1) in absurd (true≢false (sym due.running ∙ rest.0));
          }
      | inr raised ↦
          let most = h.sequence in
          record { side = h.side; sequence = omega arith; due = h.due; current = λ now. absurd (omega arith) }
    ]
firing_fits e old new (Stopped raised halted) h =
    let most = h.sequence in
    record { side = h.side; sequence = omega arith; due = h.due; current = λ now. absurd (omega arith) }

-- no firing is current if the timer was armed anew or stopped
pub none_current : (e : Entry) (old new : Descriptor) → SequenceFresh e.side old new → FiringFits old e → e.timer.sequence ≢ of_side e.side new.sequences
none_current e old new begun h now =
    elim begun [
      | inl rest ↦ true≢false (sym (h.current (now ∙ rest.1)).running ∙ rest.0)
      | inr raised ↦ let most = h.sequence in omega arith
    ]

-- under combo, no timer of the write side runs
pub combo_fits : (old new : Descriptor) → TimerUpdate Write old new → (is_combo old ≡ true → old.running.write ≡ false) → is_combo new ≡ true → new.running.write ≡ false
combo_fits old new (Kept sequence running same) h combo = running ∙ never_true old.running.write (λ e. true≢false (sym e ∙ h (sym (same e).1 ∙ combo)))
combo_fits old new (Armed begun running wants) h combo =
    absurd (true≢false (sym combo ∙ not_true (is_combo new) (both_true (is_positive new.deadlines.write) (not (is_combo new)) wants).1))
combo_fits old new (Stopped raised halted) h combo = halted
