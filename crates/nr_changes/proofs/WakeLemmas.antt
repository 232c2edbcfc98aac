-- A change to a descriptor wakes only goroutines that its words held.
use Rattle.std.proofs.Common.{◌≡◌, ℕ, Bool, true, false, ◌&&◌, not, List, [], ◌++◌, Option, Some, refl, subst, inl, inr}
use Rattle.std.specs.Prelude.{Contains, if◌then◌else◌, ℤ, negsuc}
use Rattle.std.specs.Ordering.{int_eq}
use Rattle.std.proofs.lemmas.List.Elements.{Contains-append_left, Contains-append_right, Contains-append_cases}
use Rattle.nr_rev.specs.declared.descriptor.Descriptor.{Descriptor}
use Rattle.nr_rev.specs.declared.descriptor.WaitWord.{WaitWord}
use Rattle.nr_rev.specs.declared.descriptor.WaitWord.TheVariants.{Nil, Ready, Wait, Held}
use Rattle.nr_rev.specs.declared.sides.Mode.{Mode}
use Rattle.nr_rev.specs.declared.sides.Side.{Side}
use Rattle.nr_rev.specs.declared.sides.Side.TheVariants.{Read, Write}
use Rattle.nr_rev.specs.declared.timer.TimerFunction.{TimerFunction}
use Rattle.nr_rev.specs.Descriptor.{Change, unblock, quiet, and_then, then_if, unblocked, both_raised, deadline_from, with_deadlines, timer_reset, wants_timer, timer_follows, is_expired, is_combo, same_bool, is_current, is_timed, expired_unblocked, change_by_deadline, stop_if, change_by_evict, expire, change_by_firing, change_by_event}
use Rattle.nr_rev.specs.Refusing.{refused_if, refused_unless, raised_sequence}
use Rattle.nr_rev.specs.Sides.{of_side, with_side, twice, covers_side, names_side}
use Rattle.nr_laws.proofs.AspectLemmas.{ComesTo, ComesTo-ok, ComesTo-any, ComesTo-bind, ComesTo-then, ComesTo-either}
use Rattle.nr_changes.specs.Touched.{held_by, held_of}
use Rattle.nr_changes.proofs.MemberLemmas.{nowhere}

-- true if the goroutines that a change wakes, and those that the words hold after it, were all held
-- before it
pub record Wakes (old : Descriptor) (change : Change) : Type 0 where
  pub woken : (g : ℕ) → Contains change.woken g → Contains (held_of old) g
  pub held : (g : ℕ) → Contains (held_of change.descriptor) g → Contains (held_of old) g

-- a change that leaves the words unchanged and wakes no goroutine
pub Wakes-none : (old : Descriptor) (change : Change) → change.woken ≡ [] → change.descriptor.words ≡ old.words → Wakes old change
Wakes-none old change nobody same =
    record {
      woken = λ g at. absurd (nowhere g (subst (λ gs. Contains gs g) nobody at));
      held = λ g at. subst (λ words. Contains (held_by words.read ++ held_by words.write) g) same at;
    }

Wakes-and_then : (old : Descriptor) (first : Change) (next : Descriptor → Change) → Wakes old first → Wakes first.descriptor (next first.descriptor) → Wakes old (and_then first next)
Wakes-and_then old first next a b =
    record {
      woken = λ g at.
          elim (Contains-append_cases first.woken (next first.descriptor).woken g at) [ inl early ↦ a.woken g early | inr late ↦ a.held g (b.woken g late) ];
      held = λ g at. a.held g (b.held g at);
    }

Wakes-then_if : (old : Descriptor) (first : Change) (test : Bool) (next : Descriptor → Change) → Wakes old first → Wakes first.descriptor (next first.descriptor) → Wakes old (then_if first test next)
Wakes-then_if old first true next a b = Wakes-and_then old first next a b
Wakes-then_if old first false next a b = a

-- unblocking a word wakes the goroutine that it held, and afterwards the word holds none
wakes_held : (word : WaitWord) (ioready : Bool) → (unblock word ioready).1 ≡ held_by word
wakes_held Ready ioready = refl
wakes_held Nil ioready = refl
wakes_held Wait ioready = refl
wakes_held (Held g) ioready = refl

holds_nobody : (word : WaitWord) (ioready : Bool) → held_by (unblock word ioready).0 ≡ []
holds_nobody Ready ioready = refl
holds_nobody Nil true = refl
holds_nobody Nil false = refl
holds_nobody Wait true = refl
holds_nobody Wait false = refl
holds_nobody (Held g) true = refl
holds_nobody (Held g) false = refl

-- an empty list has no members
among_none : {A : Type 0} (gs : List ℕ) (g : ℕ) → gs ≡ [] → Contains gs g → A
among_none gs g none at = absurd (nowhere g (subst (λ hs. Contains hs g) none at))

Wakes-unblocked : (ioready : Bool) (side : Side) (d : Descriptor) → Wakes d (unblocked ioready side d)
Wakes-unblocked ioready Read d =
    record {
      woken = λ g at. Contains-append_left (held_by d.words.read) (held_by d.words.write) g (subst (λ gs. Contains gs g) (wakes_held d.words.read ioready) at);
      held = λ g at.
          elim (Contains-append_cases (held_by (unblock d.words.read ioready).0) (held_by d.words.write) g at) [
            | inl here ↦ among_none _ g (holds_nobody d.words.read ioready) here
            | inr other ↦ Contains-append_right (held_by d.words.read) (held_by d.words.write) g other
          ];
    }
Wakes-unblocked ioready Write d =
    record {
      woken = λ g at. Contains-append_right (held_by d.words.read) (held_by d.words.write) g (subst (λ gs. Contains gs g) (wakes_held d.words.write ioready) at);
      held = λ g at.
          elim (Contains-append_cases (held_by d.words.read) (held_by (unblock d.words.write ioready).0) g at) [
            | inl other ↦ Contains-append_left (held_by d.words.read) (held_by d.words.write) g other
            | inr here ↦ among_none _ g (holds_nobody d.words.write ioready) here
          ];
    }

-- ---- evict, pollevent

pub evict_wakes : (d : Descriptor) → ComesTo (Wakes d) (change_by_evict d)
evict_wakes d =
    ComesTo-then (ComesTo-any (refused_if d.closing _)) λ _.
    ComesTo-bind (ComesTo-any (both_raised d.sequences)) λ sequences _.
    let stopped : Change =
    record {
      descriptor = record d { closing = true; sequences = sequences; running = twice false };
      orders = stop_if d.running.read Read ++ stop_if d.running.write Write;
      woken = [];
    }
    in
    ComesTo-ok
    (Wakes-and_then d _ (unblocked false Write)
    (Wakes-and_then d stopped (unblocked false Read) (Wakes-none d stopped refl refl) (Wakes-unblocked false Read _))
    (Wakes-unblocked false Write _))

pub event_wakes : (mode : Mode) (error : Bool) (d : Descriptor) → Wakes d (change_by_event mode error d)
event_wakes mode error d =
    let reported : Change = quiet (record d { event_error = error }) in
    Wakes-then_if d _ (names_side mode Write) (unblocked true Write)
    (Wakes-then_if d reported (names_side mode Read) (unblocked true Read) (Wakes-none d reported refl refl) (Wakes-unblocked true Read _))
    (Wakes-unblocked true Write _)

-- ---- deadlines

resets_or_stays : (test : Bool) (side : Side) (d : Descriptor) → Wakes d (if test then timer_reset side d else quiet d)
resets_or_stays true side d = Wakes-none d _ refl refl
resets_or_stays false side d = Wakes-none d _ refl refl

follows_wakes : (side : Side) (old d : Descriptor) → ComesTo (Wakes d) (timer_follows side old d)
follows_wakes side old d =
    ComesTo-either (not (of_side side d.running)) (ComesTo-ok (resets_or_stays (wants_timer side d) side d))
    (ComesTo-either (int_eq (of_side side old.deadlines) (of_side side d.deadlines) && same_bool (is_combo old) (is_combo d)) (ComesTo-ok (Wakes-none d _ refl refl))
    (ComesTo-bind (ComesTo-any (raised_sequence (of_side side d.sequences))) λ sequence _.
    ComesTo-ok (Wakes-none d _ refl refl)))

expired_wakes : (old : Descriptor) (change : Change) → Wakes old change → Wakes old (expired_unblocked change)
expired_wakes old change so =
    Wakes-then_if old _ (is_expired Write change.descriptor) (unblocked false Write)
    (Wakes-then_if old _ (is_expired Read change.descriptor) (unblocked false Read) so (Wakes-unblocked false Read _))
    (Wakes-unblocked false Write _)

pub deadline_wakes : (clock : ℤ) (mode : Mode) (t : ℤ) (old : Descriptor) → ComesTo (Wakes old) (change_by_deadline clock mode t old)
deadline_wakes clock mode t old =
    ComesTo-either old.closing (ComesTo-ok (Wakes-none old _ refl refl))
    (ComesTo-bind (follows_wakes Read old (with_deadlines mode (deadline_from clock t) old)) λ read reads.
    ComesTo-bind (follows_wakes Write old read.descriptor) λ write writes.
    ComesTo-ok (expired_wakes old _ (Wakes-and_then old read (λ _. write) (record { woken = reads.woken; held = reads.held }) writes)))

-- ---- firings

-- expiring a side wakes only goroutines that the words held
expire_wakes : (side : Side) (d : Descriptor) → Wakes d (expire side d)
expire_wakes side d =
    let late = Wakes-unblocked false side (record d { deadlines = with_side side (negsuc 0) d.deadlines }) in
    record { woken = late.woken; held = late.held }

-- true if a firing is stale or wakes only goroutines that the words held
abbrev pub FiringWakes : Descriptor → Option Change → Type 0
FiringWakes d change = (x : Change) → change ≡ Some x → Wakes d x

same_some : (x y : Change) → ◌≡◌ {A = Option Change} (Some x) (Some y) → x ≡ y
same_some x y e = cc

pub firing_wakes : (function : TimerFunction) (sequence : ℕ) (d : Descriptor) → ComesTo (FiringWakes d) (change_by_firing function sequence d)
firing_wakes function sequence d =
    ComesTo-either (not (is_current function sequence d)) (ComesTo-ok (λ x e. cc))
    (ComesTo-then (ComesTo-any (refused_unless (is_timed function d) _)) λ _.
    ComesTo-ok
    (λ x e. subst (Wakes d) (same_some _ x e)
    (Wakes-then_if d _ (covers_side function Write) (expire Write)
    (Wakes-then_if d (quiet d) (covers_side function Read) (expire Read) (Wakes-none d (quiet d) refl refl) (expire_wakes Read _))
    (expire_wakes Write _))))
