-- Changing a goroutine's status keeps a world well formed.
use Rattle.std.proofs.Common.{◌≡◌, ◌≢◌, ℕ, ◌+◌, ◌<◌, List, Option, Some, ◌⊎◌, inl, inr, sym, ap, ◌∙◌, set, length, Bool, true, false, None, refl, subst, length-set, arith}
use Rattle.std.specs.Prelude.{slice_get, if◌then◌else◌, ◌==◌}
use Rattle.std.specs.Option.{option_and_then}
use Rattle.nr_rev.specs.declared.sides.Side.{Side}
use Rattle.nr_rev.specs.declared.status.Status.{Status}
use Rattle.nr_rev.specs.Socket.{Socket}
use Rattle.nr_rev.specs.declared.descriptor.DescriptorRow.{DescriptorRow}
use Rattle.nr_rev.specs.World.{wait_of, World, with_status}
use Rattle.nr_rev.specs.WellFormed.{GoroutinesFit, HasView, IsInside, IsOpen, IsField, socket_named, owed_of, WellFormed, parked_of, awaiting_of, is_queued}
use Rattle.nr_rev.proofs.ListUpdateLemmas.{slice_get-set_cases, slice_get-set_unseen}
use Rattle.std.proofs.lemmas.Option.{none-some, same_Some}
use Rattle.nr_rev.specs.declared.status.Status.TheVariants.{Idle, Acquiring, Relock, Owing}
use Rattle.nr_rev.specs.declared.sides.Sides.{Sides}
use Rattle.nr_laws.proofs.StatusViewLemmas.{unseen_set_keeps}
use Rattle.nr_rev.specs.Step.{owing}
use Rattle.nr_rev.specs.declared.sides.Side.TheVariants.{Read, Write}
use Rattle.nr_rev.specs.Sides.{of_side}

-- after g's status changes, the view of g is that of the new status, and other views are the same
pub view_cases : {A : Type 0} (view : Status → Option A) (gs : List Status) (g : ℕ) (old new : Status) (k : ℕ) (a : A) → slice_get gs g ≡ Some old → HasView view (set gs g new) k a
    → ((k ≡ g) × (view new ≡ Some a)) ⊎ ((k ≢ g) × HasView view gs k a)
view_cases view gs g old new k a at shows =
    elim (slice_get-set_cases gs g old new k at) [
      | inl here ↦ inl (here.0, sym (ap (option_and_then view) here.1) ∙ shows)
      | inr other ↦ inr (other.0, sym (ap (option_and_then view) other.1) ∙ shows)
    ]

-- after g's status changes, each goroutine keeps its view, unless g's old status had that view
pub view_kept : {A : Type 0} (view : Status → Option A) (gs : List Status) (g : ℕ) (old new : Status) (k : ℕ) (a : A) → slice_get gs g ≡ Some old → view old ≢ Some a → HasView view gs k a
    → HasView view (set gs g new) k a
view_kept view gs g old new k a at other shows =
    elim (slice_get-set_cases gs g old new k at) [
      | inl here ↦ absurd (other (sym (ap (option_and_then view) (ap (slice_get gs) here.0 ∙ at)) ∙ shows))
      | inr there ↦ ap (option_and_then view) there.1 ∙ shows
    ]

-- the conditions on g's new status under which the invariant still holds
pub record MayMove (gs : List Status) (sockets : List Socket) (rows : List DescriptorRow) (free : List ℕ) (g : ℕ) (new : Status) : Type 0 where
  pub is_open : (d : ℕ) (side : Side) → wait_of new ≡ Some (d, side) → IsOpen rows free d
  pub alone : (d : ℕ) (side : Side) (k : ℕ) → wait_of new ≡ Some (d, side) → k ≢ g → IsInside gs k d side → ⊥
  pub named : (s : ℕ) → socket_named new ≡ Some s → s < length sockets
  pub owes : (reads writes : ℕ) → owed_of new ≡ Some (reads, writes) → IsField reads × IsField writes × (0 < reads + writes)

pub GoroutinesFit-moved : (gs : List Status) (sockets : List Socket) (rows : List DescriptorRow) (free : List ℕ) (g : ℕ) (old new : Status) → slice_get gs g ≡ Some old
    → MayMove gs sockets rows free g new → GoroutinesFit gs sockets rows free → GoroutinesFit (set gs g new) sockets rows free
GoroutinesFit-moved gs sockets rows free g old new at may h =
    record {
      one_inside = λ k m d side p q.
          elim (view_cases wait_of gs g old new k (d, side) at p) [
            | inl here ↦
                elim (view_cases wait_of gs g old new m (d, side) at q) [
                  | inl there ↦ here.0 ∙ sym there.0
                  | inr other ↦ absurd (may.alone d side m here.1 other.0 other.1)
                ]
            | inr other ↦
                elim (view_cases wait_of gs g old new m (d, side) at q) [
                  | inl there ↦ absurd (may.alone d side k there.1 other.0 other.1)
                  | inr others ↦ h.one_inside k m d side other.1 others.1
                ]
          ];
      inside_open = λ k d side p.
          elim (view_cases wait_of gs g old new k (d, side) at p) [
            | inl here ↦ may.is_open d side here.1
            | inr other ↦ h.inside_open k d side other.1
          ];
      sockets_named = λ k s p.
          elim (view_cases socket_named gs g old new k s at p) [
            | inl here ↦ may.named s here.1
            | inr other ↦ h.sockets_named k s other.1
          ];
      owed = λ k reads writes p.
          elim (view_cases owed_of gs g old new k (reads, writes) at p) [
            | inl here ↦ may.owes reads writes here.1
            | inr other ↦ h.owed k reads writes other.1
          ];
    }

-- any goroutine may get a new status if that status is outside all waits, names no socket and owes
-- no releases
pub may_leave : (w : World) (g : ℕ) (new : Status) → wait_of new ≡ None → socket_named new ≡ None → owed_of new ≡ None → MayMove w.goroutines w.sockets w.descriptors w.free g new
may_leave w g new none unnamed owes_none =
    record {
      is_open = λ d side e. absurd (none-some _ (sym none ∙ e));
      alone = λ d side k e apart inside. absurd (none-some _ (sym none ∙ e));
      named = λ s e. absurd (none-some _ (sym unnamed ∙ e));
      owes = λ reads writes e. absurd (none-some _ (sym owes_none ∙ e));
    }

-- a goroutine inside a wait may continue inside it
pub may_stay : (w : World) (g : ℕ) (old new : Status) (place : ℕ × Side) → WellFormed w → slice_get w.goroutines g ≡ Some old → wait_of old ≡ Some place → wait_of new ≡ Some place
    → socket_named new ≡ None → owed_of new ≡ None → MayMove w.goroutines w.sockets w.descriptors w.free g new
may_stay w g old new place h at from to unnamed owes_none =
    record {
      is_open = λ k s e. h.goroutines.inside_open g k s (inside ∙ sym to ∙ e);
      alone = λ k s m e apart m_inside. apart (h.goroutines.one_inside m g k s m_inside (inside ∙ sym to ∙ e));
      named = λ s e. absurd (none-some _ (sym unnamed ∙ e));
      owes = λ reads writes e. absurd (none-some _ (sym owes_none ∙ e));
    }
  where
    inside : HasView wait_of w.goroutines g place
    inside = ap (option_and_then wait_of) at ∙ from

-- a goroutine moves to a status that requires the same wait words and queues as its old one
pub moved : (w : World) (g : ℕ) (old new : Status) → WellFormed w → slice_get w.goroutines g ≡ Some old → MayMove w.goroutines w.sockets w.descriptors w.free g new → parked_of new ≡ parked_of old
    → awaiting_of new ≡ awaiting_of old → ((s : ℕ) (side : Side) → is_queued s side (Some new) ≡ is_queued s side (Some old)) → WellFormed (with_status g new w)
moved w g old new h at may parked awaits queued =
    unseen_set_keeps w (set w.goroutines g new) h (GoroutinesFit-moved _ w.sockets w.descriptors w.free g old new at may h.goroutines)
    (λ k. slice_get-set_unseen (option_and_then parked_of) w.goroutines g old new k at parked)
    (λ k. slice_get-set_unseen (option_and_then awaiting_of) w.goroutines g old new k at awaits)
    (λ s side k. slice_get-set_unseen (is_queued s side) w.goroutines g old new k at (queued s side))
    (rw length-set h.goroutines_limited)

-- true if a goroutine is neither parked, nor inside a wait, nor queued
abbrev pub is_outside : Status → Bool
is_outside Idle = true
is_outside (Acquiring s side) = true
is_outside (Relock s side) = true
is_outside (Owing s reads writes) = true
is_outside _ = false

record IsOutside (status : Status) : Type 0 where
  pub waits : wait_of status ≡ None
  pub parked : parked_of status ≡ None
  pub awaits : awaiting_of status ≡ None
  pub queued : (s : ℕ) (side : Side) → is_queued s side (Some status) ≡ false

outside : (status : Status) → is_outside status ≡ true → IsOutside status
outside Idle e = record { waits = refl; parked = refl; awaits = refl; queued = λ _ _. refl }
outside (Acquiring s side) e = record { waits = refl; parked = refl; awaits = refl; queued = λ _ _. refl }
outside (Relock s side) e = record { waits = refl; parked = refl; awaits = refl; queued = λ _ _. refl }
outside (Owing s reads writes) e = record { waits = refl; parked = refl; awaits = refl; queued = λ _ _. refl }
outside _ e = cc

pub moved_outside : (w : World) (g : ℕ) (old new : Status) → WellFormed w → slice_get w.goroutines g ≡ Some old → is_outside old ≡ true → is_outside new ≡ true
    → ((s : ℕ) → socket_named new ≡ Some s → s < length w.sockets) → ((reads writes : ℕ) → owed_of new ≡ Some (reads, writes) → IsField reads × IsField writes × (0 < reads + writes))
    → WellFormed (with_status g new w)
moved_outside w g old new h at old_outside new_outside named owes =
    let from : IsOutside old = outside old old_outside in
    let to : IsOutside new = outside new new_outside in
    moved w g old new h at
    (record {
      is_open = λ d side e. absurd (none-some _ (sym to.waits ∙ e));
      alone = λ d side k e apart inside. absurd (none-some _ (sym to.waits ∙ e));
      named = named;
      owes = owes;
    })
    (to.parked ∙ sym from.parked) (to.awaits ∙ sym from.awaits) (λ s side. to.queued s side ∙ sym (from.queued s side))

owing_outside : (s : ℕ) (owed : Sides ℕ) → is_outside (owing s owed) ≡ true
owing_outside s owed = go (owed.read + owed.write == 0)
  where
    go : (none : Bool) → is_outside (if none then Idle else Owing s owed.read owed.write) ≡ true
    go true = refl
    go false = refl

-- a goroutine outside all waits and queues comes to owe these releases
pub comes_to_owe : (w : World) (g s : ℕ) (old : Status) (owed : Sides ℕ) → WellFormed w → slice_get w.goroutines g ≡ Some old → is_outside old ≡ true → s < length w.sockets
    → ((side : Side) → IsField (of_side side owed)) → WellFormed (with_status g (owing s owed) w)
comes_to_owe w g s old owed h at was_outside within small =
    moved_outside w g old (owing s owed) h at was_outside (owing_outside s owed) (λ k e. named k (owed.read + owed.write == 0) e)
    (λ reads writes e. owes reads writes (owed.read + owed.write == 0) refl e)
  where
    named : (k : ℕ) (none : Bool) → socket_named (if none then Idle else Owing s owed.read owed.write) ≡ Some k → k < length w.sockets
    named k true e = cc
    named k false e = subst (λ (n : ℕ). n < length w.sockets) (same_Some _ _ e) within

    positive : (n : ℕ) → (n == 0) ≡ false → 0 < n
    positive n e = grind (arith, e)

    owes : (reads writes : ℕ) (none : Bool) → (owed.read + owed.write == 0) ≡ none → owed_of (if none then Idle else Owing s owed.read owed.write) ≡ Some (reads, writes)
        → IsField reads × IsField writes × (0 < reads + writes)
    owes reads writes true is e = cc
    owes reads writes false is e =
        let p : ◌≡◌ {A = ℕ × ℕ} (owed.read, owed.write) (reads, writes) = same_Some _ _ e in
        subst (λ (p : ℕ × ℕ). IsField p.0 × IsField p.1 × (0 < p.0 + p.1)) p (small Read, small Write, positive _ is)
