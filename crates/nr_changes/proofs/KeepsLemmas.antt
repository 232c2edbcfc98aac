-- A step changes only the things that it touches.
use Rattle.std.proofs.Common.{◌≡◌, ◌≢◌, ℕ, zero, suc, List, [], ◌∷◌, ◌++◌, length, Option, Some, refl, sym, ap, subst, ◌∙◌, Bool, true, false, Result}
use Rattle.std.specs.Prelude.{Contains, slice_get, slice_set, option_map, if◌then◌else◌}
use Rattle.nr_rev.specs.declared.answer.Answer.{Answer}
use Rattle.nr_rev.specs.declared.descriptor.Descriptor.{Descriptor}
use Rattle.nr_rev.specs.declared.descriptor.DescriptorRow.{DescriptorRow}
use Rattle.nr_rev.specs.declared.refusal.Refusal.{Refusal}
use Rattle.nr_rev.specs.declared.status.Status.{Status}
use Rattle.nr_rev.specs.Socket.{Socket}
use Rattle.nr_rev.specs.Step.{after_wakes}
use Rattle.nr_rev.specs.World.{World, with_socket, with_row}
use Rattle.nr_laws.proofs.AspectLemmas.{ComesTo}
use Rattle.nr_rev.proofs.ListUpdateLemmas.{slice_get-set_unseen}
use Rattle.nr_changes.specs.Touched.{Touched}
use Rattle.nr_changes.proofs.MemberLemmas.{here, later}

-- a descriptor's state, without its timers
abbrev pub state_of : Option DescriptorRow → Option Descriptor
state_of row = option_map (λ (x : DescriptorRow). x.descriptor) row

-- true if everything that isn't touched is unchanged
pub record Keeps (t : Touched) (w next : World) : Type 0 where
  pub goroutines : (g : ℕ) → ¬ Contains t.goroutines g → slice_get next.goroutines g ≡ slice_get w.goroutines g
  pub sockets : (s : ℕ) → t.socket ≢ Some s → slice_get next.sockets s ≡ slice_get w.sockets s
  pub descriptors : (d : ℕ) → t.descriptor ≢ Some d → state_of (slice_get next.descriptors d) ≡ state_of (slice_get w.descriptors d)

-- true if a step changes only what it touches
abbrev pub Touches : Touched → World → Result (Answer × World) Refusal → Type 0
Touches t w o = ComesTo (λ (left : Answer × World). Keeps t w left.1) o

-- ---- lists

set_elsewhere : {X : Type 0} (xs : List X) (i j : ℕ) (x : X) → j ≢ i → slice_get (slice_set xs i x) j ≡ slice_get xs j
set_elsewhere [] i j x other = refl
set_elsewhere (y ∷ xs) zero zero x other = absurd (other refl)
set_elsewhere (y ∷ xs) zero (suc j) x other = refl
set_elsewhere (y ∷ xs) (suc i) zero x other = refl
set_elsewhere (y ∷ xs) (suc i) (suc j) x other = set_elsewhere xs i j x (λ e. other (ap suc e))

push_elsewhere : {X : Type 0} (xs : List X) (x : X) (j : ℕ) → j ≢ length xs → slice_get (xs ++ x ∷ []) j ≡ slice_get xs j
push_elsewhere [] x zero other = absurd (other refl)
push_elsewhere [] x (suc j) other = refl
push_elsewhere (y ∷ xs) x zero other = refl
push_elsewhere (y ∷ xs) x (suc j) other = push_elsewhere xs x j (λ e. other (ap suc e))

-- if i is touched and j isn't, they differ
differs : {d : Option ℕ} (i j : ℕ) → d ≡ Some i → d ≢ Some j → j ≢ i
differs i j at other e = other (at ∙ ap Some (sym e))

-- ---- changes

pub Keeps-same : {t : Touched} {w : World} → Keeps t w w
Keeps-same = record { goroutines = λ _ _. refl; sockets = λ _ _. refl; descriptors = λ _ _. refl }

pub Keeps-then : {t : Touched} {w between next : World} → Keeps t w between → Keeps t between next → Keeps t w next
Keeps-then first second =
    record {
      goroutines = λ g e. second.goroutines g e ∙ first.goroutines g e;
      sockets = λ s e. second.sockets s e ∙ first.sockets s e;
      descriptors = λ d e. second.descriptors d e ∙ first.descriptors d e;
    }

pub Keeps-if : {t : Touched} {w : World} (c : Bool) {x y : World} → Keeps t w x → Keeps t w y → Keeps t w (if c then x else y)
Keeps-if true a b = a
Keeps-if false a b = b

pub Keeps-either : {t : Touched} {w : World} (c : Bool) (x y : Answer × World) → Keeps t w x.1 → Keeps t w y.1 → Keeps t w (if c then x else y).1
Keeps-either true x y a b = a
Keeps-either false x y a b = b

-- neither goroutines nor sockets nor descriptors change
pub rest_set : (t : Touched) (w next : World) → next.goroutines ≡ w.goroutines → next.sockets ≡ w.sockets → next.descriptors ≡ w.descriptors → Keeps t w next
rest_set t w next gs ss ds =
    record {
      goroutines = λ g _. ap (λ xs. slice_get xs g) gs;
      sockets = λ s _. ap (λ xs. slice_get xs s) ss;
      descriptors = λ d _. ap (λ xs. state_of (slice_get xs d)) ds;
    }

-- a goroutine's status and the number of parked goroutines change
pub goroutine_set : (t : Touched) (w : World) (g : ℕ) (status : Status) (waiters : ℕ) → Contains t.goroutines g → Keeps t w (record w { goroutines = slice_set w.goroutines g status; waiters = waiters })
goroutine_set t w g status waiters at =
    record {
      goroutines = λ k other. set_elsewhere w.goroutines g k status (λ e. other (subst (Contains t.goroutines) (sym e) at));
      sockets = λ _ _. refl;
      descriptors = λ _ _. refl;
    }

pub goroutine_pushed : (t : Touched) (w : World) (status : Status) → Contains t.goroutines (length w.goroutines) → Keeps t w (record w { goroutines = w.goroutines ++ status ∷ [] })
goroutine_pushed t w status at =
    record {
      goroutines = λ k other. push_elsewhere w.goroutines status k (λ e. other (subst (Contains t.goroutines) (sym e) at));
      sockets = λ _ _. refl;
      descriptors = λ _ _. refl;
    }

pub socket_set : (t : Touched) (w : World) (s : ℕ) (socket : Socket) → t.socket ≡ Some s → Keeps t w (with_socket s socket w)
socket_set t w s socket at =
    record { goroutines = λ _ _. refl; sockets = λ k other. set_elsewhere w.sockets s k socket (differs s k at other); descriptors = λ _ _. refl }

pub socket_pushed : (t : Touched) (w : World) (socket : Socket) → t.socket ≡ Some (length w.sockets) → Keeps t w (record w { sockets = w.sockets ++ socket ∷ [] })
socket_pushed t w socket at =
    record { goroutines = λ _ _. refl; sockets = λ k other. push_elsewhere w.sockets socket k (differs _ k at other); descriptors = λ _ _. refl }

pub row_set : (t : Touched) (w : World) (d : ℕ) (row : DescriptorRow) → t.descriptor ≡ Some d → Keeps t w (with_row d row w)
row_set t w d row at =
    record { goroutines = λ _ _. refl; sockets = λ _ _. refl; descriptors = λ k other. ap state_of (set_elsewhere w.descriptors d k row (differs d k at other)) }

pub row_pushed : (t : Touched) (w : World) (row : DescriptorRow) → t.descriptor ≡ Some (length w.descriptors) → Keeps t w (record w { descriptors = w.descriptors ++ row ∷ [] })
row_pushed t w row at =
    record { goroutines = λ _ _. refl; sockets = λ _ _. refl; descriptors = λ k other. ap state_of (push_elsewhere w.descriptors row k (differs _ k at other)) }

-- a descriptor's timers change, but not its state
pub timers_set : (t : Touched) (w : World) (d : ℕ) (old new : DescriptorRow) → slice_get w.descriptors d ≡ Some old → new.descriptor ≡ old.descriptor → Keeps t w (with_row d new w)
timers_set t w d old new at same =
    record { goroutines = λ _ _. refl; sockets = λ _ _. refl; descriptors = λ k _. slice_get-set_unseen state_of w.descriptors d old new k at (ap Some same) }

-- woken goroutines continue
pub wakes_keep : (t : Touched) (gs : List ℕ) (w : World) → ((h : ℕ) → Contains gs h → Contains t.goroutines h) → Keeps t w (after_wakes gs w)
wakes_keep t [] w among = Keeps-same
wakes_keep t (g ∷ gs) w among =
    Keeps-then (goroutine_set t w g _ _ (among g (here g gs))) (wakes_keep t gs _ (λ h at. among h (later g gs h at)))
