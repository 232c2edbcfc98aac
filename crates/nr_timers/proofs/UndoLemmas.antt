-- An undo restores the state that its delta determines.
use Rattle.std.proofs.Common.{◌≡◌, ℕ, ◌-◌, ◌*◌, List, length, take, sym, ap, ◌∙◌, subst, arith, suc, [], ◌∷◌, ◌++◌, zero, Some}
use Rattle.std.specs.Prelude.{insert, remove, slice_get}
use Rattle.std.proofs.lemmas.List.{append-nil, drop_all}
use Rattle.std.proofs.lemmas.Option.{get_or_from_slice_get}
use Rattle.nr_rev.specs.declared.timer.Entry.{Entry}
use Rattle.nr_rev.specs.declared.timer.Timer.{Timer}
use Rattle.nr_timers.specs.Order.{at, blank}
use Rattle.nr_timers.specs.Auxiliary.Change.{InsertedBack, RemovedBack}
use Rattle.nr_timers.specs.BackLaws.{InsertedBack-unique, RemovedBack-unique}
use Rattle.nr_timers.specs.Index.{Keyed}
use Rattle.nr_timers.specs.State.{State}
use Rattle.nr_timers.specs.Back.{ArmedBack, RearmedBack, StoppedBack, PoppedBack, with_timer}

module _ (now new : State) (descriptors : new.descriptors ≡ now.descriptors) where
  pub armed_undone : (to : ℕ) → InsertedBack to now.entries new.entries → new.firings ≡ now.firings → new.next ≡ now.next - 1 → ((old : State) × ArmedBack to now old) → ArmedBack to now new
  armed_undone to back firings next (old, b) =
      let same = InsertedBack-unique to now.entries old.entries new.entries b.places back in
      let was = b.number in
      record {
        places = back;
        keyed = subst (λ (xs : List Entry). Keyed xs (2 * now.descriptors)) same b.keyed;
        number = omega arith;
        rest = λ i. record { entries = new.entries; firings = firings i; next = new.next; descriptors = descriptors i };
      }

  pub rearmed_undone : (to place last : ℕ) (timer : Timer) (mid : List Entry) → InsertedBack to now.entries mid → RemovedBack place last (with_timer now.entries to timer) mid new.entries
      → new.firings ≡ now.firings → new.next ≡ now.next - 1 → ((old : State) × RearmedBack to place last timer now old) → RearmedBack to place last timer now new
  rearmed_undone to place last timer mid back removed firings next (old, b) =
      let mids = InsertedBack-unique to now.entries b.places.0 mid b.places.1 back in
      let same = RemovedBack-unique place last (with_timer now.entries to timer) mid old.entries new.entries
      (subst (λ (m : List Entry). RemovedBack place last (with_timer now.entries to timer) m old.entries) mids b.places.2) removed in
      let was = b.number in
      record {
        places = (mid, back, removed);
        keyed = subst (λ (xs : List Entry). Keyed xs (2 * now.descriptors)) same b.keyed;
        number = omega arith;
        rest = λ i. record { entries = new.entries; firings = firings i; next = new.next; descriptors = descriptors i };
      }

  pub stopped_undone : (place last : ℕ) (entry : Entry) → RemovedBack place last entry now.entries new.entries → new.firings ≡ now.firings → new.next ≡ now.next
      → ((old : State) × StoppedBack place last entry now old) → StoppedBack place last entry now new
  stopped_undone place last entry back firings next (old, b) =
      let same = RemovedBack-unique place last entry now.entries old.entries new.entries b.places back in
      record {
        places = back;
        keyed = subst (λ (xs : List Entry). Keyed xs (2 * now.descriptors)) same b.keyed;
        rest = λ i. record { entries = new.entries; firings = firings i; next = next i; descriptors = descriptors i };
      }

  pub popped_undone : (last : ℕ) (entry : Entry) → entry ≡ at now.firings (length now.firings - 1) → RemovedBack 0 last entry now.entries new.entries
      → new.firings ≡ take (length now.firings - 1) now.firings → new.next ≡ now.next → ((old : State) × PoppedBack last now old) → PoppedBack last now new
  popped_undone last entry is back firings next (old, b) =
      let here : RemovedBack 0 last (at now.firings (length now.firings - 1)) now.entries new.entries = subst (λ (x : Entry). RemovedBack 0 last x now.entries new.entries) is back in
      let same = RemovedBack-unique 0 last (at now.firings (length now.firings - 1)) now.entries old.entries new.entries b.places here in
      record {
        some = b.some;
        places = here;
        keyed = subst (λ (xs : List Entry). Keyed xs (2 * now.descriptors)) same b.keyed;
        rest = λ i. record { entries = new.entries; firings = firings i; next = next i; descriptors = descriptors i };
      }

-- the conditions for restoring the entry
pub rearmed_needs : (now : State) (to place last limit : ℕ) (timer : Timer) (mid : List Entry) → InsertedBack to now.entries mid → limit ≡ 2 * now.descriptors
    → ((old : State) × RearmedBack to place last timer now old) → (x : List Entry) × RemovedBack place last (with_timer now.entries to timer) mid x × Keyed x limit
rearmed_needs now to place last limit timer mid back is (old, b) = (
  old.entries,
  subst (λ (m : List Entry). RemovedBack place last (with_timer now.entries to timer) m old.entries) (InsertedBack-unique to now.entries b.places.0 mid b.places.1 back) b.places.2,
  subst (λ n. Keyed old.entries n) (sym is) b.keyed,
)

-- reading the last firing
pub last_is : (xs : List Entry) (e : Entry) → slice_get xs (length xs - 1) ≡ Some e → e ≡ at xs (length xs - 1)
last_is xs e is = sym (get_or_from_slice_get xs (length xs - 1) e blank is)

pub last_removed : (xs : List Entry) → remove xs (length xs - 1) ≡ take (length xs - 1) xs
last_removed xs = ap (λ (ys : List Entry). take (length xs - 1) xs ++ ys) (drop_all (suc (length xs - 1)) xs (omega arith)) ∙ append-nil (take (length xs - 1) xs)

-- inserting a removed firing again restores the list
pub returned : (xs : List Entry) (i : ℕ) (e : Entry) → slice_get xs i ≡ Some e → insert (remove xs i) i e ≡ xs
returned [] i e there = absurd cc
returned (x ∷ xs) zero e there = cc
returned (x ∷ xs) (suc i) e there = ap (λ ys. x ∷ ys) (returned xs i e there)
