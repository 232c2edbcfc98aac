-- The list of lost wake-ups grows descriptor by descriptor, and it is exact.
use Rattle.std.proofs.Common.{◌≡◌, inl, inr, ℕ, zero, suc, ◌+◌, ◌<◌, Bool, true, false, List, [], ◌∷◌, ◌++◌, Option, Some, None, refl, ap, subst, sym, ◌∙◌, add-one, arith}
use Rattle.std.specs.Prelude.{Contains, ◌==◌, option_map, slice_get}
use Rattle.std.proofs.lemmas.Bool.{eqb-false, eqb-true}
use Rattle.std.proofs.lemmas.List.{append_assoc}
use Rattle.std.proofs.lemmas.List.Elements.{Contains-append_left, Contains-append_right, Contains-append_cases, Contains-push, Contains-push_cases}
use Rattle.std.proofs.lemmas.Option.{same_Some}
use Rattle.nr_rev.specs.Cell.{cell, value_or_absent}
use Rattle.nr_rev.specs.Run.{Recording, world_at}
use Rattle.nr_rev.specs.Sides.{of_side}
use Rattle.nr_rev.specs.WellFormed.{HasView, HasWaitWord, WellFormed, parked_of}
use Rattle.nr_rev.specs.declared.cell_value.CellValue.{CellValue}
use Rattle.nr_rev.specs.declared.descriptor.DescriptorRow.{DescriptorRow}
use Rattle.nr_rev.specs.declared.descriptor.WaitWord.{WaitWord}
use Rattle.nr_rev.specs.declared.descriptor.WaitWord.TheVariants.{Nil, Ready, Wait, Held}
use Rattle.nr_rev.specs.declared.sides.Side.{Side}
use Rattle.nr_rev.specs.declared.sides.Side.TheVariants.{Read, Write}
use Rattle.nr_rev.specs.World.{World}
use Rattle.nr_suspects.specs.declared.account.Account.{Account}
use Rattle.nr_suspects.specs.declared.lost_wake_up.LostWakeUp.{LostWakeUp}
use Rattle.nr_suspects.specs.declared.account.Debt.{Debt}
use Rattle.nr_suspects.specs.Debts.{account, debt, IsEvent, IsPayment}
use Rattle.nr_suspects.specs.LostWakeUps.{HasLost, lost_at, lost_below, lost_by, lost_wake_ups}
use Rattle.nr_suspects.specs.Notices.{word_cell}
use Rattle.nr_suspects.proofs.ReadinessLemmas.{word_of_cell}
use Rattle.nr_suspects.proofs.DebtLemmas.{debt_is_owed, debt_of, owed_is_kept, paid_since}

-- ---- listing

-- the list extended by the lost wake-ups of the next descriptor
pub next_listed : (n : ℕ) (w : World) (kept : ℕ → Option Account) (d : ℕ) (a : Option Account) (before between after : List LostWakeUp) → a ≡ kept d → before ≡ lost_below n w kept d
    → between ≡ before ++ lost_at n w d a Read → after ≡ between ++ lost_at n w d a Write → after ≡ lost_below n w kept (d + 1)
next_listed n w kept d a before between after same is read write =
    write
    ∙ ap (λ xs. xs ++ lost_at n w d a Write) (read ∙ ap (λ xs. xs ++ lost_at n w d a Read) is)
    ∙ append_assoc (lost_below n w kept d) (lost_at n w d a Read) (lost_at n w d a Write)
    ∙ ap (λ x. lost_below n w kept d ++ (lost_at n w d x Read ++ lost_at n w d x Write)) same
    ∙ ap (lost_below n w kept) (sym (add-one d))

-- ---- the list is exact

pub here : {X : Type 0} (x : X) → Contains (x ∷ []) x
here x = Contains-push [] x

pub nowhere : {X : Type 0} (y : X) → Contains [] y → ⊥
nowhere y at = omega (arith, at.1)

-- the entry describes this side: the side's word holds the entry's goroutine, and the side has this
-- debt
pub record IsOf (n d : ℕ) (side : Side) (word : CellValue) (debt : Option Debt) (lost : LostWakeUp) : Type 0 where
  pub held : word ≡ CellValue.WaitWord (Held lost.goroutine)
  pub owed : (b : Debt) × (debt ≡ Some b) × (lost.event ≡ b.event) × (lost.taken ≡ b.taken)
  pub position : lost.position ≡ n
  pub descriptor : lost.descriptor ≡ d
  pub side_is : lost.side ≡ side

from_word : (n d : ℕ) (side : Side) (word : CellValue) (debt : Option Debt) (lost : LostWakeUp) → Contains (lost_by n d side word debt) lost → IsOf n d side word debt lost
from_word n d side (CellValue.WaitWord (Held g)) (Some b) lost at =
    let made : LostWakeUp = record { position = n; goroutine = g; descriptor = d; side = side; event = b.event; taken = b.taken } in
    elim (Contains-push_cases [] made lost at) [
      | inl none ↦ absurd (nowhere lost none)
      | inr same ↦
          subst (IsOf n d side (CellValue.WaitWord (Held g)) (Some b)) same
          (record { held = refl; owed = (b, refl, refl, refl); position = refl; descriptor = refl; side_is = refl })
    ]
from_word n d side (CellValue.WaitWord (Held g)) None lost at = absurd (nowhere lost at)
from_word n d side (CellValue.WaitWord Nil) debt lost at = absurd (nowhere lost at)
from_word n d side (CellValue.WaitWord Ready) debt lost at = absurd (nowhere lost at)
from_word n d side (CellValue.WaitWord Wait) debt lost at = absurd (nowhere lost at)
from_word n d side CellValue.Absent debt lost at = absurd (nowhere lost at)
from_word n d side (CellValue.Number x) debt lost at = absurd (nowhere lost at)
from_word n d side (CellValue.Time x) debt lost at = absurd (nowhere lost at)
from_word n d side (CellValue.Status x) debt lost at = absurd (nowhere lost at)

module _ (n : ℕ) (w : World) (kept : ℕ → Option Account) where
  -- the lost wake-up at a side names that side
  at_own : (d : ℕ) (side : Side) (lost : LostWakeUp) → Contains (lost_at n w d (kept d) side) lost → Contains (lost_at n w lost.descriptor (kept lost.descriptor) lost.side) lost
  at_own d side lost at =
      let is = from_word n d side (cell w (word_cell d side)) (debt_of side (kept d)) lost at in
      subst (λ e. Contains (lost_at n w e (kept e) lost.side) lost) (sym is.descriptor)
      (subst (λ e. Contains (lost_at n w d (kept d) e) lost) (sym is.side_is) at)

  from_all : (k : ℕ) (lost : LostWakeUp) → Contains (lost_below n w kept k) lost → Contains (lost_at n w lost.descriptor (kept lost.descriptor) lost.side) lost
  from_all zero lost at = absurd (nowhere lost at)
  from_all (suc k) lost at =
      elim (Contains-append_cases (lost_below n w kept k) (lost_at n w k (kept k) Read ++ lost_at n w k (kept k) Write) lost at) [
        | inl before ↦ from_all k lost before
        | inr last ↦ elim (Contains-append_cases (lost_at n w k (kept k) Read) (lost_at n w k (kept k) Write) lost last) [
          | inl reads ↦ at_own k Read lost reads
          | inr writes ↦ at_own k Write lost writes
        ]
      ]

  to_both : (k : ℕ) (side : Side) (lost : LostWakeUp) → Contains (lost_at n w k (kept k) side) lost → Contains (lost_at n w k (kept k) Read ++ lost_at n w k (kept k) Write) lost
  to_both k Read lost at = Contains-append_left (lost_at n w k (kept k) Read) (lost_at n w k (kept k) Write) lost at
  to_both k Write lost at = Contains-append_right (lost_at n w k (kept k) Read) (lost_at n w k (kept k) Write) lost at

  to_next : (k d : ℕ) (side : Side) (lost : LostWakeUp) (b : Bool) → (d == k) ≡ b → (b ≡ false → Contains (lost_below n w kept k) lost) → Contains (lost_at n w d (kept d) side) lost
      → Contains (lost_below n w kept (suc k)) lost
  to_next k d side lost true e before at =
      Contains-append_right (lost_below n w kept k) (lost_at n w k (kept k) Read ++ lost_at n w k (kept k) Write) lost
      (to_both k side lost (subst (λ j. Contains (lost_at n w j (kept j) side) lost) (eqb-true d k e) at))
  to_next k d side lost false e before at =
      Contains-append_left (lost_below n w kept k) (lost_at n w k (kept k) Read ++ lost_at n w k (kept k) Write) lost (before refl)

  to_all : (k d : ℕ) (side : Side) (lost : LostWakeUp) → d < k → Contains (lost_at n w d (kept d) side) lost → Contains (lost_below n w kept k) lost
  to_all zero d side lost below at = absurd (omega (arith, below))
  to_all (suc k) d side lost below at =
      to_next k d side lost (d == k) refl (λ e. let apart = eqb-false d k e in to_all k d side lost (omega (arith, below, apart)) at) at

-- a word holds only a goroutine that is parked at its side
pub held_word : (o : Option DescriptorRow) (side : Side) (g : ℕ) → value_or_absent (λ (row : DescriptorRow). CellValue.WaitWord (of_side side row.descriptor.words)) o ≡ CellValue.WaitWord (Held g)
    → option_map (λ (row : DescriptorRow). of_side side row.descriptor.words) o ≡ Some (Held g)
held_word None side g e = cc
held_word (Some row) side g e = ap Some (same_word (of_side side row.descriptor.words) e)
  where
    same_word : (x : WaitWord) → CellValue.WaitWord x ≡ CellValue.WaitWord (Held g) → x ≡ Held g
    same_word x is = cc

pub word_held : (o : Option DescriptorRow) (side : Side) (g : ℕ) → option_map (λ (row : DescriptorRow). of_side side row.descriptor.words) o ≡ Some (Held g)
    → value_or_absent (λ (row : DescriptorRow). CellValue.WaitWord (of_side side row.descriptor.words)) o ≡ CellValue.WaitWord (Held g)
word_held None side g e = cc
word_held (Some row) side g e = ap CellValue.WaitWord (same_Some _ _ e)

-- each entry describes the side that it names
pub listed_word : (r : Recording) (n : ℕ) (lost : LostWakeUp) → Contains (lost_wake_ups r n) lost
    → IsOf n lost.descriptor lost.side (cell (world_at r n) (word_cell lost.descriptor lost.side)) (debt r lost.descriptor lost.side n) lost
listed_word r n lost at =
    let d = lost.descriptor in
    from_word n d lost.side (cell (world_at r n) (word_cell d lost.side)) (debt r d lost.side n) lost (from_all n (world_at r n) (λ e. account r e n) r.limits.descriptors lost at)

-- each entry is a lost wake-up
pub listed_is_lost : (r : Recording) (n : ℕ) (lost : LostWakeUp) → WellFormed (world_at r n) → Contains (lost_wake_ups r n) lost
    → (has : HasLost r n lost.goroutine lost.descriptor lost.side) × (lost.position ≡ n) × (lost.event ≡ has.owed.event + 1)
listed_is_lost r n lost fits at =
    let w = world_at r n in
    let d = lost.descriptor in
    let side = lost.side in
    let is = listed_word r n lost at in
    let owed = debt_is_owed r d side n is.owed.0 is.owed.1 in
    let word : HasWaitWord w.descriptors d side (Held lost.goroutine) = held_word (slice_get w.descriptors d) side lost.goroutine (sym (word_of_cell w d side) ∙ is.held) in
    (record { parked = (fits.words.held lost.goroutine d side).0 word; owed = owed.0 }, is.position, is.owed.2 ∙ owed.1)

-- each lost wake-up is listed
pub lost_is_listed : (r : Recording) (n g d : ℕ) (side : Side) → WellFormed (world_at r n) → d < r.limits.descriptors → HasLost r n g d side
    → (lost : LostWakeUp) × Contains (lost_wake_ups r n) lost × (lost.goroutine ≡ g) × (lost.descriptor ≡ d) × (lost.side ≡ side)
lost_is_listed r n g d side fits below has =
    let w = world_at r n in
    let b = owed_is_kept r d side n has.owed.event has.owed.before has.owed.came has.owed.unpaid in
    let word : cell w (word_cell d side) ≡ CellValue.WaitWord (Held g) = word_of_cell w d side ∙ word_held (slice_get w.descriptors d) side g ((fits.words.held g d side).1 has.parked) in
    let lost : LostWakeUp = record { position = n; goroutine = g; descriptor = d; side = side; event = b.0.event; taken = b.0.taken } in
    let listed : lost_at n w d (account r d n) side ≡ lost ∷ [] = ap (λ x. lost_by n d side x (debt r d side n)) word ∙ ap (lost_by n d side (CellValue.WaitWord (Held g))) b.1 in
    (lost, to_all n w (λ e. account r e n) r.limits.descriptors d side lost below (subst (λ xs. Contains xs lost) (sym listed) (here lost)), refl, refl, refl)

-- if no lost wake-up is listed, each event for a side at which a goroutine is parked was followed
-- by a step that settled the debt
pub paid_if_none : (r : Recording) (n g d : ℕ) (side : Side) (event : ℕ) → WellFormed (world_at r n) → d < r.limits.descriptors → lost_wake_ups r n ≡ []
    → HasView parked_of (world_at r n).goroutines g (d, side) → event < n → IsEvent r d side event
    → (k : ℕ) × (event < k) × (k < n) × IsPayment r d side k
paid_if_none r n g d side event fits below none parked before came = go (debt r d side n) refl
  where
    go : (o : Option Debt) → debt r d side n ≡ o → (k : ℕ) × (event < k) × (k < n) × IsPayment r d side k
    go None is = paid_since r d side n event before came is
    go (Some b) is =
        let owed = debt_is_owed r d side n b is in
        let lost = lost_is_listed r n g d side fits below (record { parked = parked; owed = owed.0 }) in
        absurd (nowhere lost.0 (subst (λ xs. Contains xs lost.0) none lost.1))
