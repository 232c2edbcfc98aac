-- The goroutines that an operation wakes: waking them has the same outcome in the parts and in the
-- machine.
use Rattle.std.proofs.Common.{◌≡◌, ℕ, ◌+◌, ◌-◌, ◌<◌, ◌≤◌, List, ◌++◌, length, get_or, set, Option, Some, None, inl, inr, refl, sym, ap, subst, ◌∙◌, arith, length-append}
use Rattle.std.proofs.lemmas.List.Sums.{get_or-le-sum_by}
use Rattle.std.proofs.lemmas.Option.{get_or_from_slice_get, slice_get_within}
use Rattle.std.specs.Prelude.{IfSome, option_map, option_to_list, slice_get, sum_by}
use Rattle.nr_rev.specs.declared.descriptor.Descriptor.{Descriptor}
use Rattle.nr_rev.specs.declared.descriptor.DescriptorRow.{DescriptorRow}
use Rattle.nr_rev.specs.declared.descriptor.WaitWord.{WaitWord}
use Rattle.nr_rev.specs.declared.descriptor.WaitWord.TheVariants.{Nil, Ready, Wait, Held}
use Rattle.nr_rev.specs.declared.sides.Side.{Side}
use Rattle.nr_rev.specs.declared.sides.Side.TheVariants.{Read, Write}
use Rattle.nr_rev.specs.declared.sides.Sides.{Sides}
use Rattle.nr_rev.specs.declared.status.Status.{Status}
use Rattle.nr_rev.specs.declared.status.Status.TheVariants.{Idle, Parked, Swapping}
use Rattle.nr_rev.specs.Lock.{bit}
use Rattle.nr_rev.specs.Sides.{of_side}
use Rattle.nr_rev.specs.Step.{after_wake, after_wakes}
use Rattle.nr_rev.specs.WellFormed.{held_count, is_held}
use Rattle.nr_rev.specs.World.{World}
use Rattle.nr_rev.proofs.ListUpdateLemmas.{slice_get-set_cases}
use Rattle.nr_laws.proofs.WaitWordSetLemmas.{parked_at}
use Rattle.nr_desc.specs.Change.{listed}
use Rattle.nr_desc.specs.Auxiliary.Change.{both_let_go, let_go}
use Rattle.nr_desc.specs.Auxiliary.Op.{StepTo, woken_by}
use Rattle.nr_desc.specs.declared.op.DescAnswer.{DescAnswer}
use Rattle.nr_desc.specs.declared.op.DescOp.{DescOp}
use Rattle.nr_desc.specs.declared.op.DescOp.TheVariants as op
use Rattle.nr_gsema.specs.Applying.{IsQueuedUp}
use Rattle.nr_gsema.specs.Table.{GoroutineTable}
use Rattle.nr_timers.specs.TimersOf.{timers_of}
use Rattle.nr_machine.specs.declared.world_core.Core.{Core}
use Rattle.nr_machine.specs.Continuing.{CanWake, woken_any, woken_both}
use Rattle.nr_machine.specs.Fits.{IsWorld}
use Rattle.nr_machine.specs.Rows.{row_of}
use Rattle.nr_machine.specs.World.{WorldParts, meant}
use Rattle.nr_machine.proofs.RowsLemmas.{row_at}

-- ---- the word of a side held the goroutine that is woken

let_go_held : (before after : WaitWord) (g : ℕ) → let_go before after ≡ Some g → before ≡ Held g
let_go_held (Held h) (Held k) g is = absurd cc
let_go_held (Held h) Nil g is = cc
let_go_held (Held h) Ready g is = cc
let_go_held (Held h) Wait g is = cc
let_go_held Nil after g is = absurd cc
let_go_held Ready after g is = absurd cc
let_go_held Wait after g is = absurd cc

sides_held : (old new : Sides WaitWord) (side : Side) (g : ℕ) → of_side side (both_let_go old new) ≡ Some g → of_side side old ≡ Held g
sides_held old new Read g is = let_go_held old.read new.read g is
sides_held old new Write g is = let_go_held old.write new.write g is

-- if an operation wakes a goroutine at a side, that side's word held the goroutine
woken_held : (o : DescOp) (old new : Descriptor) (side : Side) (g : ℕ) → of_side side (woken_by o old new) ≡ Some g → of_side side old.words ≡ Held g
woken_held (op.SetDeadline clock mode t) old new side g is = sides_held old.words new.words side g is
woken_held op.Evict old new side g is = sides_held old.words new.words side g is
woken_held (op.Fire function sequence) old new side g is = sides_held old.words new.words side g is
woken_held (op.Event tag mode error) old new side g is = sides_held old.words new.words side g is
woken_held _ old new Read g is = absurd cc
woken_held _ old new Write g is = absurd cc

let_go_counted : (before after : WaitWord) → length (option_to_list (let_go before after)) ≤ bit (is_held before)
let_go_counted (Held h) (Held k) = omega arith
let_go_counted (Held h) Nil = omega arith
let_go_counted (Held h) Ready = omega arith
let_go_counted (Held h) Wait = omega arith
let_go_counted Nil after = omega arith
let_go_counted Ready after = omega arith
let_go_counted Wait after = omega arith

sides_counted : (old new : Sides WaitWord) → length (listed (both_let_go old new)) ≤ bit (is_held old.read) + bit (is_held old.write)
sides_counted old new =
    let read = let_go_counted old.read new.read in
    let write = let_go_counted old.write new.write in
    let both = length-append (option_to_list (let_go old.read new.read)) (option_to_list (let_go old.write new.write)) in
    omega (arith, read, write, both)

-- an operation wakes no more goroutines than the words held
woken_counted : (o : DescOp) (old new : Descriptor) → length (listed (woken_by o old new)) ≤ bit (is_held old.words.read) + bit (is_held old.words.write)
woken_counted (op.SetDeadline clock mode t) old new = sides_counted old.words new.words
woken_counted op.Evict old new = sides_counted old.words new.words
woken_counted (op.Fire function sequence) old new = sides_counted old.words new.words
woken_counted (op.Event tag mode error) old new = sides_counted old.words new.words
woken_counted _ old new = omega arith

module _ (m : WorldParts) (d : ℕ) (x : Descriptor) (h : IsWorld m) (there : slice_get m.core.descriptors.items d ≡ Some x) where
  abbrev row : DescriptorRow
  row = row_of x (timers_of m.core.timers.entries d)

  found : slice_get (meant m).descriptors d ≡ Some row
  found = row_at m.core.descriptors.items m.core.timers.entries d x there

  -- if a descriptor's wait word holds a goroutine, that goroutine is parked at the word's side
  held_parked : (side : Side) (g : ℕ) → of_side side x.words ≡ Held g → slice_get m.core.goroutines.goroutines g ≡ Some (Parked d side)
  held_parked side g is =
      parked_at m.core.goroutines.goroutines g d side
      ((h.meaning.words.held g d side).0
      (ap (option_map (λ (r : DescriptorRow). of_side side r.descriptor.words)) found ∙ ap (λ (word : WaitWord). Some word) is))

  held_within : bit (is_held x.words.read) + bit (is_held x.words.write) ≤ m.core.waiters
  held_within =
      let rows = (meant m).descriptors in
      let within : d < length rows = slice_get_within rows d row found in
      let most : held_count (get_or rows d row) ≤ sum_by held_count rows = get_or-le-sum_by held_count rows d row within in
      let same : get_or rows d row ≡ row = get_or_from_slice_get rows d row row found in
      let one : held_count row ≤ sum_by held_count rows = subst (λ (r : DescriptorRow). held_count r ≤ sum_by held_count rows) same most in
      let counted = h.meaning.words.counted in
      omega (arith, one, counted)

  -- the goroutines that an operation on a descriptor wakes are parked and counted
  pub can_wake : (o : DescOp) (after : Descriptor) (answer : DescAnswer) (core : Core) → StepTo x o answer after → core.goroutines ≡ m.core.goroutines → core.waiters ≡ m.core.waiters
      → CanWake d answer.woken core
  can_wake o after answer core step goroutines waiters =
      let is : answer.woken ≡ woken_by o x after = step.woken in
      let few : length (listed answer.woken) ≤ bit (is_held x.words.read) + bit (is_held x.words.write) =
      subst (λ (both : Sides (Option ℕ)). length (listed both) ≤ bit (is_held x.words.read) + bit (is_held x.words.write)) (sym is) (woken_counted o x after) in
      let within = held_within in
      record {
        parked = λ side g at.
            ap (λ (t : GoroutineTable). slice_get t.goroutines g) goroutines
            ∙ held_parked side g (woken_held o x after side g (ap (of_side side) (sym is) ∙ at));
        counted = omega (arith, few, within, waiters);
        queued = subst IsQueuedUp (sym goroutines) h.parts.core.queued;
      }

-- ---- one after the other

-- true if goroutine g is parked at d's side and counted
abbrev pub Waits : ℕ → Side → Core → ℕ → Type 0
Waits d side core g = (slice_get core.goroutines.goroutines g ≡ Some (Parked d side)) × (0 < core.waiters)

first_of : (d : ℕ) (read write : Option ℕ) (core : Core) → CanWake d (record { read = read; write = write }) core → IfSome read (Waits d Read core)
first_of d None write core can = tt
first_of d (Some g) write core can =
    let counted = can.counted in
    (can.parked Read g refl, omega (arith, counted))

next_of : (d : ℕ) (read write : Option ℕ) (core : Core) → CanWake d (record { read = read; write = write }) core → IfSome write (Waits d Write (woken_any d Read read core))
next_of d read None core can = tt
next_of d None (Some g) core can =
    let counted = can.counted in
    (can.parked Write g refl, omega (arith, counted))
next_of d (Some h) (Some g) core can =
    let counted = can.counted in
    let gs : List Status = core.goroutines.goroutines in
    let read : slice_get gs h ≡ Some (Parked d Read) = can.parked Read h refl in
    let write : slice_get gs g ≡ Some (Parked d Write) = can.parked Write g refl in
    let there : slice_get (set gs h (Swapping d Read)) g ≡ Some (Parked d Write) =
    elim (slice_get-set_cases gs h (Parked d Read) (Swapping d Read) g read) [
      | inl here ↦ absurd (let same = ap (slice_get gs) here.0 in cc)
      | inr other ↦ other.1 ∙ write
    ] in
    (there, omega (arith, counted))

pub first_can : (d : ℕ) (both : Sides (Option ℕ)) (core : Core) → CanWake d both core → IfSome both.read (Waits d Read core)
first_can d both core can = first_of d both.read both.write core can

pub next_can : (d : ℕ) (both : Sides (Option ℕ)) (core mid : Core) → CanWake d both core → mid ≡ woken_any d Read both.read core → IfSome both.write (Waits d Write mid)
next_can d both core mid can is =
    subst (λ (c : Core). IfSome both.write (Waits d Write c)) (sym is) (next_of d both.read both.write core can)

-- ---- in the world

any_means : (m : WorldParts) (d : ℕ) (side : Side) (o : Option ℕ) (core : Core) → IfSome o (Waits d side core)
    → meant (record m { core = woken_any d side o core }) ≡ after_wakes (option_to_list o) (meant (record m { core = core }))
any_means m d side None core waits = refl
any_means m d side (Some g) core waits =
    let gs : List Status = core.goroutines.goroutines in
    ap (λ (status : Status). record (meant (record m { core = core })) { goroutines = set gs g (after_wake status); waiters = core.waiters - 1 })
    (sym (get_or_from_slice_get gs g (Parked d side) Idle waits.0))

wakes_append : (read write : Option ℕ) (w : World) → after_wakes (option_to_list read ++ option_to_list write) w ≡ after_wakes (option_to_list write) (after_wakes (option_to_list read) w)
wakes_append None write w = refl
wakes_append (Some g) write w = refl

-- waking the reader and then the writer has the same effect in the parts as in the world
pub both_mean : (m : WorldParts) (d : ℕ) (both : Sides (Option ℕ)) (core : Core) → CanWake d both core
    → meant (record m { core = woken_both d both core }) ≡ after_wakes (listed both) (meant (record m { core = core }))
both_mean m d both core can =
    any_means m d Write both.write (woken_any d Read both.read core) (next_can d both core (woken_any d Read both.read core) can refl)
    ∙ ap (after_wakes (option_to_list both.write)) (any_means m d Read both.read core (first_can d both core can))
    ∙ sym (wakes_append both.read both.write (meant (record m { core = core })))
