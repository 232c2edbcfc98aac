-- Changing a descriptor with its timers has the same outcome in the parts and in the machine.
use Rattle.std.proofs.Common.{◌≡◌, ◌≢◌, ℕ, ◌<◌, ◌≤◌, List, [], ◌∷◌, length, map, Option, Some, None, Ok, refl, sym, ap, subst, ◌∙◌, arith}
use Rattle.std.proofs.lemmas.Option.{slice_get_within}
use Rattle.std.specs.Prelude.{remove, slice_get}
use Rattle.nr_rev.specs.declared.descriptor.Descriptor.{Descriptor}
use Rattle.nr_rev.specs.declared.descriptor.DescriptorRow.{DescriptorRow}
use Rattle.nr_rev.specs.declared.refusal.Refusal.TheVariants.{NoSuchDescriptor}
use Rattle.nr_rev.specs.declared.sides.Side.TheVariants.{Read, Write}
use Rattle.nr_rev.specs.declared.sides.Sides.{Sides}
use Rattle.nr_rev.specs.declared.status.Status.{Status}
use Rattle.nr_rev.specs.declared.timer.Entry.{Entry}
use Rattle.nr_rev.specs.declared.timer.TimerOrder.{TimerOrder}
use Rattle.nr_rev.specs.Refusing.{◌>>=◌, found_or}
use Rattle.nr_rev.specs.Step.{Outcome, after_wakes}
use Rattle.nr_rev.specs.Weight.{number_weight, option_weight, sides_weight}
use Rattle.nr_rev.specs.World.{World, with_row}
use Rattle.nr_desc.specs.Change.{listed}
use Rattle.nr_desc.specs.Desc.{DescFits}
use Rattle.nr_desc.specs.Op as desc_op
use Rattle.nr_desc.specs.Auxiliary.Op as desc_op_auxiliary
use Rattle.nr_desc.specs.declared.op.DescAnswer.{DescAnswer}
use Rattle.nr_desc.specs.declared.op.DescOp.{DescOp}
use Rattle.nr_desc.specs.declared.reversible.DescDelta.{DescDelta}
use Rattle.nr_gsema.specs.Applying.{IsQueuedUp}
use Rattle.nr_timers.specs.Back as timers
use Rattle.nr_timers.specs.State.{IsTimers, State}
use Rattle.nr_timers.specs.TimersOf.{timers_of}
use Rattle.nr_timers.specs.declared.delta.TimersDelta.{TimersDelta}
use Rattle.nr_timers.specs.declared.op.TimersOp.{TimersOp}
use Rattle.nr_timers.specs.declared.op.TimersOp.TheVariants.{TakeFiring}
use Rattle.nr_machine.specs.declared.delta.DescUndo.{DescUndo}
use Rattle.nr_machine.specs.declared.delta.TheConstants.{MOST_WORDS}
use Rattle.nr_machine.specs.declared.delta.WorldUndo.TheVariants.{Changed}
use Rattle.nr_machine.specs.declared.world_core.Core.{Core}
use Rattle.nr_machine.specs.Asked.{TimersMade, asked_at, asked_by, timers_op}
use Rattle.nr_machine.specs.Auxiliary.Changing.{with_descriptor}
use Rattle.nr_machine.specs.Continuing.{CanWake, Obeyed, TakesFiring, changing, orders_outcome, without_firing, woken_any, woken_both}
use Rattle.nr_machine.specs.Delta.{ObeyBack, WokenBack}
use Rattle.nr_machine.specs.Fits.{CoreFits, IsWorld, PartsFit}
use Rattle.nr_machine.specs.Auxiliary.Made.{Made}
use Rattle.nr_machine.specs.Rows.{row_of}
use Rattle.nr_machine.specs.World.{WorldParts, meant}
use Rattle.nr_machine.proofs.ChangingLemmas.{described_back}
use Rattle.nr_machine.proofs.FitsLemmas.{IsTiedAs, counted_fits, descriptor_fits, descriptor_tied, retied, tied_then, timed_fits, timed_tied}
use Rattle.nr_machine.proofs.ObeyLemmas.{orders_change, orders_lead, seen}
use Rattle.nr_machine.proofs.RowsLemmas.{row_at, row_set}
use Rattle.nr_machine.proofs.WakeLemmas.{both_mean, can_wake}

-- ---- the timers afterwards

-- true if the requested operations changed the timers of descriptor d as its orders say
pub record Timed (d : ℕ) (orders : List TimerOrder) (asked : List TimersOp) (both : Sides (Option TimersDelta)) (old new : Core) : Type 0 where
  pub rest : new ≡ record old { timers = new.timers }
  pub fits : IsTimers new.timers
  pub leads : orders_outcome d orders old ≡ Ok (seen d new.timers)
  pub others : (k : ℕ) → k ≢ d → timers_of new.timers.entries k ≡ timers_of old.timers.entries k
  pub room : new.timers.descriptors ≡ old.timers.descriptors
  pub made : TimersMade asked old.timers new.timers
  pub back : ObeyBack both new old
  pub light : sides_weight (option_weight timers.delta_weight) both ≤ 20

-- once a descriptor's orders have been carried out, its timers are as the orders say
obeyed_timed : (d : ℕ) (orders : List TimerOrder) (both : Sides (Option TimersDelta)) (old new : Core) → Obeyed old d orders new → ObeyBack both new old
    → sides_weight (option_weight timers.delta_weight) both ≤ 20 → Timed d orders (map (timers_op d) orders) both old new
obeyed_timed d orders both old new obeyed back light =
    let changes = orders_change d orders old.timers new.timers obeyed.timers in
    record {
      rest = obeyed.rest;
      fits = obeyed.fits;
      leads = orders_lead d orders old.timers new.timers obeyed.timers;
      others = changes.others;
      room = changes.room;
      made = obeyed.timers;
      back = back;
      light = light;
    }

-- the timers after a firing is removed
taken_timed : (d place : ℕ) (delta : TimersDelta) (old new : Core) → TakesFiring old place delta new → Timed d [] (TakeFiring place ∷ []) (record { read = Some delta; write = None }) old new
taken_timed d place delta old new takes =
    let rest : new.timers ≡ record old.timers { firings = remove old.timers.firings place } = takes.step.1.rest in
    let light = takes.light in
    record {
      rest = takes.rest;
      fits = takes.fits;
      leads = ap (λ (t : State). Ok (seen d t)) (sym rest);
      others = λ k apart. ap (λ (t : State). timers_of t.entries k) rest;
      room = ap (λ (t : State). t.descriptors) rest;
      made = (new.timers, takes.step, refl);
      back = (new, refl, takes.back);
      light = omega (arith, light);
    }

none_of : {A B : Type 0} (f : A → B) (xs : List A) → map f xs ≡ [] → xs ≡ []
none_of f [] is = refl
none_of f (x ∷ xs) is = absurd cc

-- ---- the world

-- the world w with these firings
abbrev pub with_firings : State → World → World
with_firings t w = record w { firings = t.firings }

module _ (m : WorldParts) (d : ℕ) (o : DescOp) (x after : Descriptor) (answer : DescAnswer) (there : slice_get m.core.descriptors.items d ≡ Some x)
    (step : desc_op_auxiliary.StepTo x o answer after) (t : State) where
  -- the world after the descriptor and its timers change
  abbrev left_world : World
  left_world = record (with_row d (row_of after (timers_of t.entries d)) (with_firings t (meant m))) { next_arming = t.next }

  changing_leads : orders_outcome d answer.orders m.core ≡ Ok (seen d t)
      → changing d o (with_firings t (meant m)) ≡ Ok (answer.answer, after_wakes (listed answer.woken) left_world)
  changing_leads leads = rw (row_at m.core.descriptors.items m.core.timers.entries d x there, step.defined, leads) refl

  written_means : ((k : ℕ) → k ≢ d → timers_of t.entries k ≡ timers_of m.core.timers.entries k)
      → meant (record m { core = with_descriptor d after (record m.core { timers = t }) }) ≡ left_world
  written_means others =
      ap (λ (rows : List DescriptorRow). record (meant m) { descriptors = rows; firings = t.firings; next_arming = t.next })
      (row_set m.core.descriptors.items m.core.timers.entries t.entries d after others)

-- ---- the parts still fit

-- the core after statuses and the number of waiters change
abbrev moved : List Status → ℕ → Core → Core
moved gs n core = record core { goroutines = record core.goroutines { goroutines = gs }; waiters = n }

woken_is : (d : ℕ) (read write : Option ℕ) (core : Core) → (gs : List Status) × (n : ℕ) × (woken_any d Write write (woken_any d Read read core) ≡ moved gs n core)
woken_is d None None core = (core.goroutines.goroutines, core.waiters, refl)
woken_is d (Some g) None core = (_, _, refl)
woken_is d None (Some g) core = (_, _, refl)
woken_is d (Some g) (Some k) core = (_, _, refl)

moved_fits : (gs : List Status) (n : ℕ) (core : Core) → CoreFits core → IsQueuedUp (moved gs n core).goroutines → CoreFits (moved gs n core)
moved_fits gs n core h queued = counted_fits core (moved gs n core).goroutines core.free core.clock n h queued refl refl refl

moved_tied : (gs : List Status) (n : ℕ) (core : Core) → IsTiedAs core (moved gs n core)
moved_tied gs n core = record { limits = refl; locks = refl; semaphores = λ s both past at. at; unarmed = λ all d past. all d past }

-- ---- the step

one_light : (o : Option ℕ) → option_weight number_weight o ≤ 2
one_light None = omega arith
one_light (Some g) = omega arith

woken_light : (both : Sides (Option ℕ)) → sides_weight (option_weight number_weight) both ≤ 4
woken_light both =
    let read = one_light both.read in
    let write = one_light both.write in
    omega (arith, read, write)

module _ (m : WorldParts) (d : ℕ) (o : DescOp) (x after : Descriptor) (answer : DescAnswer) (h : IsWorld m) (there : slice_get m.core.descriptors.items d ≡ Some x)
    (step : desc_op_auxiliary.StepTo x o answer after) where
  -- the goroutines can be woken after the descriptor is changed
  pub written_can : (asked : List TimersOp) (both : Sides (Option TimersDelta)) (timed written : Core) → Timed d answer.orders asked both m.core timed → written ≡ with_descriptor d after timed
      → CanWake d answer.woken written
  written_can asked both timed written times is =
      let all : written ≡ with_descriptor d after (record m.core { timers = timed.timers }) = is ∙ ap (with_descriptor d after) times.rest in
      can_wake m d x h there o after answer written step (ap (λ (c : Core). c.goroutines) all) (ap (λ (c : Core). c.waiters) all)

  -- the step is complete after the timer orders, the change to the descriptor and the wakes
  pub changed_made : (due : Outcome) (asked : List TimersOp) (both : Sides (Option TimersDelta)) (delta : DescDelta) (timed written new : Core)
      → DescFits after → Timed d answer.orders asked both m.core timed → written ≡ with_descriptor d after timed
      → new ≡ woken_both d answer.woken written → IsQueuedUp new.goroutines → WokenBack answer.woken new written
      → x ≡ delta.before → due ≡ changing d o (with_firings timed.timers (meant m))
      → Made due asked MOST_WORDS m answer.answer (Changed (record { descriptor = d; before = delta }) both answer.woken) (record m { core = new })
  changed_made due asked both delta timed written new fits times written_is is queued woken_back before due_is =
      let t : State = timed.timers in
      let plain : Core = record m.core { timers = t } in
      let core : Core = with_descriptor d after plain in
      let all : written ≡ core = written_is ∙ ap (with_descriptor d after) times.rest in
      let can : CanWake d answer.woken core = subst (CanWake d answer.woken) all (written_can asked both timed written times written_is) in
      let end : new ≡ woken_both d answer.woken core = is ∙ ap (woken_both d answer.woken) all in
      let shape = woken_is d answer.woken.read answer.woken.write core in
      let moves : new ≡ moved shape.0 shape.1 core = end ∙ shape.2 in
      let parts = h.parts.core in
      let within : d < length m.core.descriptors.items = slice_get_within m.core.descriptors.items d x there in
      let timed_there : slice_get timed.descriptors.items d ≡ Some delta.before =
      ap (λ (c : Core). slice_get c.descriptors.items d) times.rest ∙ there ∙ ap (λ (y : Descriptor). Some y) before in
      let desc_back : timed ≡ with_descriptor d delta.before written =
      described_back timed written d after delta.before timed_there written_is in
      let light = times.light in
      let woken_words = woken_light answer.woken in (
        record {
          leads = due_is ∙ changing_leads m d o x after answer there step t times.leads
              ∙ ap (λ (w : World). Ok (answer.answer, w))
              (sym (ap (λ (c : Core). meant (record m { core = c })) end ∙ both_mean m d answer.woken core can
              ∙ ap (after_wakes (listed answer.woken)) (written_means m d o x after answer there step t times.others)));
          parts = subst (λ (c : Core). PartsFit (record m { core = c })) (sym moves)
              (retied m (moved shape.0 shape.1 core) h.parts
              (moved_fits shape.0 shape.1 core
              (descriptor_fits plain d x after (timed_fits m.core t parts times.fits times.room) there fits)
              (subst (λ (c : Core). IsQueuedUp c.goroutines) moves queued))
              (tied_then m.core core (moved shape.0 shape.1 core)
              (tied_then m.core plain core (timed_tied m.core t d within times.others) (descriptor_tied plain d after))
              (moved_tied shape.0 shape.1 core)));
          timers = subst (TimersMade asked m.core.timers) (ap (λ (c : Core). c.timers) (sym moves)) times.made;
        },
        (
          ((written, woken_back, (timed, desc_back, times.back)), refl),
          omega (arith, light, woken_words),
        ),
      )

  -- the requested operations on the timers are those of the orders
  pub asked_is : asked_at d o m ≡ map (timers_op d) answer.orders
  asked_is =
      ap (λ (r : Option Descriptor). asked_by d (found_or r NoSuchDescriptor >>= λ y. desc_op.outcome y o)) there
      ∙ ap (asked_by d) step.defined

  -- the change is made if its orders are carried out
  pub change_made : (sides : Sides (Option TimerOrder)) (both : Sides (Option TimersDelta)) (delta : DescDelta) (timed written new : Core)
      → answer.orders ≡ listed sides → Obeyed m.core d (listed sides) timed → ObeyBack both timed m.core
      → sides_weight (option_weight timers.delta_weight) both ≤ 20
      → DescFits after → written ≡ with_descriptor d after timed → new ≡ woken_both d answer.woken written → IsQueuedUp new.goroutines → WokenBack answer.woken new written
      → x ≡ delta.before
      → Made (changing d o (meant m)) (asked_at d o m) MOST_WORDS m answer.answer (Changed (record { descriptor = d; before = delta }) both answer.woken) (record m { core = new })
  change_made sides both delta timed written new orders obeyed back light fits written_is is queued woken_back before =
      let did : Obeyed m.core d answer.orders timed = subst (λ (os : List TimerOrder). Obeyed m.core d os timed) (sym orders) obeyed in
      let same : timed.timers.firings ≡ m.core.timers.firings = (orders_change d answer.orders m.core.timers timed.timers did.timers).firings in
      let undo : DescUndo = record { descriptor = d; before = delta } in
      subst (λ (asked : List TimersOp). Made (changing d o (meant m)) asked MOST_WORDS m answer.answer (Changed undo both answer.woken) (record m { core = new })) (sym asked_is)
      (changed_made (changing d o (meant m)) (map (timers_op d) answer.orders) both delta timed written new fits
      (obeyed_timed d answer.orders both m.core timed did back light) written_is is queued woken_back before
      (ap (λ (firings : List Entry). changing d o (record (meant m) { firings = firings })) (sym same)))

  -- the goroutines can be woken after the orders are carried out
  pub change_can : (sides : Sides (Option TimerOrder)) (both : Sides (Option TimersDelta)) (timed written : Core) → answer.orders ≡ listed sides → Obeyed m.core d (listed sides) timed
      → ObeyBack both timed m.core → sides_weight (option_weight timers.delta_weight) both ≤ 20 → written ≡ with_descriptor d after timed → CanWake d answer.woken written
  change_can sides both timed written orders obeyed back light written_is =
      let did : Obeyed m.core d answer.orders timed = subst (λ (os : List TimerOrder). Obeyed m.core d os timed) (sym orders) obeyed in
      written_can (map (timers_op d) answer.orders) both timed written (obeyed_timed d answer.orders both m.core timed did back light) written_is

  orders_none : asked_at d o m ≡ [] → answer.orders ≡ []
  orders_none none = none_of (timers_op d) answer.orders (sym asked_is ∙ none)

  firing_timed : (place : ℕ) (taken : TimersDelta) (timed : Core) → asked_at d o m ≡ [] → TakesFiring m.core place taken timed
      → Timed d answer.orders (TakeFiring place ∷ []) (record { read = Some taken; write = None }) m.core timed
  firing_timed place taken timed quiet takes =
      subst (λ (orders : List TimerOrder). Timed d orders (TakeFiring place ∷ []) (record { read = Some taken; write = None }) m.core timed) (sym (orders_none quiet))
      (taken_timed d place taken m.core timed takes)

  -- the change is made if a firing is removed and there are no orders
  pub firing_made : (place : ℕ) (taken : TimersDelta) (delta : DescDelta) (timed written new : Core) → asked_at d o m ≡ [] → TakesFiring m.core place taken timed
      → DescFits after → written ≡ with_descriptor d after timed → new ≡ woken_both d answer.woken written → IsQueuedUp new.goroutines → WokenBack answer.woken new written
      → x ≡ delta.before
      → Made (changing d o (without_firing place (meant m))) (TakeFiring place ∷ []) MOST_WORDS m answer.answer
      (Changed (record { descriptor = d; before = delta }) (record { read = Some taken; write = None }) answer.woken) (record m { core = new })
  firing_made place taken delta timed written new quiet takes fits written_is is queued woken_back before =
      changed_made (changing d o (without_firing place (meant m))) (TakeFiring place ∷ []) (record { read = Some taken; write = None }) delta timed written new fits
      (firing_timed place taken timed quiet takes) written_is is queued woken_back before
      (ap (λ (t : State). changing d o (with_firings t (meant m))) (sym takes.step.1.rest))

  -- the goroutines can be woken after the firing is removed
  pub firing_can : (place : ℕ) (taken : TimersDelta) (timed written : Core) → asked_at d o m ≡ [] → TakesFiring m.core place taken timed → written ≡ with_descriptor d after timed
      → CanWake d answer.woken written
  firing_can place taken timed written quiet takes written_is =
      written_can (TakeFiring place ∷ []) (record { read = Some taken; write = None }) timed written (firing_timed place taken timed quiet takes) written_is
