-- The timer that goes off first. The heap's first entry is the least entry of all descriptors'
-- timers, and the entry's descriptor has a row.
use Rattle.std.proofs.Common.{◌≡◌, ℕ, ◌*◌, ◌<◌, ◌≤◌, Bool, true, false, List, [], ◌∷◌, ◌++◌, length, map, Option, Some, None, Result, Ok, Err, inl, inr, ⊎_elim, refl, sym, ap, subst, ◌∙◌, arith, eq-eqb}
use Rattle.std.proofs.lemmas.Bool.Decides.{nat_tests}
use Rattle.std.proofs.lemmas.Option.{none-some, slice_get_cases, slice_get_within}
use Rattle.std.specs.Prelude.{◌==◌, ◌&&◌, cond, find, if◌then◌else◌, int_le, nat_lt, option_map, slice_get}
use Rattle.nr_rev.specs.declared.answer.Answer.TheVariants.{Done}
use Rattle.nr_rev.specs.declared.descriptor.Descriptor.{Descriptor}
use Rattle.nr_rev.specs.declared.descriptor.DescriptorRow.{DescriptorRow}
use Rattle.nr_rev.specs.declared.refusal.Refusal.{Refusal}
use Rattle.nr_rev.specs.declared.refusal.Refusal.TheVariants.{NoTimerDue, FiringsFull}
use Rattle.nr_rev.specs.declared.sides.Side.{Side}
use Rattle.nr_rev.specs.declared.sides.Side.TheVariants.{Read, Write}
use Rattle.nr_rev.specs.declared.sides.Sides.{Sides}
use Rattle.nr_rev.specs.declared.timer.Entry.{Entry}
use Rattle.nr_rev.specs.declared.timer.Timer.{Timer}
use Rattle.nr_rev.specs.Refusing.{◌>>=◌, ◌>>◌, found_or, refused_unless}
use Rattle.nr_rev.specs.Reversible.{Refuses}
use Rattle.nr_rev.specs.Sides.{same_side, twice, with_side}
use Rattle.nr_rev.specs.Step.{Outcome, pop, row_of as find_row}
use Rattle.nr_rev.specs.Timer.{entries_from, least_of}
use Rattle.nr_rev.specs.World.{World, least_entry, with_row}
use Rattle.nr_timers.specs.Back.{TimersBack, delta_weight}
use Rattle.nr_timers.specs.Order.{at}
use Rattle.nr_timers.specs.State.{IsTimers, State}
use Rattle.nr_timers.specs.Step.{TimersStep}
use Rattle.nr_timers.specs.Auxiliary.Step.{TakesMemory, timers_reason}
use Rattle.nr_timers.specs.TimersOf.{SetsTimer, is_for, timer_of, timers_of}
use Rattle.nr_timers.specs.Auxiliary.TimersOf.{AreTimers}
use Rattle.nr_timers.specs.declared.delta.TimersDelta.{TimersDelta}
use Rattle.nr_timers.specs.declared.op.TimersOp.TheVariants.{Pop}
use Rattle.nr_machine.specs.declared.delta.TheConstants.{MOST_WORDS}
use Rattle.nr_machine.specs.declared.delta.WorldUndo.TheVariants.{Timers}
use Rattle.nr_machine.specs.declared.world_core.Core.{Core}
use Rattle.nr_machine.specs.Fits.{IsWorld, PartsFit}
use Rattle.nr_machine.specs.Auxiliary.Made.{Made}
use Rattle.nr_machine.specs.Rows.{row_of, rows_of}
use Rattle.nr_machine.specs.World.{WorldParts, meant}
use Rattle.nr_machine.proofs.FitsLemmas.{retied, timed_fits, timed_tied}
use Rattle.nr_machine.proofs.RowsLemmas.{row_at, timer_set, timers_are}

-- ---- the least entry

-- the claim that the first entry of a heap with the descriptors' timers is the least
abbrev pub FirstIsLeast : Type 0
FirstIsLeast = (t : State) (timers : List (Sides (Option Timer))) → IsTimers t → AreTimers t.entries timers → slice_get t.entries 0 ≡ least_of (entries_from 0 timers)

pub least_is : FirstIsLeast → (m : WorldParts) → PartsFit m → least_entry (meant m) ≡ slice_get m.core.timers.entries 0
least_is law m h =
    sym (law m.core.timers (map (λ (row : DescriptorRow). row.timers) (meant m).descriptors) h.core.timers (timers_are m h))

-- pop, given the entry that goes off first
abbrev pop_first : Option Entry → World → Outcome
pop_first first w = do
  entry ← found_or first NoTimerDue
  refused_unless (int_le entry.timer.due w.clock) NoTimerDue
  refused_unless (nat_lt (length w.firings) (2 * w.limits.descriptors)) FiringsFull
  row ← find_row entry.descriptor w
  Ok (
    Done,
    record (with_row entry.descriptor (record row { timers = with_side entry.side None row.timers }) w) { firings = w.firings ++ entry ∷ [] },
  )

pop_is : FirstIsLeast → (m : WorldParts) → PartsFit m → pop (meant m) ≡ pop_first (slice_get m.core.timers.entries 0) (meant m)
pop_is law m h = ap (λ (first : Option Entry). pop_first first (meant m)) (least_is law m h)

-- ---- the reasons why pop doesn't apply

refused_by : {A : Type 0} (due room : Bool) (rest : Result A Refusal) (e : Refusal)
    → (if due then (if room then None else Some FiringsFull) else Some NoTimerDue) ≡ Some e
    → (refused_unless due NoTimerDue >> refused_unless room FiringsFull >> rest) ≡ Err e
refused_by true true rest e why = absurd cc
refused_by true false rest e why = cc
refused_by false room rest e why = cc

refused_first : (entries : List Entry) (t : State) (w : World) (e : Refusal) → t.entries ≡ entries → w.firings ≡ t.firings → w.limits.descriptors ≡ t.descriptors
    → timers_reason t (Pop w.clock) ≡ Some e → pop_first (slice_get entries 0) w ≡ Err e
refused_first [] t w e is firings limit why =
    let none : 0 ≡ length t.entries = ap length (sym is) in
    grind (arith, nat_tests)
refused_first (x ∷ xs) t w e is firings limit why =
    let more : 0 < length t.entries = rw is (omega arith) in
    let some : nat_lt 0 (length t.entries) ≡ true = grind (arith, nat_tests) in
    let first : at t.entries 0 ≡ x = rw is refl in
    let by_tests = rw (some, first, ← firings, ← limit) at why in
    refused_by (int_le x.timer.due w.clock) (nat_lt (length w.firings) (2 * w.limits.descriptors)) _ e by_tests

pub pop_refused : FirstIsLeast → (m : WorldParts) (e : Refusal) → PartsFit m → Refuses timers_reason TakesMemory m.core.timers (Pop m.core.clock) e → pop (meant m) ≡ Err e
pop_refused law m e h (inl why) = pop_is law m h ∙ refused_first m.core.timers.entries m.core.timers (meant m) e refl refl (sym h.core.timers_room) why
pop_refused law m e h (inr takes) = absurd takes.2

-- ---- the outcome

self_is : (d : ℕ) (side : Side) → (d == d) && same_side side side ≡ true
self_is d Read = ap (λ (b : Bool). b && true) (eq-eqb d d refl)
self_is d Write = ap (λ (b : Bool). b && true) (eq-eqb d d refl)

-- the first entry is its side's timer
head_timer : (x : Entry) (xs : List Entry) → timer_of (x ∷ xs) x.descriptor x.side ≡ Some x.timer
head_timer x xs =
    ap (λ (b : Bool). option_map (λ (e : Entry). e.timer) (cond b (Some x) (find (is_for x.descriptor x.side) xs))) (self_is x.descriptor x.side)

none_of : (side : Side) (timer : Timer) (entries : List Entry) (d : ℕ) → timers_of entries d ≡ twice None → timer_of entries d side ≡ Some timer → ⊥
none_of Read timer entries d none some = none-some timer (sym (ap (λ (both : Sides (Option Timer)). both.read) none) ∙ some)
none_of Write timer entries d none some = none-some timer (sym (ap (λ (both : Sides (Option Timer)). both.write) none) ∙ some)

-- the descriptor of the first entry exists
head_made : (descriptors : List Descriptor) (x : Entry) (xs : List Entry) → ((d : ℕ) → length descriptors ≤ d → timers_of (x ∷ xs) d ≡ twice None)
    → (y : Descriptor) × (slice_get descriptors x.descriptor ≡ Some y)
head_made descriptors x xs unarmed =
    ⊎_elim (λ found. (found.0, found.2)) (λ past. absurd (none_of x.side x.timer (x ∷ xs) x.descriptor (unarmed x.descriptor past.0) (head_timer x xs)))
    (slice_get_cases descriptors x.descriptor).1

-- ---- in the parts

module _ (m : WorldParts) (t : State) (x : Entry) (y : Descriptor) where
  -- the rows without the entry's timer
  popped_rows : slice_get m.core.descriptors.items x.descriptor ≡ Some y → SetsTimer x.descriptor x.side None m.core.timers.entries t.entries
      → rows_of m.core.descriptors.items t.entries
      ≡ (with_row x.descriptor (row_of y (with_side x.side None (timers_of m.core.timers.entries x.descriptor))) (meant m)).descriptors
  popped_rows there sets = timer_set m.core.descriptors.items m.core.timers.entries t.entries x.descriptor x.side None y there sets

  pop_leads : slice_get m.core.descriptors.items x.descriptor ≡ Some y → SetsTimer x.descriptor x.side None m.core.timers.entries t.entries
      → int_le x.timer.due m.core.clock ≡ true → length m.core.timers.firings < 2 * m.core.limits.descriptors
      → t ≡ record m.core.timers { entries = t.entries; firings = m.core.timers.firings ++ x ∷ [] }
      → pop_first (Some x) (meant m) ≡ Ok (Done, meant (record m { core = record m.core { timers = t } }))
  pop_leads there sets due room rest =
      let has_room : nat_lt (length m.core.timers.firings) (2 * m.core.limits.descriptors) ≡ true = grind (arith, nat_tests) in
      let found = row_at m.core.descriptors.items m.core.timers.entries x.descriptor y there in
      let rows = popped_rows there sets in
      let firings : t.firings ≡ m.core.timers.firings ++ x ∷ [] = ap (λ (s : State). s.firings) rest in
      let next : t.next ≡ m.core.timers.next = ap (λ (s : State). s.next) rest in
      let worlds : meant (record m { core = record m.core { timers = t } })
      ≡ record (with_row x.descriptor (row_of y (with_side x.side None (timers_of m.core.timers.entries x.descriptor))) (meant m)) { firings = m.core.timers.firings ++ x ∷ [] } =
      λ i. record (meant m) { descriptors = rows i; firings = firings i; next_arming = next i } in
      rw (due, has_room, found) (ap (λ (u : World). Ok (Done, u)) (sym worlds))

-- the first timer goes off
pub pop_made : FirstIsLeast → (m : WorldParts) (t : State) (delta : TimersDelta) → IsWorld m → TimersStep m.core.timers (Pop m.core.clock) tt t → IsTimers t
    → TimersBack delta t m.core.timers → delta_weight delta ≤ 2
    → Made (pop (meant m)) (Pop m.core.clock ∷ []) MOST_WORDS m Done (Timers delta) (record m { core = record m.core { timers = t } })
pop_made law m t delta h step fits back light = by m.core.timers.entries refl
  where
    by : (entries : List Entry) → m.core.timers.entries ≡ entries
        → Made (pop (meant m)) (Pop m.core.clock ∷ []) MOST_WORDS m Done (Timers delta) (record m { core = record m.core { timers = t } })
    by [] is =
        let some = step.1.some in
        let none : length m.core.timers.entries ≡ 0 = ap length is in
        absurd (omega arith)
    by (x ∷ xs) is =
        let core : Core = record m.core { timers = t } in
        let pops = step.1 in
        let first : at m.core.timers.entries 0 ≡ x = ap (λ (es : List Entry). at es 0) is in
        let sets : SetsTimer x.descriptor x.side None m.core.timers.entries t.entries =
        subst (λ (e : Entry). SetsTimer e.descriptor e.side None m.core.timers.entries t.entries) first pops.timers in
        let due : int_le x.timer.due m.core.clock ≡ true = subst (λ (e : Entry). int_le e.timer.due m.core.clock ≡ true) first pops.due in
        let rest : t ≡ record m.core.timers { entries = t.entries; firings = m.core.timers.firings ++ x ∷ [] } =
        subst (λ (e : Entry). t ≡ record m.core.timers { entries = t.entries; firings = m.core.timers.firings ++ e ∷ [] }) first pops.rest in
        let limit = h.parts.core.timers_room in
        let full = pops.room in
        let room : length m.core.timers.firings < 2 * m.core.limits.descriptors = omega (arith, limit, full) in
        let made = head_made m.core.descriptors.items x xs
        (subst (λ (es : List Entry). (d : ℕ) → length m.core.descriptors.items ≤ d → timers_of es d ≡ twice None) is h.parts.unarmed) in (
          record {
            leads = pop_is law m h.parts ∙ ap (λ (es : List Entry). pop_first (slice_get es 0) (meant m)) is ∙ pop_leads m t x made.0 made.1 sets due room rest;
            parts = retied m core h.parts (timed_fits m.core t h.parts.core fits (ap (λ (s : State). s.descriptors) rest))
                (timed_tied m.core t x.descriptor (slice_get_within m.core.descriptors.items x.descriptor made.0 made.1) sets.others);
            timers = (t, step, refl);
          },
          (
            ((back, refl), refl),
            omega (arith, light),
          ),
        )
