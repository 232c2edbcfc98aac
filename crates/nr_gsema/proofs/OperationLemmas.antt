-- Lemmas about the outcome of each operation, and about its undo.
use Rattle.std.proofs.Common.{◌≡◌, ◌≢◌, ℕ, ◌+◌, ◌-◌, ◌^◌, ◌<◌, ◌≤◌, Bool, true, false, ◌&&◌, List, [], ◌∷◌, ◌++◌, length, set, take, drop, inl, inr, Option, Some, None, Ok, refl, sym, ap, ap₂, subst, ◌∙◌, arith, lit≤}
use Rattle.std.proofs.lemmas.List.{length_push, set_comm, take_at}
use Rattle.std.proofs.lemmas.Option.{same_Some, none-some}
use Rattle.std.specs.Prelude.{◌==◌, count_by, nat_lt, slice_get, option_map, if◌then◌else◌}
use Rattle.nr_rev.specs.declared.answer.Answer.TheVariants.{Number, Done, Yes, Wait}
use Rattle.nr_rev.specs.declared.refusal.Refusal.TheVariants as refusal
use Rattle.nr_rev.specs.declared.status.Status.{Status}
use Rattle.nr_rev.specs.declared.status.Status.TheVariants.{Idle, Acquiring, Gone, Owing, Queued, Relock}
use Rattle.nr_rev.specs.declared.sides.Side.{Side}
use Rattle.nr_rev.specs.declared.sides.Side.TheVariants.{Read, Write}
use Rattle.nr_rev.specs.declared.sides.Sides.{Sides}
use Rattle.nr_rev.specs.Semaphore.{Semaphore}
use Rattle.nr_rev.specs.Sides.{of_side, with_side}
use Rattle.nr_rev.proofs.SideLemmas.{of_side-with_side_same}
use Rattle.nr_laws.proofs.LookupLemmas.{Ends-acquiring_of, Ends-owing_of}
use Rattle.nr_laws.proofs.SemaphoreStepLemmas.{front_queued}
use Rattle.nr_gsema.proofs.ListLemmas.{first_split, set_back, last_pushed}
use Rattle.nr_rev.specs.Refusing.{◌>>◌, refused_unless}
use Rattle.nr_rev.specs.Step.{acquiring_of, alive, is_idle, owing, owing_of}
use Rattle.nr_rev.specs.WellFormed.{socket_named}
use Rattle.nr_rev.specs.Weight.{number_weight, option_weight, status_weight}
use Rattle.nr_rev.proofs.ListUpdateLemmas.{slice_get-set_cases, slice_get-set_here}
use Rattle.nr_gsema.specs.declared.operation.GOperation.TheVariants as operation
use Rattle.nr_gsema.specs.declared.delta.GUndo.TheVariants as undo
use Rattle.nr_gsema.specs.Applying.{IsQueuedUp}
use Rattle.nr_gsema.specs.Auxiliary.Applying.{AppliesBy}
use Rattle.nr_gsema.specs.Delta.{CanRequeue, HasSemaphore, IsOutside, Reverses, released_back}
use Rattle.nr_gsema.specs.SemaphoreChange.{released_once, unacquired, unreleased, with_count, with_last, without_last}
use Rattle.nr_gsema.proofs.TableLemmas.{on_semaphore_is}
use Rattle.nr_gsema.specs.Links.{is_waiting}
use Rattle.nr_gsema.specs.Step.{is_movable, names_within, same_status, side_owed, tries_again}
use Rattle.nr_gsema.specs.Table.{GoroutineTable}
use Rattle.nr_gsema.specs.Auxiliary.Table.{count_at, on_semaphore, queue_at, queue_found, with_semaphore, with_status}

lt_true : (a b : ℕ) → a < b → nat_lt a b ≡ true
lt_true a b h = grind (arith, h)

alive_is : (o : Option Status) (status : Status) → alive o ≡ Ok status → o ≡ Some status
alive_is None status e = cc
alive_is (Some Gone) status e = cc
alive_is (Some st) status e = cc

pub spawns : (t new : GoroutineTable) (made : ℕ) → made ≡ length t.goroutines → made < t.limit → new ≡ record t { goroutines = t.goroutines ++ Idle ∷ [] }
    → AppliesBy operation.Spawn t (Number made) undo.Spawned new
spawns t new made is room after =
    let next : GoroutineTable = record t { goroutines = t.goroutines ++ Idle ∷ [] } in
    let fits : nat_lt (length t.goroutines) t.limit ≡ true = lt_true (length t.goroutines) t.limit (omega arith) in
    let table : List Status → GoroutineTable = λ gs. record t { goroutines = gs } in
    let shorter : length (t.goroutines ++ Idle ∷ []) - 1 ≡ length t.goroutines = let e = length_push t.goroutines Idle in omega arith in
    subst (λ (u : GoroutineTable). AppliesBy operation.Spawn t (Number made) undo.Spawned u) (sym after)
    (subst (λ (n : ℕ). AppliesBy operation.Spawn t (Number n) undo.Spawned next) (sym is) (record {
      step = ap (λ b. refused_unless b refusal.TableFull >> Ok (Number (length t.goroutines), next)) fits;
      back = (last_pushed t.goroutines Idle, ap table (sym (ap (λ n. take n (t.goroutines ++ Idle ∷ [])) shorter ∙ take_at t.goroutines (Idle ∷ []) (length t.goroutines) refl)));
      light = lit≤ tt;
    }))

-- the undo of a change of status
status_back : (t : GoroutineTable) (g : ℕ) (status new : Status) → slice_get t.goroutines g ≡ Some status → is_waiting new ≡ false
    → IsOutside g (with_status g new t) × (t ≡ with_status g status (with_status g new t))
status_back t g status new at none =
    let table : List Status → GoroutineTable = λ gs. record t { goroutines = gs } in
    (ap (option_map is_waiting) (slice_get-set_here t.goroutines g status new at) ∙ ap Some none, ap table (set_back t.goroutines g status new at))

idle_is : (status : Status) → is_idle status ≡ true → status ≡ Idle
idle_is Idle e = refl
idle_is _ e = cc

pub exits : (t new : GoroutineTable) (g : ℕ) (status : Status) → alive (slice_get t.goroutines g) ≡ Ok status → is_idle status ≡ true → new ≡ with_status g Gone t
    → AppliesBy (operation.Exit g) t Done (undo.Moved g status) new
exits t new g status found idle after =
    let next : GoroutineTable = with_status g Gone t in
    let b = status_back t g status Gone (alive_is (slice_get t.goroutines g) status found) refl in
    let is = idle_is status idle in
    subst (λ (u : GoroutineTable). AppliesBy (operation.Exit g) t Done (undo.Moved g status) u) (sym after) (record {
      step = rw (found, idle);
      back = ((ap is_waiting is, b.0), b.1);
      light = subst (λ (st : Status). 2 + status_weight st ≤ 3) (sym is) (lit≤ tt);
    })

movable_waits_not : (status : Status) → is_movable status ≡ true → is_waiting status ≡ false
movable_waits_not (Queued s side) e = cc
movable_waits_not _ e = refl

pub moves : (t new : GoroutineTable) (g : ℕ) (status from to : Status) → alive (slice_get t.goroutines g) ≡ Ok status → (same_status status from && (is_movable from && is_movable to)) ≡ true
    → status ≡ from → (is_movable from ≡ true) × (is_movable to ≡ true) → names_within (length t.semaphores) (socket_named to) ≡ true → new ≡ with_status g to t
    → AppliesBy (operation.Move g from to) t Done (undo.Moved g status) new
moves t new g status from to found may same movable named after =
    let next : GoroutineTable = with_status g to t in
    let b = status_back t g status to (alive_is (slice_get t.goroutines g) status found) (movable_waits_not to movable.1) in
    subst (λ (u : GoroutineTable). AppliesBy (operation.Move g from to) t Done (undo.Moved g status) u) (sym after) (record {
      step = rw (found, may, named);
      back = ((ap is_waiting same ∙ movable_waits_not from movable.0, b.0), b.1);
      light = subst (λ (st : Status). 2 + status_weight st ≤ 2 + status_weight from) (sym same) (omega arith);
    })

-- undoing the change of one side's semaphore restores the semaphores of both sides
sides_back : (side : Side) (both : Sides Semaphore) (y : Semaphore) (back : Semaphore → Semaphore) → back y ≡ of_side side both
    → with_side side (back (of_side side (with_side side y both))) (with_side side y both) ≡ both
sides_back Read both y back e = ap (λ (x : Semaphore). record both { read = x }) e
sides_back Write both y back e = ap (λ (x : Semaphore). record both { write = x }) e

-- undoing the changes of a goroutine and a semaphore restores the table
back_over : (t : GoroutineTable) (g : ℕ) (status new : Status) (s : ℕ) (side : Side) (both : Sides Semaphore) (y : Semaphore) (back : Semaphore → Semaphore) → slice_get t.goroutines g ≡ Some status
    → slice_get t.semaphores s ≡ Some both → back y ≡ of_side side both
    → t ≡ with_status g status (on_semaphore s side back (with_status g new (with_semaphore s side both y t)))
back_over t g status new s side both y back at there e =
    let changed = with_side side y both in
    let next : GoroutineTable = with_status g new (with_semaphore s side both y t) in
    let table : List Status → List (Sides Semaphore) → GoroutineTable = λ gs ss. record { goroutines = gs; semaphores = ss; limit = t.limit } in
    ap₂ table (set_back t.goroutines g status new at) (set_back t.semaphores s both changed there ∙ ap (set (set t.semaphores s changed) s) (sym (sides_back side both y back e)))
    ∙ ap (with_status g status) (sym (on_semaphore_is s side back next changed (slice_get-set_here t.semaphores s both changed there)))

-- a count that was found is the count of a semaphore in the table
pub count_found : (t : GoroutineTable) (s : ℕ) (side : Side) (count : ℕ) → count_at s side t ≡ Some count
    → (both : Sides Semaphore) × (slice_get t.semaphores s ≡ Some both) × ((of_side side both).count ≡ count)
count_found t s side count is = go (slice_get t.semaphores s) refl
  where
    counted : Option (Sides Semaphore) → Option ℕ
    counted o = option_map (λ (semaphores : Sides Semaphore). (of_side side semaphores).count) o

    go : (o : Option (Sides Semaphore)) → slice_get t.semaphores s ≡ o → (both : Sides Semaphore) × (slice_get t.semaphores s ≡ Some both) × ((of_side side both).count ≡ count)
    go None none = absurd (none-some count (sym (ap (option_map (λ (semaphores : Sides Semaphore). (of_side side semaphores).count)) none) ∙ is))
    go (Some both) found = (both, found, same_Some (of_side side both).count count (sym (ap (option_map (λ (semaphores : Sides Semaphore). (of_side side semaphores).count)) found) ∙ is))

acquiring_is : (status : Status) (s : ℕ) (side : Side) → acquiring_of status ≡ Ok (s, side) → status ≡ Acquiring s side
acquiring_is status s side e = (Ends-acquiring_of status).value (s, side) e

-- a semaphore that was changed still exists
has_changed : (t : GoroutineTable) (g : ℕ) (new : Status) (s : ℕ) (side : Side) (both : Sides Semaphore) (y : Semaphore) (P : Semaphore → Type 0) → slice_get t.semaphores s ≡ Some both → P y
    → HasSemaphore s side P (with_status g new (with_semaphore s side both y t))
has_changed t g new s side both y P there p =
    (with_side side y both, slice_get-set_here t.semaphores s both (with_side side y both) there, subst P (sym (of_side-with_side_same side y both)) p)

pub takes : (t t1 t2 : GoroutineTable) (g s : ℕ) (side : Side) (status : Status) (count : ℕ) → alive (slice_get t.goroutines g) ≡ Ok status → acquiring_of status ≡ Ok (s, side)
    → count_at s side t ≡ Some count → 0 < count → count < 2 ^ 32 → t1 ≡ on_semaphore s side (with_count (count - 1)) t → t2 ≡ with_status g (Relock s side) t1
    → AppliesBy (operation.Acquire g) t Yes (undo.Acquired g s side) t2
takes t t1 t2 g s side status count found acquires counted some small first after =
    let b = count_found t s side count counted in
    let both = b.0 in
    let x : Semaphore = of_side side both in
    let there : slice_get t.semaphores s ≡ Some both = b.1 in
    let y : Semaphore = record x { count = x.count - 1 } in
    let next : GoroutineTable = with_status g (Relock s side) (with_semaphore s side both y t) in
    let free : nat_lt 0 x.count ≡ true = lt_true 0 x.count (let e = b.2 in omega arith) in
    let at : slice_get t.goroutines g ≡ Some (Acquiring s side) = alive_is (slice_get t.goroutines g) status found ∙ ap Some (acquiring_is status s side acquires) in
    let is_next : t2 ≡ next =
    after ∙ ap (with_status g (Relock s side)) (first ∙ on_semaphore_is s side (with_count (count - 1)) t both there
    ∙ ap (λ (n : ℕ). with_semaphore s side both (record x { count = n - 1 }) t) (sym b.2)) in
    subst (λ (u : GoroutineTable). AppliesBy (operation.Acquire g) t Yes (undo.Acquired g s side) u) (sym is_next) (record {
      step = rw (found, acquires, there, free);
      back = (
        (
          ap (option_map is_waiting) (slice_get-set_here t.goroutines g (Acquiring s side) (Relock s side) at),
          has_changed t g (Relock s side) s side both y (λ (z : Semaphore). z.count + 1 < 2 ^ 32) there (let e = b.2 in omega arith),
        ),
        back_over t g (Acquiring s side) (Relock s side) s side both y unacquired at there (let n : x.count - 1 + 1 ≡ x.count = let e = b.2 in omega arith in ap (λ (k : ℕ). record x { count = k }) n),
      );
      light = lit≤ tt;
    })

pub queues_up : (t t2 : GoroutineTable) (g s : ℕ) (side : Side) (status : Status) (count : ℕ) → alive (slice_get t.goroutines g) ≡ Ok status → acquiring_of status ≡ Ok (s, side)
    → count_at s side t ≡ Some count → count ≡ 0 → t2 ≡ with_status g (Queued s side) (on_semaphore s side (with_last g) t)
    → AppliesBy (operation.Acquire g) t Wait (undo.Queued g s side) t2
queues_up t t2 g s side status count found acquires counted none after =
    let b = count_found t s side count counted in
    let both = b.0 in
    let x : Semaphore = of_side side both in
    let there : slice_get t.semaphores s ≡ Some both = b.1 in
    let y : Semaphore = with_last g x in
    let next : GoroutineTable = with_status g (Queued s side) (with_semaphore s side both y t) in
    let taken : nat_lt 0 x.count ≡ false = ap (nat_lt 0) (b.2 ∙ none) in
    let at : slice_get t.goroutines g ≡ Some (Acquiring s side) = alive_is (slice_get t.goroutines g) status found ∙ ap Some (acquiring_is status s side acquires) in
    let is_next : t2 ≡ next = after ∙ ap (with_status g (Queued s side)) (on_semaphore_is s side (with_last g) t both there) in
    let shorter : length (x.queue ++ g ∷ []) - 1 ≡ length x.queue = let e = length_push x.queue g in omega arith in
    subst (λ (u : GoroutineTable). AppliesBy (operation.Acquire g) t Wait (undo.Queued g s side) u) (sym is_next) (record {
      step = rw (found, acquires, there, taken);
      back = (
        has_changed t g (Queued s side) s side both y (λ (z : Semaphore). slice_get z.queue (length z.queue - 1) ≡ Some g) there (last_pushed x.queue g),
        back_over t g (Acquiring s side) (Queued s side) s side both y without_last at there
            (ap (λ (q : List ℕ). record x { queue = q }) (ap (λ n. take n (x.queue ++ g ∷ [])) shorter ∙ take_at x.queue (g ∷ []) (length x.queue) refl)),
      );
      light = lit≤ tt;
    })

-- the queue of a semaphore that was found in the table
module _ (t : GoroutineTable) (s : ℕ) (side : Side) (both : Sides Semaphore) (there : slice_get t.semaphores s ≡ Some both) where
  front_is : slice_get (queue_at s side t) 0 ≡ slice_get (of_side side both).queue 0
  front_is = ap (λ (o : Option (Sides Semaphore)). slice_get (queue_found side o) 0) there

  -- if the queue is empty, only the count changes
  pub nobody_leaves : (count : ℕ) → (of_side side both).count ≡ count → slice_get (queue_at s side t) 0 ≡ None → on_semaphore s side (with_count (count + 1)) t ≡ on_semaphore s side released_once t
  nobody_leaves count is none =
      let x : Semaphore = of_side side both in
      let sem : ℕ → List ℕ → Semaphore = λ n q. record { count = n; queue = q } in
      on_semaphore_is s side (with_count (count + 1)) t both there
      ∙ ap (λ (y : Semaphore). with_semaphore s side both y t) (ap₂ sem (ap (λ (n : ℕ). n + 1) (sym is)) (sym (drop_none x.queue (sym front_is ∙ none))))
      ∙ sym (on_semaphore_is s side released_once t both there)
    where
      drop_none : (q : List ℕ) → slice_get q 0 ≡ None → drop 1 q ≡ q
      drop_none [] e = refl
      drop_none (g ∷ q) e = cc

owing_waits_not : (s : ℕ) (debt : Sides ℕ) → is_waiting (owing s debt) ≡ false
owing_waits_not s debt = go (debt.read + debt.write == 0)
  where
    go : (b : Bool) → is_waiting (if b then Idle else Owing s debt.read debt.write) ≡ false
    go true = refl
    go false = refl

front_light : (front : Option ℕ) → 5 + option_weight number_weight front ≤ 7
front_light None = lit≤ tt
front_light (Some f) = lit≤ tt

module _ (t : GoroutineTable) (h : IsQueuedUp t) (g s : ℕ) (debt : Sides ℕ) (side : Side) (side_is : side_owed debt ≡ side) (both : Sides Semaphore) (there : slice_get t.semaphores s ≡ Some both)
    (at : slice_get t.goroutines g ≡ Some (Owing s debt.read debt.write)) (new : Status) (none : is_waiting new ≡ false) where
  left : Semaphore
  left = record { count = (of_side side both).count + 1; queue = drop 1 (of_side side both).queue }

  count_back : (of_side side both).count + 1 - 1 ≡ (of_side side both).count
  count_back = omega arith

  -- the undo restores the old table, whether or not a goroutine left the queue
  leads_back : (front : Option ℕ) → slice_get (of_side side both).queue 0 ≡ front
      → Reverses (undo.Released g s debt.read debt.write front)
      (with_status g new (tries_again s side front (with_semaphore s side both (record { count = (of_side side both).count + 1; queue = drop 1 (of_side side both).queue }) t))) t
  leads_back None front =
      let x : Semaphore = of_side side both in
      let y : Semaphore = record { count = x.count + 1; queue = drop 1 x.queue } in
      let next : GoroutineTable = with_status g new (with_semaphore s side both y t) in
      let changed = with_side side y both in
      let sem : ℕ → List ℕ → Semaphore = λ n q. record { count = n; queue = q } in
      let unchanged : unreleased None y ≡ x = ap₂ sem count_back (drop_none x.queue front) in
      let outside : IsOutside g next = ap (option_map is_waiting) (slice_get-set_here t.goroutines g (Owing s debt.read debt.write) new at) ∙ ap Some none in
      let undone_is : on_semaphore s side (unreleased None) next ≡ with_semaphore s side changed (unreleased None (of_side side changed)) next =
      on_semaphore_is s side (unreleased None) next changed (slice_get-set_here t.semaphores s both changed there) in
      subst (λ (k : Side). (IsOutside g (released_back s k None next) × CanRequeue None next × HasSemaphore s k (λ z. 0 < z.count) next)
      × (t ≡ with_status g (Owing s debt.read debt.write) (released_back s k None next))) (sym side_is) (
        (
          ap (λ (u : GoroutineTable). option_map is_waiting (slice_get u.goroutines g)) undone_is ∙ outside,
          tt,
          has_changed t g new s side both y (λ z. 0 < z.count) there (omega arith),
        ),
        back_over t g (Owing s debt.read debt.write) new s side both y (unreleased None) at there unchanged,
      )
    where
      drop_none : (q : List ℕ) → slice_get q 0 ≡ None → drop 1 q ≡ q
      drop_none [] e = refl
      drop_none (k ∷ q) e = cc
  leads_back (Some f) front =
      let x : Semaphore = of_side side both in
      let y : Semaphore = record { count = x.count + 1; queue = drop 1 x.queue } in
      let mid : GoroutineTable = with_semaphore s side both y t in
      let next : GoroutineTable = with_status g new (with_status f (Acquiring s side) mid) in
      let changed = with_side side y both in
      let was : slice_get t.goroutines f ≡ Some (Queued s side) =
      front_queued t.goroutines s f side (drop 1 x.queue) (λ k. ap (count_by (λ m. m == k)) (sym (first_split x.queue f front)) ∙ h.queued s side both there k) in
      let apart : g ≢ f =
      λ e. let same : Owing s debt.read debt.write ≡ Queued s side = same_Some (Owing s debt.read debt.write) (Queued s side) (sym at ∙ ap (slice_get t.goroutines) e ∙ was) in cc in
      let sem : ℕ → List ℕ → Semaphore = λ n q. record { count = n; queue = q } in
      let unchanged : unreleased (Some f) y ≡ x = ap₂ sem count_back (sym (first_split x.queue f front)) in
      let gs = t.goroutines in
      let a = Acquiring s side in
      let q = Queued s side in
      let regone : set (set (set gs f a) g new) f q ≡ set gs g new =
      set_comm (set gs f a) g f new q apart ∙ ap (λ (l : List Status). set l g new) (sym (set_back gs f q a was)) in
      let undone_is : on_semaphore s side (unreleased (Some f)) next ≡ with_semaphore s side changed (unreleased (Some f) (of_side side changed)) next =
      on_semaphore_is s side (unreleased (Some f)) next changed (slice_get-set_here t.semaphores s both changed there) in
      let outside_f : IsOutside f next =
      elim (slice_get-set_cases (set gs f a) g (Owing s debt.read debt.write) new f (kept_at gs f g q a (Owing s debt.read debt.write) was at apart)) [
        | inl here ↦ absurd (apart (sym here.0))
        | inr beyond ↦ ap (option_map is_waiting) (beyond.1 ∙ slice_get-set_here gs f q a was)
      ] in
      let table : List Status → List (Sides Semaphore) → GoroutineTable = λ l ss. record { goroutines = l; semaphores = ss; limit = t.limit } in
      subst (λ (k : Side). (IsOutside g (released_back s k (Some f) next) × CanRequeue (Some f) next × HasSemaphore s k (λ z. 0 < z.count) next)
      × (t ≡ with_status g (Owing s debt.read debt.write) (released_back s k (Some f) next))) (sym side_is) (
        (
          ap (λ (u : GoroutineTable). option_map is_waiting (slice_get (set u.goroutines f q) g)) undone_is
              ∙ ap (λ (l : List Status). option_map is_waiting (slice_get l g)) regone
              ∙ ap (option_map is_waiting) (slice_get-set_here gs g (Owing s debt.read debt.write) new at)
              ∙ ap Some none,
          outside_f,
          (changed, slice_get-set_here t.semaphores s both changed there, subst (λ (z : Semaphore). 0 < z.count) (sym (of_side-with_side_same side y both)) (omega arith)),
        ),
        ap₂ table (set_back gs g (Owing s debt.read debt.write) new at ∙ ap (λ (l : List Status). set l g (Owing s debt.read debt.write)) (sym regone))
            (set_back t.semaphores s both changed there ∙ ap (set (set t.semaphores s changed) s) (sym (sides_back side both y (unreleased (Some f)) unchanged)))
            ∙ ap (λ (u : GoroutineTable). with_status g (Owing s debt.read debt.write) (with_status f q u)) (sym undone_is),
      )
    where
      kept_at : (gs : List Status) (f k : ℕ) (q a o : Status) → slice_get gs f ≡ Some q → slice_get gs k ≡ Some o → k ≢ f → slice_get (set gs f a) k ≡ Some o
      kept_at gs f k q a o was_f at_k ne =
          elim (slice_get-set_cases gs f q a k was_f) [ inl here ↦ absurd (ne here.0) | inr beyond ↦ beyond.1 ∙ at_k ]

pub releases : (t t1 t2 : GoroutineTable) → IsQueuedUp t → (g s : ℕ) (debt : Sides ℕ) (status new : Status) (count : ℕ) (front : Option ℕ) → alive (slice_get t.goroutines g) ≡ Ok status
    → owing_of status ≡ Ok (s, debt) → count_at s (side_owed debt) t ≡ Some count → count + 1 < 2 ^ 32
    → front ≡ slice_get (queue_at s (side_owed debt) t) 0 → t1 ≡ tries_again s (side_owed debt) front (on_semaphore s (side_owed debt) released_once t)
    → new ≡ owing s (with_side (side_owed debt) (of_side (side_owed debt) debt - 1) debt) → t2 ≡ with_status g new t1
    → AppliesBy (operation.Release g) t Done (undo.Released g s debt.read debt.write front) t2
releases t t1 t2 h g s debt status new count front found owes counted small front_at first new_is after =
    let side = side_owed debt in
    let b = count_found t s side count counted in
    let both = b.0 in
    let x : Semaphore = of_side side both in
    let there : slice_get t.semaphores s ≡ Some both = b.1 in
    let y : Semaphore = record { count = x.count + 1; queue = drop 1 x.queue } in
    let mid : GoroutineTable = with_semaphore s side both y t in
    let head : front ≡ slice_get x.queue 0 = front_at ∙ front_is t s side both there in
    let will : Status = owing s (with_side side (of_side side debt - 1) debt) in
    let next : GoroutineTable = with_status g will (tries_again s side (slice_get x.queue 0) mid) in
    let fits : nat_lt x.count (2 ^ 32 - 1) ≡ true = lt_true x.count (2 ^ 32 - 1) (let e = b.2 in omega arith) in
    let at : slice_get t.goroutines g ≡ Some (Owing s debt.read debt.write) = alive_is (slice_get t.goroutines g) status found ∙ ap Some ((Ends-owing_of status).value (s, debt) owes) in
    let is_next : t2 ≡ next =
    after ∙ ap (λ (st : Status). with_status g st t1) new_is ∙ ap (with_status g will) (first ∙ ap (tries_again s side front) (on_semaphore_is s side released_once t both there)
    ∙ ap (λ (o : Option ℕ). tries_again s side o mid) head) in
    subst (λ (u : GoroutineTable). AppliesBy (operation.Release g) t Done (undo.Released g s debt.read debt.write front) u) (sym is_next)
    (subst (λ (o : Option ℕ). AppliesBy (operation.Release g) t Done (undo.Released g s debt.read debt.write o) next) (sym head) (record {
      step = rw (found, owes, there, fits);
      back = leads_back t h g s debt side refl both there at will (owing_waits_not s (with_side side (of_side side debt - 1) debt)) (slice_get x.queue 0) refl;
      light = front_light (slice_get x.queue 0);
    }))
