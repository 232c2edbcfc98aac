-- New deltas are added at the end of the kept ones, and undone from the end.
use Rattle.std.proofs.Common.{◌≡◌, ℕ, ◌+◌, ◌-◌, ◌%◌, ◌<◌, ◌≤◌, ◌⊎◌, inl, inr, List, ◌++◌, ◌∷◌, [], length, Some, refl, sym, ap, ◌∙◌, subst, arith}
use Rattle.std.specs.List.{slice_get}
use Rattle.std.specs.Global.{Vec}
use Rattle.std.proofs.lemmas.Option.{slice_get_read, slice_get_within}
use Rattle.std.proofs.Math.ListN.{get_or}
use Rattle.std.specs.Prelude.{slice_set, vec_capacity}
use Rattle.nr_rev.proofs.ListUpdateLemmas.{slice_get-push_kept}
use Rattle.nr_rev.specs.World.{World}
use Rattle.nr_rev.specs.declared.answer.Answer.{Answer}
use Rattle.nr_rev.specs.declared.step.Step.{Step}
use Rattle.nr_snaps.specs.Film.{IsFrame, Reel}
use Rattle.nr_snaps.proofs.FrameLemmas.{Replays-unique}
use Rattle.nr_walker.specs.Way.{IsKept, IsWay}
use Rattle.nr_walker.specs.declared.walker.TheConstants.{LEAST_DEPTH, MOST_DEPTH}
use Rattle.nr_walker.proofs.PlaceLemmas.{apart, slice_get-set_other}

below-next : (k n : ℕ) → k < n + 1 → (k < n) ⊎ (k ≡ n)
below-next k n h = grind arith

module _ {State Delta : Type 0} (is_well_formed : State → Type 0) (world : State → World) (steps : State → Step → Answer → State → Type 0) (back : Delta → State → State → Type 0) (film : Reel State)
  where
    abbrev Kept : ℕ → List Delta → ℕ → Type 0
    Kept depth places k = IsKept is_well_formed world steps back film depth places k

    -- the walker keeps no deltas
    pub IsWay-none : (position depth next : ℕ) (state : State) (places : Vec Delta) → position ≤ length film.recording.steps → IsFrame is_well_formed world steps film position state
        → LEAST_DEPTH ≤ depth → depth ≤ MOST_DEPTH → next ≡ position % (depth + 1) → depth + 1 ≤ vec_capacity places
        → IsWay is_well_formed world steps back film position state places next 0 depth
    IsWay-none position depth next state places within frame least most next_is room =
        record {
          within = within;
          frame = frame;
          least = least;
          most = most;
          behind = omega arith;
          few = omega arith;
          next_is = next_is;
          room = room;
          deltas = λ k below near. absurd (omega (arith, below, near));
        }

    -- writing to the place of the next step doesn't change the kept deltas
    kept-on : (depth position : ℕ) (places : List Delta) (written : Delta) (k : ℕ) → k < position → position < k + (depth + 1) → Kept depth places k
        → Kept depth (slice_set places (position % (depth + 1)) written) k
    kept-on depth position places written k below near kept =
        record {
          delta = kept.delta;
          there = slice_get-set_other places (position % (depth + 1)) (k % (depth + 1)) written kept.delta (apart k position (depth + 1) below near) kept.there;
          leads_back = kept.leads_back;
        }

    -- the invariant holds for another ring that contains the same kept deltas
    IsWay-over : (position next kept depth : ℕ) (state : State) (places others : Vec Delta) → depth + 1 ≤ vec_capacity others
        → ((k : ℕ) → k < position → position ≤ k + kept → Kept depth places.items k → Kept depth others.items k)
        → IsWay is_well_formed world steps back film position state places next kept depth → IsWay is_well_formed world steps back film position state others next kept depth
    IsWay-over position next kept depth state places others room have way =
        record {
          within = way.within;
          frame = way.frame;
          least = way.least;
          most = way.most;
          behind = way.behind;
          few = way.few;
          next_is = way.next_is;
          room = room;
          deltas = λ k below near. have k below near (way.deltas k below near);
        }

    -- the place of the next step may hold any delta
    pub IsWay-written : (position next kept depth : ℕ) (state : State) (places written : Vec Delta) (delta : Delta) → written.items ≡ slice_set places.items next delta → depth + 1 ≤ vec_capacity written
        → IsWay is_well_formed world steps back film position state places next kept depth → IsWay is_well_formed world steps back film position state written next kept depth
    IsWay-written position next kept depth state places written delta is room way =
        let few = way.few in
        IsWay-over position next kept depth state places written room
        (λ k below near there.
        subst (λ xs. Kept depth xs k) (sym (is ∙ ap (λ i. slice_set places.items i delta) way.next_is)) (kept-on depth position places.items delta k below (omega (arith, near, few)) there)) way

    -- adding a place doesn't change the kept deltas
    pub IsWay-longer : (position next kept depth : ℕ) (state : State) (places longer : Vec Delta) (delta : Delta) → longer.items ≡ places.items ++ delta ∷ [] → depth + 1 ≤ vec_capacity longer
        → IsWay is_well_formed world steps back film position state places next kept depth → IsWay is_well_formed world steps back film position state longer next kept depth
    IsWay-longer position next kept depth state places longer delta is room way =
        IsWay-over position next kept depth state places longer room
        (λ k below near there. record {
          delta = there.delta;
          there = ap (λ xs. slice_get xs (k % (depth + 1))) is ∙ slice_get-push_kept places.items delta there.delta (k % (depth + 1)) there.there;
          leads_back = there.leads_back;
        }) way

    -- one step forward
    pub IsWay-forward : (position next further kept more depth : ℕ) (state new : State) (places written : Vec Delta) (delta : Delta) → IsWay is_well_formed world steps back film position state places next kept depth
        → position < length film.recording.steps → IsFrame is_well_formed world steps film (position + 1) new → back delta new state
        → written.items ≡ slice_set places.items next delta → slice_get written.items next ≡ Some delta → depth + 1 ≤ vec_capacity written
        → further ≡ (position + 1) % (depth + 1) → more ≤ kept + 1 → more ≤ depth
        → IsWay is_well_formed world steps back film (position + 1) new written further more depth
    IsWay-forward position next further kept more depth state new places written delta way below frame undone is there room further_is one few =
        let behind = way.behind in
        record {
          within = omega (arith, below);
          frame = frame;
          least = way.least;
          most = way.most;
          behind = omega (arith, behind, one);
          few = few;
          next_is = further_is;
          room = room;
          deltas = λ k before near.
              elim (below-next k position before) [
                | inl earlier ↦
                    subst (λ xs. Kept depth xs k) (sym (is ∙ ap (λ i. slice_set places.items i delta) way.next_is))
                    (kept-on depth position places.items delta k earlier (omega (arith, near, few)) (way.deltas k earlier (omega (arith, near, one))))
                | inr here ↦
                    subst (Kept depth written.items) (sym here)
                    (record {
                      delta = delta;
                      there = ap (slice_get written.items) (sym way.next_is) ∙ there;
                      leads_back = record { new = new; old = state; after = frame; before = way.frame; undone = undone };
                    })
              ];
        }

    -- true if `earlier` is the last step's place; place_before returns this place
    abbrev Earlier : ℕ → ℕ → ℕ → Type 0
    Earlier next earlier depth = (position : ℕ) → 0 < position → next ≡ position % (depth + 1) → earlier ≡ (position - 1) % (depth + 1)

    -- the delta of the last step is in the place `earlier`
    last-kept : (position next earlier kept depth : ℕ) (state : State) (places : Vec Delta) → IsWay is_well_formed world steps back film position state places next kept depth → 0 < kept
        → Earlier next earlier depth → Kept depth places.items (position - 1) × (earlier ≡ (position - 1) % (depth + 1))
    last-kept position next earlier kept depth state places way some before =
        let behind = way.behind in (way.deltas (position - 1) (omega (arith, some, behind)) (omega (arith, some, behind)), before position (omega (arith, some, behind)) way.next_is)

    -- the place of the last step is in the ring
    pub IsWay-place : (position next earlier kept depth : ℕ) (state : State) (places : Vec Delta) → IsWay is_well_formed world steps back film position state places next kept depth → 0 < kept
        → Earlier next earlier depth → earlier < length places.items
    IsWay-place position next earlier kept depth state places way some before =
        let last = last-kept position next earlier kept depth state places way some before in
        subst (λ i. i < length places.items) (sym last.1) (slice_get_within places.items ((position - 1) % (depth + 1)) last.0.delta last.0.there)

    module _ (unique : (old : State) (op : Step) (a b : Answer) (new other : State) → steps old op a new → steps old op b other → (a ≡ b) × (new ≡ other)) where
      -- undoing the delta that is read from the place restores the film's state at the previous
      -- position
      pub IsWay-last : (position next earlier kept depth : ℕ) (state : State) (places : Vec Delta) (delta : Delta) → IsWay is_well_formed world steps back film position state places next kept depth → 0 < kept
          → Earlier next earlier depth → delta ≡ get_or places.items earlier delta → (old : State) × back delta state old × IsFrame is_well_formed world steps film (position - 1) old
      IsWay-last position next earlier kept depth state places delta way some before read =
          let behind = way.behind in
          let last = last-kept position next earlier kept depth state places way some before in
          let there = slice_get_read places.items (length places.items) earlier delta refl (IsWay-place position next earlier kept depth state places way some before) read in
          let both : Some last.0.delta ≡ Some delta = sym last.0.there ∙ ap (slice_get places.items) (sym last.1) ∙ there in
          let same : last.0.delta ≡ delta = cc in
          let leads = last.0.leads_back in
          let next_is : position - 1 + 1 ≡ position = omega (arith, some, behind) in
          let after = subst (λ n. IsFrame is_well_formed world steps film n leads.new) next_is leads.after in
          let here : leads.new ≡ state = Replays-unique steps unique film.recording film.origin position leads.new state after.replays way.frame.replays in
          (leads.old, subst (λ s. back delta s leads.old) here (subst (λ d. back d leads.new leads.old) same leads.undone), leads.before)

      -- one step back
      pub IsWay-backward : (undone-unique : (delta : Delta) (new a b : State) → back delta new a → back delta new b → a ≡ b) (position next earlier kept depth : ℕ) (state old : State) (places written : Vec Delta)
          (delta any : Delta) → IsWay is_well_formed world steps back film position state places next kept depth → 0 < kept → Earlier next earlier depth → delta ≡ get_or places.items earlier delta
          → back delta state old → written.items ≡ slice_set places.items earlier any → depth + 1 ≤ vec_capacity written
          → IsWay is_well_formed world steps back film (position - 1) old written earlier (kept - 1) depth
      IsWay-backward undone-unique position next earlier kept depth state old places written delta any way some before read undone is room =
          let last = IsWay-last position next earlier kept depth state places delta way some before read in
          let earlier_is = (last-kept position next earlier kept depth state places way some before).1 in
          let within = way.within in
          let behind = way.behind in
          let few = way.few in
          record {
            within = omega (arith, within);
            frame = subst (IsFrame is_well_formed world steps film (position - 1)) (undone-unique delta state last.0 old last.1 undone) last.2;
            least = way.least;
            most = way.most;
            behind = omega (arith, behind);
            few = omega (arith, few);
            next_is = earlier_is;
            room = room;
            deltas = λ k below near.
                subst (λ xs. Kept depth xs k) (sym (is ∙ ap (λ i. slice_set places.items i any) earlier_is))
                (kept-on depth (position - 1) places.items any k below (omega (arith, near, few, some, behind)) (way.deltas k (omega (arith, below)) (omega (arith, near, some, behind))));
          }
