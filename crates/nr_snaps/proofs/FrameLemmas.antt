-- A replay has only one state at each position, and its steps apply.
use Rattle.std.proofs.Common.{◌≡◌, ℕ, zero, suc, ◌+◌, Ok, Some, refl, sym, ap, ◌∙◌, subst, arith, add-one}
use Rattle.std.specs.Prelude.{IsOk}
use Rattle.nr_rev.specs.Run.{Recording, world_at}
use Rattle.nr_rev.specs.Auxiliary.Run.{AppliesAt, IsWorldAt}
use Rattle.nr_rev.specs.Step.{outcome}
use Rattle.nr_rev.specs.World.{World}
use Rattle.nr_rev.specs.declared.answer.Answer.{Answer}
use Rattle.nr_rev.specs.declared.step.Step.{Step}
use Rattle.nr_rev.proofs.RunLemmas.{IsGoodTo, IsGoodTo-next, IsWorldAt-next}
use Rattle.nr_snaps.specs.Replay.{LeadsOn, Replays}
use Rattle.nr_snaps.specs.Film.{Reel, IsFrame}

module _ {State : Type 0} (steps : State → Step → Answer → State → Type 0)
    (unique : (old : State) (op : Step) (a b : Answer) (new other : State) → steps old op a new → steps old op b other → (a ≡ b) × (new ≡ other)) (r : Recording) where
  -- from each state, the step at a position leads to at most one state
  LeadsOn-unique : (n : ℕ) (old a b : State) → LeadsOn steps r n old a → LeadsOn steps r n old b → a ≡ b
  LeadsOn-unique n old a b p q =
      let both : Some p.step ≡ Some q.step = sym p.next ∙ q.next in
      let same : p.step ≡ q.step = cc in
      let leads = subst (λ s. steps old s p.answer a) same p.leads in
      (unique old q.step p.answer q.answer a b leads q.leads).1

  -- a replay has only one state at each position
  pub Replays-unique : (origin : State) (n : ℕ) (a b : State) → Replays steps r origin n a → Replays steps r origin n b → a ≡ b
  Replays-unique origin zero a b p q = p ∙ sym q
  Replays-unique origin (suc n) a b p q =
      let same = Replays-unique origin n p.0 q.0 p.1 q.1 in
      LeadsOn-unique n q.0 a b (subst (λ s. LeadsOn steps r n s a) same p.2) q.2

module _ {State : Type 0} (is_well_formed : State → Type 0) (world : State → World) (steps : State → Step → Answer → State → Type 0)
    (steps_are : (old : State) (step : Step) (answer : Answer) (new : State) → steps old step answer new → outcome (world old) step ≡ Ok (answer, world new)) where
  -- applying the step after a frame makes the next frame
  pub IsFrame-next : (film : Reel State) (n : ℕ) (old new : State) → IsFrame is_well_formed world steps film n old → LeadsOn steps film.recording n old new → is_well_formed new
      → IsFrame is_well_formed world steps film (n + 1) new
  IsFrame-next film n old new frame leads fits =
      record {
        is_at = IsWorldAt-next is_well_formed world film.recording n leads.step leads.answer old new frame.is_at leads.next (steps_are old leads.step leads.answer new leads.leads) fits;
        replays = rw add-one (old, frame.replays, leads);
      }

  -- if a step changes a state that represents the world at n, it applies at n, and the new state
  -- represents the world at n + 1
  pub LeadsOn-applies : (r : Recording) (n : ℕ) (old new : State) → world old ≡ world_at r n → LeadsOn steps r n old new → AppliesAt r n × (world new ≡ world_at r (n + 1))
  LeadsOn-applies r n old new there leads =
      let made = steps_are old leads.step leads.answer new leads.leads in
      let is_at : IsWorldAt (λ (s : State). Unit {0}) world r n old = record { well_formed = tt; there = there } in
      let ok : IsOk (outcome (world old) leads.step) = rw made refl in (
        record {
          step = leads.step;
          next = leads.next;
          applies = subst (λ w. IsOk (outcome w leads.step)) there ok;
        },
        (IsWorldAt-next (λ (s : State). Unit {0}) world r n leads.step leads.answer old new is_at leads.next made tt).there,
      )

  -- steps replayed from position 0 apply
  pub Replays-good : (r : Recording) (origin : State) (n : ℕ) (state : State) → world origin ≡ world_at r 0 → Replays steps r origin n state → IsGoodTo r n × (world state ≡ world_at r n)
  Replays-good r origin zero state start same =
      (record { each = λ k step below read. absurd (omega arith) }, ap world same ∙ start)
  Replays-good r origin (suc n) state start h =
      let before = Replays-good r origin n h.0 start h.1 in
      let here = LeadsOn-applies r n h.0 state before.1 h.2 in
      (subst (IsGoodTo r) (add-one n) (IsGoodTo-next r n before.0 here.0), subst (λ m. world state ≡ world_at r m) (add-one n) here.1)

  -- if a film of this recording has a frame at position n, the first n steps apply
  pub IsFrame-good : (film : Reel State) (r : Recording) → film.recording ≡ r → IsWorldAt is_well_formed world r 0 film.origin → (n : ℕ) (state : State) → IsFrame is_well_formed world steps film n state → IsGoodTo r n
  IsFrame-good film r is origin n state frame =
      (Replays-good r film.origin n state origin.there (subst (λ r. Replays steps r film.origin n state) is frame.replays)).0
