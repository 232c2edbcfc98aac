use Rattle.std.proofs.Common.{◌≡◌, ℕ, ◌+◌, ◌<◌, List, [], ◌∷◌, length, refl, sym, ap, ◌∙◌, subst, inl, inr, ⊎_elim, arith, length-append}
use Rattle.nr_journal.specs.declared.view.PassState.{PassState}
use Rattle.nr_journal.specs.Rule.{StartsWith}
use Rattle.nr_journal.specs.Auxiliary.Rule.{looked}
use Rattle.nr_journal.specs.Pass.{SeesOthers}
use Rattle.nr_journal.specs.Rule.{journal_room}
use Rattle.nr_journal.proofs.PassLemmas.{sees_others_none, sees_others_one, sees_others_look}
use Rattle.nr_journal.proofs.journal.Journal.catch_up.Goals as goal

pub loop-init : goal.loop-init
loop-init c = (refl, sees_others_none c.args.pass.now.pass_state, refl)

pub next-requires : goal.next-requires
next-requires c = c.loop.invariant.0 ∙ c.requires

pub loop-smaller : goal.loop-smaller
loop-smaller c =
    let e = c.in-Some.ensures in
    let size : length c.next.new.pass.pass_state.seen ≡ length c.loop.pass.pass_state.seen + 1 =
    ap (λ (s : PassState). length s.seen) e.some.0 ∙ length-append c.loop.pass.pass_state.seen (c.in-Some.field-0 ∷ []) in
    let room : length c.loop.pass.pass_state.seen < journal_room c.args.self.now = e.room in
    omega (arith, size, room)

pub loop-preserved : goal.loop-preserved
loop-preserved c =
    let e = c.in-Some.ensures in
    let i = c.loop.invariant in (
      e.table ∙ i.0,
      subst (λ (s : PassState). SeesOthers c.args.pass.now.pass_state s) (sym e.some.0) (sees_others_one c.args.pass.now.pass_state c.loop.pass.pass_state c.in-Some.field-0 i.1 e.some.2 e.some.3),
      ap (λ (s : PassState). s.looks) e.some.0 ∙ i.2,
    )

pub returns-clause-table : goal.returns-clause-table
returns-clause-table c = c.next.ensures.table ∙ c.loop.invariant.0

pub returns-clause-sees_others : goal.returns-clause-sees_others
returns-clause-sees_others c =
    let g = c.loop.invariant.1 in
    let to : PassState → Type 0 = λ s. SeesOthers c.args.pass.now.pass_state s in
    ⊎_elim
    (λ (t : (c.next.new.pass.pass_state ≡ looked c.loop.pass.pass_state) × StartsWith c.loop.pass.pass_state.seen c.loop.pass.pass_state.learned). subst to (sym t.0)
    (sees_others_look c.args.pass.now.pass_state c.loop.pass.pass_state g))
    (λ (t : (c.next.new.pass.pass_state ≡ c.loop.pass.pass_state) × (length c.loop.pass.pass_state.seen ≡ journal_room c.args.self.now)). subst to (sym t.0) g)
    c.in_default.ensures.none

pub returns-clause-caught : goal.returns-clause-caught
returns-clause-caught c =
    let i = c.loop.invariant in
    ⊎_elim
    (λ (t : (c.next.new.pass.pass_state ≡ looked c.loop.pass.pass_state) × StartsWith c.loop.pass.pass_state.seen c.loop.pass.pass_state.learned). inl (
      ap (λ (s : PassState). s.looks) t.0 ∙ ap (λ (n : ℕ). n + 1) i.2,
      subst (λ (l : List ℕ). StartsWith l c.args.pass.now.pass_state.learned) (ap (λ (s : PassState). s.seen) (sym t.0))
          (subst (λ (l : List ℕ). StartsWith c.loop.pass.pass_state.seen l) i.1.4 t.1),
    ))
    (λ (t : (c.next.new.pass.pass_state ≡ c.loop.pass.pass_state) × (length c.loop.pass.pass_state.seen ≡ journal_room c.args.self.now)).
    inr (ap (λ (s : PassState). s.looks) t.0 ∙ i.2, ap (λ (s : PassState). length s.seen) t.0 ∙ t.1))
    c.in_default.ensures.none
