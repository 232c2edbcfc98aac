use Rattle.std.proofs.Common.{◌≡◌, [], sym, ap, ◌∙◌, subst, arith}
use Rattle.atomic_table.specs.Table.{Splits, Joins}
use Rattle.nr_journal.specs.declared.view.View.TheVariants.{Within, Note, Spent}
use Rattle.nr_journal.specs.Step.{Seat, note_of, learned_from}
use Rattle.nr_journal.specs.Pass.{Entered, pass_state_of}
use Rattle.nr_journal.proofs.MeetLemmas.{notes, learns}
use Rattle.nr_journal.proofs.RuleLemmas.{Rule}
use Rattle.nr_journal.proofs.journal.Journal.learn.Goals as goal

pub split_seat-note-requires : goal.split_seat-note-requires
split_seat-note-requires c =
    let p = c.from.invariant in (
      ap (λ (f : Entered). f.table) c.from.view_is ∙ (c.requires.1 ∙ sym c.self.view_is),
      omega (arith, c.self.invariant.1),
      subst (λ (m : Seat). Splits (Rule c.self.inside.table.shared.key) c.from.inside.seat.id m.0 m.0 (note_of m.0)) (sym p.0) (notes _ _ (pass_state_of c.from.inside.seat.me.0)),
    )

pub join_seat-requires : goal.join_seat-requires
join_seat-requires c =
    let two = c.split_seat-note.ensures in
    let theirs : c.split_seat-note.result.me ≡ (Note (pass_state_of c.from.inside.seat.me.0).seen, []) = two.4 ∙ ap (λ (m : Seat). (note_of m.0, [])) c.from.invariant.0 in (
      ap (λ (f : Entered). f.table) c.pass.view_is ∙ (c.requires.0 ∙ sym c.self.view_is),
      two.3 ∙ (ap (λ (f : Entered). f.table) c.from.view_is ∙ (c.requires.1 ∙ sym c.self.view_is)),
      ap (λ (m : Seat). m.1) theirs,
      omega (arith, c.self.invariant.1),
      subst (λ (m : Seat). Joins (Rule c.self.inside.table.shared.key) c.pass.inside.seat.id m.0 c.split_seat-note.result.id c.split_seat-note.result.me.0
          (learned_from m.0 c.split_seat-note.result.me.0) Spent) (sym c.pass.invariant.0)
          (subst (λ (m : Seat). Joins (Rule c.self.inside.table.shared.key) c.pass.inside.seat.id (Within (pass_state_of c.pass.inside.seat.me.0)) c.split_seat-note.result.id m.0
          (learned_from (Within (pass_state_of c.pass.inside.seat.me.0)) m.0) Spent) (sym theirs)
          (learns _ _ _ _ _)),
    )
