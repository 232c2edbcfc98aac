use Rattle.std.proofs.Common.{sym, ap, ◌∙◌, subst, arith}
use Rattle.atomic_table.specs.Table.{Splits}
use Rattle.nr_journal.specs.Step.{Seat}
use Rattle.nr_journal.specs.Seat.{Waiting}
use Rattle.nr_journal.proofs.DrawLemmas.{twins}
use Rattle.nr_journal.proofs.RuleLemmas.{Rule}
use Rattle.nr_journal.proofs.journal.Journal.split.Goals as goal

pub split_seat-requires : goal.split_seat-requires
split_seat-requires c =
    let i = c.seat.invariant in (
      ap (λ (w : Waiting). w.table) c.seat.view_is ∙ (c.requires ∙ sym c.self.view_is),
      omega (arith, c.self.invariant.1),
      subst (λ (m : Seat). Splits (Rule c.self.inside.table.shared.key) c.seat.inside.seat.id m.0 m.0 m.0) (sym i.0) (twins _ _ _ _),
    )
