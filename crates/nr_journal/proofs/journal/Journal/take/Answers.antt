use Rattle.std.proofs.Common.{◌<◌, sym, ap, ◌∙◌, subst, arith}
use Rattle.atomic_table.specs.Table.{Splits}
use Rattle.nr_journal.specs.Step.{Seat, given_by, left_of}
use Rattle.nr_journal.specs.Seat.{Left}
use Rattle.nr_journal.proofs.GiveLemmas.{gives}
use Rattle.nr_journal.proofs.RuleLemmas.{Rule}
use Rattle.nr_journal.proofs.journal.Journal.take.Goals as goal

pub split_seat-requires : goal.split_seat-requires
split_seat-requires c =
    let i = c.passes.invariant in
    let some_left = subst (λ (w : Left). w.next < w.passes) (sym c.passes.view_is) c.requires.next in (
      ap (λ (w : Left). w.table) c.passes.view_is ∙ (c.requires.table ∙ sym c.self.view_is),
      omega (arith, c.self.invariant.1),
      subst (λ (m : Seat). Splits (Rule c.self.inside.table.shared.key) c.passes.inside.seat.id m.0 (left_of m.0) (given_by m.0)) (sym i.0) (gives _ _ _ _ some_left),
    )
