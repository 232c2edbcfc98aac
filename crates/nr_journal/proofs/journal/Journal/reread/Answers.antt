use Rattle.std.proofs.Common.{◌≡◌, ◌<◌, length, sym, ap, ◌∙◌, subst, arith}
use Rattle.atomic_table.specs.Seated.{TableId}
use Rattle.nr_journal.specs.Pass.{Entered, pass_state_of}
use Rattle.nr_journal.proofs.LookLemmas.{rereads}
use Rattle.nr_journal.proofs.journal.Journal.reread.Goals as goal

pub load-requires : goal.load-requires
load-requires c =
    let p = c.pass.invariant in
    let seen : c.args.at < length (pass_state_of c.pass.inside.seat.me.0).seen = subst (λ (f : Entered). c.args.at < length f.pass_state.seen) (sym c.pass.view_is) c.requires.seen in
    let same : c.pass.inside.seat.table_id ≡ c.self.inside.table.shared.table_id = ap (λ (f : Entered). f.table) c.pass.view_is ∙ (c.requires.table ∙ sym c.self.view_is) in
    let words : c.pass.inside.seat.table_id.words ≡ c.self.inside.table.shared.table_id.words = ap (λ (z : TableId). z.words) same in (
      same,
      omega (arith, seen, p.1, p.3, words),
      rereads _ _ _ _ _ _ c.args.at p.0 (omega arith) seen,
    )
