use Rattle.std.proofs.Common.{◌≡◌, ◌≤◌, length, Some, ap, arith, sym, ◌∙◌}
use Rattle.std.proofs.lemmas.Option.{slice_get-get_or}
use Rattle.std.specs.Prelude.{slice_get}
use Rattle.nr_suspects.proofs.LedgerLemmas.{no_row, row_has_room, row_noted}
use Rattle.nr_suspects.proofs.ledger.Ledger.note_at.Goals as goal

pub note_in-requires : goal.note_in-requires
note_in-requires c =
    let rows = c.self.inside.rows.items in
    let row = c.index_mut.result.now in
    let at : slice_get rows c.args.socket ≡ Some row =
    slice_get-get_or rows c.args.socket row (omega (arith, c.if-socket-len.true, c.len.ensures)) ∙ ap Some (sym c.index_mut.ensures.value) in
    record { room = row_has_room (λ row. row.items) rows c.args.socket row at (rw c.self.view_is c.requires.room) }

pub returns-then-socket-len : goal.returns-then-socket-len
returns-then-socket-len c =
    let rows = c.self.inside.rows.items in
    let row = c.index_mut.result.now in
    let at : slice_get rows c.args.socket ≡ Some row =
    slice_get-get_or rows c.args.socket row (omega (arith, c.if-socket-len.true, c.len.ensures)) ∙ ap Some (sym c.index_mut.ensures.value) in
    rw (← c.self.view_is) (row_noted (λ row. row.items) rows c.args.step c.args.goroutine c.args.socket c.args.notice row c.note_in.new.row at c.note_in.ensures)

pub returns-else-socket-len : goal.returns-else-socket-len
returns-else-socket-len c =
    let past : length c.self.inside.rows.items ≤ c.args.socket = omega (arith, c.if-socket-len.false, c.len.ensures) in
    rw (← c.self.view_is) (no_row (λ row. row.items) c.self.inside.rows.items c.args.step c.args.goroutine c.args.socket c.args.notice past)
