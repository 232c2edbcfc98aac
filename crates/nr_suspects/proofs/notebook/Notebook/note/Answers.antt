use Rattle.std.proofs.Common.{subst, sym}
use Rattle.nr_suspects.specs.Holdings.{CanCount}
use Rattle.nr_suspects.specs.Suspects.{Notes}
use Rattle.nr_suspects.proofs.notebook.Notebook.note.Goals as goal

pub note-requires-3 : goal.note-requires-3
note-requires-3 c = record { room = subst (λ (notes : Notes). CanCount notes.rows) (sym c.self.view_is) c.requires.room }
