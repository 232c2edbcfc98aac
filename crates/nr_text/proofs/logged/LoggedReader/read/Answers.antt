use Rattle.std.proofs.Common.{rules, ◌≡◌, [], ◌∷◌, ◌++◌}
use Rattle.nr_text.proofs.CallLemmas.{reads_none, reads_some}
use Rattle.nr_text.proofs.logged.LoggedReader.read.Goals as goal
use Rattle.nr_text.proofs.logged.LoggedReader.read.Goals.{in-Ok, in-Err}

pub returns-clause-reads : goal.returns-clause-reads
returns-clause-reads g c =
    let calls = c.self.inside.calls.made in
    let made = c.and-self-inside-2.result.made in
    let buffer = c.read.new.buf in
    let e : made ≡ calls ++ (buffer, c.match-read.outcome) ∷ [] = c.and-self-inside-2.ensures in
    elim c.match-read.branch [
      | in-Ok w ↦ rw w.outcome-is (reads_some c.args.self.now _ (g.R.Read.remaining c.read.new.self) calls made _ _ buffer w.in-Ok.count c.self.view_is (rw w.outcome-is at e) (search rules) (search rules) (search rules))
      | in-Err w ↦ rw (w.outcome-is, w.of_kind-outcome.ensures) (reads_none c.args.self.now _ (g.R.Read.remaining c.read.new.self) calls made _ _ buffer w.kind.result c.self.view_is (rw (w.outcome-is, w.of_kind-outcome.ensures) at e) (search rules))
    ]
