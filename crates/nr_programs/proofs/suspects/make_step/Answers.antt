use Rattle.std.proofs.Common.{sym, subst, arith}
use Rattle.nr_recording.specs.Recording.{run_of}
use Rattle.nr_snaps.specs.Answers.{Agrees, Differs}
use Rattle.nr_suspects.proofs.NotebookLemmas.{has_room}
use Rattle.nr_programs.proofs.SuspectsLemmas.{is_made, is_otherwise, is_refused}
use Rattle.nr_programs.proofs.suspects.make_step.Goals as goal

-- the counts can grow by one
pub note-requires : goal.note-requires
note-requires g c =
    let n = c.args.n in
    record { room = has_room (run_of c.args.recording.now) n c.args.notebook.now c.requires.notes (omega (arith, c.requires.below, c.requires.few)) }

-- the step was refused
pub returns-in-Err-clause-fault : goal.returns-in-Err-clause-fault
returns-in-Err-clause-fault g c =
    is_refused c.args.recording.now c.args.n (g.W.Worlds.world c.args.world.now) c.in-Some.step.now c.in-Err.reason c.requires.at (sym c.in-Some.ensures.value) c.in-Err.ensures.refusal

-- the step's answer differs from the recorded one
pub returns-then-differs-clause-fault : goal.returns-then-differs-clause-fault
returns-then-differs-clause-fault g c =
    is_otherwise c.args.recording.now c.args.n (g.W.Worlds.world c.args.world.now) (g.W.Worlds.world c.advance.new.world) c.in-Some.step.now c.in-Ok.made.0 c.requires.at
    (sym c.in-Some.ensures.value) c.in-Ok.ensures.step (subst (λ recorded. Differs recorded c.in-Ok.made.0) c.answer.ensures c.if-differs.ensures)

-- the step was applied
pub returns-clause-made : goal.returns-clause-made
returns-clause-made g c =
    is_made c.args.recording.now c.args.n (g.W.Worlds.world c.args.world.now) (g.W.Worlds.world c.advance.new.world) c.in-Some.step.now c.in-Ok.made.0 c.in-Ok.made.1 c.args.notebook.now c.note.new.self
    c.requires.at (sym c.in-Some.ensures.value) c.in-Ok.ensures.step (subst (λ recorded. Agrees recorded c.in-Ok.made.0) c.answer.ensures c.if-differs.ensures) c.in-Ok.ensures.notice c.requires.notes
    c.in_ok-note.ensures.accounts c.in_ok-note.ensures.peers c.in_ok-note.ensures.rows c.in_ok-note.ensures.deadlines
