use Rattle.std.proofs.Common.{◌≡◌, ◌≤◌, ℕ, None, length, replicate, refl, sym, ap, ◌∙◌, subst, arith}
use Rattle.nr_recording.specs.Recording.{run_of}
use Rattle.nr_rev.specs.Run.{world_at}
use Rattle.nr_rev.specs.World.{empty_world}
use Rattle.nr_rev.specs.declared.limits.Limits.{Limits}
use Rattle.nr_snaps.proofs.AnswerLemmas.{steps_of_run}
use Rattle.nr_suspects.proofs.NotebookLemmas.{found_are, notes_first}
use Rattle.nr_suspects.specs.Holdings.{none_held}
use Rattle.nr_suspects.specs.Suspects.{AreFound, AreNotes}
use Rattle.nr_programs.proofs.SuspectsLemmas.{opens}
use Rattle.nr_programs.proofs.suspects.find_suspects.Goals as goal

-- before the first step the notebook is empty
pub loop-n-init : goal.loop-n-init
loop-n-init g c =
    let limits = c.limits-limits.ensures.value in
    let new = c.in_ok-notebook.ensures in
    record {
      world = c.in_ok-world.ensures.well_formed;
      there = c.in_ok-world.ensures.world ∙ ap empty_world limits;
      notes = notes_first (run_of c.args.recording.now) c.in_ok-notebook.notebook (new.accounts ∙ ap (λ (l : Limits). replicate l.descriptors None) limits)
          (new.peers ∙ ap (λ (l : Limits). replicate l.sockets None) limits)
          (new.rows ∙ ap (λ (l : Limits). replicate l.sockets (replicate l.goroutines none_held)) limits) new.deadlines;
      faultless = refl;
    }

-- all steps were applied, and the suspects that were found are those of the recording
pub returns-clause-found : goal.returns-clause-found
returns-clause-found g c =
    let r = c.args.recording.now in
    let run = run_of r in
    let w = g.W.Worlds.world c.loop-n.world in
    let notes = c.loop-n.notebook in
    let found = c.in_ok-suspects.suspects in
    let counted = steps_of_run r in
    let last : length r.steps ≤ c.loop-n.n = omega (arith, c.len-n-end.ensures.value, c.loop-n.auto.n-end, c.loop-n-test.false) in
    let ends : c.loop-n.n ≡ length run.steps = omega (arith, c.len-n-end.ensures.value, c.loop-n.auto.n-end, c.loop-n-test.false, counted) in
    let position : c.len.result ≡ length run.steps = c.len.ensures.value ∙ sym counted in
    let here : AreFound (length run.steps) w r.limits notes found =
    subst (λ (limits : Limits). AreFound (length run.steps) w limits notes found) c.limits-limits.ensures.value
    (subst (λ (k : ℕ). AreFound k w c.limits-limits.result notes found) position c.in_ok-suspects.ensures) in
    record {
      opens = opens r c.loop-n.n last c.loop-n.invariant.faultless;
      lines = found_are run w notes found (subst (λ (k : ℕ). AreNotes run k notes) ends c.loop-n.invariant.notes)
          (subst (λ (k : ℕ). w ≡ world_at run k) ends c.loop-n.invariant.there) (g.met.W.Worlds.means_well_formed c.loop-n.world c.loop-n.invariant.world) here;
    }
