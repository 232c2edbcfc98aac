use Rattle.nr_recording.specs.Recording.{run_of}
use Rattle.nr_snaps.proofs.loading.Snaps.load.Given as goal

-- the film that load makes
abbrev pub ghost-replay : goal.ghost-replay
ghost-replay g a = record { recording = run_of a.recording.now; every = a.every; origin = a.start.now }
