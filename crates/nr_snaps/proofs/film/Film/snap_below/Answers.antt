use Rattle.std.proofs.Common.{◌≡◌, ◌+◌, ◌-◌, ◌*◌, ◌/◌, ◌<◌, ◌≤◌, length, refl, sym, subst, arith}
use Rattle.std.proofs.lemmas.Option.{slice_get_read}
use Rattle.nr_recording.specs.Recording.{run_of}
use Rattle.nr_snaps.specs.Film.{IsFrame, Reel}
use Rattle.nr_snaps.proofs.CopiesLemmas.{div-mono}
use Rattle.nr_snaps.proofs.film.Film.snap_below.Goals as goal

-- the borrowed copy stores the state of the replay at the largest multiple of `every` up to n
pub returns-else-copy-eq0 : goal.returns-else-copy-eq0
returns-else-copy-eq0 g c =
    let inside = c.self.inside in
    let has = c.self.invariant.0 in
    let film : Reel g.row.W.Denot = record { recording = run_of inside.recording; every = inside.every; origin = inside.start } in
    let least = has.least in
    let k = c.args.n / inside.every in
    let below = subst (λ v. c.args.n ≤ length v.recording.steps) (sym c.self.view_is) c.requires in
    let positive : 0 < inside.every = omega (arith, least) in
    let most : k ≤ length (run_of inside.recording).steps / inside.every = div-mono c.args.n (length (run_of inside.recording).steps) inside.every positive below in
    let some = c.if-copy-eq0.false in
    let count = has.copies.count in
    let there : k - 1 < length inside.later.items = omega (arith, most, some, count) in
    let place : k - 1 + 1 ≡ k = omega (arith, some) in
    let copy = has.copies.each (k - 1) c.index.result.now (slice_get_read inside.later.items (length inside.later.items) (k - 1) c.index.result.now refl there c.index.ensures) in
    let keeps = subst (λ j. IsFrame g.W.Reversible.is_well_formed g.W.Worlds.world g.W.Reversible.steps film (j * inside.every) (g.W.Worlds.kept c.index.result.now)) place copy in
    subst (λ v. IsFrame g.W.Reversible.is_well_formed g.W.Worlds.world g.W.Reversible.steps v (c.args.n / v.every * v.every) (g.W.Worlds.kept c.index.result.now)) c.self.view_is keeps
