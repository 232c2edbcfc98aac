use Rattle.std.proofs.Common.{◌<◌, refl, sym, subst, arith}
use Rattle.nr_walker.proofs.WayLemmas.{IsWay-backward, IsWay-last, IsWay-place}
use Rattle.nr_walker.proofs.walker.Walker.backward.Goals as goal

-- the place of the last step is in the ring
pub index_mut-requires : goal.index_mut-requires
index_mut-requires g c =
    let inside = c.self.inside in
    let some = subst (λ v. 0 < v.kept) (sym c.self.view_is) c.requires in
    let within = IsWay-place g.W.Reversible.is_well_formed g.W.Worlds.world g.W.Reversible.steps g.W.Reversible.back inside.film.now inside.position inside.next c.place_before-self-inside.result inside.kept inside.depth
    inside.world inside.places c.self.invariant.0 some c.place_before-self-inside.ensures in
    let len = inside.places.ok.0 in
    omega (arith, within, len)

-- the delta of the last step can be undone
pub undo_from-requires : goal.undo_from-requires
undo_from-requires g c =
    let inside = c.self.inside in
    let some = subst (λ v. 0 < v.kept) (sym c.self.view_is) c.requires in
    let last = IsWay-last g.W.Reversible.is_well_formed g.W.Worlds.world g.W.Reversible.steps g.W.Reversible.back inside.film.now g.met.W.Reversible.steps_unique inside.position inside.next
    c.place_before-self-inside.result inside.kept inside.depth inside.world inside.places c.index_mut.result.now c.self.invariant.0 some c.place_before-self-inside.ensures c.index_mut.ensures.value in
    (last.0, last.1)

-- The number of kept deltas falls by one. The next step's delta goes to the place of the removed
-- delta.
pub invariant_of-self : goal.invariant_of-self
invariant_of-self g c =
    let inside = c.self.inside in
    let way = c.self.invariant.0 in
    let some = subst (λ v. 0 < v.kept) (sym c.self.view_is) c.requires in
    let within = IsWay-place g.W.Reversible.is_well_formed g.W.Worlds.world g.W.Reversible.steps g.W.Reversible.back inside.film.now inside.position inside.next c.place_before-self-inside.result inside.kept inside.depth
    inside.world inside.places way some c.place_before-self-inside.ensures in
    let len = inside.places.ok.0 in (
      IsWay-backward g.W.Reversible.is_well_formed g.W.Worlds.world g.W.Reversible.steps g.W.Reversible.back inside.film.now g.met.W.Reversible.steps_unique g.met.W.Reversible.back_is_unique inside.position
          inside.next c.place_before-self-inside.result inside.kept inside.depth inside.world c.undo_from.new.self inside.places _ c.index_mut.result.now c.undo_from.new.delta way some
          c.place_before-self-inside.ensures c.index_mut.ensures.value c.undo_from.ensures refl way.room,
      omega (arith, within, len),
    )
