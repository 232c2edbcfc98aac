use Rattle.std.proofs.Common.{◌≡◌, ◌≢◌, ℕ, ◌+◌, ◌<◌, ◌≤◌, length, min, Some, refl, sym, ap, ◌∙◌, subst, arith}
use Rattle.std.specs.List.{slice_get}
use Rattle.std.specs.Prelude.{vec_len}
use Rattle.std.specs.Vec.{with_item}
use Rattle.std.proofs.lemmas.Option.{slice_get-get_or}
use Rattle.std.proofs.Math.ListN.{get_or}
use Rattle.std.proofs.Math.Nat.{min-le_left, min-le_right}
use Rattle.nr_rev.proofs.ListUpdateLemmas.{slice_get-set_here}
use Rattle.nr_walker.specs.Way.{IsWay}
use Rattle.nr_walker.proofs.WayLemmas.{IsWay-forward, IsWay-longer, IsWay-written}
use Rattle.nr_walker.proofs.walker.Walker.forward.Goals as goal
use Rattle.nr_walker.proofs.walker.Walker.forward.Goals.{then-self-len, else-self-len}

-- the place of the refused step may contain any delta
pub invariant_of-self : goal.invariant_of-self
invariant_of-self g c =
    let inside = c.self.inside in
    let way = c.self.invariant.0 in
    let written = with_item inside.places inside.next c.apply.new.delta in
    let stays = IsWay-written g.W.Reversible.is_well_formed g.W.Worlds.world g.W.Reversible.steps g.W.Reversible.back inside.film.now inside.position inside.next inside.kept inside.depth inside.world inside.places written
    c.apply.new.delta refl way.room way in (
      subst (λ s. IsWay g.W.Reversible.is_well_formed g.W.Worlds.world g.W.Reversible.steps g.W.Reversible.back inside.film.now inside.position s written inside.next inside.kept inside.depth)
          (sym c.in_err-apply.ensures.unchanged) stays,
      c.self.invariant.1,
    )

less-than : (further next len : ℕ) → further ≤ next + 1 → next < len → further ≢ len → further < len
less-than further next len near made not = grind arith

-- undoing the new delta restores the old state
pub invariant_of-self-2 : goal.invariant_of-self-2
invariant_of-self-2 g c =
    let inside = c.self.inside in
    let way = c.self.invariant.0 in
    let below : inside.position < length inside.film.now.recording.steps = subst (λ v. v.position < length v.film.recording.steps) (sym c.self.view_is) c.requires.within in
    let delta = c.apply.new.delta in
    let written = with_item inside.places inside.next delta in
    let len = inside.places.ok.0 in
    let made = c.self.invariant.1 in
    let inner : inside.next < length inside.places.items = omega (arith, len, made) in
    let there : slice_get written.items inside.next ≡ Some delta =
    slice_get-set_here inside.places.items inside.next (get_or inside.places.items inside.next delta) delta (slice_get-get_or inside.places.items inside.next delta inner) in
    let further = c.place_after-self-inside.ensures.is inside.position way.next_is in
    let near = c.place_after-self-inside.ensures.near in
    let kept = c.min-self-inside.result in
    let is : kept ≡ min (inside.kept + 1) inside.depth = c.min-self-inside.ensures ∙ (elim c.if-self-len.branch [
      | then-self-len w ↦ ap (λ i. min (i.kept + 1) i.depth) w.self-inside-is
      | else-self-len w ↦ ap (λ i. min (i.kept + 1) i.depth) w.self-inside-is
    ]) in
    let one = min-le_left (inside.kept + 1) inside.depth in
    let few = min-le_right (inside.kept + 1) inside.depth in
    let forward = IsWay-forward g.W.Reversible.is_well_formed g.W.Worlds.world g.W.Reversible.steps g.W.Reversible.back inside.film.now inside.position inside.next c.place_after-self-inside.result inside.kept kept
    inside.depth inside.world c.apply.new.world inside.places written delta way below c.in_ok-apply.ensures.frame c.in_ok-apply.ensures.back refl there way.room further (omega (arith, is, one)) (omega (arith, is, few)) in
    let end = c.len.ensures in
    elim c.if-self-len.branch [
      | then-self-len w ↦
          let room = way.room in
          let capacity = w.push_reserved.ensures.capacity in
          let longer = IsWay-longer g.W.Reversible.is_well_formed g.W.Worlds.world g.W.Reversible.steps g.W.Reversible.back inside.film.now (inside.position + 1) c.place_after-self-inside.result kept inside.depth
          c.apply.new.world written w.push_reserved.new.self w.no_delta.result w.push_reserved.ensures.items (omega (arith, room, capacity)) forward in
          let at = w.if-self-len.true in
          let more = w.push_reserved.ensures.len in
          subst (λ s. IsWay g.W.Reversible.is_well_formed g.W.Worlds.world g.W.Reversible.steps g.W.Reversible.back s.film.now s.position s.world s.places s.next kept s.depth × (s.next < vec_len s.places))
          (sym w.self-inside-is) (longer, omega (arith, at, end, more))
      | else-self-len w ↦
          let not : c.place_after-self-inside.result ≢ inside.places.len = λ same. w.if-self-len.false (same ∙ sym end) in
          let within = less-than c.place_after-self-inside.result inside.next inside.places.len near made not in
          subst (λ s. IsWay g.W.Reversible.is_well_formed g.W.Worlds.world g.W.Reversible.steps g.W.Reversible.back s.film.now s.position s.world s.places s.next kept s.depth × (s.next < vec_len s.places))
          (sym w.self-inside-is) (forward, within)
    ]
