use Rattle.nr_snaps.proofs.FrameLemmas.{Replays-unique}
use Rattle.nr_snaps.proofs.laws.a_position_has_one_frame.Goals as goal

pub returns : goal.returns
returns g c film n a b first second =
    Replays-unique g.W.Reversible.steps g.met.W.Reversible.steps_unique film.recording film.origin n a b first.replays second.replays
