use Rattle.std.proofs.Common.{ap}
use Rattle.nr_snaps.proofs.FrameLemmas.{Replays-unique}
use Rattle.nr_machine.specs.ReversibleLaws.{steps_unique}
use Rattle.nr_machine.specs.Step.{StepTo}
use Rattle.nr_machine.specs.World.{WorldParts}
use Rattle.nr_replay_tests.proofs.laws.walks_have_one_heap.Goals as goal

pub returns : goal.returns
returns c film n a b first second =
    ap (λ (m : WorldParts). m.core.timers.entries)
    (Replays-unique StepTo steps_unique film.recording film.origin n a b first.replays second.replays)
