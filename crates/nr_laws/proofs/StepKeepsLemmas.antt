-- Each step keeps a world well formed, or is refused for a reason that can occur in a well-formed
-- world.
use Rattle.std.proofs.Common.{◌≡◌, Ok, ◌≢◌, Err, true≢false}
use Rattle.nr_rev.specs.declared.answer.Answer.{Answer}
use Rattle.nr_rev.specs.World.{World}
use Rattle.nr_rev.specs.WellFormed.{WellFormed}
use Rattle.nr_rev.specs.declared.step.Step.{Step}
use Rattle.nr_rev.specs.Step.{outcome, Outcome}
use Rattle.nr_rev.specs.Auxiliary.Step.{IsTimely}
use Rattle.nr_rev.specs.declared.refusal.Refusal.{Refusal}
use Rattle.nr_rev.specs.Refusing.{out_of_memory}
use Rattle.nr_laws.proofs.TimerStepLemmas.{tick_sound, pop_sound, fire_sound}
use Rattle.nr_rev.proofs.OutcomeLemmas.{Keeps, KeepsFor, Ends-map}
use Rattle.nr_laws.proofs.GoroutineStepLemmas.{spawn_sound, exit_sound}
use Rattle.nr_laws.proofs.LockStepLemmas.{incref_sound, increfclose_sound, decref_sound, rwlock_sound, rwunlock_sound}
use Rattle.nr_laws.proofs.SemaphoreStepLemmas.{acquire_sound, release_sound}
use Rattle.nr_laws.proofs.TransferStepLemmas.{sockopen_sound, arrive_sound, peerclose_sound, sysread_sound, syswrite_sound, drain_sound, closewrite_sound}
use Rattle.nr_laws.proofs.DescriptorStepLemmas.{pollopen_sound, pollclose_sound, evict_sound, pollevent_sound}
use Rattle.nr_laws.proofs.WaitStepLemmas.{pollreset_sound, waitbegin_sound, blockarm_sound, blockcheck_sound, parkcommit_sound, blockswap_sound, waitcheck_sound}
use Rattle.nr_laws.proofs.SetDeadlineLemmas.{setdeadline_sound}

unless_premise : {T : Type 0} (o : Outcome) → Keeps o → KeepsFor T o
unless_premise o keeps = Ends-map keeps λ left fits _. fits

-- every kind
pub step_sound : (w : World) (step : Step) → WellFormed w → KeepsFor (IsTimely step) (outcome w step)
step_sound w Step.Spawn h = unless_premise _ (spawn_sound w h)
step_sound w (Step.Exit g) h = unless_premise _ (exit_sound w g h)
step_sound w (Step.SockOpen rc wc) h = unless_premise _ (sockopen_sound w rc wc h)
step_sound w (Step.Arrive s bytes) h = unless_premise _ (arrive_sound w s bytes h)
step_sound w (Step.PeerClose s) h = unless_premise _ (peerclose_sound w s h)
step_sound w (Step.SysRead g s n) h = unless_premise _ (sysread_sound w g s n h)
step_sound w (Step.SysWrite g s bytes) h = unless_premise _ (syswrite_sound w g s bytes h)
step_sound w (Step.Drain s n) h = unless_premise _ (drain_sound w s n h)
step_sound w (Step.Incref g s) h = unless_premise _ (incref_sound w g s h)
step_sound w (Step.IncrefClose g s) h = unless_premise _ (increfclose_sound w g s h)
step_sound w (Step.Decref g s) h = unless_premise _ (decref_sound w g s h)
step_sound w (Step.RwLock g s side) h = unless_premise _ (rwlock_sound w g s side h)
step_sound w (Step.RwUnlock g s side) h = unless_premise _ (rwunlock_sound w g s side h)
step_sound w (Step.Acquire g) h = unless_premise _ (acquire_sound w g h)
step_sound w (Step.Release g) h = unless_premise _ (release_sound w g h)
step_sound w (Step.PollOpen g s) h = unless_premise _ (pollopen_sound w g s h)
step_sound w (Step.PollClose g d) h = unless_premise _ (pollclose_sound w g d h)
step_sound w (Step.PollReset g d side) h = unless_premise _ (pollreset_sound w g d side h)
step_sound w (Step.WaitBegin g d side) h = unless_premise _ (waitbegin_sound w g d side h)
step_sound w (Step.BlockArm g) h = unless_premise _ (blockarm_sound w g h)
step_sound w (Step.BlockCheck g) h = unless_premise _ (blockcheck_sound w g h)
step_sound w (Step.ParkCommit g) h = unless_premise _ (parkcommit_sound w g h)
step_sound w (Step.BlockSwap g) h = unless_premise _ (blockswap_sound w g h)
step_sound w (Step.WaitCheck g) h = unless_premise _ (waitcheck_sound w g h)
step_sound w (Step.SetDeadline g d mode t) h = setdeadline_sound w g d mode t h
step_sound w (Step.Evict g d) h = unless_premise _ (evict_sound w g d h)
step_sound w (Step.PollEvent d tag mode error) h = unless_premise _ (pollevent_sound w d tag mode error h)
step_sound w (Step.Tick t) h = tick_sound w t h
step_sound w Step.Pop h = unless_premise _ (pop_sound w h)
step_sound w (Step.Fire i) h = unless_premise _ (fire_sound w i h)
step_sound w (Step.CloseWrite g s) h = unless_premise _ (closewrite_sound w g s h)

pub step_keeps : (w : World) (step : Step) (answer : Answer) (next : World) → IsTimely step → WellFormed w → outcome w step ≡ Ok (answer, next) → WellFormed next
step_keeps w step answer next timely h e = (step_sound w step h).value (answer, next) e timely

pub none_corrupted : (w : World) (step : Step) → WellFormed w → ◌≢◌ {A = Outcome} (outcome w step) (Err Refusal.CorruptedDescriptor)
none_corrupted w step h e = true≢false ((step_sound w step h).given Refusal.CorruptedDescriptor e)

pub none_for_memory : (w : World) (step : Step) → WellFormed w → ◌≢◌ {A = Outcome} (outcome w step) (Err out_of_memory)
none_for_memory w step h e = true≢false ((step_sound w step h).given out_of_memory e)
