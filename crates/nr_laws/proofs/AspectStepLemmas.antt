-- Each step changes only cells that its kind can change.
use Rattle.std.proofs.Common.{◌≡◌, false, Ok}
use Rattle.nr_rev.specs.declared.answer.Answer.{Answer}
use Rattle.nr_rev.specs.declared.cell.Cell.{Cell}
use Rattle.nr_rev.specs.declared.step.Step.{Step}
use Rattle.nr_rev.specs.Cell.{cell}
use Rattle.nr_rev.specs.Kind.{kind_of}
use Rattle.nr_rev.specs.Aspect.{can_change, changed_aspects}
use Rattle.nr_rev.specs.Step.{outcome}
use Rattle.nr_rev.specs.World.{World}
use Rattle.nr_laws.proofs.AspectLemmas.{Changes}
use Rattle.nr_laws.proofs.AspectSocketStepLemmas.{spawn_changes, exit_changes, incref_changes, increfclose_changes, decref_changes, rwlock_changes, rwunlock_changes, acquire_changes, release_changes, sockopen_changes, arrive_changes, peerclose_changes, sysread_changes, syswrite_changes, drain_changes, closewrite_changes}
use Rattle.nr_laws.proofs.AspectDescriptorStepLemmas.{pollopen_changes, pollclose_changes, pollreset_changes, waitbegin_changes, blockarm_changes, blockcheck_changes, parkcommit_changes, blockswap_changes, waitcheck_changes, setdeadline_changes, evict_changes, pollevent_changes, tick_changes, pop_changes, fire_changes}

-- every kind
step_changes : (w : World) (step : Step) → Changes (changed_aspects (kind_of step)) w (outcome w step)
step_changes w Step.Spawn = spawn_changes w
step_changes w (Step.Exit g) = exit_changes w g
step_changes w (Step.SockOpen rc wc) = sockopen_changes w rc wc
step_changes w (Step.Arrive s bytes) = arrive_changes w s bytes
step_changes w (Step.PeerClose s) = peerclose_changes w s
step_changes w (Step.SysRead g s n) = sysread_changes w g s n
step_changes w (Step.SysWrite g s bytes) = syswrite_changes w g s bytes
step_changes w (Step.Drain s n) = drain_changes w s n
step_changes w (Step.Incref g s) = incref_changes w g s
step_changes w (Step.IncrefClose g s) = increfclose_changes w g s
step_changes w (Step.Decref g s) = decref_changes w g s
step_changes w (Step.RwLock g s side) = rwlock_changes w g s side
step_changes w (Step.RwUnlock g s side) = rwunlock_changes w g s side
step_changes w (Step.Acquire g) = acquire_changes w g
step_changes w (Step.Release g) = release_changes w g
step_changes w (Step.PollOpen g s) = pollopen_changes w g s
step_changes w (Step.PollClose g d) = pollclose_changes w g d
step_changes w (Step.PollReset g d side) = pollreset_changes w g d side
step_changes w (Step.WaitBegin g d side) = waitbegin_changes w g d side
step_changes w (Step.BlockArm g) = blockarm_changes w g
step_changes w (Step.BlockCheck g) = blockcheck_changes w g
step_changes w (Step.ParkCommit g) = parkcommit_changes w g
step_changes w (Step.BlockSwap g) = blockswap_changes w g
step_changes w (Step.WaitCheck g) = waitcheck_changes w g
step_changes w (Step.SetDeadline g d mode t) = setdeadline_changes w g d mode t
step_changes w (Step.Evict g d) = evict_changes w g d
step_changes w (Step.PollEvent d tag mode error) = pollevent_changes w d tag mode error
step_changes w (Step.Tick t) = tick_changes w t
step_changes w Step.Pop = pop_changes w
step_changes w (Step.Fire i) = fire_changes w i
step_changes w (Step.CloseWrite g s) = closewrite_changes w g s

pub step_keeps_cell : (w : World) (step : Step) (answer : Answer) (next : World) (c : Cell) → outcome w step ≡ Ok (answer, next) → can_change (kind_of step) c ≡ false → cell next c ≡ cell w c
step_keeps_cell w step answer next c is cannot = ((step_changes w step).value (answer, next) is).each c cannot
