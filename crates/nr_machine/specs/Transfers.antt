-- The steps on the buffers of a socket.
use Rattle.std.specs.Prelude.{◌≡◌, ℕ, Ok}
use Rattle.nr_rev.specs.declared.step.Step.{Step}
use Rattle.nr_rev.specs.declared.step.Step.TheVariants.{SockOpen, Arrive, PeerClose, SysRead, SysWrite, Drain, CloseWrite}
use Rattle.nr_rev.specs.Step.{idle}
use Rattle.nr_rev.specs.World.{World}

-- true if the step opens a socket
abbrev pub IsOpening : Step → Type 0
IsOpening (SockOpen rc wc) = Unit {0}
IsOpening _ = ⊥

-- true if goroutine g makes the step on the buffers of socket s
abbrev pub IsTransferOf : ℕ → ℕ → Step → Type 0
IsTransferOf g s (SysRead h t n) = (h ≡ g) × (t ≡ s)
IsTransferOf g s (SysWrite h t bytes) = (h ≡ g) × (t ≡ s)
IsTransferOf g s (CloseWrite h t) = (h ≡ g) × (t ≡ s)
IsTransferOf g s _ = ⊥

-- true if the step acts on the buffers of socket s, and its goroutine, if any, is idle
abbrev pub IsTransfer : ℕ → World → Step → Type 0
IsTransfer s w (Arrive t bytes) = t ≡ s
IsTransfer s w (PeerClose t) = t ≡ s
IsTransfer s w (SysRead g t n) = (t ≡ s) × (idle g w ≡ Ok tt)
IsTransfer s w (SysWrite g t bytes) = (t ≡ s) × (idle g w ≡ Ok tt)
IsTransfer s w (Drain t n) = t ≡ s
IsTransfer s w (CloseWrite g t) = (t ≡ s) × (idle g w ≡ Ok tt)
IsTransfer s w _ = ⊥
