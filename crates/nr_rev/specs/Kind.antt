-- The kinds of steps: their names, their numbers, and the kind of each step.
use Rattle.std.specs.Prelude.{ℕ, ◌+◌, ◌==◌, Bool, List, [], ◌∷◌, map, Option, find, position, codes}
use Rattle.std.specs.Option.{option_map_or}
use Rattle.std.specs.Str.{bytes_eq}
use Rattle.nr_rev.specs.declared.kind.Kind.{Kind}
use Rattle.nr_rev.specs.declared.step.Step.{Step}
use Rattle.nr_rev.specs.contracts.kind.KindPartialEq.TheImpl as kind_eq

-- `==` of two kinds
abbrev pub same_kind : Kind → Kind → Bool
same_kind = (kind_eq.ghosts).eq

-- each kind and its name, in the order of their numbers
abbrev pub spelled_kinds : List (Kind × List ℕ)
spelled_kinds =
    (Kind.Spawn, codes "spawn") ∷
    (Kind.Exit, codes "exit") ∷
    (Kind.SockOpen, codes "sockopen") ∷
    (Kind.Arrive, codes "arrive") ∷
    (Kind.PeerClose, codes "peerclose") ∷
    (Kind.SysRead, codes "sysread") ∷
    (Kind.SysWrite, codes "syswrite") ∷
    (Kind.Drain, codes "drain") ∷
    (Kind.Incref, codes "incref") ∷
    (Kind.IncrefClose, codes "increfclose") ∷
    (Kind.Decref, codes "decref") ∷
    (Kind.RwLock, codes "rwlock") ∷
    (Kind.RwUnlock, codes "rwunlock") ∷
    (Kind.Acquire, codes "acquire") ∷
    (Kind.Release, codes "release") ∷
    (Kind.PollOpen, codes "pollopen") ∷
    (Kind.PollClose, codes "pollclose") ∷
    (Kind.PollReset, codes "pollreset") ∷
    (Kind.WaitBegin, codes "waitbegin") ∷
    (Kind.BlockArm, codes "blockarm") ∷
    (Kind.BlockCheck, codes "blockcheck") ∷
    (Kind.ParkCommit, codes "parkcommit") ∷
    (Kind.BlockSwap, codes "blockswap") ∷
    (Kind.WaitCheck, codes "waitcheck") ∷
    (Kind.SetDeadline, codes "setdeadline") ∷
    (Kind.Evict, codes "evict") ∷
    (Kind.PollEvent, codes "pollevent") ∷
    (Kind.Tick, codes "tick") ∷
    (Kind.Pop, codes "pop") ∷
    (Kind.Fire, codes "fire") ∷
    (Kind.CloseWrite, codes "closewrite") ∷
    []

-- the name of a kind
abbrev pub kind_name : Kind → List ℕ
kind_name kind = option_map_or (λ row. row.1) (find (λ row. same_kind kind row.0) spelled_kinds) []

-- all kinds, in the order of their numbers
abbrev pub kinds : List Kind
kinds = map (λ row. row.0) spelled_kinds

-- the kind with this name
abbrev pub kind_named : List ℕ → Option Kind
kind_named name = find (λ kind. bytes_eq (kind_name kind) name) kinds

-- the kind's number: its place among all kinds, counted from 1
abbrev pub kind_number : Kind → ℕ
kind_number kind = option_map_or (λ place. place + 1) (position (same_kind kind) kinds) 0

-- the kind with this number
abbrev pub kind_numbered : ℕ → Option Kind
kind_numbered number = find (λ kind. kind_number kind == number) kinds

-- the kind of a step
abbrev pub kind_of : Step → Kind
kind_of Step.Spawn = Kind.Spawn
kind_of (Step.Exit a) = Kind.Exit
kind_of (Step.SockOpen a b) = Kind.SockOpen
kind_of (Step.Arrive a b) = Kind.Arrive
kind_of (Step.PeerClose a) = Kind.PeerClose
kind_of (Step.SysRead a b c) = Kind.SysRead
kind_of (Step.SysWrite a b c) = Kind.SysWrite
kind_of (Step.Drain a b) = Kind.Drain
kind_of (Step.Incref a b) = Kind.Incref
kind_of (Step.IncrefClose a b) = Kind.IncrefClose
kind_of (Step.Decref a b) = Kind.Decref
kind_of (Step.RwLock a b c) = Kind.RwLock
kind_of (Step.RwUnlock a b c) = Kind.RwUnlock
kind_of (Step.Acquire a) = Kind.Acquire
kind_of (Step.Release a) = Kind.Release
kind_of (Step.PollOpen a b) = Kind.PollOpen
kind_of (Step.PollClose a b) = Kind.PollClose
kind_of (Step.PollReset a b c) = Kind.PollReset
kind_of (Step.WaitBegin a b c) = Kind.WaitBegin
kind_of (Step.BlockArm a) = Kind.BlockArm
kind_of (Step.BlockCheck a) = Kind.BlockCheck
kind_of (Step.ParkCommit a) = Kind.ParkCommit
kind_of (Step.BlockSwap a) = Kind.BlockSwap
kind_of (Step.WaitCheck a) = Kind.WaitCheck
kind_of (Step.SetDeadline a b c d) = Kind.SetDeadline
kind_of (Step.Evict a b) = Kind.Evict
kind_of (Step.PollEvent a b c d) = Kind.PollEvent
kind_of (Step.Tick a) = Kind.Tick
kind_of Step.Pop = Kind.Pop
kind_of (Step.Fire a) = Kind.Fire
kind_of (Step.CloseWrite a b) = Kind.CloseWrite
