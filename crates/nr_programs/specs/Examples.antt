-- The runs of the examples, and the files of the same names in examples/ as bytes.
use Rattle.std.specs.Prelude.{ℕ, List, [], ◌∷◌, ◌++◌, codes, pos, negsuc, true, false}
use Rattle.nr_rev.specs.Run.{Recording}
use Rattle.nr_rev.specs.declared.sides.Mode.TheVariants as modes
use Rattle.nr_rev.specs.declared.sides.Side.TheVariants as sides
use Rattle.nr_rev.specs.declared.step.Step.TheVariants.{Spawn, Exit, SockOpen, Arrive, PeerClose, SysRead, SysWrite, Drain, Incref, IncrefClose, Decref, RwLock, RwUnlock, PollOpen, PollClose, PollReset, WaitBegin, BlockArm, BlockCheck, ParkCommit, BlockSwap, WaitCheck, SetDeadline, Evict, PollEvent, Tick, Pop, Fire, CloseWrite}

-- the run of examples/first.jsonl
abbrev pub first_run : Recording
first_run = record {
  limits = record { goroutines = 4; sockets = 2; descriptors = 2; buffer = 16 };
  steps =
      Spawn ∷ Spawn ∷ SockOpen 16 16 ∷ Incref 0 0 ∷ RwLock 0 0 sides.Read
      ∷ RwLock 1 0 sides.Read ∷ RwUnlock 0 0 sides.Read ∷ IncrefClose 2 0 ∷ Decref 2 0
      ∷ Exit 2 ∷ [];
}

-- examples/first.script
abbrev pub first_commands : List ℕ
first_commands =
    codes "stepi 6\n"
    ++ codes "print lock 0\n"
    ++ codes "print gor 1\n"
    ++ codes "watch lock 0\n"
    ++ codes "continue\n"
    ++ codes "print lock 0\n"
    ++ codes "reverse-continue\n"
    ++ codes "reverse-continue\n"
    ++ codes "print lock 0\n"
    ++ codes "continue\n"
    ++ codes "continue\n"
    ++ codes "continue\n"
    ++ codes "continue\n"
    ++ codes "print lock 0\n"

-- examples/first.replies
abbrev pub first_replies : List ℕ
first_replies =
    codes "at 6\n"
    ++ codes "lock 0 = 8388626\n"
    ++ codes "gor 1 = acquiring 0 r\n"
    ++ codes "mark 1\n"
    ++ codes "at 7 by 1\n"
    ++ codes "lock 0 = 8\n"
    ++ codes "at 6 by 1\n"
    ++ codes "at 5 by 1\n"
    ++ codes "lock 0 = 18\n"
    ++ codes "at 6 by 1\n"
    ++ codes "at 7 by 1\n"
    ++ codes "at 8 by 1\n"
    ++ codes "at 9 by 1\n"
    ++ codes "lock 0 = 9\n"

-- the run of examples/leaked-reference.jsonl
abbrev pub leaked_reference_run : Recording
leaked_reference_run = record {
  limits = record { goroutines = 3; sockets = 1; descriptors = 1; buffer = 16 };
  steps =
      Spawn ∷ Spawn ∷ SockOpen 16 16 ∷ PollOpen 0 0 ∷ Incref 2 0
      ∷ RwLock 1 0 sides.Read ∷ PollReset 1 0 sides.Read ∷ SysRead 1 0 16
      ∷ WaitBegin 1 0 sides.Read ∷ BlockArm 1 ∷ BlockCheck 1 ∷ ParkCommit 1
      ∷ IncrefClose 0 0 ∷ Evict 0 0 ∷ Decref 0 0 ∷ BlockSwap 1 ∷ WaitCheck 1
      ∷ RwUnlock 1 0 sides.Read ∷ Exit 1 ∷ [];
}

-- examples/leaked-reference.script
abbrev pub leaked_reference_commands : List ℕ
leaked_reference_commands =
    codes "continue\n"
    ++ codes "print lock 0\n"
    ++ codes "print gor 1\n"
    ++ codes "watch lock 0\n"
    ++ codes "reverse-continue\n"
    ++ codes "checkpoint\n"
    ++ codes "reverse-stepi\n"
    ++ codes "print lock 0\n"
    ++ codes "reverse-continue\n"
    ++ codes "checkpoint\n"
    ++ codes "print lock 0\n"
    ++ codes "reverse-continue\n"
    ++ codes "checkpoint\n"
    ++ codes "print lock 0\n"
    ++ codes "reverse-continue\n"
    ++ codes "print lock 0\n"
    ++ codes "reverse-continue\n"
    ++ codes "checkpoint\n"
    ++ codes "print lock 0\n"
    ++ codes "reverse-continue\n"
    ++ codes "info checkpoints\n"
    ++ codes "restart 4\n"
    ++ codes "print lock 0\n"
    ++ codes "info breakpoints\n"

-- examples/leaked-reference.replies
abbrev pub leaked_reference_replies : List ℕ
leaked_reference_replies =
    codes "at 19 end\n"
    ++ codes "lock 0 = 9\n"
    ++ codes "gor 1 = gone\n"
    ++ codes "mark 1\n"
    ++ codes "at 18 by 1\n"
    ++ codes "checkpoint 1 at 18\n"
    ++ codes "at 17\n"
    ++ codes "lock 0 = 19\n"
    ++ codes "at 15 by 1\n"
    ++ codes "checkpoint 2 at 15\n"
    ++ codes "lock 0 = 19\n"
    ++ codes "at 13 by 1\n"
    ++ codes "checkpoint 3 at 13\n"
    ++ codes "lock 0 = 27\n"
    ++ codes "at 6 by 1\n"
    ++ codes "lock 0 = 18\n"
    ++ codes "at 5 by 1\n"
    ++ codes "checkpoint 4 at 5\n"
    ++ codes "lock 0 = 8\n"
    ++ codes "at 3 by 1\n"
    ++ codes "checkpoints 4\n"
    ++ codes "1 at 18\n"
    ++ codes "2 at 15\n"
    ++ codes "3 at 13\n"
    ++ codes "4 at 5\n"
    ++ codes "at 5\n"
    ++ codes "lock 0 = 8\n"
    ++ codes "marks 1\n"
    ++ codes "1 watch lock 0\n"

-- the run of examples/lost-wakeup.jsonl
abbrev pub lost_wakeup_run : Recording
lost_wakeup_run = record {
  limits = record { goroutines = 1; sockets = 1; descriptors = 1; buffer = 16 };
  steps =
      SockOpen 16 16 ∷ PollOpen 0 0 ∷ RwLock 0 0 sides.Read ∷ PollReset 0 0 sides.Read
      ∷ SysRead 0 0 16 ∷ WaitBegin 0 0 sides.Read ∷ BlockArm 0 ∷ BlockCheck 0
      ∷ Arrive 0 (104 ∷ 105 ∷ []) ∷ PollEvent 0 1 modes.Read false ∷ ParkCommit 0
      ∷ BlockSwap 0 ∷ SysRead 0 0 16 ∷ RwUnlock 0 0 sides.Read
      ∷ Arrive 0 (111 ∷ 107 ∷ []) ∷ PollEvent 0 1 modes.Read false
      ∷ RwLock 0 0 sides.Read ∷ PollReset 0 0 sides.Read ∷ WaitBegin 0 0 sides.Read
      ∷ BlockArm 0 ∷ BlockCheck 0 ∷ ParkCommit 0 ∷ [];
}

-- examples/lost-wakeup.script
abbrev pub lost_wakeup_commands : List ℕ
lost_wakeup_commands =
    codes "continue\n"
    ++ codes "print gor 0\n"
    ++ codes "dump in 0\n"
    ++ codes "watch rg 0\n"
    ++ codes "reverse-continue\n"
    ++ codes "reverse-continue\n"
    ++ codes "print rg 0\n"
    ++ codes "reverse-stepi\n"
    ++ codes "print rg 0\n"
    ++ codes "checkpoint\n"
    ++ codes "reverse-continue\n"
    ++ codes "reverse-continue\n"
    ++ codes "reverse-continue\n"
    ++ codes "print gor 0\n"
    ++ codes "print rg 0\n"
    ++ codes "stepi\n"
    ++ codes "print gor 0\n"
    ++ codes "continue\n"
    ++ codes "print gor 0\n"
    ++ codes "dump in 0\n"
    ++ codes "restart 1\n"
    ++ codes "info position\n"

-- examples/lost-wakeup.replies
abbrev pub lost_wakeup_replies : List ℕ
lost_wakeup_replies =
    codes "at 22 end\n"
    ++ codes "gor 0 = parked 0 r\n"
    ++ codes "in 0 = 6f6b\n"
    ++ codes "mark 1\n"
    ++ codes "at 20 by 1\n"
    ++ codes "at 18 by 1\n"
    ++ codes "rg 0 = nil\n"
    ++ codes "at 17\n"
    ++ codes "rg 0 = ready\n"
    ++ codes "checkpoint 1 at 17\n"
    ++ codes "at 16 by 1\n"
    ++ codes "at 12 by 1\n"
    ++ codes "at 10 by 1\n"
    ++ codes "gor 0 = parking 0 r\n"
    ++ codes "rg 0 = ready\n"
    ++ codes "at 11\n"
    ++ codes "gor 0 = swapping 0 r\n"
    ++ codes "at 12 by 1\n"
    ++ codes "gor 0 = idle\n"
    ++ codes "in 0 = 6869\n"
    ++ codes "at 17\n"
    ++ codes "at 17 of 22 forward\n"

-- the run of examples/past-deadline.jsonl
abbrev pub past_deadline_run : Recording
past_deadline_run = record {
  limits = record { goroutines = 2; sockets = 1; descriptors = 1; buffer = 16 };
  steps =
      Spawn ∷ SockOpen 16 16 ∷ PollOpen 0 0 ∷ RwLock 1 0 sides.Read
      ∷ PollReset 1 0 sides.Read ∷ SysRead 1 0 16 ∷ WaitBegin 1 0 sides.Read ∷ BlockArm 1
      ∷ BlockCheck 1 ∷ ParkCommit 1 ∷ Incref 0 0 ∷ SetDeadline 0 0 modes.Read (negsuc 0)
      ∷ Decref 0 0 ∷ Incref 0 0 ∷ SetDeadline 0 0 modes.Read (pos 0) ∷ Decref 0 0
      ∷ BlockSwap 1 ∷ WaitCheck 1 ∷ BlockArm 1 ∷ BlockCheck 1 ∷ ParkCommit 1 ∷ [];
}

-- examples/past-deadline.script
abbrev pub past_deadline_commands : List ℕ
past_deadline_commands =
    codes "continue\n"
    ++ codes "print gor 1\n"
    ++ codes "print rd 0\n"
    ++ codes "watch rd 0\n"
    ++ codes "reverse-continue\n"
    ++ codes "print rd 0\n"
    ++ codes "print gor 1\n"
    ++ codes "reverse-continue\n"
    ++ codes "print rd 0\n"
    ++ codes "print gor 1\n"
    ++ codes "break waitcheck\n"
    ++ codes "continue\n"
    ++ codes "continue\n"
    ++ codes "print info 0\n"
    ++ codes "stepi\n"
    ++ codes "print gor 1\n"

-- examples/past-deadline.replies
abbrev pub past_deadline_replies : List ℕ
past_deadline_replies =
    codes "at 21 end\n"
    ++ codes "gor 1 = parked 0 r\n"
    ++ codes "rd 0 = 0\n"
    ++ codes "mark 1\n"
    ++ codes "at 15 by 1\n"
    ++ codes "rd 0 = 0\n"
    ++ codes "gor 1 = swapping 0 r\n"
    ++ codes "at 12 by 1\n"
    ++ codes "rd 0 = -1\n"
    ++ codes "gor 1 = swapping 0 r\n"
    ++ codes "mark 2\n"
    ++ codes "at 15 by 1\n"
    ++ codes "at 17 by 2\n"
    ++ codes "info 0 = 0\n"
    ++ codes "at 18\n"
    ++ codes "gor 1 = entering 0 r\n"

-- the run of examples/reused-descriptor.jsonl
abbrev pub reused_descriptor_run : Recording
reused_descriptor_run = record {
  limits = record { goroutines = 3; sockets = 2; descriptors = 1; buffer = 16 };
  steps =
      Spawn ∷ Spawn ∷ SockOpen 16 16 ∷ PollOpen 0 0 ∷ RwLock 1 0 sides.Read
      ∷ PollReset 1 0 sides.Read ∷ SysRead 1 0 16 ∷ WaitBegin 1 0 sides.Read ∷ BlockArm 1
      ∷ BlockCheck 1 ∷ ParkCommit 1 ∷ PeerClose 0 ∷ IncrefClose 2 0 ∷ Evict 2 0
      ∷ Decref 2 0 ∷ BlockSwap 1 ∷ WaitCheck 1 ∷ RwUnlock 1 0 sides.Read ∷ PollClose 1 0
      ∷ SockOpen 16 16 ∷ PollOpen 0 1 ∷ RwLock 0 1 sides.Write
      ∷ PollReset 0 0 sides.Write ∷ WaitBegin 0 0 sides.Write ∷ BlockArm 0 ∷ BlockCheck 0
      ∷ ParkCommit 0 ∷ PollEvent 0 2 modes.Both true ∷ BlockSwap 0
      ∷ RwUnlock 0 1 sides.Write ∷ RwLock 0 1 sides.Read ∷ PollReset 0 0 sides.Read
      ∷ RwUnlock 0 1 sides.Read ∷ [];
}

-- examples/reused-descriptor.script
abbrev pub reused_descriptor_commands : List ℕ
reused_descriptor_commands =
    codes "continue\n"
    ++ codes "watch info 0\n"
    ++ codes "reverse-continue\n"
    ++ codes "reverse-stepi\n"
    ++ codes "print gor 0\n"
    ++ codes "watch fdseq 0\n"
    ++ codes "reverse-continue\n"
    ++ codes "reverse-continue\n"
    ++ codes "print fdseq 0\n"
    ++ codes "reverse-stepi\n"
    ++ codes "print fdseq 0\n"
    ++ codes "restart 0\n"
    ++ codes "continue\n"
    ++ codes "continue\n"

-- examples/reused-descriptor.replies
abbrev pub reused_descriptor_replies : List ℕ
reused_descriptor_replies =
    codes "at 33 end\n"
    ++ codes "mark 1\n"
    ++ codes "at 28 by 1\n"
    ++ codes "at 27\n"
    ++ codes "gor 0 = parked 0 w\n"
    ++ codes "mark 2\n"
    ++ codes "at 21 by 1\n"
    ++ codes "at 19 by 2\n"
    ++ codes "fdseq 0 = 2\n"
    ++ codes "at 18\n"
    ++ codes "fdseq 0 = 1\n"
    ++ codes "at 0\n"
    ++ codes "at 4 by 1 2\n"
    ++ codes "at 14 by 1\n"

-- the run of examples/stale-deadline.jsonl
abbrev pub stale_deadline_run : Recording
stale_deadline_run = record {
  limits = record { goroutines = 2; sockets = 1; descriptors = 1; buffer = 16 };
  steps =
      Spawn ∷ SockOpen 16 16 ∷ PollOpen 0 0 ∷ Incref 0 0
      ∷ SetDeadline 0 0 modes.Read (pos 100) ∷ Decref 0 0 ∷ RwLock 1 0 sides.Read
      ∷ PollReset 1 0 sides.Read ∷ SysRead 1 0 16 ∷ WaitBegin 1 0 sides.Read ∷ BlockArm 1
      ∷ BlockCheck 1 ∷ ParkCommit 1 ∷ Tick (pos 100) ∷ Pop ∷ Incref 0 0
      ∷ SetDeadline 0 0 modes.Read (pos 50) ∷ Decref 0 0 ∷ Fire 0 ∷ Tick (pos 150) ∷ Pop
      ∷ Fire 0 ∷ BlockSwap 1 ∷ WaitCheck 1 ∷ RwUnlock 1 0 sides.Read ∷ [];
}

-- examples/stale-deadline.script
abbrev pub stale_deadline_commands : List ℕ
stale_deadline_commands =
    codes "watch rd 0\n"
    ++ codes "break fire\n"
    ++ codes "continue\n"
    ++ codes "continue\n"
    ++ codes "continue\n"
    ++ codes "print firings\n"
    ++ codes "print rseq 0\n"
    ++ codes "print rd 0\n"
    ++ codes "continue\n"
    ++ codes "stepi\n"
    ++ codes "print rd 0\n"
    ++ codes "print gor 1\n"
    ++ codes "continue\n"
    ++ codes "continue\n"
    ++ codes "print rd 0\n"
    ++ codes "print info 0\n"
    ++ codes "print gor 1\n"
    ++ codes "reverse-continue\n"
    ++ codes "reverse-continue\n"
    ++ codes "print rd 0\n"
    ++ codes "print gor 1\n"

-- examples/stale-deadline.replies
abbrev pub stale_deadline_replies : List ℕ
stale_deadline_replies =
    codes "mark 1\n"
    ++ codes "mark 2\n"
    ++ codes "at 3 by 1\n"
    ++ codes "at 5 by 1\n"
    ++ codes "at 17 by 1\n"
    ++ codes "firings = 1\n"
    ++ codes "rseq 0 = 2\n"
    ++ codes "rd 0 = 150\n"
    ++ codes "at 18 by 2\n"
    ++ codes "at 19\n"
    ++ codes "rd 0 = 150\n"
    ++ codes "gor 1 = parked 0 r\n"
    ++ codes "at 21 by 2\n"
    ++ codes "at 22 by 1\n"
    ++ codes "rd 0 = -1\n"
    ++ codes "info 0 = 4\n"
    ++ codes "gor 1 = swapping 0 r\n"
    ++ codes "at 21 by 2\n"
    ++ codes "at 18 by 2\n"
    ++ codes "rd 0 = 150\n"
    ++ codes "gor 1 = parked 0 r\n"

-- the run of examples/temporary-break.jsonl
abbrev pub temporary_break_run : Recording
temporary_break_run = record {
  limits = record { goroutines = 4; sockets = 2; descriptors = 2; buffer = 16 };
  steps =
      SockOpen 16 16 ∷ PollOpen 0 0 ∷ RwLock 0 0 sides.Read ∷ WaitBegin 0 0 sides.Read
      ∷ BlockArm 0 ∷ BlockCheck 0 ∷ ParkCommit 0 ∷ Arrive 0 (104 ∷ 105 ∷ [])
      ∷ PollEvent 0 1 modes.Read false ∷ BlockSwap 0 ∷ SysRead 0 0 8
      ∷ RwUnlock 0 0 sides.Read ∷ [];
}

-- examples/temporary-break.script
abbrev pub temporary_break_commands : List ℕ
temporary_break_commands =
    codes "tbreak rwlock\n"
    ++ codes "continue\n"
    ++ codes "info breakpoints\n"
    ++ codes "reverse-continue\n"
    ++ codes "stepi 12\n"
    ++ codes "tbreak arrive\n"
    ++ codes "watch rg 0\n"
    ++ codes "info breakpoints\n"
    ++ codes "reverse-continue\n"
    ++ codes "reverse-continue\n"
    ++ codes "reverse-continue\n"
    ++ codes "reverse-continue\n"
    ++ codes "info breakpoints\n"
    ++ codes "tb @1\n"
    ++ codes "tb @12\n"
    ++ codes "reverse-continue\n"
    ++ codes "reverse-continue\n"
    ++ codes "reverse-continue\n"
    ++ codes "continue\n"
    ++ codes "continue\n"
    ++ codes "continue\n"
    ++ codes "continue\n"
    ++ codes "continue\n"
    ++ codes "continue\n"
    ++ codes "continue\n"

-- examples/temporary-break.replies
abbrev pub temporary_break_replies : List ℕ
temporary_break_replies =
    codes "mark 1\n"
    ++ codes "at 2 by 1\n"
    ++ codes "marks 0\n"
    ++ codes "at 0 start\n"
    ++ codes "at 12\n"
    ++ codes "mark 2\n"
    ++ codes "mark 3\n"
    ++ codes "marks 2\n"
    ++ codes "2 tbreak arrive\n"
    ++ codes "3 watch rg 0\n"
    ++ codes "at 10 by 3\n"
    ++ codes "at 9 by 3\n"
    ++ codes "at 7 by 2 3\n"
    ++ codes "at 5 by 3\n"
    ++ codes "marks 1\n"
    ++ codes "3 watch rg 0\n"
    ++ codes "mark 4\n"
    ++ codes "mark 5\n"
    ++ codes "at 2 by 3\n"
    ++ codes "at 0 by 4\n"
    ++ codes "at 0 start\n"
    ++ codes "at 2 by 3\n"
    ++ codes "at 5 by 3\n"
    ++ codes "at 7 by 3\n"
    ++ codes "at 9 by 3\n"
    ++ codes "at 10 by 3\n"
    ++ codes "at 11 by 5\n"
    ++ codes "at 12 end\n"

-- the run of examples/answers.jsonl
abbrev pub answers_run : Recording
answers_run = record {
  limits = record { goroutines = 4; sockets = 2; descriptors = 2; buffer = 16 };
  steps =
      SockOpen 16 16 ∷ PollOpen 0 0 ∷ RwLock 0 0 sides.Read ∷ WaitBegin 0 0 sides.Read
      ∷ BlockArm 0 ∷ BlockCheck 0 ∷ ParkCommit 0 ∷ Arrive 0 (104 ∷ 105 ∷ [])
      ∷ PollEvent 0 1 modes.Read false ∷ BlockSwap 0 ∷ SysRead 0 0 8
      ∷ RwUnlock 0 0 sides.Read ∷ [];
}

-- examples/answers.script
abbrev pub answers_commands : List ℕ
answers_commands =
    codes "continue\n"
    ++ codes "print lock 0\n"
    ++ codes "watch rg 0\n"
    ++ codes "reverse-continue\n"
    ++ codes "print rg 0\n"
    ++ codes "reverse-continue\n"
    ++ codes "print rg 0\n"
    ++ codes "reverse-continue\n"
    ++ codes "print gor 0\n"
    ++ codes "break sysread\n"
    ++ codes "continue\n"
    ++ codes "continue\n"
    ++ codes "dump in 0\n"
    ++ codes "stepi\n"
    ++ codes "dump in 0\n"
    ++ codes "reverse-stepi\n"
    ++ codes "dump in 0\n"

-- examples/answers.replies
abbrev pub answers_replies : List ℕ
answers_replies =
    codes "at 12 end\n"
    ++ codes "lock 0 = 0\n"
    ++ codes "mark 1\n"
    ++ codes "at 10 by 1\n"
    ++ codes "rg 0 = nil\n"
    ++ codes "at 9 by 1\n"
    ++ codes "rg 0 = ready\n"
    ++ codes "at 7 by 1\n"
    ++ codes "gor 0 = parked 0 r\n"
    ++ codes "mark 2\n"
    ++ codes "at 9 by 1\n"
    ++ codes "at 10 by 1 2\n"
    ++ codes "in 0 = 6869\n"
    ++ codes "at 11\n"
    ++ codes "in 0 = -\n"
    ++ codes "at 10\n"
    ++ codes "in 0 = 6869\n"

-- the run of examples/shut-write-side.jsonl
abbrev pub shut_write_side_run : Recording
shut_write_side_run = record {
  limits = record { goroutines = 1; sockets = 1; descriptors = 1; buffer = 1048576 };
  steps =
      SockOpen 1048576 4 ∷ SysWrite 0 0 (104 ∷ 105 ∷ []) ∷ CloseWrite 0 0
      ∷ SysWrite 0 0 (104 ∷ 105 ∷ []) ∷ Drain 0 2 ∷ [];
}

-- examples/shut-write-side.script
abbrev pub shut_write_side_commands : List ℕ
shut_write_side_commands =
    codes "watch shut 0\n"
    ++ codes "continue\n"
    ++ codes "continue\n"
    ++ codes "continue\n"
    ++ codes "reverse-continue\n"
    ++ codes "reverse-continue\n"
    ++ codes "reverse-continue\n"
    ++ codes "stepi 4\n"
    ++ codes "dump out 0\n"
    ++ codes "stepi\n"
    ++ codes "dump out 0\n"
    ++ codes "print shut 0\n"
    ++ codes "break closewrite\n"
    ++ codes "reverse-continue\n"
    ++ codes "reverse-continue\n"
    ++ codes "print shut 0\n"
    ++ codes "info breakpoints\n"

-- examples/shut-write-side.replies
abbrev pub shut_write_side_replies : List ℕ
shut_write_side_replies =
    codes "mark 1\n"
    ++ codes "at 1 by 1\n"
    ++ codes "at 3 by 1\n"
    ++ codes "at 5 end\n"
    ++ codes "at 3 by 1\n"
    ++ codes "at 1 by 1\n"
    ++ codes "at 0 start\n"
    ++ codes "at 4\n"
    ++ codes "out 0 = 6869\n"
    ++ codes "at 5\n"
    ++ codes "out 0 = -\n"
    ++ codes "shut 0 = 1\n"
    ++ codes "mark 2\n"
    ++ codes "at 3 by 1\n"
    ++ codes "at 2 by 2\n"
    ++ codes "shut 0 = 0\n"
    ++ codes "marks 2\n"
    ++ codes "1 watch shut 0\n"
    ++ codes "2 break closewrite\n"
