-- Which step set a deadline, and which goroutine it woke.
use Rattle.std.specs.Prelude.{ℕ, ◌==◌, if◌then◌else◌, Option, Some, None, option_map}
use Rattle.std.specs.Option.{option_map_or}
use Rattle.nr_rev.specs.declared.sides.Mode.{Mode}
use Rattle.nr_rev.specs.declared.sides.Side.{Side}
use Rattle.nr_rev.specs.declared.sides.Side.TheVariants.{Read, Write}
use Rattle.nr_rev.specs.declared.sides.Sides.{Sides}
use Rattle.nr_rev.specs.Sides.{names_side, of_side, with_side}
use Rattle.nr_suspects.specs.declared.notice.Passing.{Passing}
use Rattle.nr_suspects.specs.declared.setting.Deadline.{Deadline}
use Rattle.nr_suspects.specs.declared.setting.Setting.{Setting}
use Rattle.nr_suspects.specs.declared.setting.StepBy.{StepBy}

-- a deadline that was never set
abbrev pub never_set : Deadline
never_set = record { setting = None; woken = None }

-- the setting, updated for a later step that set only the other side's deadline; only the first
-- such step is recorded
abbrev pub moved_since : StepBy → Setting → Setting
moved_since by setting =
    record setting { moved = Some (option_map_or (λ first. first) setting.moved by) }

-- The deadline of a side after a step set the deadlines that the mode names. If the mode names the
-- side, the setting is new. Otherwise the old setting is kept, updated for this step
-- (`moved_since`).
abbrev pub set_by : StepBy → Mode → Side → Deadline → Deadline
set_by by mode side old =
    if names_side mode side then record {
      setting = Some (record { by = by; mode = mode; moved = None });
      woken = None;
    } else record old { setting = option_map (moved_since by) old.setting }

-- the deadlines of both sides after step n, in which goroutine g set those that the mode names
abbrev pub after_setting : ℕ → ℕ → Mode → Sides Deadline → Sides Deadline
after_setting n g mode old =
    let by : StepBy = record { step = n; goroutine = g } in
    record { read = set_by by mode Read old.read; write = set_by by mode Write old.write }

-- the deadline of a side, updated if it passed: it then records which goroutine was woken
abbrev pub passed_with : Option Passing → Deadline → Deadline
passed_with None old = old
passed_with (Some passing) old = record old { woken = passing.woken }

-- the deadlines of both sides, updated for those that passed
abbrev pub after_passing : Sides (Option Passing) → Sides Deadline → Sides Deadline
after_passing passings old =
    record {
      read = passed_with passings.read old.read;
      write = passed_with passings.write old.write;
    }

-- the goroutine that was woken, or none if it is goroutine g, which has now checked its side
abbrev pub woken_but : ℕ → Option ℕ → Option ℕ
woken_but g None = None
woken_but g (Some woken) = if g == woken then None else Some woken

-- the deadlines of both sides after goroutine g checked one of them: g is no longer recorded as
-- woken
abbrev pub looked_at : ℕ → Side → Sides Deadline → Sides Deadline
looked_at g side old =
    let here : Deadline = of_side side old in
    with_side side (record here { woken = woken_but g here.woken }) old
