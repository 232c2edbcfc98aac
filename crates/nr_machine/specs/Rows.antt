-- The rows that descriptors and timers represent.
use Rattle.std.specs.Prelude.{List, Option}
use Rattle.nr_rev.specs.declared.descriptor.Descriptor.{Descriptor}
use Rattle.nr_rev.specs.declared.descriptor.DescriptorRow.{DescriptorRow}
use Rattle.nr_rev.specs.declared.sides.Sides.{Sides}
use Rattle.nr_rev.specs.declared.timer.Entry.{Entry}
use Rattle.nr_rev.specs.declared.timer.Timer.{Timer}
use Rattle.nr_timers.specs.TimersOf.{timers_of}
use Rattle.nr_machine.specs.Numbered.{numbered}

-- a descriptor with its timers
abbrev pub row_of : Descriptor → Sides (Option Timer) → DescriptorRow
row_of descriptor timers = record { descriptor = descriptor; timers = timers }

-- the row of each descriptor, with its timers among the entries
abbrev pub rows_of : List Descriptor → List Entry → List DescriptorRow
rows_of descriptors entries = numbered row_of 0 descriptors (timers_of entries)
