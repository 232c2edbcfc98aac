-- The names and numbers of cells.
use Rattle.std.specs.Prelude.{ℕ, ◌==◌, List, [], ◌∷◌, Option, Some, None, find, codes}
use Rattle.std.specs.Str.{bytes_eq}
use Rattle.nr_rev.specs.declared.cell.Cell.{Cell}

-- the spelling of a cell: its name, and the number of its goroutine, socket or descriptor
abbrev pub spelled : Cell → List ℕ × Option ℕ
spelled Cell.Clock = (codes "clock", None)
spelled Cell.Waiters = (codes "waiters", None)
spelled Cell.Timers = (codes "timers", None)
spelled Cell.Firings = (codes "firings", None)
spelled Cell.Least = (codes "least", None)
spelled (Cell.Goroutine i) = (codes "gor", Some i)
spelled (Cell.Lock i) = (codes "lock", Some i)
spelled (Cell.ReadSemaphore i) = (codes "rsem", Some i)
spelled (Cell.WriteSemaphore i) = (codes "wsem", Some i)
spelled (Cell.Input i) = (codes "in", Some i)
spelled (Cell.Output i) = (codes "out", Some i)
spelled (Cell.ReadWord i) = (codes "rg", Some i)
spelled (Cell.WriteWord i) = (codes "wg", Some i)
spelled (Cell.ReadDeadline i) = (codes "rd", Some i)
spelled (Cell.WriteDeadline i) = (codes "wd", Some i)
spelled (Cell.ReadSequence i) = (codes "rseq", Some i)
spelled (Cell.WriteSequence i) = (codes "wseq", Some i)
spelled (Cell.DescriptorSequence i) = (codes "fdseq", Some i)
spelled (Cell.Info i) = (codes "info", Some i)
spelled (Cell.Shut i) = (codes "shut", Some i)

-- the name of a cell, without a number
abbrev pub cell_name : Cell → List ℕ
cell_name cell = (spelled cell).0

-- the number of a cell's goroutine, socket or descriptor
abbrev pub cell_index : Cell → Option ℕ
cell_index cell = (spelled cell).1

-- the cells with this number, or those without a number if none is given
abbrev pub cells_at : Option ℕ → List Cell
cells_at None = Cell.Clock ∷ Cell.Waiters ∷ Cell.Timers ∷ Cell.Firings ∷ Cell.Least ∷ []
cells_at (Some i) =
    Cell.Goroutine i ∷
    Cell.Lock i ∷
    Cell.ReadSemaphore i ∷
    Cell.WriteSemaphore i ∷
    Cell.Input i ∷
    Cell.Output i ∷
    Cell.ReadWord i ∷
    Cell.WriteWord i ∷
    Cell.ReadDeadline i ∷
    Cell.WriteDeadline i ∷
    Cell.ReadSequence i ∷
    Cell.WriteSequence i ∷
    Cell.DescriptorSequence i ∷
    Cell.Info i ∷
    Cell.Shut i ∷
    []

-- the cell with this name and this number, or without a number if none is given
abbrev pub cell_named : List ℕ → Option ℕ → Option Cell
cell_named name index = find (λ cell. bytes_eq (cell_name cell) name) (cells_at index)

-- the number of the cell's kind, which doesn't depend on its goroutine, socket or descriptor
abbrev pub cell_number : Cell → ℕ
cell_number Cell.Clock = 1
cell_number Cell.Waiters = 2
cell_number Cell.Timers = 3
cell_number Cell.Firings = 4
cell_number Cell.Least = 5
cell_number (Cell.Goroutine i) = 6
cell_number (Cell.Lock i) = 7
cell_number (Cell.ReadSemaphore i) = 8
cell_number (Cell.WriteSemaphore i) = 9
cell_number (Cell.Input i) = 10
cell_number (Cell.Output i) = 11
cell_number (Cell.ReadWord i) = 12
cell_number (Cell.WriteWord i) = 13
cell_number (Cell.ReadDeadline i) = 14
cell_number (Cell.WriteDeadline i) = 15
cell_number (Cell.ReadSequence i) = 16
cell_number (Cell.WriteSequence i) = 17
cell_number (Cell.DescriptorSequence i) = 18
cell_number (Cell.Info i) = 19
cell_number (Cell.Shut i) = 20

-- The cell whose kind has this number. It has the given index, or no index if none is given.
abbrev pub cell_numbered : ℕ → Option ℕ → Option Cell
cell_numbered number index = find (λ cell. cell_number cell == number) (cells_at index)
