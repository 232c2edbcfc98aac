-- The cells that a step may change, and the cells that it changed.
use Rattle.std.specs.Prelude.{ℕ, not, List, [], ◌∷◌, ◌++◌, map, filter, None}
use Rattle.std.specs.BTreeSet.{insert_key}
use Rattle.std.specs.Option.{option_map_or}
use Rattle.std.specs.declared.cmp.Ordering.{Ordering}
use Rattle.std.specs.Ordering.{nat_cmp, then_cmp}
use Rattle.nr_rev.specs.declared.cell.Cell.{Cell}
use Rattle.nr_rev.specs.declared.kind.Kind.{Kind}
use Rattle.nr_rev.specs.declared.step.Step.{Step}
use Rattle.nr_rev.specs.Aspect.{can_change}
use Rattle.nr_rev.specs.Cell.{cell, same_value}
use Rattle.nr_rev.specs.CellName.{cell_index, cell_number, cells_at}
use Rattle.nr_rev.specs.Kind.{kind_of}
use Rattle.nr_rev.specs.World.{World}
use Rattle.nr_changes.specs.Touched.{Touched, touched}

-- the number of a cell's goroutine, socket or descriptor, or 0 if the cell has none
abbrev pub number_or_0 : Cell → ℕ
number_or_0 c = option_map_or (λ i. i) (cell_index c) 0

-- the order of cells in lists: by kind, and then by number
abbrev pub listing_order : Cell → Cell → Ordering
listing_order =
    then_cmp (λ a b. nat_cmp (cell_number a) (cell_number b))
    (λ a b. nat_cmp (number_or_0 a) (number_or_0 b))

-- the numbers in ascending order, each once
abbrev pub in_order : List ℕ → List ℕ
in_order [] = []
in_order (n ∷ ns) = insert_key nat_cmp (in_order ns) n

-- the cells of goroutines
abbrev pub goroutine_cells : List ℕ → List Cell
goroutine_cells gs = map Cell.Goroutine gs

-- the cells of a socket, except the last one in a list, which shows whether its write side is shut
abbrev pub socket_cells : ℕ → List Cell
socket_cells s =
    Cell.Lock s ∷
    Cell.ReadSemaphore s ∷
    Cell.WriteSemaphore s ∷
    Cell.Input s ∷
    Cell.Output s ∷
    []

-- the cell that shows whether a socket's write side is shut
abbrev pub shut_cells : ℕ → List Cell
shut_cells s = Cell.Shut s ∷ []

-- the cells of a descriptor
abbrev pub descriptor_cells : ℕ → List Cell
descriptor_cells d =
    Cell.ReadWord d ∷
    Cell.WriteWord d ∷
    Cell.ReadDeadline d ∷
    Cell.WriteDeadline d ∷
    Cell.ReadSequence d ∷
    Cell.WriteSequence d ∷
    Cell.DescriptorSequence d ∷
    Cell.Info d ∷
    []

-- the cells without a number and the cells of touched things, in listing order
abbrev pub cells_of : Touched → List Cell
cells_of t =
    cells_at None
    ++ (goroutine_cells (in_order t.goroutines)
    ++ (option_map_or socket_cells t.socket []
    ++ (option_map_or descriptor_cells t.descriptor []
    ++ option_map_or shut_cells t.socket [])))

-- the cells of the touched things that this kind of step may change
abbrev pub cells_for : Kind → Touched → List Cell
cells_for kind t = filter (can_change kind) (cells_of t)

-- the cells that a step may change
abbrev pub touched_cells : World → Step → List Cell
touched_cells w step = cells_for (kind_of step) (touched w step)

-- the cells that a step may change and whose value differs after it
abbrev pub changed_cells : World → Step → World → List Cell
changed_cells w step next =
    filter (λ c. not (same_value (cell next c) (cell w c))) (touched_cells w step)
