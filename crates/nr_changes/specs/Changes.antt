-- The changes of a step: the cells whose value differs in the next world.
use Rattle.std.specs.Prelude.{ℕ, max, not, List, [], ◌∷◌, ◌++◌, length, map, filter, flat_map, None}
use Rattle.std.specs.List.{range_with_len}
use Rattle.nr_rev.specs.declared.cell.Cell.{Cell}
use Rattle.nr_rev.specs.Cell.{cell, same_value}
use Rattle.nr_rev.specs.CellName.{cells_at}
use Rattle.nr_rev.specs.World.{World}
use Rattle.nr_changes.specs.declared.changing.CellWithValue.{CellWithValue}

-- the cells of these kinds with a number below n, by kind and then by number
abbrev pub numbered_cells : ℕ → List (ℕ → Cell) → List Cell
numbered_cells n sorts = flat_map (λ sort. map sort (range_with_len 0 n)) sorts

-- the length of the longer of two lists: `things w` and `things next`
abbrev pub most_of : {X : Type 0} → (World → List X) → World → World → ℕ
most_of things w next = max (length (things w)) (length (things next))

-- All cells of the things that exist in either world, by kind and then by number, as COMMANDS.md
-- lists them.
abbrev pub all_cells : World → World → List Cell
all_cells w next =
    let goroutines = most_of (λ (w : World). w.goroutines) w next in
    let sockets = most_of (λ (w : World). w.sockets) w next in
    let descriptors = most_of (λ (w : World). w.descriptors) w next in
    cells_at None
    ++ (numbered_cells goroutines (Cell.Goroutine ∷ [])
    ++ (numbered_cells sockets
    (Cell.Lock ∷ Cell.ReadSemaphore ∷ Cell.WriteSemaphore ∷ Cell.Input ∷ Cell.Output ∷ [])
    ++ (numbered_cells descriptors
    (Cell.ReadWord ∷ Cell.WriteWord ∷ Cell.ReadDeadline ∷ Cell.WriteDeadline ∷ Cell.ReadSequence
    ∷ Cell.WriteSequence ∷ Cell.DescriptorSequence ∷ Cell.Info ∷ [])
    ++ numbered_cells sockets (Cell.Shut ∷ []))))

-- the cells whose values in the two worlds differ
abbrev pub differing_cells : World → World → List Cell
differing_cells w next =
    filter (λ c. not (same_value (cell next c) (cell w c))) (all_cells w next)

-- a cell together with its value in a world
abbrev pub with_value : World → Cell → CellWithValue
with_value w c = record { cell = c; value = cell w c }

-- the cells that differ, each with its value in the next world
abbrev pub changes_between : World → World → List CellWithValue
changes_between w next = map (with_value next) (differing_cells w next)
