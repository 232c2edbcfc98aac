-- The nodes after their neighbours change.
use Rattle.std.specs.Prelude.{ℕ, List, slice_get, slice_set, Option, Some, None}
use Rattle.nr_gsema.specs.declared.node.GoroutineNode.{GoroutineNode}

-- a node with this goroutine after it
abbrev pub followed_by : Option ℕ → GoroutineNode → GoroutineNode
followed_by next node = record node { next = next }

-- a node with this goroutine before it
abbrev pub preceded_by : Option ℕ → GoroutineNode → GoroutineNode
preceded_by previous node = record node { previous = previous }

-- the nodes after a change to g's node, if g has one
abbrev pub set_found : ℕ → (GoroutineNode → GoroutineNode) → Option GoroutineNode
    → List GoroutineNode → List GoroutineNode
set_found g change None nodes = nodes
set_found g change (Some node) nodes = slice_set nodes g (change node)

-- the nodes after a change to a goroutine's node, if a goroutine is given
abbrev pub with_node : Option ℕ → (GoroutineNode → GoroutineNode) → List GoroutineNode
    → List GoroutineNode
with_node None change nodes = nodes
with_node (Some g) change nodes = set_found g change (slice_get nodes g) nodes

-- the nodes after the field `next` of `goroutine`'s node is set, if a goroutine is given
abbrev pub with_next : Option ℕ → Option ℕ → List GoroutineNode → List GoroutineNode
with_next goroutine next nodes = with_node goroutine (followed_by next) nodes

-- the nodes after the field `previous` of `goroutine`'s node is set, if a goroutine is given
abbrev pub with_previous : Option ℕ → Option ℕ → List GoroutineNode → List GoroutineNode
with_previous goroutine previous nodes = with_node goroutine (preceded_by previous) nodes

-- the other end of a queue that g joins: g itself if the queue was empty
abbrev pub or_else : Option ℕ → ℕ → Option ℕ
or_else None g = Some g
or_else (Some end) g = Some end

-- one end of a queue after the goroutine at the other end left; none if that goroutine had no
-- neighbour
abbrev pub end_left : Option ℕ → Option ℕ → Option ℕ
end_left None end = None
end_left (Some neighbour) end = end
