-- The bytes of snapshots, which several snapshots may share.
use Rattle.std.specs.Prelude.{◌≡◌, ⊤, ℕ, List, [], Option, Some, None, vec_len, vec_capacity}
use Rattle.std.specs.Arc.{arc_value}
use Rattle.std.specs.Global.{Global, Vec}
use Rattle.std.specs.declared.sync.Arc.{Arc}

-- the bytes in a block, or none without a block
abbrev pub items_of : Option (Arc (Vec ℕ) Global) → List ℕ
items_of None = []
items_of (Some block) = (arc_value block).items

-- true if the block has no more room than its bytes need
abbrev pub HasNoSpareRoom : Option (Arc (Vec ℕ) Global) → Type 0
HasNoSpareRoom None = ⊤
HasNoSpareRoom (Some block) = vec_capacity (arc_value block) ≡ vec_len (arc_value block)
