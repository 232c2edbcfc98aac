-- The outcomes of changes to the core, and their undos.
use Rattle.std.specs.Prelude.{ℕ, slice_get}
use Rattle.nr_rev.specs.declared.refusal.Refusal.TheVariants.{NoSuchDescriptor}
use Rattle.nr_rev.specs.Refusing.{◌>>=◌, found_or}
use Rattle.nr_desc.specs.Op as desc_op
use Rattle.nr_desc.specs.declared.op.DescOp.{DescOp}
use Rattle.nr_machine.specs.declared.world_core.Core.{Core}

-- the outcome of an operation on a descriptor; refused for reason 5 if no such descriptor exists
abbrev pub desc_outcome : ℕ → DescOp → Core → desc_op.Outcome
desc_outcome d op core =
    found_or (slice_get core.descriptors.items d) NoSuchDescriptor
    >>= λ x. desc_op.outcome x op
