-- files with the definitions that the laws in THEOREM.md use
pub mod Kind
pub mod Limits
pub mod Sides
pub mod Refusing
pub mod Lock
pub mod Semaphore
pub mod Timer
pub mod Descriptor
pub mod Socket
pub mod World
pub mod Step
pub mod Cell
pub mod CellName
pub mod Run
pub mod WellFormed
pub mod Reversible
pub mod Worlds
-- more definitions, which contracts of other crates and public functions of this crate cite
pub mod RoomedList
pub mod Aspect
pub mod Transaction
pub mod Worked
pub mod Weight
-- helpers for those definitions
pub mod Auxiliary
