-- files with the definitions that the laws in THEOREM.md use
pub mod Table
pub mod Applying
-- more for callers
pub mod Step
pub mod Delta
pub mod Worked
pub mod ReversibleLaws
pub mod Links
-- inner: used only within this crate
pub mod SemaphoreChange
pub mod Relinking
pub mod Waits
-- helpers for those definitions
pub mod Auxiliary
