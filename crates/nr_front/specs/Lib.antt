-- files with the definitions that the laws in THEOREM.md use
pub mod FrontState
pub mod Replica
-- more for callers
pub mod Front
-- inner: used only within this crate
pub mod Steps
-- helpers for those definitions
pub mod Auxiliary
