-- files with the definitions that the laws in THEOREM.md use
pub mod Fronts
pub mod Session
pub mod Conversations
-- inner: used only within this crate
pub mod Logged
-- helpers for those definitions
pub mod Auxiliary
