-- files with the definitions that the laws in THEOREM.md use
pub mod Answers
pub mod Fault
-- more for callers
pub mod Film
-- inner: used only within this crate
pub mod Replay
-- helpers for those definitions
pub mod Auxiliary
