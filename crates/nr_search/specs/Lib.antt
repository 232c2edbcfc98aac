-- files with the definitions that the laws in THEOREM.md use
pub mod Nearest
-- inner: used only within this crate
pub mod Known
pub mod Quiet
pub mod Reports
pub mod Search
pub mod Segments
-- helpers for those definitions
pub mod Auxiliary
