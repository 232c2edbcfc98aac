-- files with the definitions that the laws in THEOREM.md use
pub mod Faults
pub mod Recording
pub mod Reading
pub mod Text
pub mod Version
pub mod Numbers
pub mod Answer
pub mod Arguments
pub mod Shapes
pub mod Steps
pub mod Header
-- more for callers
pub mod Writing
-- inner: used only within this crate
pub mod Part
pub mod Plain
pub mod Spelling
-- helpers for those definitions
pub mod Auxiliary
