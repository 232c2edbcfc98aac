-- files with the definitions that the laws in THEOREM.md use
pub mod Streams
pub mod Moments
pub mod Text
-- more for callers
pub mod Buffered
-- inner: used only within this crate
pub mod Calls
-- helpers for those definitions
pub mod Auxiliary
