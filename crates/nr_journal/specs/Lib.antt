-- files with the definitions that the laws in THEOREM.md use
pub mod Rule
-- more for callers
pub mod Pass
pub mod Seat
pub mod Laws
-- inner: used only within this crate
pub mod Step
-- helpers for those definitions
pub mod Auxiliary
