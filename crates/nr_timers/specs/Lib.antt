-- files with the definitions that the laws in THEOREM.md use
pub mod Order
pub mod PathToRoot
pub mod Index
pub mod TimersOf
pub mod State
pub mod Step
pub mod Change
-- more for callers
pub mod Back
pub mod ReversibleLaws
-- inner: used only within this crate
pub mod Places
pub mod Clearing
pub mod Performing
pub mod PathLaws
pub mod ChangeLaws
pub mod BackLaws
-- helpers for those definitions
pub mod Auxiliary
