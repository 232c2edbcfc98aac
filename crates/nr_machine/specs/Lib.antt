-- files with the definitions that the laws in THEOREM.md use
pub mod World
pub mod Made
pub mod Step
pub mod Fits
pub mod Numbered
pub mod Sockets
pub mod Rows
pub mod Changing
pub mod Asked
-- more for callers
pub mod Delta
pub mod DeltaLaws
pub mod ReversibleLaws
-- inner: used only within this crate
pub mod NumberedLaws
pub mod SameLaws
pub mod Worlds
pub mod Snapshot
pub mod Transfers
pub mod Fresh
pub mod Goroutines
pub mod Waiting
pub mod Locking
pub mod Continuing
pub mod Opening
-- helpers for those definitions
pub mod Auxiliary
