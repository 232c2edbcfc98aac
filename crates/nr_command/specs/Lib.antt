-- files with the definitions that the laws in THEOREM.md use
pub mod Checkpoints
pub mod Command
pub mod Count
pub mod Listing
pub mod Reply
pub mod Value
pub mod Word
pub mod Debugger
-- more for callers
pub mod Looking
-- helpers for those definitions
pub mod Auxiliary
