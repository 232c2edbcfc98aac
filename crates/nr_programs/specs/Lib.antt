-- files with the definitions that the laws in THEOREM.md use
pub mod Opening
pub mod Run
pub mod Serving
pub mod Shared
pub mod Transcript
pub mod Among
pub mod Changes
-- more for callers
pub mod Accepted
pub mod Examples
pub mod Sharing
pub mod ShortRuns
pub mod Suspects
pub mod Upgrade
-- helpers for those definitions
pub mod Auxiliary
