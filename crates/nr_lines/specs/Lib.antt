-- files with the definitions that the laws in THEOREM.md use
pub mod Engine
pub mod Turn
-- inner: used only within this crate
pub mod Batch
pub mod LoopInvariant
pub mod Outbox
pub mod Page
-- helpers for those definitions
pub mod Auxiliary
