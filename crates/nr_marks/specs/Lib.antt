-- files with the definitions that the laws in THEOREM.md use
pub mod Hit
pub mod Marks
pub mod Numbered
-- helpers for those definitions
pub mod Auxiliary
