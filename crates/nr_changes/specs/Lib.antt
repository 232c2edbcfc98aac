-- files with the definitions that the laws in THEOREM.md use
pub mod Changes
-- more definitions, which contracts of other crates and public functions of this crate cite
pub mod Touched
pub mod Changed
