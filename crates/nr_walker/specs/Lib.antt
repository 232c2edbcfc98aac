-- what callers need
pub mod Walk
-- inner: used only within this crate
pub mod Way
