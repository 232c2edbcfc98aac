-- what callers need
pub mod Starting
