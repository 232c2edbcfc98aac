-- what callers need
pub mod Arguments
