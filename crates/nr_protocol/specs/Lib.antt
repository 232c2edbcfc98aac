-- what the laws say
pub mod Deadlines
pub mod Sleep
