-- what callers need
pub mod Notices
pub mod Deadlines
pub mod Debts
pub mod Accounts
pub mod References
pub mod LockedSides
pub mod Holdings
pub mod LostWakeUps
pub mod Peers
pub mod Sleepers
pub mod DeadlineFindings
pub mod HeldReferences
pub mod Suspects
-- inner
pub mod Settings
