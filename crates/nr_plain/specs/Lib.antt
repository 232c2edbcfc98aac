-- what callers need
pub mod World
pub mod Plan
pub mod Delta
pub mod Worlds
pub mod ReversibleLaws
-- inner: used only within this crate
pub mod SocketTable
pub mod ListEdit
pub mod Semaphore
pub mod Buffer
pub mod SocketEdit
pub mod Socket
pub mod Sockets
pub mod Edit
pub mod Reads
pub mod Change
pub mod Continuing
pub mod Making
