pub mod CommandLemmas
pub mod CountLemmas
pub mod CellTextLemmas
pub mod ReplyLemmas
pub mod WordLemmas
pub mod DebuggerLemmas
pub mod WithinLemmas
