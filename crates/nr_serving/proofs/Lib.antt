pub mod HistoryLemmas
pub mod ReadAwayLemmas
pub mod ServingLemmas
pub mod SessionLemmas
pub mod TagLemmas
