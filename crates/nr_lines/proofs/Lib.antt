pub mod BatchLemmas
pub mod BytesLemmas
pub mod EngineLemmas
pub mod GrowLemmas
pub mod KeptLemmas
pub mod LineLemmas
pub mod PageLemmas
pub mod TurnLemmas
