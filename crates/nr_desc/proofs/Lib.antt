pub mod BitLemmas
pub mod NumberLemmas
pub mod WakingLemmas
