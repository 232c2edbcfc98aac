pub mod FrontStateLemmas
pub mod StepsLemmas
pub mod FrontLemmas
