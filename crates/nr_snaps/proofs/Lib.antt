pub mod CopiesLemmas
pub mod FrameLemmas
pub mod AnswerLemmas
pub mod RefusedLemmas
