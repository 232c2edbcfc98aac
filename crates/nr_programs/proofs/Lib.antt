pub mod AcceptedLemmas
pub mod AloneLemmas
pub mod FaultLemmas
pub mod ChangesLemmas
pub mod LieLemmas
pub mod OpeningLemmas
pub mod PlacedLemmas
pub mod RepliesLemmas
pub mod ServingLemmas
pub mod SuspectsLemmas
pub mod SharedLemmas
mod TranscriptLemmas
pub mod UpgradeLemmas
pub mod WalkLemmas
