pub mod FinderLemmas
mod KnownLemmas
mod LastWriteLemmas
mod NearestLemmas
mod QuietLemmas
mod ReportLemmas
mod SegmentLemmas
mod StepLemmas
mod WatchedLemmas
