pub mod StartingLemmas
