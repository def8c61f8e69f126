pub mod FoundBad
pub mod FoundBadLaws
