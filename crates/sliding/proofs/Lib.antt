pub mod WholeLaws
pub mod LookupLaws
pub mod PermutedLaws
pub mod ByHits
pub mod SlideTheorems
pub mod OtherEngines
pub mod Example
