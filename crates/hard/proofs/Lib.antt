pub mod Ready
pub mod SelectTheorems
pub mod WeighedLaws
