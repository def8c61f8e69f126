pub mod Equal
pub mod EarlyLaws
pub mod EqualTheorems
