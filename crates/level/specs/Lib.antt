pub mod Level
pub mod LevelLaws
pub mod Sums
pub mod SumsLaws
