pub mod Equal
pub mod Completions
