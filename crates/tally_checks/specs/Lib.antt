pub mod Judged
pub mod Edited
