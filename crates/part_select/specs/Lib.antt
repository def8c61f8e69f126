pub mod Select
pub mod PartWinner
pub mod Kinds
