pub mod Decide
pub mod Kinds
