pub mod Margin
pub mod Choice
pub mod Kinds
