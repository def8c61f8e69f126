pub mod Rounding
pub mod Scaled
pub mod Fields
pub mod Digits
