pub mod Bits
pub mod Numeral
pub mod Shown
