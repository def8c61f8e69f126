pub mod Flat
pub mod FlatSoft
pub mod FlatLaws
