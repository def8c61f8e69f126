pub mod Closed
pub mod ClosedLaws
