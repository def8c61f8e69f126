pub mod Page
pub mod Part
pub mod Placed
