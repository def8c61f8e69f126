pub mod Hard
pub mod HardLaws
pub mod HardDemand
pub mod HardLate
