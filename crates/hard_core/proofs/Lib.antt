pub mod HardTheorems
pub mod HardNumbers
pub mod HardLateLaws
pub mod HardRange
