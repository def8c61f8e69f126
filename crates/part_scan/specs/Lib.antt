pub mod Kept
pub mod KeptLaws
pub mod KeptTheorems
pub mod Walk
pub mod WalkLaws
