pub mod ExactSelections
pub mod ExactEnds
pub mod Leader
pub mod ExactTheorems
pub mod ExactRange
