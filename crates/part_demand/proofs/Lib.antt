pub mod PartSelections
pub mod PartEnds
pub mod PartTheorems
pub mod PartRange
pub mod FullPart
