pub mod PartDemand
pub mod FullPart
