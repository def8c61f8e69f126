pub mod PartCore
pub mod PartReady
