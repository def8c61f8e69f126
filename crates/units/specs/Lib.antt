pub mod UnitParts
pub mod UnitPartsLaws
pub mod Units
pub mod UnitsLaws
pub mod UnitsStages
pub mod UnitsTheorems
