pub mod SumParts
pub mod SumPartsLaws
pub mod Sums
pub mod SumsLaws
pub mod SumsRoom
pub mod SumsStages
pub mod SumsTheorems
