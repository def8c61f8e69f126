pub mod BoardGrid
pub mod RowFloor
pub mod RowMajor
pub mod RowMajorLaws
