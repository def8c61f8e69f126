pub mod CellsLaws
pub mod Built
pub mod Runs
pub mod Side
pub mod SideLaws
pub mod Stages
pub mod TablesTheorems
pub mod Numbers
