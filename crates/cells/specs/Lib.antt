pub mod Cells
pub mod Credit
pub mod CreditLaws
pub mod LayoutLaws
pub mod Listed
pub mod RunLaws
pub mod Spread
