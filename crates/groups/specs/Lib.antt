pub mod Fill
pub mod FillLaws
pub mod Groups
