pub mod SelectLaws
pub mod PartTheorems
