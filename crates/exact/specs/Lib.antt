pub mod Select
pub mod SelectLaws
pub mod Winner
