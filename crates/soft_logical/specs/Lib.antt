pub mod Logical
pub mod LogicalLaws
