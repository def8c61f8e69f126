pub mod TenFields
pub mod Answers
