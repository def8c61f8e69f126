pub mod Numbers
pub mod Order
pub mod OrderLaws
pub mod Admission
