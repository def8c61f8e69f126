pub mod Within
pub mod WithinLaws
