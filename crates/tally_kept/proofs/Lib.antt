pub mod ListedLaws
pub mod Promise
