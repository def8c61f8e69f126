pub mod Exact
pub mod ExactLaws
pub mod FirstLaws
pub mod Kinds
