pub mod FlatExact
pub mod FlatExactLaws
