pub mod FlatWithin
pub mod FlatWithinLaws
