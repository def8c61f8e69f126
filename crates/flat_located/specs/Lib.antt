pub mod FlatLocated
pub mod FlatLocatedLaws
