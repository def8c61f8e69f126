pub mod FlatPart
pub mod FlatPartLaws
