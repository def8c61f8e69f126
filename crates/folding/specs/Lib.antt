pub mod Transform
pub mod TransformLaws
pub mod View
