pub mod Transform
pub mod TransformLaws
pub mod Hits
pub mod Sides
pub mod Domain
pub mod DomainLaws
pub mod Numbers
pub mod Given
