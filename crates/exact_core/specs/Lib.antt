pub mod ExactCore
pub mod ExactReady
pub mod ExactCoreLaws
