pub mod ExactDemand
pub mod ExactDomain
