pub mod Likelihood
pub mod LikelihoodLaws
pub mod Numbers
pub mod Signs
pub mod Steps
pub mod SumLaws
pub mod Given
