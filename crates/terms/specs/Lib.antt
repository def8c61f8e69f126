pub mod Terms
pub mod TermsLaws
