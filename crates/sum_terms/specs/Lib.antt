pub mod SumTerms
pub mod SumTermsLaws
