pub mod UnitTerms
pub mod UnitTermsLaws
pub mod Values
pub mod ValuesLaws
