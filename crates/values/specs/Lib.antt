pub mod OriginLaws
pub mod Values
pub mod ValuesLaws
