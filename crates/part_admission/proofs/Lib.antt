pub mod PartAdmissionLaws
pub mod PartDomainLaws
