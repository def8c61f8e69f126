pub mod PartAdmission
pub mod PartDomain
