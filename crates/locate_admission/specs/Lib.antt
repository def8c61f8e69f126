pub mod LocateAdmission
pub mod LocateAdmissionLaws
