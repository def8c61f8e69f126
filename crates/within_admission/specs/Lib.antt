pub mod WithinAdmission
pub mod WithinAdmissionLaws
