pub mod SoftVerdict
pub mod SoftVerdictTheorems
