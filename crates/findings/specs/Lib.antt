pub mod Findings
pub mod FindingsLaws
pub mod Joined
pub mod Places
