pub mod Lead
pub mod Scan
pub mod ScanLaws
pub mod Kinds
pub mod Pairs
