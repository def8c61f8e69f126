pub mod SoftTheorems
pub mod SoftNumbers
pub mod SoftLateLaws
pub mod SoftRange
