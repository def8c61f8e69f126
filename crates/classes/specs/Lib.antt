pub mod Classes
pub mod ClassesLaws
