pub mod Direct
pub mod DirectLaws
