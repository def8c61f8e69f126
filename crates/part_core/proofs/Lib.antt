pub mod PartCoreLaws
