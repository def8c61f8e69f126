pub mod PartVerdict
