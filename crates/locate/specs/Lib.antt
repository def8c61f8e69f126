pub mod Located
pub mod LocatedLaws
pub mod LocatedTheorems
