pub mod Soft
pub mod SoftLaws
pub mod SoftDemand
pub mod SoftPlaces
pub mod SoftLate
