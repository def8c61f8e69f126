pub mod Late
pub mod Promises
pub mod ExactPromises
pub mod ExactNumbers
pub mod NumbersToTry
pub mod Ranges
pub mod Case
