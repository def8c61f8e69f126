pub mod Tally
pub mod TallyLaws
pub mod Counted
pub mod Answers
