pub mod PartAnswer
pub mod PartAnswerLaws
