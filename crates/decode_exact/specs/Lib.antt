pub mod ExactAnswer
pub mod ExactAnswerLaws
