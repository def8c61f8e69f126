pub mod HardAnswer
pub mod HardAnswerLaws
