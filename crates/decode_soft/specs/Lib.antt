pub mod SoftAnswer
pub mod SoftAnswerLaws
