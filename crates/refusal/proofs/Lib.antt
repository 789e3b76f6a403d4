pub mod ChecksLaws
pub mod LimitsLaws
pub mod OutcomeLaws
pub mod PlaceLaws
pub mod AnswerLaws
