pub mod CheckedLaws
pub mod Sentences
pub mod StepsLaws
