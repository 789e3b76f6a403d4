pub mod WordsLaws
pub mod Worked
