pub mod BuiltLaws
pub mod Condition3Theorem
