pub mod Answer
pub mod Condition3
