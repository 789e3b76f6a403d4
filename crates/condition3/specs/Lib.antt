pub mod Condition3
