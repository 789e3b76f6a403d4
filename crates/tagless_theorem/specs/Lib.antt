pub mod BuiltLaws
pub mod TaglessTheorem
