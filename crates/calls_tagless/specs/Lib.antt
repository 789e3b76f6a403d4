pub mod Tagless
pub mod TaglessLaws
