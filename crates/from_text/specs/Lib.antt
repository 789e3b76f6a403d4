pub mod Condition3
pub mod PromiseLaws
pub mod PlaceLaws
