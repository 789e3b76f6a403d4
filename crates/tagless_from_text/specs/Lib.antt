pub mod Condition
pub mod PromiseLaws
pub mod PlaceLaws
