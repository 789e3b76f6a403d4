pub mod Parts
pub mod Kept
pub mod Examples
pub mod WordLineLaws
