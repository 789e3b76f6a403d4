pub mod Group
pub mod Ascending
pub mod Unwired
pub mod Placing
