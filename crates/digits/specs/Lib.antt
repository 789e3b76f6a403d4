pub mod Digits
pub mod Width
