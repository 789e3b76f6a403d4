pub mod UpTo
pub mod Occurs
pub mod First
pub mod Written
