pub mod Bytes
pub mod Spaces
pub mod Numbers
