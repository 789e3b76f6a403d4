pub mod OddLaws
pub mod Parity
pub mod ParityLaws
pub mod Times
