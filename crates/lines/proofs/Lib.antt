pub mod CutOff
pub mod Examined
