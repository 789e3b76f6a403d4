pub mod Equation
pub mod Stated
